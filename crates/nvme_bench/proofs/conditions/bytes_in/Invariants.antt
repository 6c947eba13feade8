use Rattle.std.proofs.Common.{◌≡◌, ◌*◌, ◌≤◌, length, take}
use Rattle.nv_prp.specs.Place.{places}
use Rattle.nvme_bench.proofs.conditions.bytes_in.Given as goal

abbrev pub invariant-loop-span : goal.invariant-loop-span
invariant-loop-span l =
    (l.count ≡ length (places (take l.span-index l.spans))) × (l.count ≤ l.span-index * 4294967295)
