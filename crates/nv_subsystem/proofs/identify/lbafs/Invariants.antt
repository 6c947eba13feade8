use Rattle.std.proofs.Common.{◌≡◌, ◌-◌, ◌++◌, map, take}
use Rattle.nv_subsystem.proofs.Words.{lbaf_of, no_lbaf, replicate}
use Rattle.nv_subsystem.proofs.identify.lbafs.Given as goal

abbrev pub invariant-loop-i : goal.invariant-loop-i
invariant-loop-i l = l.lbafs ≡ map lbaf_of (take l.i l.formats) ++ replicate (16 - l.i) no_lbaf
