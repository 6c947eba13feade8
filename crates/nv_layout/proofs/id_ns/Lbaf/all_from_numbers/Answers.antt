use Rattle.std.proofs.Common.{◌∙◌, arith, sym}
use Rattle.nv_layout.specs.IdNs.{lbaf_of_number}
use Rattle.nv_layout.proofs.IdentifyLaws.{none}
use Rattle.nv_layout.proofs.PartLaws.{map_read}
use Rattle.nv_layout.proofs.id_ns.Lbaf.all_from_numbers.Goals as goal

pub returns : goal.returns
returns c =
    map_read lbaf_of_number c.args.numbers.now c.loop-i.lbafs 0 none (c.loop-i.invariant.size ∙ sym c.told-numbers)
    (λ k below. c.loop-i.invariant.each k (omega arith))
