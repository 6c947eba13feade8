use Rattle.std.proofs.Common.{◌∙◌, arith, sym}
use Rattle.nv_layout.specs.IdNs.{number_of_lbaf}
use Rattle.nv_layout.proofs.IdentifyLaws.{none}
use Rattle.nv_layout.proofs.PartLaws.{map_read}
use Rattle.nv_layout.proofs.id_ns.Lbaf.all_numbers.Goals as goal

pub returns : goal.returns
returns c =
    map_read number_of_lbaf c.args.lbafs.now c.loop-i.numbers none 0 (c.loop-i.invariant.size ∙ sym c.told-lbafs)
    (λ k below. c.loop-i.invariant.each k (omega arith))
