use Rattle.std.proofs.Common.{◌∙◌, ap}
use Rattle.nv_layout.specs.Parts.{placed, text}
use Rattle.nv_layout.proofs.PartLaws.{halves}
use Rattle.nv_layout.proofs.parts.put_u128.Goals as goal

pub returns : goal.returns
unfolding placed
returns c =
    c.put_bytes.ensures
    ∙ rw (c.write_u64-2.ensures, c.write_u64.ensures)
    (ap (λ bytes. placed c.args.out.now (text c.args.at 16 bytes)) (halves c.args.value))
