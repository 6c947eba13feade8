use Rattle.std.proofs.Common.{◌∙◌, ◌+◌, ◌-◌, ◌*◌, arith}
use Rattle.nv_layout.proofs.PartLaws.{number_at-part, numbers_read}
use Rattle.nv_layout.proofs.parts.u32s_at.Goals as goal

pub returns : goal.returns
returns g c =
    numbers_read c.args.at 4 g.row.N c.args.bytes.now c.read_u32_into.new.dst (omega arith)
    (λ k below. c.read_u32_into.ensures k (omega arith)
    ∙ number_at-part c.args.at 4 (c.args.at + 4 * g.row.N - c.args.at) (4 * k) c.args.bytes.now (omega arith))
