use Rattle.std.proofs.Common.{◌∙◌, ◌+◌, ◌-◌, ◌*◌, arith, length}
use Rattle.nv_layout.proofs.PartLaws.{number_at-part, numbers_read}
use Rattle.nv_layout.proofs.parts.read_u16s.Goals as goal

pub returns : goal.returns
returns c =
    numbers_read c.args.at 2 (length c.args.values.now) c.args.bytes.now c.read_u16_into.new.dst (omega arith)
    (λ k below. c.read_u16_into.ensures k (omega arith)
    ∙ number_at-part c.args.at 2 (c.args.at + 2 * length c.args.values.now - c.args.at) (2 * k) c.args.bytes.now
    (omega arith))
