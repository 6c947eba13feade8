use Rattle.std.proofs.Common.{arith}
use Rattle.nv_layout.proofs.PartLaws.{all_below}
use Rattle.nv_layout.proofs.parts.each_u16_fits.Goals as goal

pub returns : goal.returns
returns c = all_below 65536 c.args.values.now (λ k below. omega (arith, c.type_inv.values k))
