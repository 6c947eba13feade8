use Rattle.std.proofs.Common.{length, refl}
use Rattle.nv_host.proofs.BytesLaws.{bytes_at-with_after, bytes_at-with_before, bytes_at-with_same, length-with_bytes}
use Rattle.nv_host.proofs.store_then_load.Goals as goal

pub returns-clause-written : goal.returns-clause-written
returns-clause-written c bytes addr written h = bytes_at-with_same bytes addr (length written) written h refl

pub returns-clause-others : goal.returns-clause-others
returns-clause-others c bytes addr written from n h = (
  λ before. bytes_at-with_before bytes addr written from n before h,
  λ after. bytes_at-with_after bytes addr written from n after h,
)

pub returns-clause-length : goal.returns-clause-length
returns-clause-length c bytes addr written h = length-with_bytes bytes addr written h
