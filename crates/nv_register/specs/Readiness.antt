-- What EN, RDY and CFS of a controller say.
use Rattle.std.specs.Prelude.{Bool, true, false}
use Rattle.nv_register.specs.declared.readiness.Readiness.{Readiness}
use Rattle.nv_register.specs.declared.readiness.Readiness.TheVariants.{Off, Failed, Ready}
use Rattle.nv_register.specs.declared.rings.Rings.{Rings}

-- EN
abbrev pub is_enabled : Readiness → Bool
is_enabled Off = false
is_enabled Failed = true
is_enabled (Ready rings fatal) = true

-- RDY
abbrev pub is_ready : Readiness → Bool
is_ready Off = false
is_ready Failed = false
is_ready (Ready rings fatal) = true

-- CFS
abbrev pub is_fatal : Readiness → Bool
is_fatal Off = false
is_fatal Failed = true
is_fatal (Ready rings fatal) = fatal

-- the readiness when the rings of a ready controller change
abbrev pub with_rings : (Rings → Rings) → Readiness → Readiness
with_rings change Off = Off
with_rings change Failed = Failed
with_rings change (Ready rings fatal) = Ready (change rings) fatal
