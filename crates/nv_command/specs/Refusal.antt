-- Refusals of commands.
use Rattle.std.specs.Prelude.{◌≡◌, ◌^◌, ◌<◌}
use Rattle.nv_layout.specs.Status.{StatusFits}
use Rattle.nv_command.specs.StatusCode.{status_of_code}
use Rattle.nv_command.specs.declared.refusal.Refusal.{Refusal}
use Rattle.nv_command.specs.declared.status_code.StatusCode.{StatusCode}

-- a refusal with no command specific information
abbrev pub refusal_by : StatusCode → Refusal
refusal_by code = record { status = status_of_code code; specific = 0 }

-- a status that is no success, in numbers that fit the fields of an error log entry
pub record IsRefusal (r : Refusal) : Type 0 where
  pub status : StatusFits r.status
  pub fails : (r.status.sct ≡ 0) × (r.status.sc ≡ 0) → ⊥
  pub specific : r.specific < 2 ^ 64
