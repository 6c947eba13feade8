-- Each status code makes a refusal.
use Rattle.std.proofs.Common.{rules}
use Rattle.nv_command.specs.Refusal.{IsRefusal, refusal_by}
use Rattle.nv_command.specs.declared.status_code.StatusCode.{StatusCode}

-- every status code makes a refusal
pub is_refusal-refusal_by : (c : StatusCode) → IsRefusal (refusal_by c)
is_refusal-refusal_by c = search rules
