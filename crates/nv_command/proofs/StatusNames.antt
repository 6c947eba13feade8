-- The names of statuses that have a code.
use Rattle.std.proofs.Common.{◌≡◌, rules}
use Rattle.nv_command.specs.StatusCode.{name_of_code, name_of_status, status_of_code}
use Rattle.nv_command.specs.declared.status_code.StatusCode.{StatusCode}

-- the name of the status of a code is the name of the code
pub named_by_status : (c : StatusCode) → name_of_status (status_of_code c) ≡ name_of_code c
named_by_status c = search rules
