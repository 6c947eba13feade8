-- The name of a status, for a program in C.
use Rattle.std.specs.Prelude.{◌==◌, ◌&&◌, ℕ, List, codes, if◌then◌else◌}
use Rattle.nv_command.specs.StatusCode.{name_of_status}
use Rattle.nv_layout.specs.declared.cqe.Status.{Status}

-- "Success" for a command that succeeded, the name of a status that only turns of I/O queues have, or
-- the name that a message of nvme-script has
abbrev pub status_name : Status → List ℕ
status_name s =
    if s.sct == 0 && s.sc == 0 then codes "Success"
    else (if s.sct == 0 && s.sc == 128 then codes "LBA Out of Range"
    else (if s.sct == 0 && s.sc == 129 then codes "Capacity Exceeded"
    else (if s.sct == 2 && s.sc == 133 then codes "Compare Failure" else name_of_status s)))
