-- The lines of a trace as texts, without their newlines.
use Rattle.std.specs.Prelude.{ℕ, ◌/◌, ◌%◌, ◌==◌, ◌&&◌, false, List, [], ◌++◌, codes, if◌then◌else◌}
use Rattle.std.specs.Fmt.{decimal, digits}
use Rattle.std.specs.Option.{option_map_or}
use Rattle.nv_layout.specs.Status.{status_text}
use Rattle.nv_layout.specs.declared.cqe.Status.{Status}
use Rattle.nv_layout.specs.declared.sqe.Sqe.{Sqe}
use Rattle.nv_register.specs.Register.{register_at}
use Rattle.nv_register.specs.declared.register.Register.{Register}
use Rattle.nv_register.specs.declared.register.Register.TheVariants as register
use Rattle.nv_trace.specs.declared.posted.Posted.{Posted}
use Rattle.nv_trace.specs.declared.taken.TakenEntry.{TakenEntry}
use Rattle.nv_trace.specs.declared.written.Written.{Written}

-- a number in hexadecimal digits
abbrev pub hex : ℕ → List ℕ
hex n = digits 16 false n

-- ---- a register write

-- the name of each register
abbrev pub register_name : Register → List ℕ
register_name register.CapLow = codes "CAP.low"
register_name register.CapHigh = codes "CAP.high"
register_name register.Vs = codes "VS"
register_name register.Cc = codes "CC"
register_name register.Csts = codes "CSTS"
register_name register.Aqa = codes "AQA"
register_name register.AsqLow = codes "ASQ.low"
register_name register.AsqHigh = codes "ASQ.high"
register_name register.AcqLow = codes "ACQ.low"
register_name register.AcqHigh = codes "ACQ.high"
register_name register.TailDoorbell = codes "SQ0TDBL"
register_name register.HeadDoorbell = codes "CQ0HDBL"

-- the name of what has this offset, or the offset
abbrev pub place_text : ℕ → List ℕ
place_text offset = option_map_or register_name (register_at offset) (codes "0x" ++ hex offset)

-- "nvme0 write CC=0x460001"
abbrev pub written_text : Written → List ℕ
written_text w = codes "nvme" ++ (decimal w.ctrl ++ (codes " write "
    ++ (place_text w.offset ++ (codes "=0x" ++ hex w.dword))))

-- ---- an entry

-- the name of a command by its opcode
abbrev pub command_name : ℕ → List ℕ
command_name opcode =
    if opcode == 0x02 then codes "Get Log Page"
    else if opcode == 0x06 then codes "Identify"
    else if opcode == 0x09 then codes "Set Features"
    else if opcode == 0x0a then codes "Get Features"
    else if opcode == 0x0d then codes "Namespace Management"
    else if opcode == 0x15 then codes "Namespace Attachment"
    else if opcode == 0x80 then codes "Format NVM"
    else codes "unknown"

-- " cdw10=0x2"; a field that is 0 is left out
abbrev pub field_text : List ℕ → ℕ → List ℕ
field_text name value =
    if value == 0 then [] else codes " " ++ (name ++ (codes "=0x" ++ hex value))

-- the fields of an entry that are left out if they are 0
abbrev pub fields_text : Sqe → List ℕ
fields_text e =
    field_text (codes "fuse") e.fuse ++ (field_text (codes "psdt") e.psdt ++ (field_text (codes "mptr") e.mptr
    ++ (field_text (codes "cdw10") e.cdw10 ++ (field_text (codes "cdw11") e.cdw11
    ++ (field_text (codes "cdw12") e.cdw12 ++ (field_text (codes "cdw13") e.cdw13
    ++ (field_text (codes "cdw14") e.cdw14 ++ field_text (codes "cdw15") e.cdw15)))))))

-- "nvme0 taken Identify (0x06) cid=0x0 nsid=0x0 prp1=0x4000 prp2=0x0 cdw10=0x2"
abbrev pub taken_text : TakenEntry → List ℕ
taken_text t =
    let e = t.entry in
    codes "nvme" ++ (decimal t.ctrl ++ (codes " taken "
    ++ (command_name e.opcode ++ (codes " (0x" ++ (hex (e.opcode / 16) ++ (hex (e.opcode % 16)
    ++ (codes ") cid=0x" ++ (hex e.cid ++ (codes " nsid=0x" ++ (hex e.nsid
    ++ (codes " prp1=0x" ++ (hex e.prp1 ++ (codes " prp2=0x" ++ (hex e.prp2 ++ fields_text e))))))))))))))

-- ---- a completion

-- whether a command succeeded or was refused
abbrev pub meaning : Status → List ℕ
meaning s = if (s.sct == 0) && (s.sc == 0) then codes "success" else codes "refused"

-- "nvme0 posted cid=0x0 status=0x0 success dword0=0x0 sqhd=0x1"
abbrev pub posted_text : Posted → List ℕ
posted_text p =
    let c = p.completion in
    codes "nvme" ++ (decimal p.ctrl ++ (codes " posted cid=0x" ++ (hex c.cid
    ++ (codes " status=" ++ (status_text c.status ++ (codes " "
    ++ (meaning c.status
    ++ (codes " dword0=0x" ++ (hex c.command_specific ++ (codes " sqhd=0x" ++ hex c.sq_head))))))))))
