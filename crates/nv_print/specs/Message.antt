-- Messages about lines that went wrong, and the sentences that are shown for commands without a record.
use Rattle.std.specs.Prelude.{List, ℕ, [], ◌∷◌, ◌++◌, codes, Bool, ◌==◌, Option, Some, None}
use Rattle.std.specs.Prelude.{if◌then◌else◌}
use Rattle.std.specs.Fmt.{decimal}
use Rattle.nv_command.specs.StatusCode.{name_of_status}
use Rattle.nv_layout.specs.Status.{status_text}
use Rattle.nv_layout.specs.declared.cqe.Status.{Status}
use Rattle.nv_line.specs.LineFault.{fault_text}
use Rattle.nv_print.specs.declared.fault.Fault.{Fault}
use Rattle.nv_print.specs.declared.fault.FaultCause.{FaultCause}
use Rattle.nv_print.specs.declared.fault.FaultCause.TheVariants as cause
use Rattle.nv_layout.specs.Feature.{row_of}
use Rattle.nv_layout.specs.Bits.{bit}
use Rattle.nv_layout.specs.declared.feature.Feature.{Feature}
use Rattle.nv_print.specs.Text.{hexadecimal}
use Rattle.nv_print.specs.declared.select.Select.{Select}
use Rattle.nv_print.specs.declared.select.Select.TheVariants as select

-- "NVMe status: Invalid Namespace or Format (0x600b)"
abbrev pub refusal_text : Status → List ℕ
refusal_text s = codes "NVMe status: "
    ++ (name_of_status s ++ (codes " (" ++ (status_text s ++ codes ")")))

-- what went wrong with a line: its own fault, or a refusal
abbrev pub cause_text : FaultCause → List ℕ
cause_text (cause.Line fault) = fault_text fault
cause_text (cause.Refused status) = refusal_text status

-- "line 3: usage error", and a newline
abbrev pub message_of : Fault → List ℕ
message_of f = codes "line " ++ (decimal f.line ++ (codes ": " ++ (cause_text f.cause ++ 10 ∷ [])))

-- "attach-ns: Success, nsid:2", and a newline
abbrev pub success_line : List ℕ → ℕ → List ℕ
success_line words nsid = words ++ (decimal nsid ++ 10 ∷ [])

-- "0x6 (Volatile Write Cache)"
abbrev pub feature_text : Feature → List ℕ
feature_text f = hexadecimal (row_of f).fid ++ (codes " (" ++ ((row_of f).name ++ codes ")"))

-- the value that a number selects
abbrev pub select_of : ℕ → Option Select
select_of n =
    if n == 0 then Some select.Current
    else (if n == 1 then Some select.Default
    else (if n == 2 then Some select.Saved
    else (if n == 3 then Some select.Capabilities
    else None)))

-- the name of a select
abbrev pub select_text : Select → List ℕ
select_text select.Current = codes "Current"
select_text select.Default = codes "Default"
select_text select.Saved = codes "Saved"
select_text select.Capabilities = codes "Supported capabilities"

-- "get-feature:0x6 (Volatile Write Cache), Current value:0x0", and a newline
abbrev pub feature_value : Feature → Select → ℕ → List ℕ
feature_value f select value =
    codes "get-feature:" ++ (feature_text f ++ (codes ", " ++ (select_text select
    ++ (codes " value:" ++ (hexadecimal value ++ 10 ∷ [])))))

-- "set-feature:0x6 (Volatile Write Cache), value:0x0, save:1", and a newline
abbrev pub feature_set : Feature → ℕ → Bool → List ℕ
feature_set f value save =
    codes "set-feature:" ++ (feature_text f ++ (codes ", value:" ++ (hexadecimal value
    ++ (codes ", save:" ++ (decimal (bit save) ++ 10 ∷ [])))))

-- "reset: Success", and a newline
abbrev pub reset_done : List ℕ
reset_done = codes "reset: Success" ++ 10 ∷ []
