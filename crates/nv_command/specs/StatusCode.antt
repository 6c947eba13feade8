-- Status codes: one row for each, as in the section "Status Code".
use Rattle.std.specs.Prelude.{ℕ, ◌==◌, ◌&&◌, true, List, [], ◌∷◌, Option, codes, find}
use Rattle.std.specs.Option.{option_map_or}
use Rattle.nv_layout.specs.declared.ctrl_list.LayoutError.{LayoutError}
use Rattle.nv_layout.specs.declared.ctrl_list.LayoutError.TheVariants.{CountTooLarge}
use Rattle.nv_layout.specs.declared.cqe.Status.{Status}
use Rattle.nv_command.specs.declared.status_code.StatusCode.{StatusCode}
use Rattle.nv_command.specs.declared.status_code.StatusCode.TheVariants as code

-- a status code type, a status code and a name
pub record StatusRow : Type 0 where
  pub sct : ℕ
  pub sc : ℕ
  pub name : List ℕ

-- a row with this status code type, status code and name
abbrev pub row : ℕ → ℕ → List ℕ → StatusRow
row sct sc name = record { sct = sct; sc = sc; name = name }

-- the row of each status code
abbrev pub row_of : StatusCode → StatusRow
row_of code.InvalidCommandOpcode = row 0 0x01 (codes "Invalid Command Opcode")
row_of code.InvalidFieldInCommand = row 0 0x02 (codes "Invalid Field in Command")
row_of code.DataTransferError = row 0 0x04 (codes "Data Transfer Error")
row_of code.InvalidNamespaceOrFormat = row 0 0x0b (codes "Invalid Namespace or Format")
row_of code.PrpOffsetInvalid = row 0 0x13 (codes "PRP Offset Invalid")
row_of code.InvalidLogPage = row 1 0x09 (codes "Invalid Log Page")
row_of code.InvalidFormat = row 1 0x0a (codes "Invalid Format")
row_of code.FeatureIdentifierNotSaveable = row 1 0x0d (codes "Feature Identifier Not Saveable")
row_of code.FeatureNotChangeable = row 1 0x0e (codes "Feature Not Changeable")
row_of code.FeatureNotNamespaceSpecific = row 1 0x0f (codes "Feature Not Namespace Specific")
row_of code.NamespaceInsufficientCapacity = row 1 0x15 (codes "Namespace Insufficient Capacity")
row_of code.NamespaceIdentifierUnavailable = row 1 0x16 (codes "Namespace Identifier Unavailable")
row_of code.NamespaceAlreadyAttached = row 1 0x18 (codes "Namespace Already Attached")
row_of code.NamespaceIsPrivate = row 1 0x19 (codes "Namespace Is Private")
row_of code.NamespaceNotAttached = row 1 0x1a (codes "Namespace Not Attached")
row_of code.ThinProvisioningNotSupported = row 1 0x1b (codes "Thin Provisioning Not Supported")
row_of code.ControllerListInvalid = row 1 0x1c (codes "Controller List Invalid")

-- every status code
abbrev pub status_codes : List StatusCode
status_codes =
    code.InvalidCommandOpcode
    ∷ code.InvalidFieldInCommand
    ∷ code.DataTransferError
    ∷ code.InvalidNamespaceOrFormat
    ∷ code.PrpOffsetInvalid
    ∷ code.InvalidLogPage
    ∷ code.InvalidFormat
    ∷ code.FeatureIdentifierNotSaveable
    ∷ code.FeatureNotChangeable
    ∷ code.FeatureNotNamespaceSpecific
    ∷ code.NamespaceInsufficientCapacity
    ∷ code.NamespaceIdentifierUnavailable
    ∷ code.NamespaceAlreadyAttached
    ∷ code.NamespaceIsPrivate
    ∷ code.NamespaceNotAttached
    ∷ code.ThinProvisioningNotSupported
    ∷ code.ControllerListInvalid
    ∷ []

-- the status of a refusal: More and Do Not Retry are set
abbrev pub status_of_code : StatusCode → Status
status_of_code code = record {
  sc = (row_of code).sc;
  sct = (row_of code).sct;
  crd = 0;
  more = true;
  dnr = true;
}

-- the code of a refusal for data that is not a valid record
abbrev pub code_of_layout : LayoutError → StatusCode
code_of_layout CountTooLarge = code.ControllerListInvalid

-- the name of a status code
abbrev pub name_of_code : StatusCode → List ℕ
name_of_code code = (row_of code).name

-- the first of the given codes that has the type and the code of a status
abbrev pub first_code : List StatusCode → Status → Option StatusCode
first_code codes s = find (λ code. (row_of code).sct == s.sct && (row_of code).sc == s.sc) codes

-- the name of a status, even if it has none of these codes
abbrev pub name_of_status : Status → List ℕ
name_of_status s = option_map_or name_of_code (first_code status_codes s) (codes "Unknown")
