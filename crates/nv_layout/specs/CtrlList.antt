-- A controller list: the number of identifiers, then the identifiers, then zeros.
use Rattle.std.specs.Prelude.{◌≡◌, ◌≤◌, ◌^◌, ◌<◌, ℕ, nat_le, if◌then◌else◌, List, [], ◌∷◌, Result, Ok}
use Rattle.std.specs.Prelude.{Err, length}
use Rattle.std.specs.List.{AllByRecursion}
use Rattle.nv_layout.specs.Parts.{Part, laid_out, number, number_at, numbers, numbers_at}
use Rattle.nv_layout.specs.declared.ctrl_list.LayoutError.{LayoutError}
use Rattle.nv_layout.specs.declared.ctrl_list.LayoutError.TheVariants.{CountTooLarge}
use Rattle.nv_layout.specs.Limits.{most_cntlids}

-- the fields of a controller list at their offsets: how many identifiers it has, and the identifiers
abbrev pub ctrl_list_parts : List ℕ → List Part
ctrl_list_parts ids = number 0 2 (length ids) ∷ numbers 2 2 (length ids) ids ∷ []

-- a controller list as 4,096 bytes
unfoldable pub bytes_of_ctrl_list : List ℕ → List ℕ
bytes_of_ctrl_list ids = laid_out 4096 (ctrl_list_parts ids)

-- as many identifiers as the record says, if it has room for them
unfoldable pub ctrl_list_of_bytes : List ℕ → Result (List ℕ) LayoutError
ctrl_list_of_bytes bytes =
    let count = number_at 0 2 bytes in
    if nat_le count most_cntlids then Ok (numbers_at 2 2 count bytes) else Err CountTooLarge

-- not too many identifiers, of two bytes each
pub record CtrlListFits (ids : List ℕ) : Type 0 where
  pub count : length ids ≤ most_cntlids
  pub numbers : AllByRecursion (λ x. x < 2 ^ 16) ids

-- a controller list that fits its record is read back from its bytes
abbrev pub CtrlListReadsBack : Type 0
CtrlListReadsBack = (ids : List ℕ) → CtrlListFits ids → ctrl_list_of_bytes (bytes_of_ctrl_list ids)
    ≡ Ok ids
