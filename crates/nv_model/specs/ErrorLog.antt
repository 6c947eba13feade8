-- The error log as a value.
use Rattle.std.specs.Prelude.{ℕ, List}
use Rattle.nv_layout.specs.declared.error_entry.ErrorEntry.{ErrorEntry}

-- the entries, newest first, and how many there may be
pub record Log : Type 0 where
  pub most : ℕ
  pub entries : List ErrorEntry
