-- Whether an entry is refused.
use Rattle.std.specs.Prelude.{Bool, true, false, List, Result, Ok, Err}
use Rattle.nv_blocks.specs.declared.command.Extent.{Extent}
use Rattle.nv_blocks.specs.declared.refusal.Refusal.{Refusal}

-- the entry isn't refused
abbrev pub is_accepted : Result (List Extent) Refusal → Bool
is_accepted (Ok extents) = true
is_accepted (Err refusal) = false
