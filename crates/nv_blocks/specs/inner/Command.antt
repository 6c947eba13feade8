-- What an entry asks for: what no public contract reaches.
use Rattle.std.specs.Prelude.{◌≡◌, ℕ, ◌+◌, ◌*◌, ◌<◌, ◌≤◌, true}
use Rattle.nv_blocks.specs.Command.{has_data}
use Rattle.nv_blocks.specs.declared.command.Action.{Action}
use Rattle.nv_blocks.specs.declared.command.Command.{Command}
use Rattle.nv_blocks.specs.declared.command.Command.TheVariants.{Flush, OnBlocks, DatasetManagement}
use Rattle.nv_blocks.specs.declared.command.Extent.{Extent}

-- a command whose bytes lie within a namespace's data, and whose transfer is within the limit
pub record AreInside (limit size : ℕ) (action : Action) (extent : Extent) : Type 0 where
  pub some : 0 < extent.len
  pub inside : extent.start + extent.len ≤ size
  pub few : has_data action ≡ true → extent.len ≤ limit

-- a list of ranges within the limit
pub record IsList (limit ranges block_size : ℕ) : Type 0 where
  pub some : 0 < ranges
  pub most : ranges ≤ 256
  pub few : 16 * ranges ≤ limit
  pub blocks : 0 < block_size

-- a command that lies within a namespace's data of this size, and within the limit
abbrev pub IsWithin : ℕ → ℕ → Command → Type 0
IsWithin limit size Flush = Unit {0}
IsWithin limit size (OnBlocks action extent) = AreInside limit size action extent
IsWithin limit size (DatasetManagement ranges block_size deallocates) = IsList limit ranges block_size
