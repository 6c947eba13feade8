-- The error log of a controller and its counts, as they are reported.
use Rattle.std.specs.Prelude.{ℕ, Option, None, slice_get}
use Rattle.std.specs.Option.{option_map_or}
use Rattle.nv_layout.specs.declared.error_entry.ErrorEntry.{ErrorEntry}
use Rattle.nv_model.specs.State.{State, controller_at}
use Rattle.nv_model.specs.declared.command_counts.CommandCounts.{CommandCounts}

-- the entry at an index, counted from the newest
abbrev pub log_entry_of : State → ℕ → ℕ → Option ErrorEntry
log_entry_of s c index = option_map_or (λ x. slice_get x.log index) (controller_at s c) None

-- how many commands a controller refused, and how many it took
abbrev pub counts_of : State → ℕ → CommandCounts
counts_of s c =
    option_map_or (λ x. record { refusals = x.refusals; commands = x.commands }) (controller_at s c)
    (record { refusals = 0; commands = 0 })
