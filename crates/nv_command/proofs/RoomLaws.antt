-- The entries of an error log in a `ReplyRoom`: those after the last one that isn't all zeros hold
-- no error.
use Rattle.std.proofs.lemmas.Grind.{common_steps}
use Rattle.std.proofs.Common.{◌≡◌, ℕ, ◌-◌, ◌<◌, ◌≤◌, List, [], arith, drop, rules}
use Rattle.std.proofs.Common.{get_or, length, map, refl, replicate, take}
use Rattle.std.proofs.lemmas.List.{drop_more, take-append-drop}
use Rattle.nv_layout.specs.ErrorEntryBytes.{error_entry_of_bytes}
use Rattle.nv_layout.specs.ErrorEntry.{no_entry}
use Rattle.nv_layout.specs.Parts.{number_at}
use Rattle.nv_layout.specs.Status.{status_of_number}
use Rattle.nv_layout.specs.declared.error_entry.ErrorEntry.{ErrorEntry}
use Rattle.nv_command.specs.Logs.{entry_received}
use Rattle.nv_command.specs.Room.{entries_held}

-- an entry of 64 zeros is received as the entry that holds no error
zeros_received : entry_received (replicate 64 0) ≡ no_entry
unfolding error_entry_of_bytes number_at status_of_number
zeros_received = refl

-- if the entries after the first n hold no error and entry n - 1 is all zeros, so do the entries after the first n - 1
pub blank_before : (chunks : List (List ℕ)) (n : ℕ) → 0 < n → n ≤ length chunks
    → get_or chunks (n - 1) [] ≡ replicate 64 0
    → map entry_received (drop n chunks) ≡ replicate (length chunks - n) no_entry
    → map entry_received (drop (n - 1) chunks) ≡ replicate (length chunks - (n - 1)) no_entry
blank_before chunks n some within zeros others = search (rules, drop_more, zeros_received)

-- if the first n entries are kept and the entries after them hold no error, these are all entries
pub entries_read : (chunks : List (List ℕ)) (n : ℕ) (kept : List ErrorEntry)
    → take n kept ≡ map entry_received (take n chunks)
    → map entry_received (drop n chunks) ≡ replicate (length chunks - n) no_entry
    → entries_held (length chunks) n kept ≡ map entry_received chunks
entries_read chunks n kept read others = grind (arith, common_steps, take-append-drop n chunks)
