-- The effect of one command or a reset: the answer, and the state after it.
use Rattle.std.specs.Prelude.{ℕ, false, Bool, List, length, map, slice_index_or, if◌then◌else◌, ◌+◌, ◌%◌}
use Rattle.std.specs.Prelude.{min, ◌∷◌, take, Option, Some, None, Result, Ok, Err}
use Rattle.std.specs.List.{fold, range_with_len}
use Rattle.std.specs.FinMap as map_of
use Rattle.nv_command.specs.declared.refusal.Refusal.{Refusal}
use Rattle.nv_layout.specs.declared.error_entry.ErrorEntry.{ErrorEntry}
use Rattle.nv_model.specs.Values.{FeatureRules, first_value, restored, FeatureValues}
use Rattle.nv_model.specs.State.{Controller, State, with_controller}
use Rattle.nv_layout.specs.declared.cqe.Status.{Status}
use Rattle.nv_command.specs.Form.{namespace_of}
use Rattle.nv_command.specs.declared.command.Command.{Command}
use Rattle.nv_command.specs.declared.reply.Reply.{Reply}
use Rattle.nv_model.specs.Meaning.{effect_of, refusal_of, reply_of}
use Rattle.nv_model.specs.Ranges.{greatest_count, cid_count}

-- the log entry of a refusal: it names no field of the command and no logical block, and here it
-- has no phase tag
abbrev pub log_entry : ℕ → ℕ → ℕ → Refusal → ErrorEntry
log_entry count cid nsid r = record {
  count = count;
  sqid = 0;
  cid = cid;
  status = r.status;
  phase = false;
  location = 0xffff;
  lba = 0;
  nsid = nsid;
  vendor = 0;
  specific = r.specific;
}

-- each current value becomes the saved one, or the default of its key if none was saved
abbrev pub all_restored : FeatureRules → FeatureValues → FeatureValues
all_restored rules values = map_of.from_entries
    (map (λ e. (e.0, restored (first_value rules e.0).current e.1)) (map_of.entries values))

-- nothing else of the controller changes
abbrev pub with_restored : Controller → Controller
with_restored x = record x { values = all_restored x.rules x.values }

-- controller c is reset
abbrev pub reset : State → ℕ → State
reset s c = with_controller s c with_restored

-- controller c is reset if it is enabled
abbrev pub reset_if : List Bool → State → ℕ → State
reset_if enabled s c = if slice_index_or enabled c false then reset s c else s

-- each enabled controller is reset
abbrev pub reset_where : List Bool → State → State
reset_where enabled s = fold (reset_if enabled) s (range_with_len 0 (length enabled))

-- one more than a count, up to the greatest count
abbrev pub next_count : ℕ → ℕ
next_count n = min (n + 1) greatest_count

-- a controller after another refusal: its entry is the newest, and ELPE + 1 entries are kept
abbrev pub with_refusal : ℕ → ℕ → Refusal → Controller → Controller
with_refusal nsid cid r x =
    let refusals = next_count x.refusals in
    record x {
      refusals = refusals;
      log = take (x.identity.numbers.elpe + 1) (log_entry refusals cid nsid r ∷ x.log);
    }

-- the state after a refusal of controller c
abbrev pub refused : State → ℕ → ℕ → ℕ → Refusal → State
refused s c nsid cid r = with_controller s c (with_refusal nsid cid r)

-- each command that a controller takes is counted
abbrev pub with_command : State → ℕ → State
with_command s c = with_controller s c (λ x. record x { commands = next_count x.commands })

-- the answer to a command, and the state after it
pub record Step : Type 0 where
  pub answer : Result Reply Status
  pub state : State

-- a command that isn't refused is done and counted, and one that is refused is logged and counted
abbrev pub step_by : Option Refusal → State → ℕ → Command → ℕ → Step
step_by None s c k cid = record {
  answer = Ok (reply_of s c k);
  state = with_command (effect_of s c k) c;
}
step_by (Some r) s c k cid = record {
  answer = Err r.status;
  state = with_command (refused s c (namespace_of k) cid r) c;
}

-- a command of controller c with this command identifier
abbrev pub step : State → ℕ → Command → ℕ → Step
step s c k cid = step_by (refusal_of s c k) s c k cid

-- the next command identifier: FFFFh is never used
abbrev pub cid_after : ℕ → ℕ
cid_after cid = (cid + 1) % cid_count
