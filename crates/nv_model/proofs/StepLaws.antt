-- A command leaves a well-formed subsystem well formed.
use Rattle.std.proofs.lemmas.Grind.{common_steps}
use Rattle.std.proofs.Common.{rules, ◌≡◌, ℕ, ◌+◌, ◌<◌, ◌≤◌, ◌^◌, refl, arith, List}
use Rattle.std.proofs.Common.{[], ◌∷◌, length, take, Option, Some, None, min}
use Rattle.nv_model.specs.Step.{next_count, refused, step, step_by, with_command, with_refusal, log_entry}
use Rattle.nv_model.proofs.Words.{All-cons, All-take, AllByRecursion, Command, effect_of, ErrorEntry, ErrorEntryFits}
use Rattle.nv_model.proofs.Words.{first_refusal, greatest_count, IsRefusal, IsWellFormed}
use Rattle.nv_model.proofs.Words.{namespace_of, Refusal, refusal_of, Row, rows_of, State}
use Rattle.nv_model.proofs.ChangedAtLaws.{length-changed_at}
use Rattle.nv_model.proofs.KeepingLaws.{KeepsController, keeps}
use Rattle.nv_model.proofs.MeaningLaws.{sound}

-- the next count is at most the greatest count
next_count-le : (n : ℕ) → next_count n ≤ greatest_count
next_count-le n = omega arith

-- counting a command keeps a controller
pub counting_keeps : KeepsController (λ x. record x { commands = next_count x.commands })
counting_keeps = search rules

-- the log after a refusal has as many entries as there were refusals, but at most as many as are kept
length-with_refusal : (most refusals : ℕ) (e : ErrorEntry) (log : List ErrorEntry) → 0 < most → most
    ≤ 256 → refusals ≤ greatest_count → length log ≡ min refusals most
    → length (take most (e ∷ log)) ≡ min (next_count refusals) most
length-with_refusal most refusals e log some few low len = grind (arith, common_steps)

-- the entry of a refusal fits its record
entry_fits : (count cid nsid : ℕ) (r : Refusal) → count ≤ greatest_count → nsid < 2 ^ 32
    → cid < 2 ^ 16
    → IsRefusal r → ErrorEntryFits (log_entry count cid nsid r)
entry_fits count cid nsid r low a b fits = search (rules, arith, low, a, b, fits)

-- logging a refusal keeps a controller
pub booking_keeps : (nsid cid : ℕ) (r : Refusal) → nsid < 2 ^ 32 → cid < 2 ^ 16 → IsRefusal r
    → KeepsController (with_refusal nsid cid r)
booking_keeps nsid cid r a b fits = record {
  identity = λ x. refl;
  attached = λ x. refl;
  sound = λ s x h.
      let most = x.identity.numbers.elpe + 1 in
      let count = next_count x.refusals in
      let e = log_entry count cid nsid r in
      let fits = entry_fits count cid nsid r (next_count-le x.refusals) a b fits in
      assumption (
        length-with_refusal most x.refusals e x.log (omega arith) (omega (arith, h.identity.numbers.elpe))
            h.refusals h.log,
        All-take ErrorEntryFits most (e ∷ x.log) (All-cons ErrorEntryFits e x.log fits h.entries),
        next_count-le x.refusals,
      );
}

-- counting a command leaves a well-formed subsystem well formed
pub with_command_keeps : (s : State) (c : ℕ) → IsWellFormed s → IsWellFormed (with_command s c)
with_command_keeps s c w = keeps s c _ counting_keeps w

-- a refusal leaves a well-formed subsystem well formed
pub refused_keeps : (s : State) (c nsid cid : ℕ) (r : Refusal) → nsid < 2 ^ 32 → cid < 2 ^ 16
    → IsRefusal r → IsWellFormed s → IsWellFormed (with_command (refused s c nsid cid r) c)
refused_keeps s c nsid cid r a b fits w = search (rules, with_command_keeps, keeps, booking_keeps)

-- ---- one command

-- each row of a command has a refusal
pub rows_fit : (s : State) (c : ℕ) (k : Command) → AllByRecursion (λ row. IsRefusal row.refusal)
    (rows_of s c k)
rows_fit s c k = (sound k).rows s c

-- the first refusal of rows that all have refusals is a refusal
first_fits : (rows : List Row) (r : Refusal) → AllByRecursion (λ row. IsRefusal row.refusal) rows
    → first_refusal rows ≡ Some r → IsRefusal r
first_fits [] r all e = absurd (cc)
first_fits (row ∷ rows) r all e = grind (arith, common_steps, first_fits rows r all.1)

-- what refuses a command is a refusal
pub refusal_fits : (s : State) (c : ℕ) (k : Command) (r : Refusal) → refusal_of s c k ≡ Some r
    → IsRefusal r
refusal_fits s c k r e = first_fits (rows_of s c k) r (rows_fit s c k) e

-- the effect of a command that isn't refused leaves a well-formed subsystem well formed
pub effect_keeps : (s : State) (c : ℕ) (k : Command) → refusal_of s c k ≡ None → IsWellFormed s
    → IsWellFormed (effect_of s c k)
effect_keeps s c k accepted w = (sound k).keeps s c accepted w

-- no effect of a command adds or removes a controller
pub effect_controllers : (s : State) (c : ℕ) (k : Command) → length (effect_of s c k).controllers
    ≡ length s.controllers
effect_controllers s c k = (sound k).controllers s c

-- a step, refused or not, leaves a well-formed subsystem well formed
step_by_keeps : (o : Option Refusal) (s : State) (c : ℕ) (k : Command) (cid : ℕ) → refusal_of s c k
    ≡ o → ((r : Refusal) → o ≡ Some r → IsRefusal r) → namespace_of k < 2 ^ 32 → cid < 2 ^ 16
    → IsWellFormed s → IsWellFormed (step_by o s c k cid).state
step_by_keeps None s c k cid is fits a b w = search (rules, with_command_keeps, effect_keeps)
step_by_keeps (Some r) s c k cid is fits a b w = search (rules, refused_keeps)

-- a step leaves a well-formed subsystem well formed
pub step_keeps : (s : State) (c : ℕ) (k : Command) (cid : ℕ) → namespace_of k < 2 ^ 32 → cid
    < 2 ^ 16 → IsWellFormed s → IsWellFormed (step s c k cid).state
step_keeps s c k cid a b w = search (rules, step_by_keeps, refusal_of, refusal_fits)

-- a step, refused or not, adds or removes no controller
step_by_controllers : (o : Option Refusal) (s : State) (c : ℕ) (k : Command) (cid : ℕ)
    → length (step_by o s c k cid).state.controllers ≡ length s.controllers
step_by_controllers o s c k cid = grind (arith, common_steps, length-changed_at)

-- a step adds or removes no controller
pub step_controllers : (s : State) (c : ℕ) (k : Command) (cid : ℕ)
    → length (step s c k cid).state.controllers ≡ length s.controllers
step_controllers s c k cid = step_by_controllers (refusal_of s c k) s c k cid
