-- The commands of `list` are accepted, and change only how many commands a controller took.
use Rattle.std.proofs.lemmas.Grind.{common_steps}
use Rattle.std.proofs.Common.{◌≡◌, ◌∙◌, ℕ, ◌≤◌, arith, ap, refl, true, [], Option, Some, None, Ok, is_some, rules}
use Rattle.std.specs.FinMap as map_of
use Rattle.std.proofs.lemmas.Cmp.{eq_by_cmp_equiv, nat_cmp_total}
use Rattle.std.proofs.lemmas.Map.Views.{All-from_any}
use Rattle.nv_command.specs.Received.{answer_received}
use Rattle.nv_command.specs.declared.command.Command.TheVariants.{IdentifyController, IdentifyNamespace, ActiveList}
use Rattle.nv_model.specs.Step.{Step, step, with_command}
use Rattle.nv_model.proofs.Words.{active_nsids, All, ascending, Command, contains_key-keys, Controller}
use Rattle.nv_model.proofs.Words.{controller_at, IsController, IsWellFormed}
use Rattle.nv_model.proofs.Words.{nat_le, nat_tests, option_map_or, reply_of, State, ◌&&◌}
use Rattle.nv_model.proofs.ChangedAtLaws.{slice_get-changed_at}
use Rattle.nv_model.proofs.KeepingLaws.{is_controller}

-- an NSID that a namespace could have, if they go up to nn
abbrev pub IsInside : ℕ → ℕ → Type 0
IsInside nn n = (1 ≤ n) × (n ≤ nn)

-- a command that `list` sends: for the controller's data, for the namespaces that are attached to
-- it, and for the data of one
pub data IsLookup (nn : ℕ) : Command → Type 0 where
  controller : IsLookup nn IdentifyController
  attached : IsLookup nn (ActiveList 0)
  namespace : {n : ℕ} → IsInside nn n → IsLookup nn (IdentifyNamespace n)

-- ---- its effect

-- an NSID that a namespace could have passes the test for valid ones
valid : (n nn : ℕ) → IsInside nn n → (nat_le 1 n && nat_le n nn) ≡ true
valid n nn h = grind (arith, nat_tests, h.0, h.1)

-- a command of `list` is accepted and counted, and changes nothing else
pub looked : (s : State) {k : Command} (c cid : ℕ) → IsLookup s.nn k
    → step s c k cid ≡ record { answer = Ok (reply_of s c k); state = with_command s c }
looked s c cid h = grind (arith, common_steps)

-- the reply to a command of `list` is received unchanged
as_it_is : (nn : ℕ) {k : Command} (s : State) (c : ℕ) → IsLookup nn k
    → answer_received k (Ok (reply_of s c k)) ≡ Ok (reply_of s c k)
as_it_is nn s c h = search rules

-- the reply to a command of `list`, as the step returns it, is received unchanged
pub looked_received : (s : State) {k : Command} (c cid : ℕ) → IsLookup s.nn k
    → answer_received k (step s c k cid).answer ≡ Ok (reply_of s c k)
looked_received s {k} c cid h =
    ap (λ (x : Step). answer_received k x.answer) (looked s c cid h) ∙ as_it_is s.nn s c h

-- ---- what doesn't change

-- the same NSIDs are attached to each controller, and the greatest NSID is the same
pub record IsAlike (s now : State) : Type 0 where
  pub nn : now.nn ≡ s.nn
  pub active : (c : ℕ) → active_nsids now c ≡ active_nsids s c

-- a state in which a command was counted is alike
counted : (s now : State) (c : ℕ) → now ≡ with_command s c → IsAlike s now
counted s now c e = search (rules, slice_get-changed_at)

-- a command of `list` leaves a state that is alike
pub looked_alike : (s : State) {k : Command} (c cid : ℕ) → IsLookup s.nn k
    → IsAlike s (step s c k cid).state
looked_alike s {k} c cid h =
    counted s (step s c k cid).state c (ap (λ (x : Step). x.state) (looked s c cid h))

-- each state is alike to itself
pub alike-self : (s : State) → IsAlike s s
alike-self s = record { nn = refl; active = λ c. refl }

-- states that are alike to one another in turn are alike
pub alike-join : (a b c : State) → IsAlike a b → IsAlike b c → IsAlike a c
alike-join a b c h k = record { nn = k.nn ∙ h.nn; active = λ d. k.active d ∙ h.active d }

-- ---- NSIDs that are attached

-- what follows from each value of an optional one that is a value holds
of_some : {A : Type 0} (P : Type 0) (o : Option A) → ((x : A) → o ≡ Some x → P) → is_some o ≡ true → P
of_some P o h e = search rules

-- the NSIDs that are attached to a controller, or to none, are from 1 to NN
attached_inside : (s : State) → IsWellFormed s → (o : Option Controller)
    → ((x : Controller) → o ≡ Some x → IsController s.namespaces x)
    → All (IsInside s.nn) (option_map_or (λ x. ascending x.attached) o [])
attached_inside s w None is = λ k d below. absurd (omega arith)
attached_inside s w (Some x) is =
    All-from_any (eq_by_cmp_equiv nat_cmp_total) (IsInside s.nn) (ascending x.attached)
    (λ n t. of_some (IsInside s.nn n) (map_of.get s.namespaces n) (λ x e. (w.namespaces n x e).nsid)
    ((is x refl).attached n (contains_key-keys x.attached n ∙ t)))

-- the NSIDs that are active on a controller of a well-formed subsystem are from 1 to NN
pub active_inside : (s : State) (c : ℕ) → IsWellFormed s → All (IsInside s.nn) (active_nsids s c)
active_inside s c w = search (rules, attached_inside, controller_at, is_controller)
