-- No command of `list` is refused, and its commands don't depend on those before.
use Rattle.nv_script.proofs.Words.{[], ℕ, ◌∙◌, ◌∷◌, ◌≡◌, Act, AllByRecursion, Answer, Command, Contains, Done, Err}
use Rattle.nv_script.proofs.Words.{IsAlike, IsLookup, List, Ok, Order, Reply, Send, Standing, State, Status, alike-join}
use Rattle.nv_script.proofs.Words.{alike-self, answers_to, ap, arith, asked, asked_all, exchange_by, get_or, get_or-map}
use Rattle.nv_script.proofs.Words.{length-map, looked_alike, looked_received, map, outcome_after, outcome_of, refl}
use Rattle.nv_script.proofs.Words.{reply_of, subst, sym}
use Rattle.nv_script.proofs.OutcomeLaws.{accepted_with}

-- an act of `list`, if NSIDs go up to nn
pub data IsLookupAct (nn : ℕ) : Act → Type 0 where
  sends : {k : Command} → IsLookup nn k → IsLookupAct nn (Send k)

-- each of these orders is a lookup
abbrev pub AreLookups : ℕ → List Order → Type 0
AreLookups nn orders = AllByRecursion (λ (o : Order). IsLookupAct nn o.act) orders

-- orders that are lookups for one limit of NSIDs are lookups for an equal one
lookups_at : (nn now : ℕ) (orders : List Order) → now ≡ nn → AreLookups nn orders → AreLookups now orders
lookups_at nn now orders e h = subst (λ n. AreLookups n orders) (sym e) h

-- ---- what doesn't change

-- an act of `list` leaves a state that is alike
act_alike : (s : State) (next_cids : List ℕ) (c : ℕ) {a : Act} → IsLookupAct s.nn a
    → IsAlike s (exchange_by a s next_cids c).state
act_alike s next_cids c (sends h) = looked_alike s c (get_or next_cids c 0) h

-- a lookup leaves a state that is alike
pub asked_alike : (w : Standing) (o : Order) → IsLookupAct w.state.nn o.act → IsAlike w.state (asked w o).state
asked_alike w o h = act_alike w.state w.next_cids o.controller h

-- lookups leave a state that is alike
pub asked_all_alike : (w : Standing) (orders : List Order) → AreLookups w.state.nn orders
    → IsAlike w.state (asked_all w orders).state
asked_all_alike w [] h = alike-self w.state
asked_all_alike w (o ∷ os) h =
    let one = asked_alike w o h.0 in
    alike-join w.state (asked w o).state (asked_all w (o ∷ os)).state one
    (asked_all_alike (asked w o) os (lookups_at w.state.nn (asked w o).state.nn os one.nn h.1))

-- ---- all of them are accepted

-- a lookup is accepted
accepted : (s : State) (next_cids : List ℕ) (c : ℕ) {a : Act} → IsLookupAct s.nn a
    → (r : Reply) × ((exchange_by a s next_cids c).answer ≡ Ok r)
accepted s next_cids c (sends {k} h) = (reply_of s c k, looked_received s c (get_or next_cids c 0) h)

-- a reply as an answer
abbrev ok : Reply → Answer
ok r = Ok r

-- so their outcome is the state of `list`, and its replies are all their answers
pub record AreAccepted (w : Standing) (orders : List Order) : Type 0 where
  pub replies : List Reply
  pub outcome : outcome_of w.state w.next_cids orders
      ≡ accepted_with replies (asked_all w orders).state (asked_all w orders).next_cids
  pub answers : answers_to w orders ≡ map ok replies

-- all of these lookups are accepted
pub all_accepted : (w : Standing) (orders : List Order) → AreLookups w.state.nn orders → AreAccepted w orders
all_accepted w [] h = record { replies = []; outcome = refl; answers = refl }
all_accepted w (o ∷ os) h =
    let is = accepted w.state w.next_cids o.controller h.0 in
    let next = asked w o in
    let rest = all_accepted next os (lookups_at w.state.nn next.state.nn os (asked_alike w o h.0).nn h.1) in
    record {
      replies = is.0 ∷ rest.replies;
      outcome = ap (λ a. outcome_after a next.state next.next_cids (outcome_of next.state next.next_cids os)) is.1
          ∙ ap (outcome_after (Ok is.0) next.state next.next_cids) rest.outcome;
      answers = ap (λ a. a ∷ answers_to next os) is.1 ∙ ap (λ xs. ok is.0 ∷ xs) rest.answers;
    }

-- among answers that are all replies there is no refusal
no_refusal : (replies : List Reply) (status : Status) → Contains (map ok replies) (Err status) → ⊥
no_refusal replies status h =
    let at = get_or-map ok replies h.0 Done (Err status) (omega (arith, length-map replies ok, h.1)) in
    absurd (cc (at, h.2))

-- no lookup is refused
pub none_refused : (w : Standing) (orders : List Order) (status : Status) → AreLookups w.state.nn orders
    → Contains (answers_to w orders) (Err status) → ⊥
none_refused w orders status h refused =
    let all = all_accepted w orders h in
    no_refusal all.replies status (subst (λ xs. Contains xs (Err status)) all.answers refused)
