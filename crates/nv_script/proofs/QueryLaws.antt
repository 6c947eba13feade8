-- What a query leaves behind, by how many of its orders were carried out.
use Rattle.nv_script.proofs.Words.{[], ℕ, ◌+◌, ◌<◌, ◌∙◌, ◌∷◌, ◌≡◌, Answer, AskLeaves, Batch, Command, Controller, Done}
use Rattle.nv_script.proofs.Words.{DriverValue, Err, Exchange, GoesAll, Going, IdentifyController, IsReached, List}
use Rattle.nv_script.proofs.Words.{NoText, NoTextLeaves, None, Ok, Option, Outcome, Query, QueryLeaves, Refusal, Reply}
use Rattle.nv_script.proofs.Words.{Request, Restart, Result, Shown, Some, State, Status, after, after_reset, alone}
use Rattle.nv_script.proofs.Words.{answer_received, ap, arith, batches_of, batches_with, cids_reset, common_steps}
use Rattle.nv_script.proofs.Words.{entry_count, errors_command, get_or, length, next_cids_of, option_map_or, order_of}
use Rattle.nv_script.proofs.Words.{orders_in_all, orders_of, outcome_after, outcome_of, refl, refusal_of, reset}
use Rattle.nv_script.proofs.Words.{shown_by, shown_of, step_by, subst, sym, take_all}
use Rattle.nv_layout.specs.IdCtrl.{id_ctrl_of_bytes}
use Rattle.nv_layout.specs.Parts.{number_at}
use Rattle.nv_model.specs.IdentifyController.{id_ctrl_of, no_controller}
use Rattle.nv_line.specs.declared.request.Query.TheVariants.{One}
use Rattle.nv_script.proofs.GoingLaws.{goes-append}
use Rattle.nv_script.proofs.LinkLaws.{Sent, is_exchange, still_known, went_alone}
use Rattle.nv_script.specs.inner.Orders.{log_command}
use Rattle.nv_script.proofs.OutcomeLaws.{accepted_with, outcome_first, refused_with}
use Rattle.nv_command.specs.declared.reply.Reply.TheVariants as reply
use Rattle.nv_line.specs.declared.request.Ask.TheVariants as ask
use Rattle.nv_script.specs.declared.performing.NoText.TheVariants as stop

-- ---- the command for an error log is known from the first reply

-- the reply in an answer, or any reply for a refusal
reply_or_done : Result Reply Status → Reply
reply_or_done (Ok r) = r
reply_or_done (Err status) = reply.Done

-- Identify Controller says how many errors a controller keeps
identity_of_kept : (s : State) (o : Option Controller)
    → (option_map_or (id_ctrl_of s) o no_controller).elpe + 1 ≡ option_map_or (λ x. x.identity.numbers.elpe + 1) o 1
unfolding id_ctrl_of_bytes number_at
identity_of_kept s None = refl
identity_of_kept s (Some x) = refl

module _ (s : State) (next_cids : List ℕ) (c entries : ℕ) where
  -- the log command by the reply to Identify Controller is the one for as many entries as the controller keeps
  log_next : (refusal : Option Refusal) (r : Reply)
      → Ok r ≡ answer_received IdentifyController (step_by refusal s c IdentifyController (get_or next_cids c 0)).answer
      → log_command entries r ≡ errors_command entries (entry_count s c)
  unfolding reply_or_done
  log_next None r e = grind (arith, common_steps, reply_or_done, identity_of_kept)
  log_next (Some refusal) r e = absurd (cc)

-- ---- what an outcome leaves

module _ (s now : State) (next_cids next : List ℕ) (q : Query) (went : List Batch → Type 0)
    (gone : went (batches_of s q)) where
  -- the outcome of all orders of the query
  abbrev whole : Outcome
  whole = outcome_of s next_cids (orders_of s q)

  -- an outcome of all orders was reached by all batches
  reached : (o : Outcome) → whole ≡ o → now ≡ o.state → next ≡ o.next_cids
      → IsReached whole (batches_of s q) now next went
  reached o e state next = record {
    subsystem = state ∙ ap (λ (x : Outcome). x.state) (sym e);
    next = next ∙ ap (λ (x : Outcome). x.next_cids) (sym e);
    gone = gone;
  }

  -- if the outcome is a refusal in the last batch, a stop because of it is right
  left_refused : (replies : List Reply) (status : Status) → whole ≡ refused_with replies status now next
      → batches_with (length replies + 1) (batches_of s q) ≡ batches_of s q
      → NoTextLeaves (stop.Refused status) q s next_cids now next went
  left_refused replies status e last = (
    ap (λ (x : Outcome). x.refusal) e,
    reached (refused_with replies status now next) e refl refl,
    ap (λ (x : Outcome). batches_with (length x.replies + 1) (batches_of s q)) e ∙ last,
  )

  -- if the outcome has only replies, what they show is right
  pub left_shown : (shown : Option Shown) (replies : List Reply) → whole ≡ accepted_with replies now next
      → shown ≡ shown_of (orders_of s q) q replies → QueryLeaves (Ok shown) q s next_cids now next went
  left_shown shown replies e is = (
    ap (λ (x : Outcome). x.refusal) e,
    is ∙ ap (λ (x : Outcome). shown_of (orders_of s q) q x.replies) (sym e),
    reached (accepted_with replies now next) e refl refl,
  )

-- ---- an ask

-- what is left after an answer: its reply, or a stop because of its refusal
abbrev pub left_with : Answer → Result Reply NoText
left_with (Ok reply) = Ok reply
left_with (Err status) = Err (stop.Refused status)

-- the only command of an ask was answered
pub send_left : {B : Type 0} {goes : Going B} {c : ℕ} {s now : State} {d after : DriverValue} {old at : B}
    (answer : Answer) {k : Command} → Sent goes c k answer s now d after old at → c < length d.pairs
    → AskLeaves (left_with answer) c (ask.Send k) s (next_cids_of d) now (next_cids_of after)
    (GoesAll goes d old after at)
send_left {c = c} {s = s} {now = now} {d = d} {after = after} (Ok reply) {k} h below =
    left_shown s now (next_cids_of d) (next_cids_of after) (One c (ask.Send k)) _ (went_alone h)
    (shown_by (ask.Send k) reply) (reply ∷ [])
    (outcome_first s now (next_cids_of d) (next_cids_of after) (order_of c k) [] (Ok reply) (is_exchange h below)) refl
send_left {c = c} {s = s} {now = now} {d = d} {after = after} (Err status) {k} h below =
    left_refused s now (next_cids_of d) (next_cids_of after) (One c (ask.Send k)) _ (went_alone h) [] status
    (outcome_first s now (next_cids_of d) (next_cids_of after) (order_of c k) [] (Err status) (is_exchange h below))
    refl

-- a controller was reset
pub reset_left : {B : Type 0} (goes : Going B) (c : ℕ) (s now : State) (d after : DriverValue) (old at : B)
    → now ≡ reset s c → after ≡ after_reset d c → goes d (Restart c) old at
    → AskLeaves (Ok Done) c ask.Reset s (next_cids_of d) now (next_cids_of after) (GoesAll goes d old after at)
reset_left goes c s now d after old at state driver steps =
    left_shown s now (next_cids_of d) (next_cids_of after) (One c ask.Reset) _ (at, steps, (driver, refl))
    (shown_by ask.Reset Done) (Done ∷ [])
    (λ i. accepted_with (Done ∷ []) (sym state i) (sym (cids_reset d after c driver) i)) refl

-- a controller said how many errors it keeps
module _ {B : Type 0} {goes : Going B} {c : ℕ} {s now : State} {d second : DriverValue} {old at : B} {identity : Reply}
    {k : Command} (one : Sent goes c IdentifyController (Ok identity) s now d second old at)
    (below : c < length d.pairs) (entries : ℕ) (is : k ≡ log_command entries identity) where
  -- the log command is the one for as many entries as the controller keeps
  log_is : k ≡ errors_command entries (entry_count s c)
  log_is = is ∙ log_next s (next_cids_of d) c entries (refusal_of s c IdentifyController) identity
      (ap (λ (x : Exchange). x.answer) (is_exchange one below))

  -- that command was answered
  module _ (answer : Answer) {last : State} {after : DriverValue} {end : B}
      (two : Sent goes c k answer now last second after at end) where
    -- the outcome is the first reply, and then the outcome of the log command
    begun : outcome_of s (next_cids_of d) (orders_of s (One c (ask.ErrorLog entries)))
        ≡ outcome_after (Ok identity) now (next_cids_of second)
        (outcome_after answer last (next_cids_of after) (accepted_with [] last (next_cids_of after)))
    begun =
        outcome_first s now (next_cids_of d) (next_cids_of second) (order_of c IdentifyController)
        (order_of c (errors_command entries (entry_count s c)) ∷ []) (Ok identity) (is_exchange one below)
        ∙ ap (λ x. outcome_after (Ok identity) now (next_cids_of second) (outcome_of now (next_cids_of second)
        (order_of c x ∷ []))) (sym log_is)
        ∙ ap (outcome_after (Ok identity) now (next_cids_of second))
        (outcome_first now last (next_cids_of second) (next_cids_of after) (order_of c k) [] answer
        (is_exchange two (still_known one below)))

    -- both batches went
    both_went : GoesAll goes d old after end (batches_of s (One c (ask.ErrorLog entries)))
    both_went =
        subst (λ x. GoesAll goes d old after end (alone c IdentifyController ∷ alone c x ∷ [])) log_is
        (goes-append goes (alone c IdentifyController ∷ []) (alone c k ∷ []) d second after old at end (went_alone one)
        (went_alone two))

  pub log_left : (answer : Answer) {last : State} {after : DriverValue} {end : B}
      → Sent goes c k answer now last second after at end
      → AskLeaves (left_with answer) c (ask.ErrorLog entries) s (next_cids_of d) last (next_cids_of after)
      (GoesAll goes d old after end)
  log_left (Ok reply) {last} {after} two =
      left_shown s last (next_cids_of d) (next_cids_of after) (One c (ask.ErrorLog entries)) _
      (both_went (Ok reply) two) (shown_by (ask.ErrorLog entries) reply) (identity ∷ reply ∷ [])
      (begun (Ok reply) two) refl
  log_left (Err status) {last} {after} two =
      left_refused s last (next_cids_of d) (next_cids_of after) (One c (ask.ErrorLog entries)) _
      (both_went (Err status) two) (identity ∷ []) status (begun (Err status) two) refl

-- ---- a request

module _ (s now : State) (next_cids next : List ℕ) (r : Request) (q : Query) (is : r.query ≡ q)
    (went : List Batch → Type 0) where
  -- if memory was refused for the text of a request, a stop for lack of memory is right
  pub no_text : (shown : Option Shown) → QueryLeaves (Ok shown) q s next_cids now next went
      → NoTextLeaves stop.Memory r.query s next_cids now next went
  no_text shown h =
      let batches = batches_of s q in
      rw is (
        length batches,
        subst (λ bs. IsReached (outcome_of s next_cids (orders_in_all bs)) bs now next went)
            (sym (take_all (length batches) batches (omega arith))) h.2,
      )
