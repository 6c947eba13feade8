-- What one line leaves behind, by how its text was printed.
use Rattle.nv_script.proofs.Words.{[], ℕ, ◌++◌, ◌+◌, ◌∙◌, ◌≡◌, ◌≢◌, ◌⊎◌, Appends, Appends-at, Appends-join, Batch, Bool}
use Rattle.nv_script.proofs.Words.{Err, Holds, IsMemoryBeginning, IsReached, Left, LineLeaves, LineResult, List, None}
use Rattle.nv_script.proofs.Words.{Ok, Option, OutWrite, Outcome, PrintLeaves, Progress, ReportLeaves, Request, Result}
use Rattle.nv_script.proofs.Words.{RunEnd, Session, Some, Stands, State, Status, answer_result, ap, append-nil, arith}
use Rattle.nv_script.proofs.Words.{batches_amid, batches_of, batches_with, common_steps, inl, inr, left_at, length}
use Rattle.nv_script.proofs.Words.{line_result, message_at, next_cids_of, orders_in_all, orders_of, outcome_of}
use Rattle.nv_script.proofs.Words.{output_for, refl, result_at, said_at, state_amid, subst, sym, take, take_all}
use Rattle.nv_script.proofs.Words.{unwrap_or}
use Rattle.nv_layout.specs.Steps.{◌>>=◌}
use Rattle.nv_line.specs.Line.{NeedsNoMemory, begun, reading, reading_from}
use Rattle.nv_line.specs.Request.{request_of}
use Rattle.nv_line.specs.Word.{without_nvme, words_of}
use Rattle.nv_line.specs.declared.fault.LineFault.{LineFault}
use Rattle.nv_line.specs.declared.line.Line.{Line}
use Rattle.nv_line.specs.declared.verb.Verb.{Verb}
use Rattle.nv_line.specs.declared.fault.LineFault.TheVariants as fault
use Rattle.nv_print.specs.declared.fault.FaultCause.TheVariants as cause
use Rattle.nv_line.specs.declared.line.Line.TheVariants as line

-- a stream that took x also took x with an empty text after it
took_none : (a b : Option (List ℕ)) (x y : List ℕ) → y ≡ [] → Appends a b x → Appends a b (x ++ y)
took_none a b x y e h = Appends-at a b x (x ++ y) (sym (ap (λ t. x ++ t) e ∙ append-nil x)) h

-- a stream that took a text also has it in an equal state
took_same : (a b c : Option (List ℕ)) (x : List ℕ) → c ≡ b → Appends a b x → Appends a c x
took_same a b c x e h = subst (λ t. Appends a t x) (sym e) h

module _ {A : Type 0} (p : Progress) (text : List ℕ) (lr : LineResult) (k : ℕ) (old : Left) (new : State)
    (session : Session) (went : List Batch → Type 0)
    (same : result_at p text ≡ lr) (held : Holds old p.output p.messages p.state p.batches) (reached : new ≡ lr.state)
    (gone : went (p.batches ++ lr.batches))
    (next : next_cids_of session.driver ≡ lr.next_cids)
    (number : session.number ≡ p.number + 1) (status : session.status ≡ unwrap_or lr.status p.status)
    (all : lr.state ≡ state_amid p.state p.next_cids (said_at p text) k)
    (each : lr.batches ≡ batches_amid p.state (said_at p text) k)
    (asks : said_at p text ≢ Ok line.Skipped) where
  -- a line whose message was reported leaves what the result of the report says
  message_leaves : (r : Result A RunEnd) (messages : Option (List ℕ)) (failed : Bool) → lr.output ≡ []
      → ReportLeaves r lr.message old.messages messages failed
      → LineLeaves r p text (left_at old.out_before old.out old.messages_before messages new went) session
  message_leaves (Ok done) messages failed none (inl h) =
      grind (arith, common_steps, took_none, Appends-join, Appends-at)
  message_leaves (Err end) messages failed none (inl h) = grind (arith, common_steps, Appends-join)
  message_leaves r messages failed none (inr h) = grind (arith, common_steps, took_same)

  -- a line whose output was printed leaves what the result of the print says
  output_leaves : (r : Result A RunEnd) (t : List ℕ) (out : Option (List ℕ)) (failed : Bool)
      → lr.message ≡ [] → t ≡ lr.output → PrintLeaves r OutWrite t old.out out failed
      → LineLeaves r p text (left_at old.out_before out old.messages_before old.messages new went) session
  output_leaves (Ok done) t out failed none is h = grind (arith, common_steps, Appends-join, Appends-at, took_none)
  output_leaves (Err end) t out failed none is h = grind (arith, common_steps, Appends-join)

-- ---- the meaning of the line

-- the meaning of a line, or its fault
abbrev Said : Type 0
Said = Result Line LineFault

-- a fault that may be lack of memory or the line's is the line's, if it isn't lack of memory
fault_said : (f : LineFault) (said : Said) → (f ≡ fault.Memory → ⊥)
    → (f ≡ fault.Memory) ⊎ (◌≡◌ {A = Said} said (Err f)) → ◌≡◌ {A = Said} said (Err f)
fault_said f said other (inl memory) = absurd (other memory)
fault_said f said other (inr is) = is

-- a line that is skipped is found so before memory is used
skipped_first : (text : List ℕ) (controllers : ℕ) (b : Result (Option Verb) LineFault)
    → ◌≡◌ {A = Said} (b >>= reading_from text controllers) (Ok line.Skipped) → NeedsNoMemory b
skipped_first text controllers (Ok None) e = tt
skipped_first text controllers (Err f) e = tt
skipped_first text controllers (Ok (Some verb)) e =
    asked (request_of controllers verb (without_nvme (words_of text))) e
  where
    asked : (r : Result Request LineFault) → ◌≡◌ {A = Said} (r >>= (λ q. Ok (line.Request q))) (Ok line.Skipped) → ⊥
    asked (Ok q) e = cc
    asked (Err f) e = cc

-- none of a line's batches are no batches
amid-zero : (s : State) (said : Said) → batches_amid s said 0 ≡ []
amid-zero s (Ok line.Skipped) = refl
amid-zero s (Ok (line.Request r)) = refl
amid-zero s (Err f) = refl

-- ---- each exit of a line, if the run stood at p before it

module _ (p : Progress) (text : List ℕ) (old : Left) (before : Session) (stands : Stands p old before)
    (controllers : ℕ) (many : controllers ≡ length old.state.controllers) where
  -- p, with what the run has there
  abbrev at : Progress
  at = record p {
    status = before.status;
    state = old.state;
    next_cids = next_cids_of before.driver;
    number = before.number;
  }

  is_at : at ≡ p
  is_at = λ i. record p {
    status = stands.status i;
    state = stands.holds.reached i;
    next_cids = stands.next i;
    number = stands.number i;
  }

  held : Holds old at.output at.messages at.state at.batches
  held = subst (λ s. Holds old p.output p.messages s p.batches) (sym stands.holds.reached) stands.holds

  -- the meaning of the line there
  here : (said : Said) → reading text controllers ≡ said → said_at at text ≡ said
  here said e = ap (reading text) (sym many) ∙ e

  -- before the line's batches, the state is the one there
  state-zero : old.state ≡ state_amid at.state at.next_cids (said_at at text) 0
  state-zero =
      ap (λ bs. (outcome_of old.state at.next_cids (orders_in_all bs)).state)
      (sym (amid-zero old.state (said_at at text)))

  -- if memory was refused for the line's commands, the line was cut short before its first batch
  pub line_unread : (f : LineFault)
      → (NeedsNoMemory (begun text) → ◌≡◌ {A = Said} (Err f) (reading text controllers)) → IsMemoryBeginning p text old
  line_unread f plain =
      subst (λ q. IsMemoryBeginning q text old) is_at (
        0,
        record {
          took_output = held.took_output;
          took_messages = held.took_messages;
          reached = state-zero;
          went = subst (λ bs. old.went (p.batches ++ bs)) (sym (amid-zero old.state (said_at at text)))
              (subst old.went (sym (append-nil p.batches)) held.went);
        },
        λ skipped.
            let same = ap (reading text) many ∙ skipped in
            let both : ◌≡◌ {A = Said} (Err f) (Ok line.Skipped) =
            plain (skipped_first text controllers (begun text) same) ∙ same in
            cc,
      )

  module _ {A : Type 0} (result : Result A RunEnd) (session : Session) (number : session.number ≡ before.number + 1)
      (failed : Bool) where
    -- the message of a fault was reported, and nothing was done
    pub fault_reported : (f : LineFault) (messages : Option (List ℕ)) → (f ≡ fault.Memory → ⊥)
        → (f ≡ fault.Memory) ⊎ (◌≡◌ {A = Said} (reading text controllers) (Err f))
        → session.driver ≡ before.driver → session.status ≡ 1
        → ReportLeaves result (message_at (before.number + 1) (cause.Line f)) old.messages messages failed
        → LineLeaves result p text (left_at old.out_before old.out old.messages_before messages old.state old.went)
        session
    fault_reported f messages other said same status report =
        let now = here (Err f) (fault_said f _ other said) in
        let left = left_at old.out_before old.out old.messages_before messages old.state old.went in
        subst (λ q. LineLeaves result q text left session) is_at
        (message_leaves at text (line_result old.state at.next_cids (before.number + 1) (Err f)) 0 old old.state session
        old.went (ap (line_result old.state at.next_cids (before.number + 1)) now) held refl
        (subst old.went (sym (append-nil p.batches)) held.went) (ap next_cids_of same) number status state-zero
        (sym (amid-zero old.state (said_at at text))) (λ skipped. cc (now, skipped)) result messages failed refl report)

  module _ (r : Request) (said : reading text controllers ≡ Ok (line.Request r)) (new : State)
      (then went : List Batch → Type 0) (more : (bs : List Batch) → then bs → went (p.batches ++ bs)) where
    -- the batches and the outcome of the request
    abbrev batches : List Batch
    batches = batches_of old.state r.query

    abbrev come : Outcome
    come = outcome_of old.state at.next_cids (orders_of old.state r.query)

    -- the line has this request
    asked : said_at at text ≡ Ok (line.Request r)
    asked = here (Ok (line.Request r)) said

    -- so it isn't skipped
    not_skipped : said_at at text ≢ Ok line.Skipped
    not_skipped skipped = cc (asked, skipped)

    -- the result of the line is that of the request
    result_here : (refusal : Option Status) → come.refusal ≡ refusal
        → result_at at text ≡ answer_result refusal (before.number + 1) old.state r come
    result_here refusal e = ap (line_result old.state at.next_cids (before.number + 1)) asked
        ∙ ap (λ x. answer_result x (before.number + 1) old.state r come) e

    -- its first k batches are those of the request
    some : (k : ℕ) → take k batches ≡ batches_amid at.state (said_at at text) k
    some k = ap (λ x. batches_amid at.state x k) (sym asked)

    -- all of them are those of the request
    every : batches ≡ batches_amid at.state (said_at at text) (length batches)
    every = sym (take_all (length batches) batches (omega arith)) ∙ some (length batches)

    -- the state after its first k batches
    state_after : (k : ℕ) (bs : List Batch) → bs ≡ batches_amid at.state (said_at at text) k
        → (outcome_of old.state at.next_cids (orders_in_all bs)).state
        ≡ state_amid at.state at.next_cids (said_at at text) k
    state_after k bs e = ap (λ bs. (outcome_of old.state at.next_cids (orders_in_all bs)).state) e

    -- memory was refused after the first k batches
    pub memory_refused : (k : ℕ) (next : List ℕ)
        → (let bs = take k batches in IsReached (outcome_of old.state at.next_cids (orders_in_all bs)) bs new next then)
        → IsMemoryBeginning p text (left_at old.out_before old.out old.messages_before old.messages new went)
    memory_refused k next h =
        let left = left_at old.out_before old.out old.messages_before old.messages new went in
        subst (λ q. IsMemoryBeginning q text left) is_at (
          k,
          record {
            took_output = held.took_output;
            took_messages = held.took_messages;
            reached = h.subsystem ∙ state_after k (take k batches) (some k);
            went = subst (λ bs. went (p.batches ++ bs)) (some k) (more (take k batches) h.gone);
          },
          not_skipped,
        )

    module _ {A : Type 0} (result : Result A RunEnd) (session : Session) (failed : Bool)
        (h : IsReached come batches new (next_cids_of session.driver) then)
        (number : session.number ≡ before.number + 1) where
      -- the output of the request was printed
      pub output_printed : (t : List ℕ) (out : Option (List ℕ)) → come.refusal ≡ None
          → t ≡ output_for old.state r come.replies → session.status ≡ 0
          → PrintLeaves result OutWrite t old.out out failed
          → LineLeaves result p text (left_at old.out_before out old.messages_before old.messages new went) session
      output_printed t out none is status print =
          let left = left_at old.out_before out old.messages_before old.messages new went in
          subst (λ q. LineLeaves result q text left session) is_at
          (output_leaves at text (answer_result None (before.number + 1) old.state r come) (length batches) old new
          session went (result_here None none) held h.subsystem (more batches h.gone) h.next number status
          (state_after (length batches) batches every) every not_skipped result t out failed refl is print)

      -- the message of a refusal was reported
      pub refusal_reported : (status : Status) (messages : Option (List ℕ)) → come.refusal ≡ Some status
          → batches_with (length come.replies + 1) batches ≡ batches → session.status ≡ 2
          → ReportLeaves result (message_at (before.number + 1) (cause.Refused status)) old.messages messages failed
          → LineLeaves result p text (left_at old.out_before old.out old.messages_before messages new went) session
      refusal_reported status messages refused last is report =
          let left = left_at old.out_before old.out old.messages_before messages new went in
          subst (λ q. LineLeaves result q text left session) is_at
          (message_leaves at text (answer_result (Some status) (before.number + 1) old.state r come) (length batches)
          old new session went (result_here (Some status) refused) held h.subsystem
          (subst (λ bs. went (p.batches ++ bs)) (sym last) (more batches h.gone)) h.next number is
          (state_after (length batches) batches every) (last ∙ every) not_skipped result messages failed refl report)
