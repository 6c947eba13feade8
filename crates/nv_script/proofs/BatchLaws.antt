-- A batch of commands that ask a controller for namespaces, and one command at a time.
use Rattle.nv_script.proofs.Words.{[], ℕ, ◌%◌, ◌++◌, ◌+◌, ◌<◌, ◌∙◌, ◌∷◌, ◌≡◌, Answer, Command, Commands, Contains}
use Rattle.nv_script.proofs.Words.{DriverValue, Err, GoesAll, Going, IdentifyController, IdentifyNamespace, IfErr}
use Rattle.nv_script.proofs.Words.{IsHandedOn, IsListed, List, ListLeaves, Listing, NoText, Ok, OnOk, QueuePair, Result}
use Rattle.nv_script.proofs.Words.{Standing, State, after, after_commands, answer_received, answers_to, ap, append-nil}
use Rattle.nv_script.proofs.Words.{arith, asked, asked_all, asking_for, cid_after, common_steps, ext_get_or, get_or}
use Rattle.nv_script.proofs.Words.{get_or-map, get_or-set_same, get_or-take, length, length-map, length-set}
use Rattle.nv_script.proofs.Words.{length-take-le, listing_of, map, map-set, next_cids_of, no_pair, order_of}
use Rattle.nv_script.proofs.Words.{orders_in_all, pair_at, refl, set, set-set, step, subst, suc, sym, take}
use Rattle.nv_script.proofs.Words.{take-append_seam}
use Rattle.std.proofs.Math.Nat.{mod-add-mod}
use Rattle.nv_driver.specs.Batch.{answers_of, state_after}
use Rattle.nv_model.specs.Ranges.{cid_count}
use Rattle.nv_script.proofs.GroupLaws.{batch_orders, namespace_orders}
use Rattle.nv_script.proofs.ListLaws.{listing_asked}
use Rattle.nv_script.specs.declared.performing.NoText.TheVariants as stop

-- ---- the commands

-- commands that ask for each NSID by its index are the commands for these NSIDs
pub commands_are : (ks : List Command) (ns : List ℕ) → length ns < length ks + 1
    → ((k : ℕ) (d : Command) → k < length ns → get_or ks k d ≡ IdentifyNamespace (get_or ns k 0))
    → take (length ns) ks ≡ map IdentifyNamespace ns
commands_are ks ns few h =
    let same : length (take (length ns) ks) ≡ length (map {A = ℕ} {B = Command} IdentifyNamespace ns) =
    length-take-le (length ns) ks (omega arith) ∙ sym (length-map ns IdentifyNamespace) in
    ext_get_or IdentifyController (take (length ns) ks) (map IdentifyNamespace ns) same
    (λ i below.
    let b : i < length ns = omega (arith, length-take-le (length ns) ks (omega arith)) in
    get_or-take (length ns) ks i IdentifyController b ∙ h i IdentifyController b
    ∙ sym (get_or-map IdentifyNamespace ns i 0 IdentifyController b))

-- ---- their answers, one at a time

module _ (c : ℕ) where
  -- the standing after the command for one more namespace
  abbrev next : Standing → ℕ → Standing
  next w n = asked w (order_of c (IdentifyNamespace n))

  -- the standing after the commands for several namespaces
  abbrev all_after : Standing → List ℕ → Standing
  all_after w ns = asked_all w (namespace_orders c ns)

  -- the command identifier that is due at controller c
  abbrev due : Standing → ℕ
  due w = get_or w.next_cids c 0

  -- after a command for a namespace, the next command identifier is due
  next_due : (w : Standing) (n : ℕ) → c < length w.next_cids → due (next w n) ≡ cid_after (due w)
  next_due w n h = get_or-set_same w.next_cids c (cid_after (due w)) 0 h

  -- a command for a namespace doesn't change how many controllers there are
  still : (w : Standing) (n : ℕ) → c < length w.next_cids → c < length (next w n).next_cids
  still w n h = omega (arith, length-set w.next_cids c (cid_after (due w)))

  -- the commands for several namespaces leave the same state as one command after another
  states : (w : Standing) (ns : List ℕ) → c < length w.next_cids
      → (all_after w ns).state ≡ state_after c w.state (due w) (map IdentifyNamespace ns)
  states w [] h = refl
  states w (n ∷ ns) h =
      states (next w n) ns (still w n h)
      ∙ ap (λ x. state_after c (next w n).state x (map IdentifyNamespace ns)) (next_due w n h)

  -- the commands for several namespaces get the same answers as one command after another
  answers : (w : Standing) (ns : List ℕ) → c < length w.next_cids
      → answers_to w (namespace_orders c ns) ≡ answers_of c w.state (due w) (map IdentifyNamespace ns)
  answers w [] h = refl
  answers w (n ∷ ns) h =
      ap (λ xs. answer_received (IdentifyNamespace n) (step w.state c (IdentifyNamespace n) (due w)).answer ∷ xs)
      (answers (next w n) ns (still w n h)
      ∙ ap (λ x. answers_of c (next w n).state x (map IdentifyNamespace ns)) (next_due w n h))

  -- the commands for several namespaces use up as many command identifiers of controller c, and none of another one
  next_cids : (w : Standing) (n : ℕ) (ns : List ℕ) → c < length w.next_cids
      → (all_after w (n ∷ ns)).next_cids ≡ set w.next_cids c ((due w + length (n ∷ ns)) % cid_count)
  next_cids w n [] h = refl
  next_cids w n (m ∷ ns) h =
      let sum : due w + 1 + length (m ∷ ns) ≡ due w + length (n ∷ m ∷ ns) = omega arith in
      next_cids (next w n) m ns (still w n h)
      ∙ set-set w.next_cids c (cid_after (due w)) ((due (next w n) + length (m ∷ ns)) % cid_count)
      ∙ ap (λ x. set w.next_cids c ((x + length (m ∷ ns)) % cid_count)) (next_due w n h)
      ∙ ap (set w.next_cids c) (mod-add-mod (due w + 1) cid_count (length (m ∷ ns)) ∙ ap (λ x. x % cid_count) sum)

-- ---- the driver's batch

-- the command identifier that is due at a queue pair
abbrev pair_cid : QueuePair → ℕ
pair_cid l = l.next_cid

-- there are as many answers as commands
length_answers : (c : ℕ) (s : State) (next_cid : ℕ) (ks : List Command)
    → length (answers_of c s next_cid ks) ≡ length ks
length_answers c s next_cid [] = refl
length_answers c s next_cid (k ∷ ks) = ap suc (length_answers c (step s c k next_cid).state (cid_after next_cid) ks)

module _ (w : Standing) (c : ℕ) (s : State) (d : DriverValue) (listing : Listing)
    (is : IsListed w s (next_cids_of d) listing) (below : c < length d.pairs)
    (ns : List ℕ) (ks : List Command) (are : ks ≡ map IdentifyNamespace ns) where
  -- the command identifier that is due at controller c's queue pair
  abbrev now_due : ℕ
  now_due = (pair_at d.pairs c).next_cid

  -- the queue pair and the standing agree on the command identifier that is due
  is_due : now_due ≡ due c w
  is_due = sym (get_or-map pair_cid d.pairs c no_pair 0 below) ∙ ap (λ xs. get_or xs c 0) is.next

  -- controller c is one of the subsystem
  known : c < length w.next_cids
  known = omega (arith, ap length is.next, length-map d.pairs pair_cid)

  -- there are as many commands as NSIDs
  many : length ks ≡ length ns
  many = ap length are ∙ length-map ns IdentifyNamespace

  -- the state that a batch leaves is the one after the commands for its namespaces
  batch_state : (now : State) → now ≡ state_after c s now_due ks → now ≡ (all_after c w ns).state
  batch_state now e = grind (arith, common_steps, is_due, states, known)

  -- the command identifiers after a batch with at least one NSID are those after its commands
  some_cids : (ns : List ℕ) → 0 < length ns
      → set w.next_cids c ((due c w + length ns) % cid_count) ≡ (all_after c w ns).next_cids
  some_cids [] h = absurd (omega arith)
  some_cids (n ∷ ns) h = sym (next_cids c w n ns known)

  -- a batch leaves the command identifiers that the commands for its namespaces leave
  batch_cids : (after : DriverValue) → 0 < length ns → after ≡ after_commands d c (length ks)
      → next_cids_of after ≡ (all_after c w ns).next_cids
  batch_cids after some e = grind (arith, common_steps, map-set, next_cids, is_due, many, some_cids)

  -- the first answers, one for each NSID, are the answers to the commands for the namespaces
  batch_answers : (given rest : List Answer) → given ≡ answers_of c s now_due ks
      → take (length ns) (given ++ rest) ≡ answers_to w (namespace_orders c ns)
  batch_answers given rest a =
      grind (arith, common_steps, length_answers, many, take-append_seam, is_due, answers, known)

  -- what a batch leaves, if the driver sent it and received these answers
  module _ {B : Type 0} (goes : Going B) (old at : B) {now : State} {after : DriverValue} (given rest : List Answer)
      (some : 0 < length ns) (state : now ≡ state_after c s now_due ks)
      (driver : after ≡ after_commands d c (length ks)) (a : given ≡ answers_of c s now_due ks)
      (steps : goes d (Commands c ks) old at) where
    -- it went
    gone : GoesAll goes d old after at (asking_for c ns ∷ [])
    gone = subst (λ xs. GoesAll goes d old after at (Commands c xs ∷ [])) are (at, steps, (driver, refl))

    -- its orders were carried out
    state_there : now ≡ (asked_all w (orders_in_all (asking_for c ns ∷ []))).state
    state_there = batch_state now state ∙ ap (λ os. (asked_all w os).state) (sym (batch_orders c ns))

    cids_there : next_cids_of after ≡ (asked_all w (orders_in_all (asking_for c ns ∷ []))).next_cids
    cids_there = batch_cids after some driver ∙ ap (λ os. (asked_all w os).next_cids) (sym (batch_orders c ns))

    -- the first answers are those to its orders
    answers_there : take (length ns) (given ++ rest) ≡ answers_to w (orders_in_all (asking_for c ns ∷ []))
    answers_there = batch_answers given rest a ∙ ap (answers_to w) (sym (batch_orders c ns))

    -- keeping the answers leaves the standing after the batch, or a right stop
    pub batch_leaves : {A : Type 0} (r : Result A NoText) (kept : Listing)
        → OnOk r (kept ≡ listing_of listing (map (order_of c) ks) (take (length ns) (given ++ rest)))
        → IfErr r (λ stop. IsHandedOn stop (take (length ns) (given ++ rest)))
        → ListLeaves r w (asking_for c ns ∷ []) now (next_cids_of after) kept (GoesAll goes d old after at)
    batch_leaves (Ok x) kept e refused = record {
      listed = record {
        subsystem = state_there;
        next = cids_there;
        listed = e ∙ ap (λ l. listing_of l (map (order_of c) ks) (take (length ns) (given ++ rest))) is.listed
            ∙ (λ i. listing_of w.listing ((ap (map (order_of c)) are
            ∙ sym (append-nil (map (order_of c) (map IdentifyNamespace ns)))) i) (answers_there i))
            ∙ sym (listing_asked w (orders_in_all (asking_for c ns ∷ [])));
      };
      gone = gone;
    }
    batch_leaves (Err (stop.Refused status)) kept e refused =
        subst (λ xs. Contains xs (Err status)) answers_there refused
    batch_leaves (Err stop.Memory) kept e refused = record {
      done = asking_for c ns ∷ [];
      later = [];
      split = refl;
      subsystem = state_there;
      next = cids_there;
      gone = gone;
    }
    batch_leaves (Err stop.NoReady) kept e refused = absurd refused
