-- How the parts of `list` form the whole.
use Rattle.nv_script.proofs.Words.{[], ℕ, ◌++◌, ◌+◌, ◌<◌, ◌∙◌, ◌∷◌, ◌≡◌, Answer, AreBegun, AreListed, Batch, Command}
use Rattle.nv_script.proofs.Words.{Contains, Contains-append_left, Contains-append_right, Err, IsListed, List}
use Rattle.nv_script.proofs.Words.{ListLeaves, Listing, NoText, Ok, Order, Result, Send, Standing, State, answers_to}
use Rattle.nv_script.proofs.Words.{ap, append-nil, append_assoc, arith, asked, asked_all, at_drop_more, common_steps}
use Rattle.nv_script.proofs.Words.{drop, exchange_of, flat_map-append, fold-append, get_or, length, listing_after}
use Rattle.nv_script.proofs.Words.{listing_of, map, no_listing, order_of, orders_in, orders_in_all, refl, subst, sym}
use Rattle.nv_script.specs.declared.performing.NoText.TheVariants as stop

-- before the first command
abbrev pub first_standing : State → List ℕ → Standing
first_standing s next_cids = record { state = s; next_cids = next_cids; listing = no_listing }

-- the answers to some orders and to more are the answers to the first and then to the others after them
answers-append : (w : Standing) (orders more : List Order)
    → answers_to w (orders ++ more) ≡ answers_to w orders ++ answers_to (asked_all w orders) more
answers-append w [] more = refl
answers-append w (o ∷ os) more =
    ap (λ xs. (exchange_of w.state w.next_cids o).answer ∷ xs) (answers-append (asked w o) os more)

-- the listing after several orders is the listing with the answers to them
pub listing_asked : (w : Standing) (orders : List Order)
    → (asked_all w orders).listing ≡ listing_of w.listing orders (answers_to w orders)
listing_asked w [] = refl
listing_asked w (o ∷ os) = listing_asked (asked w o) os

-- listing the rest of some answers lists the first of them and then the others
pub listing_more : (c : ℕ) (l : Listing) (ks : List Command) (xs : List Answer) (i : ℕ) (dk : Command) (da : Answer)
    → i < length ks → i < length xs
    → listing_of l (map (order_of c) (drop i ks)) (drop i xs)
    ≡ listing_of (listing_after c l (Send (get_or ks i dk)) (get_or xs i da)) (map (order_of c) (drop (i + 1) ks))
    (drop (i + 1) xs)
listing_more c l ks xs i dk da some answered = grind (arith, common_steps, at_drop_more)

module _ (w : Standing) (done all : List Batch) where
  -- the standing after the first batches
  abbrev there : Standing
  there = asked_all w (orders_in_all done)

  -- the standing after these and further batches
  asked-append : (batches : List Batch)
      → asked_all w (orders_in_all (done ++ batches)) ≡ asked_all there (orders_in_all batches)
  asked-append batches =
      ap (asked_all w) (flat_map-append orders_in done batches)
      ∙ fold-append asked w (orders_in_all done) (orders_in_all batches)

  -- an answer among those to some of the batches is among the answers to all
  answered_within : (batches rest : List Batch) (a : Answer) → all ≡ done ++ (batches ++ rest)
      → Contains (answers_to there (orders_in_all batches)) a → Contains (answers_to w (orders_in_all all)) a
  answered_within batches rest a is h =
      let first = orders_in_all done in
      let these = orders_in_all batches in
      let later = orders_in_all rest in
      let split : orders_in_all all ≡ first ++ (these ++ later) =
      ap orders_in_all is ∙ flat_map-append orders_in done (batches ++ rest)
      ∙ ap (λ os. first ++ os) (flat_map-append orders_in batches rest) in
      subst (λ xs. Contains xs a)
      (sym (ap (answers_to w) split ∙ answers-append w first (these ++ later)
      ∙ ap (λ xs. answers_to w first ++ xs) (answers-append there these later)))
      (Contains-append_right (answers_to w first) (answers_to there these ++ answers_to (asked_all there these) later) a
      (Contains-append_left (answers_to there these) (answers_to (asked_all there these) later) a h))

  -- if all batches are done, what was listed is what all batches list
  pub listed_all : {s : State} {next_cids : List ℕ} {listing : Listing} {went : List Batch → Type 0} → all ≡ done
      → AreListed w done s next_cids listing went → AreListed w all s next_cids listing went
  listed_all {s} {next_cids} {listing} {went} is h =
      subst (λ bs. AreListed w bs s next_cids listing went) (sym is) h

  -- if the standing after further batches is reached, so is the standing after all batches
  listed_after : (batches : List Batch) (s : State) (next_cids : List ℕ) (listing : Listing)
      → all ≡ done ++ batches
      → IsListed (asked_all there (orders_in_all batches)) s next_cids listing
      → IsListed (asked_all w (orders_in_all all)) s next_cids listing
  listed_after batches s next_cids listing is h =
      subst (λ x. IsListed x s next_cids listing)
      (sym (ap (λ bs. asked_all w (orders_in_all bs)) is ∙ asked-append batches)) h

  -- what is said of the further batches, and of all of them
  module _ (then went : List Batch → Type 0)
      (more : (batches : List Batch) → then batches → went (done ++ batches)) where
    -- a state after some of the next batches is a state after some of all batches
    begun_within : (batches rest : List Batch) (s : State) (next_cids : List ℕ) → all ≡ done ++ (batches ++ rest)
        → AreBegun there batches s next_cids then → AreBegun w all s next_cids went
    begun_within batches rest s next_cids is h = record {
      done = done ++ h.done;
      later = h.later ++ rest;
      split = is ∙ ap (λ x. done ++ (x ++ rest)) h.split ∙ ap (λ x. done ++ x) (append_assoc h.done h.later rest)
          ∙ sym (append_assoc done h.done (h.later ++ rest));
      subsystem = h.subsystem ∙ ap (λ (x : Standing). x.state) (sym (asked-append h.done));
      next = h.next ∙ ap (λ (x : Standing). x.next_cids) (sym (asked-append h.done));
      gone = more h.done h.gone;
    }

    -- if a stop is right for some batches after those that were carried out, it is right for all batches
    pub stopped_within : (A : Type 0) (e : NoText) (batches rest : List Batch) (s : State) (next_cids : List ℕ)
        (listing : Listing) → all ≡ done ++ (batches ++ rest)
        → ListLeaves {A = A} (Err e) there batches s next_cids listing then
        → ListLeaves {A = A} (Err e) w all s next_cids listing went
    stopped_within A (stop.Refused status) batches rest s next_cids listing is h =
        answered_within batches rest (Err status) is h
    stopped_within A stop.Memory batches rest s next_cids listing is h = begun_within batches rest s next_cids is h
    stopped_within A stop.NoReady batches rest s next_cids listing is h = absurd h

    -- if a result is right for the further batches, it is right for all batches
    pub leaves_after : {A : Type 0} (r : Result A NoText) (batches : List Batch) (s : State) (next_cids : List ℕ)
        (listing : Listing) → all ≡ done ++ batches
        → ListLeaves r there batches s next_cids listing then → ListLeaves r w all s next_cids listing went
    leaves_after (Ok x) batches s next_cids listing is h =
        record {
          listed = listed_after batches s next_cids listing is h.listed;
          gone = subst went (sym is) (more batches h.gone);
        }
    leaves_after {A = A} (Err e) batches s next_cids listing is h =
        stopped_within A e batches [] s next_cids listing
        (is ∙ ap (λ x. done ++ x) (sym (append-nil batches))) h
