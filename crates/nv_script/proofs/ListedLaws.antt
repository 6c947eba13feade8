-- What `list` leaves behind, by its state.
use Rattle.nv_script.proofs.Words.{ℕ, ◌++◌, ◌+◌, ◌<◌, ◌∙◌, ◌≡◌, ◌≤◌, AreListed, Batch, Err, IsAlike, IsReached}
use Rattle.nv_script.proofs.Words.{IsWellFormed, List, ListLeaves, Listing, NoText, NoTextLeaves, Ok, Outcome}
use Rattle.nv_script.proofs.Words.{QueryLeaves, Some, Standing, State, alike-join, ap, append_assoc, asked, asked_all}
use Rattle.nv_script.proofs.Words.{batches_of_controller, batches_of_list, flat_map-append, length, listing_of}
use Rattle.nv_script.proofs.Words.{no_listing, orders_in, orders_in_all, orders_of, outcome_of, refl, subst, sym, take}
use Rattle.nv_script.proofs.Words.{take-append_seam}
use Rattle.nv_script.proofs.ListLaws.{first_standing, leaves_after, listed_all, listing_asked, stopped_within}
use Rattle.nv_script.proofs.ListOrderLaws.{batches_from, controller_lookups, list_lookups, lookups-front}
use Rattle.nv_script.proofs.ListOrderLaws.{next_controller, no_controller_left}
use Rattle.nv_script.proofs.LookupLaws.{AreLookups, all_accepted, asked_all_alike, none_refused}
use Rattle.nv_script.proofs.OutcomeLaws.{accepted_with}
use Rattle.nv_script.proofs.QueryLaws.{left_shown}
use Rattle.nv_line.specs.declared.request.Query.TheVariants as query
use Rattle.nv_print.specs.declared.shown.Shown.TheVariants as shown
use Rattle.nv_script.specs.declared.performing.NoText.TheVariants as stop

-- the first i of n controllers were asked: what was listed, and which batches are left
pub record AreAsked (s : State) (next_cids : List ℕ) (i n : ℕ) (now : State) (next : List ℕ) (listing : Listing)
    (went : List Batch → Type 0) : Type 0 where
  pub alike : IsAlike s now
  pub done : List Batch
  pub split : batches_of_list s ≡ done ++ batches_from s i n
  pub listed : AreListed (first_standing s next_cids) done now next listing went

module _ (s : State) (next_cids : List ℕ) (ok : IsWellFormed s) where
  -- the standing before the first order of `list`
  abbrev first : Standing
  first = first_standing s next_cids

  -- after all controllers were asked, what was listed is shown
  pub all_listed : {i n : ℕ} {now : State} {next : List ℕ} {listing : Listing} {went : List Batch → Type 0} → n ≤ i
      → AreAsked s next_cids i n now next listing went
      → QueryLeaves (Ok (Some (shown.Devices listing.devices))) query.List s next_cids now next went
  all_listed {i} {n} {now} {next} {listing} {went} over asked =
      let all = all_accepted first (orders_of s query.List) (list_lookups s ok) in
      let h = listed_all first asked.done (batches_of_list s)
      (no_controller_left s i n (batches_of_list s) asked.done over asked.split) asked.listed in
      left_shown s now next_cids next query.List went h.gone (Some (shown.Devices listing.devices)) all.replies
      (all.outcome ∙ (λ i. accepted_with all.replies (sym h.listed.subsystem i) (sym h.listed.next i)))
      (ap (λ (l : Listing). Some (shown.Devices l.devices))
      (h.listed.listed ∙ listing_asked first (orders_of s query.List)
      ∙ ap (listing_of no_listing (orders_of s query.List)) all.answers))

  -- a stop of `list` is right, because no command is refused
  list_stopped : (A : Type 0) (e : NoText) (now : State) (next : List ℕ) (listing : Listing)
      (went : List Batch → Type 0) → ListLeaves {A = A} (Err e) first (batches_of_list s) now next listing went
      → NoTextLeaves e query.List s next_cids now next went
  list_stopped A (stop.Refused status) now next listing went h =
      absurd (none_refused first (orders_of s query.List) status (list_lookups s ok) h)
  list_stopped A stop.Memory now next listing went h =
      let split = ap orders_in_all h.split ∙ flat_map-append orders_in h.done h.later in
      let all =
      all_accepted first (orders_in_all h.done)
      (lookups-front s.nn (orders_in_all h.done) (orders_in_all h.later)
      (subst (AreLookups s.nn) split (list_lookups s ok))) in
      let taken = ap (take (length h.done)) h.split ∙ take-append_seam h.done h.later in (
        length h.done,
        subst (λ bs. IsReached (outcome_of s next_cids (orders_in_all bs)) bs now next went) (sym taken) (record {
          subsystem = h.subsystem ∙ sym (ap (λ (x : Outcome). x.state) all.outcome);
          next = h.next ∙ sym (ap (λ (x : Outcome). x.next_cids) all.outcome);
          gone = h.gone;
        }),
      )
  list_stopped A stop.NoReady now next listing went h = absurd h

  module _ {i n : ℕ} {now : State} {middle : List ℕ} {listing : Listing} {went : List Batch → Type 0}
      (asked : AreAsked s next_cids i n now middle listing went) (below : i < n) (last : State) (next : List ℕ)
      (more : Listing) (then gone : List Batch → Type 0)
      (goes_on : (bs : List Batch) → then bs → gone (asked.done ++ bs)) where
    -- the standing after the first controllers
    abbrev there : Standing
    there = asked_all first (orders_in_all asked.done)

    -- it is alike
    alike : IsAlike s there.state
    alike = subst (IsAlike s) asked.listed.listed.subsystem asked.alike

    -- the batches of the next controller come next
    next_batches : batches_of_list s
        ≡ asked.done ++ (batches_of_controller there.state i ++ batches_from s (i + 1) n)
    next_batches = next_controller s there.state i n (batches_of_list s) asked.done alike below asked.split

    -- a stop at the next controller is one of `list`
    pub stopped_at : (A : Type 0) (e : NoText)
        → ListLeaves {A = A} (Err e) there (batches_of_controller there.state i) last next more then
        → NoTextLeaves e query.List s next_cids last next gone
    stopped_at A e h =
        list_stopped A e last next more gone
        (stopped_within first asked.done (batches_of_list s) then gone goes_on A e
        (batches_of_controller there.state i) (batches_from s (i + 1) n) last next more next_batches h)

    -- when the next controller was asked, one more was
    pub asked_one_more : IsWellFormed now
        → AreListed there (batches_of_controller there.state i) last next more then
        → AreAsked s next_cids (i + 1) n last next more gone
    asked_one_more formed h =
        let these = batches_of_controller there.state i in
        let there_formed : IsWellFormed there.state = subst IsWellFormed asked.listed.listed.subsystem formed in
        record {
          alike = alike-join s there.state last alike (subst (IsAlike there.state) (sym h.listed.subsystem)
              (asked_all_alike there (orders_in_all these) (controller_lookups there.state i there_formed)));
          done = asked.done ++ these;
          split = next_batches ∙ sym (append_assoc asked.done these (batches_from s (i + 1) n));
          listed = leaves_after first asked.done (asked.done ++ these) then gone goes_on (Ok (tt {0})) these last next
              more refl h;
        }
