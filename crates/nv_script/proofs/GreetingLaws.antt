-- The first two commands of `list` to a controller: for its data, and for the NSIDs that are attached to it.
use Rattle.nv_script.proofs.Words.{[], ℕ, ◌++◌, ◌<◌, ◌∙◌, ◌∷◌, ◌≡◌, ActiveList, Answer, Batch, Command, Contains}
use Rattle.nv_script.proofs.Words.{Contains-append_left, DriverValue, Err, Exchange, GoesAll, Going, IdentifyController}
use Rattle.nv_script.proofs.Words.{IsHandedOn, IsListed, List, ListLeaves, Listing, NoText, Ok, Reply, Result, Send}
use Rattle.nv_script.proofs.Words.{Standing, State, above, active_nsids, alone, answers_to, ap, arith, asked}
use Rattle.nv_script.proofs.Words.{batches_of_controller, common_steps, controller, exchange_of, exchange_with, length}
use Rattle.nv_script.proofs.Words.{listing_after, namespace_batches, next_cids_of, nsids_listed, order_of}
use Rattle.nv_script.proofs.Words.{orders_in_all, refl, subst, sym}
use Rattle.nv_script.proofs.GoingLaws.{goes-append}
use Rattle.nv_script.proofs.LinkLaws.{Sent, is_exchange, still_known, went_alone}
use Rattle.nv_script.proofs.ListLaws.{leaves_after}
use Rattle.nv_script.proofs.LookupLaws.{asked_alike, sends}
use Rattle.nv_command.specs.declared.reply.Reply.TheVariants as reply
use Rattle.nv_script.specs.declared.performing.NoText.TheVariants as stop

-- one command
module _ {B : Type 0} {goes : Going B} {c : ℕ} {k : Command} {answer : Answer} {s new : State} {d after : DriverValue}
    {old at : B} (h : Sent goes c k answer s new d after old at) (w : Standing) (listing : Listing)
    (is : IsListed w s (next_cids_of d) listing) (below : c < length d.pairs) where
  -- what the driver did with the command is the exchange of the order
  sent_there : exchange_with answer new (next_cids_of after) ≡ exchange_of w.state w.next_cids (order_of c k)
  sent_there = is_exchange h below ∙ (λ i. exchange_of (is.subsystem i) (is.next i) (order_of c k))

  -- after the answer was listed, the standing is the one after the order
  listing_there : (now : Listing) → now ≡ listing_after c listing (Send k) answer
      → IsListed (asked w (order_of c k)) new (next_cids_of after) now
  listing_there now t = grind (arith, common_steps, sent_there)

  -- if the command was refused, or memory was, a stop is right for the command and later batches
  pub stopped_there : (A : Type 0) (e : NoText) (later : List Batch) (now : Listing) → IsHandedOn e (answer ∷ [])
      → ListLeaves {A = A} (Err e) w (alone c k ∷ later) new (next_cids_of after) now (GoesAll goes d old after at)
  stopped_there A (stop.Refused status) later now refused =
      Contains-append_left ((exchange_of w.state w.next_cids (order_of c k)).answer ∷ [])
      (answers_to (asked w (order_of c k)) (orders_in_all later)) (Err status)
      (subst (λ x. Contains (x ∷ []) (Err status)) (ap (λ (x : Exchange). x.answer) sent_there) refused)
  stopped_there A stop.Memory later now refused = record {
    done = alone c k ∷ [];
    later = later;
    split = refl;
    subsystem = ap (λ (x : Exchange). x.state) sent_there;
    next = ap (λ (x : Exchange). x.next_cids) sent_there;
    gone = went_alone h;
  }
  stopped_there A stop.NoReady later now refused = absurd refused

-- both commands
module _ {B : Type 0} {goes : Going B} {c : ℕ} {first then : Answer} {s mid last : State}
    {d second after : DriverValue} {old at end : B}
    (one : Sent goes c IdentifyController first s mid d second old at)
    (two : Sent goes c (ActiveList 0) then mid last second after at end)
    (w : Standing) (listing kept : Listing) (is : IsListed w s (next_cids_of d) listing) (below : c < length d.pairs)
    (t : kept ≡ listing_after c listing (Send IdentifyController) first) where
  -- the standing after the first command
  abbrev after_one : Standing
  after_one = asked w (order_of c IdentifyController)

  -- it has the state, the command identifiers and the listing that the command leaves
  is_one : IsListed after_one mid (next_cids_of second) kept
  is_one = listing_there one w listing is below kept t

  -- the two batches
  abbrev greeting : List Batch
  greeting = alone c IdentifyController ∷ alone c (ActiveList 0) ∷ []

  -- the batches of a controller are these two and then those for the NSIDs in the second answer
  greeted_batches : (r : Reply) (ns : List ℕ) → Ok r ≡ then → ns ≡ nsids_listed r
      → batches_of_controller w.state c ≡ greeting ++ namespace_batches c ns
  greeted_batches r ns e n =
      let said : ◌≡◌ {A = Answer} (Ok r) (Ok (reply.List (above 0 (active_nsids mid c)))) = e ∙ two.answered in
      let same : r ≡ reply.List (above 0 (active_nsids mid c)) = cc in
      let active : active_nsids mid c ≡ active_nsids w.state c =
      ap (λ (x : State). active_nsids x c) is_one.subsystem
      ∙ (asked_alike w (order_of c IdentifyController) (sends controller)).active c
      in
      ap (λ xs. greeting ++ namespace_batches c xs) (sym (n ∙ ap nsids_listed same ∙ ap (above 0) active))

  -- what is left for these NSIDs after both commands is left for the controller
  pub greeted_leaves : {A : Type 0} (r : Result A NoText) (reply : Reply) (ns : List ℕ) (new : State)
      (driver : DriverValue) (now : Listing) (bus : B) → Ok reply ≡ then → ns ≡ nsids_listed reply
      → ((v : Standing) → IsListed v last (next_cids_of after) kept
      → ListLeaves r v (namespace_batches c ns) new (next_cids_of driver) now (GoesAll goes after end driver bus))
      → ListLeaves r w (batches_of_controller w.state c) new (next_cids_of driver) now (GoesAll goes d old driver bus)
  greeted_leaves r reply ns new driver now bus e n h =
      let gone = goes-append goes (alone c IdentifyController ∷ []) (alone c (ActiveList 0) ∷ []) d second after old at
      end (went_alone one) (went_alone two) in
      leaves_after w greeting (batches_of_controller w.state c) (GoesAll goes after end driver bus)
      (GoesAll goes d old driver bus) (λ bs. goes-append goes greeting bs d after driver old end bus gone) r
      (namespace_batches c ns) new (next_cids_of driver) now (greeted_batches reply ns e n)
      (h (asked after_one (order_of c (ActiveList 0)))
      (listing_there two after_one kept is_one (still_known one below) kept refl))
