-- The effect of a new driver and of its commands on command identifiers.
use Rattle.nv_script.proofs.Words.{[], ℕ, ◌<◌, ◌∙◌, ◌∷◌, ◌≡◌, Answer, BusValue, Command, DriverValue, GoesAll, Going}
use Rattle.nv_script.proofs.Words.{IsLinked, QueuePair, Session, State, after_command, after_first, alone}
use Rattle.nv_script.proofs.Words.{answer_received, ap, arith, cids_after, common_steps, exchange_of, exchange_with}
use Rattle.nv_script.proofs.Words.{first_cids, length, length-map, length-replicate, new_driver, next_cid_is}
use Rattle.nv_script.proofs.Words.{next_cids_of, order_of, pair_at, pair_count, refl, replicate, same_pairs, step}
use Rattle.nv_script.proofs.Words.{subst, sym}
use Rattle.nv_driver.specs.declared.geometry.Geometry.{Geometry}
use Rattle.nv_script.specs.inner.Link.{IsFirst}

-- a session with a new driver, line number 0 and status 0 is a first one
pub first_session : (g : Geometry) (old new : BusValue) (d : DriverValue) (session : Session) → IsLinked new d
    → d ≡ new_driver g (length old.banks)
    → session.driver ≡ d → session.number ≡ 0 → session.status ≡ 0 → IsFirst new.state session
first_session g old new d session linked is driver number status =
    let first : next_cids_of d ≡ replicate (length old.banks) 0 =
    ap next_cids_of is ∙ first_cids g (length old.banks) in
    let many : length old.banks ≡ length new.state.controllers =
    sym (length-replicate (length old.banks) 0) ∙ sym (ap length first)
    ∙ length-map d.pairs (λ (l : QueuePair). l.next_cid) ∙ pair_count new d linked in
    record {
      next = ap next_cids_of driver ∙ first ∙ ap (λ n. replicate n 0) many;
      number = number;
      status = status;
    }

-- a driver sent a command to controller c and received this answer: the subsystem, the driver and the bus before and
-- after it
pub record Sent {B : Type 0} (goes : Going B) (c : ℕ) (k : Command) (answer : Answer) (s new : State)
    (d after : DriverValue) (old at : B) : Type 0 where
  pub answered : answer ≡ answer_received k (step s c k (pair_at d.pairs c).next_cid).answer
  pub state : new ≡ (step s c k (pair_at d.pairs c).next_cid).state
  pub driver : after ≡ after_command d c
  pub steps : goes d (alone c k) old at

module _ {B : Type 0} {goes : Going B} {c : ℕ} {k : Command} {answer : Answer} {s new : State} {d after : DriverValue}
    {old at : B} (h : Sent goes c k answer s new d after old at) where
  -- it is the exchange of its order
  pub is_exchange : c < length d.pairs
      → exchange_with answer new (next_cids_of after) ≡ exchange_of s (next_cids_of d) (order_of c k)
  is_exchange below = grind (arith, common_steps, next_cid_is, cids_after)

  -- it went alone
  pub went_alone : GoesAll goes d old after at (alone c k ∷ [])
  went_alone = (at, h.steps, (h.driver ∙ sym (after_first d c), refl))

  -- it doesn't change the number of queue pairs
  pub still_known : c < length d.pairs → c < length after.pairs
  still_known below = subst (λ n. c < n) (sym (same_pairs d after c h.driver)) below
