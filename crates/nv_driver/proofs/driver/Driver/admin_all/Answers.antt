use Rattle.nv_driver.proofs.Words.{◌<◌, ◌∙◌, ◌≤◌, ActiveList, All, Command, IsRequest, List, Request, SendsAll}
use Rattle.nv_driver.proofs.Words.{after_some, answers_of, ap, arith, get_or, get_or-map, length, length-map, length_of}
use Rattle.nv_driver.proofs.Words.{limit_bounds, limit_of, map, min, most_bytes, mul-le-mul_right, pages_of_command}
use Rattle.nv_driver.proofs.Words.{refl, request_of, rules, run_of, state_after, subst, sym, transfer_by}
use Rattle.nv_driver.proofs.DataLaws.{most, shape as shape_of}
use Rattle.nv_driver.proofs.EndLaws.{answers_all}
use Rattle.nv_driver.proofs.RequestLaws.{is_request}
use Rattle.nv_driver.proofs.AdminLaws.{HasPair, cid_is, driver_after, ends_inside, goes_over, left_at, linked_after}
use Rattle.nv_driver.proofs.AdminLaws.{ready_by, room_by, value_after}
use Rattle.nv_driver.proofs.driver.Driver.admin_all.Given.{Over}
use Rattle.nv_driver.proofs.driver.Driver.admin_all.Goals.{After-deref_mut}
use Rattle.nv_driver.proofs.driver.Driver.admin_all.Goals as goal

-- what holds for the request of each command holds for each request
each_of : (ks : List Command) (P : Request → Type 0) → All (λ k. P (request_of k)) ks → All P (map request_of ks)
each_of ks P each i d h =
    let below : i < length ks = omega (arith, h, length-map ks request_of) in
    subst P (sym (get_or-map request_of ks i (ActiveList 0) d below)) (each i (ActiveList 0) below)

-- the driver and the controller's queue pair
its_pair : (g : Over) (c : After-deref_mut g) → HasPair c.self.inside.geometry c.deref_mut.result.now.mem
    c.self.inside.pairs.items c.self.inside.more_pages c.args.self.now c.args.ctrl c.index_mut-pair.result.now
its_pair g c = record {
  is = rw c.deref_mut.ensures.value c.self.invariant;
  value = rw c.deref_mut.ensures.value c.self.view_is;
  ctrl = c.requires.ctrl;
  here = c.index_mut-pair.ensures.value;
}

pub exchange_all-requires : goal.exchange_all-requires
exchange_all-requires g c κs within =
    let pair = its_pair g (goal.at.exchange_all-requires g c).After-deref_mut in
    let ready = ready_by pair c.requires.linked in
    let s = (g.B.Bus.meaning c.args.bus.now).state in
    let enough = (limit_bounds s c.args.ctrl ready.bus.state (omega (arith, ready.controller, ready.bus.banks))).0 in
    let shape = c.index_mut-pair.result.now.geometry in
    let ks = c.args.commands.now in (
      search rules,
      (
        search rules,
        (
          refl,
          (
            ready,
            (
              record {
                requests = refl;
                can = each_of ks (λ q. IsRequest (limit_of s c.args.ctrl) q) (λ i d h. is_request
                    (limit_of s c.args.ctrl) (get_or ks i d) enough (c.requires.fits i d h) (c.requires.sends i d h));
                sends = c.requires.sends;
                most = most_bytes;
                brief = each_of ks (λ q. length_of q.transfer ≤ most_bytes)
                    (λ i d h. most (transfer_by (get_or ks i d)) (shape_of (get_or ks i d) (c.requires.sends i d h)));
                room =
                    let few : min shape.window (length (map request_of ks)) ≤ shape.window = omega arith in
                    omega (arith, mul-le-mul_right (pages_of_command shape.page_size) few, room_by pair);
              },
              record { len = c.requires.len ∙ sym (length-map ks request_of); first = refl },
            ),
          ),
        ),
      ),
    )

pub invariant_of-self : goal.invariant_of-self
invariant_of-self g c =
    let pair = its_pair g (goal.at.invariant_of-self g c).After-deref_mut in
    driver_after pair (left_at pair c.exchange_all.ensures.left) (ends_inside pair)

pub returns : goal.returns
returns g c =
    let pair = its_pair g (goal.at.returns g c).After-deref_mut in
    let e = c.exchange_all.ensures in
    let b = g.B.Bus.meaning c.args.bus.now in
    let ks = c.args.commands.now in
    let cid = sym (cid_is pair) in
    record {
      answers = answers_all e.received ∙ ap (λ n. answers_of c.args.ctrl b.state n ks) cid;
      state = e.state ∙ ap (λ n. state_after c.args.ctrl b.state n ks) cid;
      driver = value_after pair (left_at pair (rw (length-map ks request_of) at e.left)) (after_some (length ks)) refl;
      linked = linked_after pair (left_at pair e.left) c.requires.linked;
      steps = goes_over pair (λ q l bytes. SendsAll g.B.Bus.was_written g.B.Ringing.was_rung g.B.Bus.was_turned
          (run_of q c.args.ctrl b l bytes (map request_of ks)) c.args.bus.now c.exchange_all.new.bus)
          (ready_by pair c.requires.linked).quiet e.paced.steps;
    }
