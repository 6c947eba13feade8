use Rattle.nv_driver.proofs.Words.{[], ℕ, ◌∙◌, ◌∷◌, Geometry, HasEntryPages, IsReadIn, List, Pages, QueuePairFields}
use Rattle.nv_driver.proofs.Words.{SendsAll, World, after_some, all_pages, ap, arith, command_result_of, entry_step}
use Rattle.nv_driver.proofs.Words.{get_or, length, limit_of, place_in, refl, request_for, rules, run_of, subst, sym}
use Rattle.nv_driver.proofs.PointerLaws.{no_pages}
use Rattle.nv_driver.proofs.AdminLaws.{HasPair, after_first, cid_is, driver_after, goes_over, left_at, linked_after}
use Rattle.nv_driver.proofs.AdminLaws.{ready_by, shape_at, value_after}
use Rattle.nv_driver.proofs.ExchangeLaws.{CanPass, command_result_is, few_pages, its_buffer, left_with, of_entry}
use Rattle.nv_driver.proofs.ExchangeLaws.{own_ready, pages_back, read_by, received_by}
use Rattle.nv_driver.proofs.PassthroughLaws.{can_pass, ends_before, more_is, room_stays}
use Rattle.nv_driver.proofs.driver.Driver.passthrough.Given.{Over}
use Rattle.nv_driver.proofs.driver.Driver.passthrough.Goals.{After-deref_mut-host}
use Rattle.nv_driver.proofs.driver.Driver.passthrough.Goals as goal

-- the driver and the controller's queue pair
its_pair : (g : Over) (c : After-deref_mut-host g) → HasPair c.self.inside.geometry c.deref_mut-host.result.now.mem
    c.self.inside.pairs.items c.self.inside.more_pages c.args.self.now c.args.ctrl c.index_mut-pair.result.now
its_pair g c = record {
  is = rw c.deref_mut-host.ensures.value c.self.invariant;
  value = rw c.deref_mut-host.ensures.value c.self.view_is;
  ctrl = c.requires.ctrl;
  here = c.index_mut-pair.ensures.value;
}

-- the controller is ready, and there are pages for the entry
passes : (g : Over) (c : After-deref_mut-host g) → CanPass c.index_mut-pair.result.now.geometry
    (g.B.Bus.meaning c.args.bus.now) c.args.ctrl c.index_mut-pair.result.now c.deref_mut-host.result.now.mem.page_size
    c.deref_mut-host.result.now.mem.bytes c.args.entry.now c.swap.new.x
passes g c = can_pass (its_pair g c) c.swap.ensures.x_after c.requires.room c.requires.linked c.requires.fits

pub exchange_all-requires : goal.exchange_all-requires
exchange_all-requires g c κs within =
    let can = passes g (goal.at.exchange_all-requires g c).After-deref_mut-host in
    let given = c.args.bytes.now in
    let own = own_ready given can in
    (search rules, (search rules, (refl, (own, (of_entry given can _ refl tt, λ some. absurd (omega arith))))))

pub place-place-requires : goal.place-place-requires
place-place-requires g c =
    let can = passes g (goal.at.place-place-requires g c).After-deref_mut-host in
    let few = few_pages c.args.bytes.now can (c.exchange_all.ensures.received (omega arith))
    no_pages in record { few = few.0; list = few.1 }

pub receive-requires-clause-buffer : goal.receive-requires-clause-buffer
receive-requires-clause-buffer g c =
    let past = (goal.at.receive-requires-clause-buffer g c).After-deref_mut-host in
    let pair = its_pair g past in
    let can = passes g past in
    let pages = all_pages (get_or c.exchange_all.new.host.taken 0 no_pages) in
    let its = c.place-place.ensures.place ∙ ap (λ (p : Geometry). place_in p pages) (sym (shape_at pair)) in
    its_buffer c.args.bytes.now can (c.exchange_all.ensures.received (omega arith)) no_pages its
    c.exchange_all.ensures.left.ready.page_size c.transfer_for-transfer.ensures.value

pub invariant_of-self : goal.invariant_of-self
invariant_of-self g c =
    let past = (goal.at.invariant_of-self g c).After-deref_mut-host in
    let pair = its_pair g past in
    let can = passes g past in
    let e = c.exchange_all.ensures in
    let left = left_with c.args.bytes.now can e.left e.others in
    let back = c.swap-2.ensures.y_after ∙ pages_back c.args.bytes.now can e.left ∙ c.swap.ensures.x_after in
    rw (c.swap-2.ensures.x_after ∙ c.swap.ensures.y_after, back)
    (driver_after pair (left_at pair left) (ends_before pair c.swap.ensures.x_after))

pub returns : goal.returns
returns g c =
    let past = (goal.at.returns g c).After-deref_mut-host in
    let pair = its_pair g past in
    let given = c.args.bytes.now in
    let can = passes g past in
    let b = g.B.Bus.meaning c.args.bus.now in
    let step = entry_step b.state c.args.ctrl c.args.entry.now given in
    let cid = sym (cid_is pair) in
    let e = c.exchange_all.ensures in
    let heard = e.received (omega arith) in
    let pages = all_pages (get_or c.exchange_all.new.host.taken 0 no_pages) in
    let its = c.place-place.ensures.place ∙ ap (λ (p : Geometry). place_in p pages) (sym (shape_at pair)) in
    let left = left_at pair (left_with given can e.left e.others) in
    let back = c.swap-2.ensures.x_after ∙ c.swap.ensures.y_after in
    let driver = value_after pair left (after_some 1) refl ∙ after_first c.args.self.now c.args.ctrl in
    let goes = λ (s : Pages) (q : Geometry) (l : QueuePairFields) (bytes : List ℕ) (last : World).
    SendsAll g.B.Bus.was_written g.B.Ringing.was_rung g.B.Bus.was_turned (run_of q c.args.ctrl b
    (record l { pages = s }) bytes (request_for (limit_of b.state c.args.ctrl) c.args.entry.now given ∷ []))
    c.args.bus.now c.exchange_all.new.bus last
    × IsReadIn q.page_size last c.exchange_all.new.host.last.status c.receive.new.out in
    let read = read_by given can heard no_pages its e.left.ready.page_size c.transfer_for-transfer.ensures.value e.paced
    (length c.args.out.now) c.receive.ensures in
    record {
      answer = command_result_is given can heard ∙ ap (λ n. command_result_of (step n).answer) cid;
      out = rw (← cid) (received_by given can heard no_pages its e.left.ready.page_size
          c.transfer_for-transfer.ensures.value (length c.args.out.now) c.receive.ensures);
      room = search rules;
      state = e.state ∙ ap (λ n. (step n).state) cid;
      driver = rw back driver;
      entries = rw back (subst HasEntryPages (sym driver)
          (room_stays c.args.self.now c.args.ctrl _ c.requires.room));
      linked = rw back (linked_after pair left c.requires.linked);
      steps = rw (← c.swap.ensures.x_after ∙ more_is pair)
          (goes_over pair (goes c.swap.new.x) (ready_by pair c.requires.linked).quiet (e.paced.steps, read));
    }
