use Rattle.nv_driver.proofs.Words.{HasEntryPages, refl, renewed_pair, rules, subst, sym}
use Rattle.nv_driver.proofs.AdminLaws.{HasPair, driver_after, ends_inside, linked_after, placed_at, ready_at}
use Rattle.nv_driver.proofs.AdminLaws.{value_after}
use Rattle.nv_driver.proofs.PassthroughLaws.{room_stays}
use Rattle.nv_driver.proofs.driver.Driver.reset.Given.{Over}
use Rattle.nv_driver.proofs.driver.Driver.reset.Goals.{After-deref_mut}
use Rattle.nv_driver.proofs.driver.Driver.reset.Goals as goal

-- the driver and the controller's queue pair
its_pair : (g : Over) (c : After-deref_mut g) → HasPair c.self.inside.geometry c.deref_mut.result.now.mem
    c.self.inside.pairs.items c.self.inside.more_pages c.args.self.now c.args.ctrl c.index_mut-pair.result.now
its_pair g c = record {
  is = rw c.deref_mut.ensures.value c.self.invariant;
  value = rw c.deref_mut.ensures.value c.self.view_is;
  ctrl = c.requires.ctrl;
  here = c.index_mut-pair.ensures.value;
}

pub reset-requires-clause-ready : goal.reset-requires-clause-ready
reset-requires-clause-ready g c =
    ready_at (its_pair g (goal.at.reset-requires-clause-ready g c).After-deref_mut) c.requires.linked

pub reset-requires-clause-placed : goal.reset-requires-clause-placed
reset-requires-clause-placed g c =
    placed_at (its_pair g (goal.at.reset-requires-clause-placed g c).After-deref_mut)

pub invariant_of-self : goal.invariant_of-self
invariant_of-self g c =
    let pair = its_pair g (goal.at.invariant_of-self g c).After-deref_mut in
    driver_after pair (c.reset.ensures.left tt) (ends_inside pair)

pub returns : goal.returns
returns g c =
    let pair = its_pair g (goal.at.returns g c).After-deref_mut in
    let left = c.reset.ensures.left tt in
    let driver = value_after pair left renewed_pair refl in
    record {
      ok = search rules;
      state = search rules;
      driver = driver;
      entries = λ room. subst HasEntryPages (sym driver) (room_stays c.args.self.now c.args.ctrl _ room);
      linked = linked_after pair left c.requires.linked;
      steps = search rules;
    }
