use Rattle.std.proofs.Common.{◌∙◌, add-one, ap, arith, subst, sym}
use Rattle.std.proofs.lemmas.Bool.Decides.{nat_tests}
use Rattle.nv_controller.specs.Tags.{next_scene, scenes_after, untagged_scene}
use Rattle.nv_controller.proofs.Words.{AreShown, Exchange, exchange_in, exchanges, Scene, scene, untagged}
use Rattle.nv_controller.proofs.TurnLaws.{shown_more, taken_more}
use Rattle.nv_controller.proofs.machine.take_entries.Goals as goal

pub loop-count-preserved : goal.loop-count-preserved
loop-count-preserved g c =
    let inv = c.loop-count.invariant.goes in
    let bytes = g.M.PagedMemory.bytes c.loop-count.mem in
    let first = g.M.PagedMemory.bytes c.args.mem.now in
    let start = scene c.args.subsystem.now c.args.rings.now first in
    let own = c.args.given.ctrl in
    let was_shown = g.O.Observer.was_shown in
    let one = subst (λ (e : Exchange). was_shown c.loop-count.observer own e c.show.new.self)
    (c.take_one-exchange.ensures.exchange
    ∙ ap (λ (x : Scene). exchange_in own (untagged_scene x)) c.loop-count.invariant.tagged) c.show.ensures in
    record {
      goes = record {
        taken = taken_more c.loop-count.count (g.M.PagedMemory.page_len c.args.mem.now) c.args.given.ctrl
            (scene (untagged c.args.subsystem.now) c.args.rings.now first)
            (scene (untagged c.loop-count.subsystem) c.loop-count.rings bytes)
            (scene (untagged c.take_one-exchange.new.subsystem) c.take_one-exchange.new.rings
            (g.M.PagedMemory.bytes c.take_one-exchange.new.mem))
            inv.taken
            (record {
              can = grind (arith, nat_tests);
              reached = grind (arith, nat_tests);
              one = c.take_one-exchange.ensures.one;
            });
        well_formed = c.take_one-exchange.ensures.well_formed;
        controllers = c.take_one-exchange.ensures.controllers ∙ inv.controllers;
        len = c.take_one-exchange.ensures.len ∙ inv.len;
        page = c.take_one-exchange.ensures.page ∙ inv.page;
      };
      tagged = c.take_one-exchange.ensures.tagged
          ∙ ap (next_scene own) c.loop-count.invariant.tagged
          ∙ ap (λ n. scenes_after n own start) (sym (add-one c.loop-count.count));
      shown = subst (λ n. AreShown was_shown own (exchanges n own start) c.args.observer.now c.show.new.self)
          (sym (add-one c.loop-count.count))
          (shown_more was_shown own (exchanges c.loop-count.count own start) _ c.args.observer.now
          c.loop-count.observer c.show.new.self c.loop-count.invariant.shown one);
    }
