use Rattle.nv_driver.proofs.Words.{◌∙◌, IsQuiet, List, RegisterBank, ap, arith, length, length-set, subst, sym}
use Rattle.nv_driver.proofs.MemoryLaws.{laid_in, pair_count, pair_is, settled_at_first, tags_more}
use Rattle.nv_driver.proofs.RegisterLaws.{above_set, all_enabled, below_set}
use Rattle.nv_driver.proofs.BringingUpLaws.{one_more}
use Rattle.nv_driver.proofs.ResetLaws.{states_all, states_more}
use Rattle.nv_driver.proofs.enabling.enable_all.Goals as goal

pub bounds-pairs-ctrl : goal.bounds-pairs-ctrl
bounds-pairs-ctrl g c = omega (arith, pair_count c.args.geometry _ c.args.pairs.now c.requires.pairs)

pub enable-requires-clause-quiet : goal.enable-requires-clause-quiet
enable-requires-clause-quiet g c =
    let many = pair_count c.args.geometry _ c.args.pairs.now c.requires.pairs in
    subst IsQuiet (sym c.index-pairs-ctrl.is) (c.requires.quiet c.loop-ctrl.ctrl
    c.index-pairs-ctrl.result (omega arith))

pub enable-requires-clause-laid : goal.enable-requires-clause-laid
enable-requires-clause-laid g c =
    let many = pair_count c.args.geometry _ c.args.pairs.now c.requires.pairs in
    rw (pair_is c.args.geometry _ c.loop-ctrl.ctrl c.args.pairs.now _ c.requires.pairs (omega arith)
    (omega arith) c.index-pairs-ctrl.is) (laid_in c.args.geometry _ c.loop-ctrl.ctrl _ c.loop-ctrl.invariant.laid
    (omega arith))

pub loop-ctrl-preserved : goal.loop-ctrl-preserved
loop-ctrl-preserved g c =
    let i = c.loop-ctrl.invariant in
    let e = c.in_ok-enable.ensures in
    let ctrl = c.loop-ctrl.ctrl in
    let many = pair_count c.args.geometry _ c.args.pairs.now c.requires.pairs in
    let is = pair_is c.args.geometry _ ctrl c.args.pairs.now _ c.requires.pairs (omega arith) (omega arith)
    c.index-pairs-ctrl.is in
    record {
      bus = λ lawful. e.bus lawful (i.bus lawful);
      state = λ lawful.
          let many = i.len lawful in
          states_more _ _ (g.B.AnyBus.meaning c.args.bus.now).state _ _ ctrl (omega arith) (omega arith)
          (i.above lawful ctrl (omega arith)) (i.state lawful) (e.state lawful);
      len = λ lawful. ap (λ (ps : List RegisterBank). length ps) (e.banks lawful) ∙ length-set _ _ _ ∙ i.len lawful;
      below = λ lawful.
          let many = i.len lawful in below_set _ _ ctrl _ (omega arith) (e.banks lawful) (i.below lawful);
      above = λ lawful. above_set _ _ _ ctrl _ (e.banks lawful) (i.above lawful);
      tags = tags_more c.args.geometry _ ctrl _ _ i.laid (omega arith) is e.others e.tags i.tags;
      laid = rw (e.len) (i.laid);
      size = e.len ∙ i.size;
      steps = one_more g.B.AnyBus.was_written g.B.AnyBus.was_read g.B.Zeroing.was_zeroed c.args.geometry ctrl
          _ _ _ _ _ _ i.steps e.steps;
      page = e.page ∙ i.page;
    }

pub returns-clause-banks : goal.returns-clause-banks
returns-clause-banks g c lawful =
    all_enabled _ (length (g.B.AnyBus.meaning c.args.bus.now).banks) c.args.geometry
    (c.loop-ctrl.invariant.len lawful) (λ k h. c.loop-ctrl.invariant.below lawful k (omega arith))

pub returns-clause-settled : goal.returns-clause-settled
returns-clause-settled g c =
    let i = c.loop-ctrl.invariant in settled_at_first c.args.geometry _ _ i.laid (λ k h. i.tags k (omega arith))

pub returns-clause-state : goal.returns-clause-state
returns-clause-state g c lawful =
    states_all _ (g.B.AnyBus.meaning c.args.bus.now).state _ c.loop-ctrl.ctrl (omega arith)
    (c.loop-ctrl.invariant.state lawful)

pub enable-requires-clause-pair : goal.enable-requires-clause-pair
enable-requires-clause-pair g c =
    let many = pair_count c.args.geometry _ c.args.pairs.now c.requires.pairs in
    pair_is c.args.geometry _ c.loop-ctrl.ctrl c.args.pairs.now _ c.requires.pairs (omega arith) (omega arith)
    c.index-pairs-ctrl.is
