use Rattle.std.proofs.Common.{rules, tests}
use Rattle.nv_subsystem.proofs.Words.{all_from_yields_List, is_known, YieldsList-from_slice}
use Rattle.nv_subsystem.proofs.subsystem.Subsystem.is_list_of.Goals as goal

pub returns-then-is_ascending : goal.returns-then-is_ascending
returns-then-is_ascending c =
    let known = all_from_yields_List (is_known c.args.self.now) _ _ c.all.result c.all.ensures.ran
    (YieldsList-from_slice c.args.ids.now cc) (λ x b q k. search (rules, tests)) in
    rw (← c.if-is_empty.ensures, ← c.if-is_ascending.ensures) known
