use Rattle.std.proofs.Common.{◌≡◌, ◌∙◌, Err, Some, None, ap, inr, refl, arith, rules}
use Rattle.nv_file.proofs.Words.{as_tables, common_steps, Kind, SubsystemError, tables_view, view}
use Rattle.nv_file.proofs.CheckLaws.{faults}
use Rattle.nv_file.proofs.KeyLaws.{is_of_kind, is_not_of_kind}
use Rattle.nv_file.proofs.section.Section.tables_in.Goals as goal

pub loop-item-preserved : goal.loop-item-preserved
loop-item-preserved c = grind (arith, common_steps)

pub returns-in_err-ok_or-2 : goal.returns-in_err-ok_or-2
returns-in_err-ok_or-2 c =
    let is : c.from_residual-in_err-ok_or-2.result ≡ Err c.in_err-ok_or-2.field-0.0 = search rules in
    let fault : Kind c.args.self.now.name c.args.key ≡ c.in_err-ok_or-2.field-0.0 = grind (arith, common_steps) in
    let none : as_tables (view c.args.value.now) ≡ None = grind (arith, common_steps) in
    rw is (inr (is_not_of_kind _ _ none ∙ ap (λ (e : SubsystemError). Some e) fault))

pub returns : goal.returns
returns c =
    let found : as_tables (view c.args.value.now) ≡ Some (tables_view c.loop-item.tables.items) =
    grind (arith, common_steps) in
    (is_of_kind _ _ _ found, (rw found refl, search (rules, faults)))
