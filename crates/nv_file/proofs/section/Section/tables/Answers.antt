use Rattle.std.proofs.Common.{◌≡◌, ◌∙◌, ◌&&◌, Some, ap, arith, false, inr, length, nat_le, sym, rules, true}
use Rattle.nv_file.proofs.Words.{common_steps, get_member, key_text, SubsystemError, table_view, tables_view, view}
use Rattle.nv_file.proofs.KeyLaws.{tables_there}
use Rattle.nv_file.proofs.section.Section.tables.Goals as goal

pub returns-then-is_count-clause-exact : goal.returns-then-is_count-clause-exact
returns-then-is_count-clause-exact c =
    let there : get_member (key_text c.args.key) (table_view c.args.self.now.table.now)
    ≡ Some (view c.in_ok-value.value.now) = search rules in
    let many : length (tables_view c.in_ok-tables.tables.items) ≡ c.len.result = grind (arith, common_steps) in
    tables_there c.args.self.now.name c.args.key c.args.most _ _ _ _ true there c.in_ok-tables.ensures.0
    c.in_ok-tables.ensures.1.0
    (ap (λ n. nat_le 1 n && nat_le n c.args.most) many ∙ sym c.is_count.ensures ∙ c.if-is_count.true)

pub returns-clause-exact : goal.returns-clause-exact
returns-clause-exact c =
    let there : get_member (key_text c.args.key) (table_view c.args.self.now.table.now)
    ≡ Some (view c.in_ok-value.value.now) = search rules in
    let many : length (tables_view c.in_ok-tables.tables.items) ≡ c.len.result = grind (arith, common_steps) in
    let law = tables_there c.args.self.now.name c.args.key c.args.most _ _ _ _ false there
    c.in_ok-tables.ensures.0 c.in_ok-tables.ensures.1.0
    (ap (λ n. nat_le 1 n && nat_le n c.args.most) many ∙ sym c.is_count.ensures ∙ c.if-is_count.false) in
    inr (law.0 ∙ ap (λ (e : SubsystemError). Some e) (sym c.out_of_range.ensures))
