use Rattle.std.proofs.Common.{◌∙◌, ◌==◌, ap, sym, not, rules, tests, true, option_map}
use Rattle.std.specs.Option.{option_map_or}
use Rattle.std.proofs.lemmas.Iterator.{YieldsList-from_slice}
use Rattle.std.proofs.lemmas.Iterator.Search.{find_from_yields_List}
use Rattle.nv_line.specs.Word.{is_blank}
use Rattle.nv_line.proofs.line.is_skipped_line.Goals as goal

pub returns-in-Some : goal.returns-in-Some
returns-in-Some c =
    let e = find_from_yields_List (λ b. not (is_blank b)) _ _ c.find.result c.find.ensures.ran
    (YieldsList-from_slice c.args.line.now cc) (λ x b q k. search (rules, tests)) in
    ap (λ o. option_map_or (λ b. b == 35) o true) (ap (option_map (λ x. x.now)) (sym c.in-Some.is) ∙ e)

pub returns-in-None : goal.returns-in-None
returns-in-None c =
    let e = find_from_yields_List (λ b. not (is_blank b)) _ _ c.find.result c.find.ensures.ran
    (YieldsList-from_slice c.args.line.now cc) (λ x b q k. search (rules, tests)) in
    ap (λ o. option_map_or (λ b. b == 35) o true) (ap (option_map (λ x. x.now)) (sym c.in-None.is) ∙ e)
