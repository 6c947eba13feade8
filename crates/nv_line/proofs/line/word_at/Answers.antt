use Rattle.std.proofs.Common.{arith, not, rules, tests, Bor, List, ℕ}
use Rattle.std.proofs.lemmas.Iterator.Consumers.{YieldsList-from_filter, nth_from_yields_List}
use Rattle.clap.specs.Walk.{is_empty}
use Rattle.nv_line.specs.Word.{is_blank}
use Rattle.nv_line.proofs.Pieces.{pieces}
use Rattle.nv_line.proofs.line.word_at.Goals as goal

pub returns : goal.returns
returns c =
    nth_from_yields_List {v = λ (x : Bor (List ℕ)). x.now} c.nth.result _ c.args.index c.nth.ensures.ran
    (YieldsList-from_filter _ (λ w. not (is_empty w))
    (pieces is_blank (λ b high. grind (arith)) c.args.text.now (cc) (cc) (cc) (λ b r q k. search (rules, tests)))
    c.filter.ensures.closure (λ x b q k. search (rules, tests)))
