use Rattle.std.proofs.Common.{arith, not, rules, tests, Bor, List, ℕ}
use Rattle.std.proofs.lemmas.Iterator.Consumers.{YieldsList-from_filter, map_from_collect}
use Rattle.clap.specs.Walk.{is_empty}
use Rattle.nv_line.specs.Word.{is_blank}
use Rattle.nv_line.proofs.Pieces.{pieces}
use Rattle.nv_line.proofs.line.split_words.Goals as goal

pub returns : goal.returns
returns g c =
    map_from_collect {v = λ (x : Bor (List ℕ)). x.now} c.collect.result c.collect.ensures.ran
    (YieldsList-from_filter _ (λ w. not (is_empty w))
    (pieces is_blank (λ b high. grind (arith)) c.args.text.now (cc) (cc) (cc) (λ b r q k. search (rules, tests)))
    c.filter.ensures.closure (λ x b q k. search (rules, tests)))
