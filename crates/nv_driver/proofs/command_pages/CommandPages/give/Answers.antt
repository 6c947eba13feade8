use Rattle.nv_driver.proofs.Words.{◌∙◌, ◌≡◌, IsOf, Pages, all_pages, ap, arith, get_or, length, refl, subst, sym, take}
use Rattle.nv_driver.proofs.Words.{take-length, take_more, with_pages}
use Rattle.nv_driver.proofs.PageSetLaws.{giving_more, not_given}
use Rattle.nv_driver.proofs.command_pages.CommandPages.give.Goals as goal

pub loop-at-init : goal.loop-at-init
loop-at-init c = refl

pub give-requires-clause-of_these : goal.give-requires-clause-of_these
give-requires-clause-of_these c =
    let own = c.requires.own c.loop-at.at 0 c.loop-at-test.true in
    subst (λ (x : Pages). IsOf x.first x.count (get_or (all_pages c.args.self.now) c.loop-at.at 0))
    (sym c.loop-at.invariant) own

pub give-requires-clause-outside : goal.give-requires-clause-outside
give-requires-clause-outside c =
    not_given c.args.free.now c.loop-at.free (all_pages c.args.self.now) c.loop-at.at
    c.loop-at.invariant c.loop-at-test.true
    c.requires.none c.requires.distinct

pub loop-at-preserved : goal.loop-at-preserved
loop-at-preserved c =
    let pages = all_pages c.args.self.now in
    giving_more c.args.free.now c.loop-at.free c.give.new.self (take c.loop-at.at pages)
    (get_or pages c.loop-at.at 0) c.loop-at.invariant
    c.give.ensures
    ∙ ap (with_pages c.args.free.now) (sym (take_more pages c.loop-at.at 0 c.loop-at-test.true))

pub returns : goal.returns
returns c =
    let pages = all_pages c.args.self.now in
    let all : c.loop-at.at ≡ length pages = omega (arith, c.loop-at-test.false, c.loop-at.auto.at-end) in
    c.loop-at.invariant ∙ ap (λ n. with_pages c.args.free.now (take n pages)) all
    ∙ ap (with_pages c.args.free.now) (take-length pages)
