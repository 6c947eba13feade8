use Rattle.nv_driver.proofs.Words.{◌<◌, ◌∙◌, ◌≡◌, AreLowest, arith, length, length-set, length-take, refl, rules, subst}
use Rattle.nv_driver.proofs.Words.{sym, take, take_more_set}
use Rattle.nv_driver.proofs.PageSetLaws.{Taking, has_one, lowest_next, lowest_none, some_taken, taking_next}
use Rattle.nv_driver.proofs.PageSetLaws.{taking_none}
use Rattle.nv_driver.proofs.command_pages.CommandPages.take.Goals as goal

pub loop-at-init : goal.loop-at-init
loop-at-init c = record {
  taking = taking_none c.args.free.now;
  lowest = lowest_none c.args.free.now;
  seven = search rules;
}

pub unwrap-requires : goal.unwrap-requires
unwrap-requires c =
    let inv = c.loop-at.invariant in
    let so_far = length-take c.loop-at.at c.loop-at.self.numbers in
    some_taken c.take.result c.loop-at.free c.take.new.self
    (has_one c.args.free.now c.loop-at.free (take c.loop-at.at c.loop-at.self.numbers) c.args.count inv.taking
    (omega (arith, c.loop-at-test.true, inv.seven, c.requires.few)) c.requires.enough)
    c.take.ensures.taken

pub loop-at-preserved : goal.loop-at-preserved
loop-at-preserved c =
    let inv = c.loop-at.invariant in
    let numbers = c.loop-at.self.numbers in
    let at = c.loop-at.at in
    let below : at < length numbers = omega (arith, c.loop-at-test.true, inv.seven, c.requires.few) in
    let more = sym (take_more_set numbers at c.unwrap.result below) in
    record {
      taking = rw (← more) (taking_next c.args.free.now c.loop-at.free c.take.new.self (take at numbers) c.take.result
          c.unwrap.result inv.taking c.unwrap.ensures c.take.ensures.taken c.take.ensures.of_these);
      lowest = rw (← more) (lowest_next c.args.free.now c.loop-at.free c.take.new.self (take at numbers) c.take.result
          c.unwrap.result inv.taking.left c.unwrap.ensures c.take.ensures.taken inv.lowest);
      seven = length-set numbers at c.unwrap.result ∙ inv.seven;
    }

pub returns : goal.returns
returns c =
    let inv = c.loop-at.invariant in
    let all : c.loop-at.at ≡ c.args.count = omega (arith, c.loop-at-test.false, c.loop-at.auto.at-end) in
    let taking = subst (λ n. Taking c.args.free.now c.loop-at.free (take n c.loop-at.self.numbers)) all inv.taking in
    record {
      count = refl;
      long = inv.seven;
      taken = taking.taken;
      lowest = subst (λ n. AreLowest c.args.free.now (take n c.loop-at.self.numbers)) all inv.lowest;
      set = taking.left;
    }
