use Rattle.std.proofs.Common.{◌≡◌, ◌++◌, ◌∷◌, [], Err, arith, inr, rules}
use Rattle.nv_file.proofs.Words.{All-push, common_steps, IsFormat}
use Rattle.nv_file.proofs.ReadTo.{read_all, read_fails, read_more}
use Rattle.nv_file.proofs.format.formats_of.Goals as goal

pub loop-table-preserved : goal.loop-table-preserved
loop-table-preserved c =
    let xs = c.loop-table.formats.items in
    let x = c.in_ok-format.format in
    let grown : c.push.new.self.items ≡ xs ++ x ∷ [] = c.in_ok-push.ensures.items in
    let is = c.in_ok-format.ensures.exact in
    record {
      read = rw grown (read_more _ _ _ _ _ _ _ x c.loop-table.invariant.read c.loop-table-test.true
          c.table-item.is is.0 is.1);
      count = grind (arith, common_steps);
      sound = rw grown (All-push IsFormat xs x c.loop-table.invariant.sound c.in_ok-format.ensures.sound);
    }

pub returns-in_err-format-clause-exact : goal.returns-in_err-format-clause-exact
returns-in_err-format-clause-exact c =
    let is : c.from_residual.result ≡ Err c.in_err-format.field-0.0 = search rules in
    rw is (inr (read_fails _ _ _ _ _ _ _ _ c.loop-table.invariant.read c.loop-table-test.true c.table-item.is
    c.in_err-format.ensures.exact))

pub returns-clause-exact : goal.returns-clause-exact
returns-clause-exact c = read_all _ _ _ _ _ _ c.loop-table.invariant.read c.loop-table-test.false
