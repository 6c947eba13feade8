use Rattle.nv_print.proofs.Words.{arith, common_steps}
use Rattle.serde_json.proofs.Texts.{print-outline}
use Rattle.nv_print.specs.Shown.{data_of}
use Rattle.nv_print.proofs.shown.compact.Goals as goal

pub returns-clause-exact : goal.returns-clause-exact
returns-clause-exact c = grind (arith, common_steps, print-outline (data_of c.args.shown.now))

pub returns-clause-bound : goal.returns-clause-bound
returns-clause-bound c = rw (returns-clause-exact c) c.in_ok-write.ensures.bound
