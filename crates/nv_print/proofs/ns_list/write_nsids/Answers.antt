use Rattle.nv_print.proofs.Words.{arith, common_steps}
use Rattle.nv_print.proofs.Words.{number, unsigned}
use Rattle.nv_print.proofs.TokenLaws.{list_ends}
use Rattle.nv_print.proofs.ns_list.write_nsids.Goals as goal

pub returns-clause-value : goal.returns-clause-value
returns-clause-value c = grind (arith, common_steps, list_ends (λ n. number (unsigned n)) c.args.nsids.now)
