use Rattle.nv_script.proofs.Words.{arith, drop, length}
use Rattle.nv_script.proofs.BatchLaws.{batch_leaves, commands_are}
use Rattle.nv_script.proofs.listing.list_batch.Goals as goal

pub returns-clause-left : goal.returns-clause-left
returns-clause-left g c w is =
    let ns = c.args.nsids.now in
    let done = c.admin_all.ensures in
    batch_leaves w c.args.ctrl _ c.args.driver.now c.args.listing.now is c.requires.controller ns _
    (commands_are c.commands_for-commands.result ns (omega arith) c.commands_for-commands.ensures) _ _ _
    c.admin_all.new.answers (drop (length ns) c.args.batch.now) c.requires.some done.state done.driver done.answers
    done.steps c.keep_all.result _ c.keep_all.ensures.kept c.keep_all.ensures.refused
