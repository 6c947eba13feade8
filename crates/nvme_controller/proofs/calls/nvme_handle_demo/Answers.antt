use Rattle.std.proofs.Common.{◌∙◌, List, arith, rules, subst, ℕ}
use Rattle.std.proofs.lemmas.Grind.{common_steps}
use Rattle.nv_file.proofs.DemoLaws.{demo_is}
use Rattle.nv_file.specs.Demo.{demo_text}
use Rattle.nv_subsystem.specs.FromFile.{subsystem}
use Rattle.nvme_controller.specs.Calls.{Opens}
use Rattle.nvme_controller.proofs.calls.nvme_handle_demo.Goals as goal

pub returns-clause-opens : goal.returns-clause-opens
returns-clause-opens c =
    let call = c.nvme_handle_open in
    let opens : Opens (subsystem demo_text) call.result c.args.handle.now.machine call.new.handle.machine =
    subst (λ (b : List ℕ). Opens (subsystem b) call.result c.args.handle.now.machine call.new.handle.machine)
    (c.as_bytes.ensures.value ∙ demo_is) call.ensures.opens in
    first_of (search rules, grind (arith, common_steps))
