use Rattle.nv_print.proofs.Words.{arith, common_steps, object_of, on_ok_weaker}
use Rattle.std.proofs.Common.{codes}
use Rattle.nv_print.specs.Devices.{fields_of_device}
use Rattle.nv_print.proofs.JsonLengths.{list_object_length}
use Rattle.nv_print.proofs.TokenLaws.{list_ends}
use Rattle.nv_print.proofs.devices.write_devices.Goals as goal

pub returns-clause-value : goal.returns-clause-value
returns-clause-value c =
    grind (arith, common_steps, list_ends (λ d. object_of (fields_of_device d)) c.args.devices.now)

pub returns-clause-bound : goal.returns-clause-bound
returns-clause-bound c =
    let short =
    list_object_length (codes "devices") (λ d. object_of (fields_of_device d)) 511 c.args.devices.now
    c.in_ok-write_each.ensures.bound in
    on_ok_weaker c.end_object.result (λ _. omega (arith, short)) c.end_object.ensures.ok
