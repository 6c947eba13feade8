use Rattle.nv_print.proofs.Words.{◌≤◌, compact_text, data_tokens, length, object_of, rules}
use Rattle.std.proofs.lemmas.List.Elements.{All-more}
use Rattle.nv_print.specs.Devices.{fields_of_device}
use Rattle.nv_print.proofs.TokenLaws.{next_added}
use Rattle.nv_print.proofs.devices.write_each.Goals as goal

pub loop-device-preserved : goal.loop-device-preserved
loop-device-preserved c =
    let i = c.loop-device.device-index in
    let devices = c.args.devices.now in (
      next_added (λ d. data_tokens (object_of (fields_of_device d))) devices i _ c.args.out.now c.loop-device.out
          c.write_device.new.out (search rules)
          c.loop-device.invariant.0 c.in_ok-write_device.ensures.value,
      All-more (λ d. length (compact_text (object_of (fields_of_device d))) ≤ 511) devices i _ (search rules)
          c.loop-device.invariant.1 c.in_ok-write_device.ensures.bound,
    )
