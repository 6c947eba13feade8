use Rattle.std.proofs.Common.{◌≡◌, ◌*◌, ◌≤◌, length, string_bytes, take}
use Rattle.nv_print.specs.Devices.{devices_text}
use Rattle.nv_print.proofs.devices.devices_text.Given as goal

abbrev pub invariant-loop-device : goal.invariant-loop-device
invariant-loop-device l =
    (string_bytes l.text ≡ devices_text (take l.device-index l.devices))
    × (length (string_bytes l.text) ≤ 512 * l.device-index)
