use Rattle.nv_print.proofs.Words.{◌≤◌, Adds, All, compact_text, data_tokens, flat_map, length, object_of, take}
use Rattle.nv_print.specs.Devices.{fields_of_device}
use Rattle.nv_print.proofs.devices.write_each.Given as goal

abbrev pub invariant-loop-device : goal.invariant-loop-device
invariant-loop-device l =
    Adds (flat_map (λ d. data_tokens (object_of (fields_of_device d))) (take l.device-index l.devices)) l.fn.out l.out
    × All (λ d. length (compact_text (object_of (fields_of_device d))) ≤ 511) (take l.device-index l.devices)
