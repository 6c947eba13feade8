use Rattle.nv_print.proofs.Words.{sym}
use Rattle.nv_print.proofs.shown.write.Goals as goal

pub returns-in-Devices-clause-exact : goal.returns-in-Devices-clause-exact
returns-in-Devices-clause-exact c =
    rw (c.in-Devices.is, sym c.as_slice-in-Devices.ensures) c.write_devices.ensures.value
