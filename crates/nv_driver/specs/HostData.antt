-- The data that the host sends with a request.
use Rattle.std.specs.Prelude.{ℕ, List}
use Rattle.nv_command.specs.Command.{host_data_of}
use Rattle.nv_driver.specs.Request.{padded}
use Rattle.nv_driver.specs.declared.submitting.HostData.{HostData}
use Rattle.nv_driver.specs.declared.submitting.HostData.TheVariants as sends

-- the bytes that the host sends
abbrev pub sent_by : HostData → List ℕ
sent_by (sends.Command k) = host_data_of k.now
sent_by (sends.Bytes bytes len) = padded len bytes.now
