-- How the program ends.
use Rattle.std.specs.Prelude.{ℕ, Result, Ok, Err}
use Rattle.nv_program.specs.declared.stop.Stop.{Stop}
use Rattle.nv_program.specs.declared.stop.Stop.TheVariants as stop
use Rattle.nv_serve.specs.declared.ends.RequestsEnd.TheVariants as requests
use Rattle.nv_serve.specs.declared.ends.ServeEnd.{ServeEnd}
use Rattle.nv_serve.specs.declared.ends.ServeEnd.TheVariants.{Requests, Geometry, NoReady, Memory}

-- the status if the requests ended, or why the program stopped
abbrev pub ended : ServeEnd → Result ℕ Stop
ended (Requests requests.Done) = Ok 0
ended (Requests requests.Short) = Err stop.Short
ended (Requests requests.TooLong) = Err stop.TooLong
ended (Requests requests.Read) = Err stop.Read
ended (Requests requests.Write) = Err stop.Write
ended (Requests requests.NoReady) = Err stop.NoReady
ended (Geometry field) = Err (stop.Geometry field)
ended NoReady = Err stop.NoReady
ended Memory = Err stop.Memory
