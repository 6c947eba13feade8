-- What a controller is asked for: a command that a driver may send, or something else.
use Rattle.nv_command.specs.Logs.{IsSendable}
use Rattle.nv_line.specs.declared.request.Ask.{Ask}
use Rattle.nv_line.specs.declared.request.Ask.TheVariants.{Send}

-- if it is a command, a driver may send it
abbrev pub IsAskable : Ask → Type 0
IsAskable (Send k) = IsSendable k
IsAskable _ = Unit {0}
