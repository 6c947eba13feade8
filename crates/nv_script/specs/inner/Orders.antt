-- What a query makes controllers do: what no public contract reaches.
use Rattle.std.specs.Prelude.{ℕ, ◌+◌}
use Rattle.nv_command.specs.declared.command.Command.{Command}
use Rattle.nv_command.specs.declared.reply.Reply.{Reply}
use Rattle.nv_command.specs.declared.reply.Reply.TheVariants as reply
use Rattle.nv_script.specs.Orders.{errors_command}

-- the command for an error log, by the reply that says how many errors the controller keeps
abbrev pub log_command : ℕ → Reply → Command
log_command entries (reply.Controller r) = errors_command entries (r.elpe + 1)
log_command entries _ = errors_command entries 1
