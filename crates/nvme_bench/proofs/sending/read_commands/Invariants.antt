use Rattle.std.proofs.Common.{All}
use Rattle.nv_command.specs.Command.{CommandFits}
use Rattle.nv_command.specs.Logs.{IsSendable}
use Rattle.nvme_bench.proofs.sending.read_commands.Given as goal

-- the commands so far can be sent
abbrev pub invariant-loop-place : goal.invariant-loop-place
invariant-loop-place l = All IsSendable l.commands.items × All CommandFits l.commands.items
