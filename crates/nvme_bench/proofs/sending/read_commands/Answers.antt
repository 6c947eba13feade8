use Rattle.std.proofs.Common.{All, subst, sym}
use Rattle.std.proofs.lemmas.List.Elements.{All-push}
use Rattle.nv_command.specs.Command.{CommandFits}
use Rattle.nv_command.specs.Logs.{IsSendable}
use Rattle.nvme_bench.proofs.sending.read_commands.Goals as goal

pub loop-place-preserved : goal.loop-place-preserved
loop-place-preserved c =
    let before = c.loop-place.commands.items in
    let command = c.in-Ok.command in
    let items = sym c.in_ok-push-in-Ok.ensures.items in (
      subst (All IsSendable) items
          (All-push IsSendable before command c.loop-place.invariant.0 c.in-Ok.ensures.sends),
      subst (All CommandFits) items
          (All-push CommandFits before command c.loop-place.invariant.1 c.in-Ok.ensures.fits),
    )
