use Rattle.std.proofs.Common.{Ok, Result, ◌∙◌, ap, arith, sym}
use Rattle.nv_layout.specs.Steps.{◌>>=◌}
use Rattle.nv_command.specs.Decoding.{transfer_in}
use Rattle.nv_command.specs.declared.decoded.Decoded.{Decoded}
use Rattle.nv_command.specs.declared.status_code.StatusCode.{StatusCode}
use Rattle.nv_bus.proofs.CallLaws.{has_room, within_few}
use Rattle.nv_controller.proofs.entry.read_call.Goals as goal

pub find_data-requires : goal.find_data-requires
find_data-requires g c =
    let moves = c.transfer-moves.result in
    let few = within_few c.args.limit moves (omega (arith, c.bytes.ensures)) in
    record {
      room = has_room c.args.limit c.args.entry.now moves moves c.requires
          (ap (λ (r : Result Decoded StatusCode). r >>= (λ asked. Ok (transfer_in asked))) (sym c.in_ok-asked.ensures)
          ∙ ap Ok (sym c.transfer-moves.ensures)) few;
    }
