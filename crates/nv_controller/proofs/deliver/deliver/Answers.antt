use Rattle.std.proofs.Common.{◌∙◌, ap, arith, refl, sym}
use Rattle.nv_command.proofs.TravelLaws.{replies_fit}
use Rattle.nv_prp.specs.Place.{written_at}
use Rattle.nv_controller.proofs.Words.{nil_from_length, places, transfer_by}
use Rattle.nv_controller.proofs.DataLaws.{all_sent, none_sent, nothing_written}
use Rattle.nv_controller.proofs.deliver.deliver.Goals as goal

pub write_out-requires-clause-len : goal.write_out-requires-clause-len
write_out-requires-clause-len g c =
    c.requires.len
    ∙ sym (all_sent (transfer_by c.args.command.now) c.in-ToHost.field-0 (sym c.requires.transfer ∙ c.in-ToHost.is))
    ∙ sym (replies_fit c.args.command.now _ c.requires.is_reply c.requires.fits)

pub write_out-requires-clause-limit : goal.write_out-requires-clause-limit
write_out-requires-clause-limit g c = omega (arith, write_out-requires-clause-len g c, c.requires.few)

pub returns-in_default : goal.returns-in_default
returns-in_default g c =
    let k = c.args.command.now in
    let bytes = g.M.PagedMemory.bytes c.args.mem.now in
    let at = places c.args.spans.now in
    let none = replies_fit k _ c.requires.is_reply c.requires.fits
    ∙ none_sent (transfer_by k) (λ n is. c.in_default.not-ToHost n (c.requires.transfer ∙ is)) in
    record {
      bytes = nothing_written bytes at ∙ ap (written_at bytes at) (sym (nil_from_length _ none));
      len = refl;
      page_len = refl;
    }
