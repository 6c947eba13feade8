use Rattle.std.proofs.Common.{◌∙◌, Option, ap, refl, sym}
use Rattle.nv_prp.specs.Place.{written_at}
use Rattle.nv_controller.specs.Tags.{answered_with}
use Rattle.nv_controller.proofs.Words.{data_of, places, Refusal, refused_answer, Reply, success, command_result_of}
use Rattle.nv_controller.proofs.EntryLaws.{answered, refused_by}
use Rattle.nv_controller.proofs.deliver.execute.Goals as goal

pub deliver-requires-clause-is_reply : goal.deliver-requires-clause-is_reply
deliver-requires-clause-is_reply g c =
    (answered c.args.subsystem.now c.args.ctrl c.args.command.now c.args.origin.cid _ c.requires.well_formed
    (sym c.in-Ok.ensures)).is_reply

pub deliver-requires-clause-fits : goal.deliver-requires-clause-fits
deliver-requires-clause-fits g c =
    (answered c.args.subsystem.now c.args.ctrl c.args.command.now c.args.origin.cid _ c.requires.well_formed
    (sym c.in-Ok.ensures)).fits

pub returns-in-Ok-clause-command_result : goal.returns-in-Ok-clause-command_result
returns-in-Ok-clause-command_result g c =
    ap (λ d. record { dword0 = d; status = success }) c.dword0-dword0.ensures
    ∙ (answered c.args.subsystem.now c.args.ctrl c.args.command.now c.args.origin.cid _ c.requires.well_formed
    (sym c.in-Ok.ensures)).command_result

pub returns-in-Ok-clause-bytes : goal.returns-in-Ok-clause-bytes
returns-in-Ok-clause-bytes g c =
    let s = c.args.subsystem.now in
    let k = c.args.command.now in
    let bytes = g.M.PagedMemory.bytes c.args.mem.now in
    let at = places c.args.entry_data.now.spans in
    let is = answered s c.args.ctrl k c.args.origin.cid _ c.requires.well_formed (sym c.in-Ok.ensures) in
    c.deliver.ensures.bytes
    ∙ ap (λ (r : Reply). written_at bytes at (data_of k r)) (sym is.reply)
    ∙ ap (λ (o : Option Refusal). answered_with o s c.args.ctrl k at bytes) (sym is.accepted)

pub returns-in-Ok-clause-moved : goal.returns-in-Ok-clause-moved
returns-in-Ok-clause-moved g c =
    let is = answered c.args.subsystem.now c.args.ctrl c.args.command.now c.args.origin.cid _ c.requires.well_formed
    (sym c.in-Ok.ensures) in
    rw (← is.answer) (c.in-Ok.reply, refl, c.deliver.ensures.bytes)

pub returns-in-Err-clause-command_result : goal.returns-in-Err-clause-command_result
returns-in-Err-clause-command_result g c =
    ap command_result_of (refused_by c.args.subsystem.now c.args.ctrl c.args.command.now c.args.origin.cid _
    (refused_answer _ _ _ (sym c.in-Err.ensures)))

pub returns-in-Err-clause-bytes : goal.returns-in-Err-clause-bytes
returns-in-Err-clause-bytes g c =
    ap (λ (o : Option Refusal). answered_with o c.args.subsystem.now c.args.ctrl c.args.command.now
    (places c.args.entry_data.now.spans) (g.M.PagedMemory.bytes c.args.mem.now))
    (sym (refused_answer _ _ _ (sym c.in-Err.ensures)))

pub returns-in-Err-clause-moved : goal.returns-in-Err-clause-moved
returns-in-Err-clause-moved g c =
    let some = refused_answer _ _ _ (sym c.in-Err.ensures) in
    rw (← (refused_by c.args.subsystem.now c.args.ctrl c.args.command.now c.args.origin.cid _ some)) refl
