use Rattle.std.proofs.Common.{[], ◌∷◌, ◌∙◌, codes, decimal}
use Rattle.nv_layout.specs.Status.{number_of_status}
use Rattle.nv_trace.specs.Lines.{hex, meaning}
use Rattle.nv_trace.proofs.LineLaws.{added, as_was, hexed, said, whole_line}
use Rattle.nv_trace.proofs.posted.PostedEvent.put.Goals as goal

pub returns : goal.returns
returns c =
    let p = c.args.self.now in
    let d = p.completion in
    whole_line 319 c.args.line.now (codes "nvme")
    (decimal p.ctrl ∷ codes " posted cid=0x" ∷ hex d.cid ∷ codes " status=0x" ∷
    hex (number_of_status d.status) ∷ codes " " ∷ meaning d.status ∷ codes " dword0=0x" ∷
    hex d.command_specific ∷ codes " sqhd=0x" ∷ hex d.sq_head ∷ [])
    c.add_hex-4.new.self c.requires
    (added c.add.new.self c.add.ensures
    (added c.add_decimal.new.self c.add_decimal.ensures
    (added c.add-2.new.self c.add-2.ensures
    (added c.add_hex.new.self (c.add_hex.ensures ∙ hexed c.add-2.new.self c.from.ensures)
    (added c.add-3.new.self c.add-3.ensures
    (added c.add_hex-2.new.self (c.add_hex-2.ensures ∙ hexed c.add-3.new.self (c.from-2.ensures ∙ c.number.ensures))
    (added c.add-4.new.self c.add-4.ensures
    (added c.add-5.new.self (c.add-5.ensures ∙ said c.add-4.new.self c.meaning_of.ensures)
    (added c.add-6.new.self c.add-6.ensures
    (added c.add_hex-3.new.self (c.add_hex-3.ensures ∙ hexed c.add-6.new.self c.from-3.ensures)
    (added c.add-7.new.self c.add-7.ensures
    (added c.add_hex-4.new.self (c.add_hex-4.ensures ∙ hexed c.add-7.new.self c.from-4.ensures) as_was))))))))))))
