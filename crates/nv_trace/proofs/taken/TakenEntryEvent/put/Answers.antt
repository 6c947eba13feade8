use Rattle.std.proofs.Common.{[], ◌∷◌, ◌∙◌, ◌/◌, ◌%◌, codes, decimal}
use Rattle.nv_trace.specs.Lines.{command_name, fields_text, hex}
use Rattle.nv_trace.proofs.LineLaws.{added, as_was, cut_short, hexed, said, whole_line}
use Rattle.nv_trace.proofs.taken.TakenEntryEvent.put.Goals as goal

pub returns : goal.returns
returns c =
    let t = c.args.self.now in
    let e = t.entry in
    whole_line 319 c.args.line.now (codes "nvme")
    (decimal t.ctrl ∷ codes " taken " ∷ command_name e.opcode ∷ codes " (0x" ∷ hex (e.opcode / 16) ∷
    hex (e.opcode % 16) ∷ codes ") cid=0x" ∷ hex e.cid ∷ codes " nsid=0x" ∷ hex e.nsid ∷
    codes " prp1=0x" ∷ hex e.prp1 ∷ codes " prp2=0x" ∷ hex e.prp2 ∷ fields_text e ∷ [])
    c.put_fields.new.line c.requires
    (added c.add.new.self c.add.ensures
    (added c.add_decimal.new.self c.add_decimal.ensures
    (added c.add-2.new.self c.add-2.ensures
    (added c.add-3.new.self (c.add-3.ensures ∙ said c.add-2.new.self c.command_of.ensures)
    (added c.add-4.new.self c.add-4.ensures
    (added c.add_hex.new.self (c.add_hex.ensures ∙ hexed c.add-4.new.self c.from.ensures)
    (added c.add_hex-2.new.self (c.add_hex-2.ensures ∙ hexed c.add_hex.new.self c.from-2.ensures)
    (added c.add-5.new.self c.add-5.ensures
    (added c.add_hex-3.new.self (c.add_hex-3.ensures ∙ hexed c.add-5.new.self c.from-3.ensures)
    (added c.add-6.new.self c.add-6.ensures
    (added c.add_hex-4.new.self (c.add_hex-4.ensures ∙ hexed c.add-6.new.self c.from-4.ensures)
    (added c.add-7.new.self c.add-7.ensures
    (added c.add_hex-5.new.self c.add_hex-5.ensures
    (added c.add-8.new.self c.add-8.ensures
    (added c.add_hex-6.new.self c.add_hex-6.ensures
    (added c.put_fields.new.line c.put_fields.ensures as_was))))))))))))))))

pub put_fields-requires : goal.put_fields-requires
put_fields-requires c = cut_short 319 _ _ c.add_hex-6.ensures
