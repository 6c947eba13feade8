use Rattle.std.proofs.Common.{[], ◌∷◌, ◌∙◌, codes, decimal}
use Rattle.nv_trace.specs.Lines.{hex, place_text}
use Rattle.nv_trace.proofs.LineLaws.{added, as_was, hexed, whole_line}
use Rattle.nv_trace.proofs.written.WrittenEvent.put.Goals as goal

pub returns : goal.returns
returns c =
    let w = c.args.self.now in
    whole_line 319 c.args.line.now (codes "nvme")
    (decimal w.ctrl ∷ codes " write " ∷ place_text w.offset ∷ codes "=0x" ∷ hex w.dword ∷ [])
    c.add_hex.new.self c.requires
    (added c.add.new.self c.add.ensures
    (added c.add_decimal.new.self c.add_decimal.ensures
    (added c.add-2.new.self c.add-2.ensures
    (added c.put_place.new.line c.put_place.ensures
    (added c.add-3.new.self c.add-3.ensures
    (added c.add_hex.new.self (c.add_hex.ensures ∙ hexed c.add-3.new.self c.from.ensures) as_was))))))
