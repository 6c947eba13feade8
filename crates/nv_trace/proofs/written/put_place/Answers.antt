use Rattle.std.proofs.Common.{◌≡◌, [], ◌∷◌, ◌++◌, ◌∙◌, None, ap, codes, sym, take}
use Rattle.std.specs.Option.{option_map_or}
use Rattle.nv_register.specs.Register.{register_at}
use Rattle.nv_trace.specs.Lines.{hex, register_name}
use Rattle.nv_trace.proofs.LineLaws.{added, as_was, hexed, more_parts}
use Rattle.nv_trace.proofs.written.put_place.Goals as goal

pub returns-in-None : goal.returns-in-None
returns-in-None c =
    let none : register_at c.args.offset ≡ None = cc in
    more_parts 319 c.args.line.now (codes "0x") (hex c.args.offset ∷ []) c.add_hex.new.self
    (added c.add-in-None.new.self c.add-in-None.ensures
    (added c.add_hex.new.self (c.add_hex.ensures ∙ hexed c.add-in-None.new.self c.from.ensures) as_was))
    ∙ ap (λ o. take 319 (c.args.line.now ++ option_map_or register_name o (codes "0x" ++ hex c.args.offset))) (sym none)
