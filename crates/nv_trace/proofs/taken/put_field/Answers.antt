use Rattle.std.proofs.Common.{[], ◌∷◌, ◌++◌, ◌∙◌, ap, codes, take}
use Rattle.nv_trace.specs.Lines.{hex}
use Rattle.nv_trace.proofs.LineLaws.{a_field, added, as_was, cut_short, more_parts, no_field}
use Rattle.nv_trace.proofs.taken.put_field.Goals as goal

pub returns-then-value-eq0-clause-field : goal.returns-then-value-eq0-clause-field
returns-then-value-eq0-clause-field c =
    no_field c.args.line.now c.args.name.now c.args.value c.requires c.if-value-eq0.true

pub returns-clause-field : goal.returns-clause-field
returns-clause-field c =
    more_parts 319 c.args.line.now (codes " ")
    (c.args.name.now ∷ codes "=0x" ∷ hex c.args.value ∷ []) c.add_hex.new.self
    (added c.add.new.self c.add.ensures
    (added c.add-2.new.self c.add-2.ensures
    (added c.add-3.new.self c.add-3.ensures
    (added c.add_hex.new.self c.add_hex.ensures as_was))))
    ∙ ap (λ l. take 319 (c.args.line.now ++ l)) (a_field c.args.name.now c.args.value c.if-value-eq0.false)

pub returns-clause-len : goal.returns-clause-len
returns-clause-len c = cut_short 319 _ _ c.add_hex.ensures
