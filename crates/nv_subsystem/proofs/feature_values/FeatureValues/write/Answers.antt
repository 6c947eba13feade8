use Rattle.std.proofs.Common.{◌≡◌, ◌∙◌, false, ap, sym}
use Rattle.nv_subsystem.proofs.Words.{is_set, key_of}
use Rattle.nv_subsystem.proofs.ValueTableLaws.{in_values, written_absent, written_apart}
use Rattle.nv_subsystem.proofs.feature_values.FeatureValues.write.Goals as goal

pub returns-in_default : goal.returns-in_default
returns-in_default c =
    let k = key_of c.args.feature c.args.nsid c.args.selector in
    ap (in_values c.args.self.now.nn) (sym (written_absent c.args.feature c.args.asked.value c.args.asked.save
    c.args.self.now.values k (sym c.get.ensures.value ∙ c.in_default.is)))

pub returns-then-not-sets : goal.returns-then-not-sets
returns-then-not-sets c =
    let k = key_of c.args.feature c.args.nsid c.args.selector in
    let apart : is_set c.args.feature c.args.asked.value c.args.selector ≡ false =
    sym c.sets.ensures ∙ c.if-not-sets.true in
    ap (in_values c.args.self.now.nn) (sym (written_apart c.args.feature c.args.asked.value c.args.asked.save
    c.args.self.now.values k apart))
