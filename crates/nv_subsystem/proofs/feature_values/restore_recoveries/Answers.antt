use Rattle.std.proofs.Common.{◌≡◌, ◌∙◌, ◌+◌, ap, arith, refl, subst}
use Rattle.nv_subsystem.proofs.Words.{AreRestored}
use Rattle.nv_subsystem.proofs.ValueTableLaws.{next_restored, none_restored}
use Rattle.nv_subsystem.proofs.feature_values.restore_recoveries.Goals as goal

pub loop-k-init : goal.loop-k-init
loop-k-init c = none_restored (λ _. c.args.default) c.args.table.now

pub loop-k-preserved : goal.loop-k-preserved
loop-k-preserved c =
    let k = c.loop-k.k in
    let so_far = c.loop-k.invariant in
    rw c.restore_one.ensures (next_restored (λ _. c.args.default) k (c.first.result + k) c.args.default
    c.args.table.now c.loop-k.table so_far (ap (λ n. n + k) (c.first.ensures ∙ so_far.first)) refl)

pub returns : goal.returns
returns c =
    let counted = c.count-k-end.ensures.value in
    let all : c.loop-k.k ≡ c.args.table.now.count = omega arith in
    subst (λ i. AreRestored (λ _. c.args.default) i c.args.table.now c.loop-k.table) all c.loop-k.invariant
