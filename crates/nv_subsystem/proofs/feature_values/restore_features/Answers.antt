use Rattle.std.proofs.Common.{◌≡◌, ◌+◌, ℕ, arith, subst}
use Rattle.nv_subsystem.proofs.Words.{AreRestored, first_value, key_at}
use Rattle.nv_subsystem.proofs.ValueTableLaws.{next_restored, none_restored}
use Rattle.nv_subsystem.proofs.feature_values.restore_features.Goals as goal

pub loop-place-init : goal.loop-place-init
loop-place-init c =
    none_restored (λ place. (first_value c.args.rules.now.values (key_at place)).current) c.args.table.now

pub loop-place-preserved : goal.loop-place-preserved
loop-place-preserved c =
    let place = c.loop-place.place in
    let so_far = c.loop-place.invariant in
    let here : place ≡ c.args.table.now.first + place = omega (arith, c.requires.0) in
    rw c.restore_one.ensures
    (next_restored (λ n. (first_value c.args.rules.now.values (key_at n)).current) place place
    c.default_at.result c.args.table.now c.loop-place.table so_far here c.default_at.ensures)

pub returns : goal.returns
returns c =
    let counted = c.count-place-end.ensures.value in
    let default : ℕ → ℕ = λ n. (first_value c.args.rules.now.values (key_at n)).current in
    let all : c.loop-place.place ≡ c.args.table.now.count = omega arith in
    subst (λ i. AreRestored default i c.args.table.now c.loop-place.table) all c.loop-place.invariant
