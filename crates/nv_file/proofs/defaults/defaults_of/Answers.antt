use Rattle.std.proofs.Common.{◌≡◌, ℕ, true, Option, Some, None, rules}
use Rattle.nv_layout.specs.Feature.{is_value}
use Rattle.nv_layout.specs.declared.feature.Feature.{Feature}
use Rattle.nv_file.proofs.Words.{IsSomeAnd}
use Rattle.nv_file.proofs.CheckLaws.{faults}
use Rattle.nv_file.proofs.Opens.{defaults}
use Rattle.nv_file.proofs.defaults.defaults_of.Goals as goal

-- one value for each selector
for_each : (o : Option Feature) (value : ℕ) → IsSomeAnd o (λ f. is_value f value ≡ true)
    → IsSomeAnd o (λ f. (s : ℕ) → is_value f value ≡ true)
for_each None value h = elim h [ ]
for_each (Some f) value h = λ s. h

pub returns-then-version-eq1-clause-values : goal.returns-then-version-eq1-clause-values
returns-then-version-eq1-clause-values c = for_each _ c.args.value c.requires.value

pub returns-else-fid-eq4-clause-values : goal.returns-else-fid-eq4-clause-values
returns-else-fid-eq4-clause-values c = for_each _ c.args.value c.requires.value

pub returns-else-fid-eq4-clause-exact : goal.returns-else-fid-eq4-clause-exact
unfolding defaults
returns-else-fid-eq4-clause-exact c = (search (rules, faults), (search rules, search (rules, faults)))
