-- The bounds of the greatest length of a command's data.
use Rattle.std.proofs.lemmas.Grind.{common_steps}
use Rattle.std.proofs.Common.{◌≡◌, ℕ, zero, suc, ◌*◌, ◌^◌, ◌<◌, ◌≤◌, List, [], ◌∷◌, Option}
use Rattle.std.proofs.Common.{ap, arith, length, refl, rules}
use Rattle.std.proofs.Math.Nat.{pow-le-pow_right}
use Rattle.nv_model.specs.Step.{refused, step, step_by, with_command}
use Rattle.nv_model.proofs.Words.{changed_at, Command, Controller, effect_of}
use Rattle.nv_model.proofs.Words.{greatest_limit, Identity, IsWellFormed}
use Rattle.nv_model.proofs.Words.{limit_of, map, mdts_of, option_map_or, Refusal, refusal_of, slice_get}
use Rattle.nv_model.proofs.Words.{slice_get_cases, State}
use Rattle.nv_model.proofs.ChangedAtLaws.{slice_get-changed_at}

-- an MDTS up to 8 gives at most the greatest limit
pub limit_within : (m : ℕ) → m ≤ 8 → 4096 * 2 ^ m ≤ greatest_limit
limit_within m high = search rules

-- an MDTS from 2 to 8 gives from 16,384 bytes to the greatest limit
powers : (m : ℕ) → 2 ≤ m → m ≤ 8 → (16384 ≤ 4096 * 2 ^ m) × (4096 * 2 ^ m ≤ greatest_limit)
powers m low high =
    let least : 2 ^ 2 ≤ 2 ^ m = pow-le-pow_right (omega arith) low in
    (omega (arith, least), limit_within m high)

-- the limit is at least four pages of 4,096 bytes, and at most the greatest limit
pub limit_bounds : (s : State) (c : ℕ) → IsWellFormed s → c < length s.controllers
    → (16384 ≤ limit_of s c) × (limit_of s c ≤ greatest_limit)
limit_bounds s c w below = grind (arith, common_steps, slice_get_cases, powers, option_map_or)

-- ---- no command changes it

-- MDTS of controller d among these controllers
abbrev mdts_in : List Controller → ℕ → ℕ
mdts_in xs d = option_map_or (λ x. x.identity.numbers.mdts) (slice_get xs d) 0

-- a change of a controller keeps its identity
abbrev KeepsIdentity : (Controller → Controller) → Type 0
KeepsIdentity f = (x : Controller) → (f x).identity ≡ x.identity

-- changing each controller without its identity doesn't change MDTS
of_each : (f : Controller → Controller) → KeepsIdentity f → (xs : List Controller) (d : ℕ)
    → mdts_in (map f xs) d ≡ mdts_in xs d
of_each f same [] d = refl
of_each f same (x ∷ xs) zero = ap (λ (i : Identity). i.numbers.mdts) (same x)
of_each f same (x ∷ xs) (suc d) = of_each f same xs d

-- changing one controller without its identity doesn't change MDTS
of_one : (f : Controller → Controller) → KeepsIdentity f → (xs : List Controller) (c d : ℕ)
    → mdts_in (changed_at xs c f) d ≡ mdts_in xs d
of_one f same xs c d = search (rules, slice_get-changed_at)

-- the effect of a command doesn't change MDTS
effect_mdts : (s : State) (c : ℕ) (k : Command) (d : ℕ) → mdts_of (effect_of s c k) d ≡ mdts_of s d
effect_mdts s c k d = grind (arith, common_steps, of_each, of_one)

-- a step, refused or not, doesn't change MDTS
step_mdts : (o : Option Refusal) (s : State) (c : ℕ) (k : Command) (cid d : ℕ)
    → mdts_of (step_by o s c k cid).state d ≡ mdts_of s d
step_mdts o s c k cid d = search (rules, of_one, effect_of, effect_mdts)

-- a step doesn't change the greatest length of a command's data
pub step_limit : (s : State) (c : ℕ) (k : Command) (cid d : ℕ) → limit_of (step s c k cid).state d ≡ limit_of s d
step_limit s c k cid d = ap (λ m. 4096 * 2 ^ m) (step_mdts (refusal_of s c k) s c k cid d)

-- a refusal doesn't change the greatest length of a command's data
pub refused_limit : (s : State) (c nsid cid d : ℕ) (r : Refusal)
    → limit_of (with_command (refused s c nsid cid r) c) d ≡ limit_of s d
refused_limit s c nsid cid d r = search (rules, of_one)
