-- The calls of bringing up, put together.
use Rattle.nv_driver.proofs.Words.{ℕ, ◌%◌, ◌*◌, ◌+◌, ◌-◌, ◌/◌, ◌^◌, ◌∙◌, ◌≡◌, Configures, Enables, EnablesFirst}
use Rattle.nv_driver.proofs.Words.{Geometry, IsQuiet, List, QueuePair, QueuePairFields, Read, SetsQueues, Write, Zeroes}
use Rattle.nv_driver.proofs.Words.{add-one, pair_of, subst, sym, true}
use Rattle.std.specs.Prelude.{Err, MatchResult, Ok, Result}
use Rattle.nv_driver.specs.inner.BringingUp.{GivesUp}

pub sets_queues : {B : Type 0} (wrote : Write B) (c : ℕ) (l : QueuePair) (x s1 s2 q1 q2 : ℕ)
    → {old aqa low asq behind new : B}
    → x ≡ (l.depth - 1) * 65536 + (l.depth - 1)
    → s1 ≡ l.sq % 2 ^ 32 → s2 ≡ l.sq / 2 ^ 32 → q1 ≡ l.cq % 2 ^ 32 → q2 ≡ l.cq / 2 ^ 32
    → wrote old c 0x24 x aqa → wrote aqa c 0x28 s1 low → wrote low c 0x2c s2 asq
    → wrote asq c 0x30 q1 behind → wrote behind c 0x34 q2 new → SetsQueues wrote c l old new
sets_queues wrote c l x s1 s2 q1 q2 {old} {aqa} {low} {asq} {behind} {new} is low_is high_is first_is second_is
    first second third fourth fifth = (
      aqa,
      asq,
      rw is at first,
      (low, rw low_is at second, rw high_is at third),
      (behind, rw first_is at fourth, rw second_is at fifth),
    )

-- what follows from the calls that set EN, with the CC of the geometry, whether RDY became 1 or not
pub configured : {A E B P Q : Type 0} (wrote : Write B) (read : Read B) (c x y : ℕ) (old new : B) (r : Result A E)
    (unready : E)
    → x ≡ y → (Configures wrote read c y true old new → P) → (GivesUp wrote read c x true old new → Q)
    → MatchResult r (λ _. Configures wrote read c x true old new)
    (λ e. (e ≡ unready) × GivesUp wrote read c x true old new)
    → MatchResult r (λ _. P) (λ e. (e ≡ unready) × Q)
configured wrote read c x y old new (Ok a) unready is met unmet steps =
    met (subst (λ v. Configures wrote read c v true old new) is steps)
configured wrote read c x y old new (Err e) unready is met unmet steps = (steps.0, unmet steps.1)

-- the zeroed ring is the controller's
pub zeroes_own : {B : Type 0} (zeroed : Zeroes B) (g : Geometry) (c : ℕ) {l : QueuePairFields} {off : B}
    {before after : List ℕ} → IsQuiet l → l.completion.base ≡ (pair_of g c).cq → l.submission.depth ≡ g.depth
    → zeroed off l.completion.base l.completion.depth before after
    → zeroed off (pair_of g c).cq g.depth before after
zeroes_own zeroed g c {l} {off} {before} {after} quiet base depth was =
    rw (base, quiet.depth ∙ depth) at was

pub one_more : {B : Type 0} (wrote : Write B) (read : Read B) (zeroed : Zeroes B) (g : Geometry) (n : ℕ)
    (old mid new : B) (before between after : List ℕ) → EnablesFirst wrote read zeroed g n old before mid between
    → Enables wrote read zeroed g n mid between new after
    → EnablesFirst wrote read zeroed g (n + 1) old before new after
one_more wrote read zeroed g n old mid new before between after first more =
    subst (λ k. EnablesFirst wrote read zeroed g k old before new after) (sym (add-one n)) (mid, between, first, more)

-- equal geometries are enabled alike
pub same_geometry : {B : Type 0} (wrote : Write B) (read : Read B) (zeroed : Zeroes B) (g h : Geometry) (n : ℕ)
    (old new : B) (before after : List ℕ) → g ≡ h → EnablesFirst wrote read zeroed g n old before new after
    → EnablesFirst wrote read zeroed h n old before new after
same_geometry wrote read zeroed g h n old new before after same first =
    rw (← same) first
