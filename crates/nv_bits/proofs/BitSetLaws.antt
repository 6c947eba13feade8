-- Sets of numbers as bits.
use Rattle.std.proofs.Common.{◌≡◌, ◌≢◌, ◌∙◌, ℕ, ◌+◌, ◌-◌, ◌*◌, ◌/◌, ◌^◌, ◌<◌, ◌≤◌, Bool, true, rules}
use Rattle.std.proofs.Common.{false, not, cond, List, length, get_or, set, length-set, is_some}
use Rattle.std.proofs.Common.{refl, sym, ap, arith, inl, inr, min, get_or-set_other, replicate}
use Rattle.std.proofs.lemmas.Grind.{common_steps}
use Rattle.std.proofs.lemmas.Bool.{cases_eq, cases_lt, false_from_ne_true, ne_eqb, true≢false}
use mir.Val.{bool_byte}
use Rattle.std.specs.FinMap as map
use Rattle.std.specs.FinMap.{get-empty, len-empty, len-insert, len-remove}
use Rattle.std.specs.Cmp.{nat_cmp_total}
use Rattle.std.specs.Ordering.{nat_cmp}
use Rattle.nv_bits.specs.Numbers.{IsLowest, IsNext, IsOf, NumberSet, all_of, as_member, insert}
use Rattle.nv_bits.proofs.NumberLaws.{by_place-insert, by_place-remove, by_place_is, get_at, get_outside, len-all_of}
use Rattle.nv_bits.proofs.NumberLaws.{len_within}
use Rattle.nv_bits.specs.inner.Words.{ChangesBit, IsLeastFrom}
use Rattle.nv_bits.specs.Words.{bit_of}
use Rattle.nv_bits.specs.BitSet.{AreBits, members_of}
use Rattle.nv_bits.proofs.WordLaws.{bit_of-ones, bit_of-past_ones, bit_of-zeros, first_ones, none_of_zero}

-- the value that b gives as a member is there if and only if b is true
is_member : (b : Bool) → is_some (as_member b) ≡ b
is_member b = search rules

-- a number of the range is a member if its bit is set
pub contains_at : (first count : ℕ) (words : List ℕ) (k : ℕ) → k < count
    → map.contains_key (members_of first count words) (first + k) ≡ bit_of words k
contains_at first count words k h = ap is_some (get_at _ first count k h) ∙ is_member (bit_of words k)

-- a number is no member if it is outside the range, or if its bit is not set
pub not_member : (first count : ℕ) (words : List ℕ) (q : ℕ)
    → (first ≤ q → q < first + count → bit_of words (q - first) ≡ false)
    → map.contains_key (members_of first count words) q ≡ false
not_member first count words q clear =
    false_from_ne_true (map.contains_key (members_of first count words) q) (λ member.
    let out : IsOf first count q → ⊥ = λ is.
    let e : q ≡ first + (q - first) = omega arith in
    true≢false (sym (rw e at member) ∙ contains_at first count words (q - first) (omega arith) ∙ clear is.0 is.1) in
    true≢false (sym member ∙ ap is_some (get_outside _ first count q out)))

-- as_member of a choice between two truth values is the choice between their values
as_member-change : (b c d : Bool) → as_member (cond b c d) ≡ cond b (as_member c) (as_member d)
as_member-change b c d = search rules

module _ (first count : ℕ) (old new : List ℕ) (k : ℕ) (here : k < count) where
  -- if new differs from old only in that bit k is set, its set is the set of old with the number of bit k
  pub members-insert : ChangesBit old new k true
      → members_of first count new ≡ insert (members_of first count old) (first + k)
  members-insert change = grind (arith, common_steps, by_place-insert, as_member-change)

  -- if new differs from old only in that bit k is clear, its set is the set of old without the number of bit k
  pub members-remove : ChangesBit old new k false
      → members_of first count new ≡ map.remove (members_of first count old) (first + k)
  members-remove change = grind (arith, common_steps, by_place-remove, as_member-change)

-- words in which no bit of the range is set represent an empty set
pub members-empty : (first count : ℕ) (words : List ℕ) → ((k : ℕ) → k < count → bit_of words k ≡ false)
    → members_of first count words ≡ map.empty
members-empty first count words none =
    by_place_is _ first count map.empty (λ k h. get-empty nat_cmp (first + k) ∙ rw (none k h) refl)
    (λ q _. get-empty nat_cmp q)

-- words in which all bits of the range are set represent the set of all numbers
pub members-all : (first count : ℕ) (words : List ℕ) → ((k : ℕ) → k < count → bit_of words k ≡ true)
    → members_of first count words ≡ all_of first count
members-all first count words all =
    by_place_is _ first count (all_of first count) (λ k h. get_at _ first count k h ∙ rw (all k h) refl)
    (λ q out. get_outside _ first count q out)

-- ---- the fields of a set

-- len plus the byte of "b is false" is n if b is true, and n + 1 otherwise, where len is n
are_more : (b : Bool) (len n : ℕ) → len ≡ n → len + bool_byte (not b) ≡ cond b n (n + 1)
are_more b len n h = search rules

module _ (first count len lowest_word : ℕ) (words : List ℕ) (are : AreBits first count len lowest_word words) where
  -- the set that the words represent
  abbrev members : NumberSet
  members = members_of first count words

  -- the number of members is at most the number of numbers in the range
  pub len_in_range : len ≤ count
  len_in_range = omega (arith, are.len_is, len_within (λ k. as_member (bit_of words k)) first count)

  -- no number below the lowest word is a member
  none_below_lowest : (q : ℕ) → q < first + 64 * lowest_word → map.contains_key members q ≡ false
  none_below_lowest q h = grind (arith, common_steps, not_member, none_of_zero)

  module _ (at k : ℕ) (least : IsLeastFrom (bit_of words) at k) where
    -- the least bit that is set from a place on is one of the range
    pub least_in_range : k < count
    least_in_range = grind (arith, common_steps, cases_lt, true≢false)

    -- the number of that bit is a member
    least_is_member : map.contains_key members (first + k) ≡ true
    least_is_member = contains_at first count words k least_in_range ∙ least.passes

    -- no number between the place at which the search began and that bit is a member
    none_between : (q : ℕ) → (first ≤ q → at ≤ q - first) → q < first + k → map.contains_key members q ≡ false
    none_between q from to = not_member first count words q (λ f _. least.before (q - first) (from f) (omega arith))

    -- the least bit from the lowest word on is that of the lowest number
    pub lowest_is : at ≡ 64 * lowest_word → IsLowest members (first + k)
    lowest_is e = grind (arith, common_steps, least_is_member, cases_lt, none_below_lowest, none_between)

    -- the least bit from the place after a number on is that of the next number
    pub next_is : (n : ℕ) → at ≡ n + 1 - first → IsNext members n (first + k)
    next_is n e = grind (arith, common_steps, least_is_member, none_between)

  module _ (at : ℕ) (none : (k : ℕ) → at ≤ k → bit_of words k ≡ false) where
    -- if no bit is set from the lowest word on, there is no number
    pub none_is : at ≡ 64 * lowest_word → members ≡ map.empty
    none_is e = grind (arith, common_steps, members-empty, cases_lt, none_of_zero)

    -- if no bit is set from the place after a number on, there is none above it
    pub no_next : (n : ℕ) → at ≡ n + 1 - first → (q : ℕ) → n < q → map.contains_key members q ≡ false
    no_next n e q after = not_member first count words q (λ f _. none (q - first) (omega arith))

  -- if a bit of the range is set, the fields with the new words, length and lowest word are right
  pub are-insert : (k w : ℕ) → k < count → ChangesBit words (set words (k / 64) w) k true
      → AreBits first count (len + bool_byte (not (bit_of words k))) (min lowest_word (k / 64)) (set words (k / 64) w)
  are-insert k w here change = record {
    in_range = are.in_range;
    room = length-set words (k / 64) w ∙ are.room;
    none_past = λ j h. let ne : j ≢ k = omega arith in change j ∙ rw (ne_eqb j k ne) (are.none_past j h);
    len_is =
        are_more (bit_of words k) _ _ are.len_is
        ∙ sym (ap map.len (members-insert first count words (set words (k / 64) w) k here change)
        ∙ len-insert nat_cmp_total members (first + k) tt
        ∙ ap (λ b. cond b (map.len members) (map.len members + 1)) (contains_at first count words k here));
    within = omega (arith, length-set words (k / 64) w, are.within);
    none_below = λ i h. let ne : i ≢ k / 64 = omega arith in
        get_or-set_other words (k / 64) i w 0 ne ∙ are.none_below i (omega arith);
  }

  -- if a set bit is cleared, the fields with the new words, length and lowest word are right
  pub are-remove : (k w next : ℕ) → k < count → bit_of words k ≡ true → ChangesBit words (set words (k / 64) w) k false
      → lowest_word ≤ next → next ≤ length words
      → ((i : ℕ) → lowest_word ≤ i → i < next → get_or (set words (k / 64) w) i 0 ≡ 0)
      → AreBits first count (len - 1) next (set words (k / 64) w)
  are-remove k w next here bit change from to zeros = record {
    in_range = are.in_range;
    room = length-set words (k / 64) w ∙ are.room;
    none_past = λ j h. let ne : j ≢ k = omega arith in change j ∙ rw (ne_eqb j k ne) (are.none_past j h);
    len_is =
        ap (λ n. n - 1) are.len_is
        ∙ sym (ap map.len (members-remove first count words (set words (k / 64) w) k here change)
        ∙ len-remove nat_cmp_total members (first + k)
        ∙ ap (λ b. cond b (map.len members - 1) (map.len members)) (contains_at first count words k here ∙ bit));
    within = omega (arith, length-set words (k / 64) w);
    none_below = λ i h.
        elim (cases_lt i lowest_word) [
          | inr from ↦ zeros i from h
          | inl below ↦
              elim (cases_eq i (k / 64)) [
                | inl same ↦ absurd (true≢false (sym bit ∙ none_of_zero words k (rw same at (are.none_below i below))))
                | inr ne ↦ get_or-set_other words (k / 64) i w 0 ne ∙ are.none_below i below
              ]
        ];
  }

-- ---- new sets

-- words of zeros represent an empty set, with a lowest word past the last word
pub are-empty : (first count : ℕ) → first + count ≤ 2 ^ 32
    → AreBits first count 0 (length {A = ℕ} (replicate (count / 64 + 1) 0)) (replicate (count / 64 + 1) 0)
are-empty first count range = grind (arith, common_steps, bit_of-zeros, members-empty, len-empty)

-- first_ones represent a set of all numbers of the range, with word 0 as the lowest
pub are-full : (first count : ℕ) → first + count ≤ 2 ^ 32 → AreBits first count count 0 (first_ones count)
are-full first count range =
    grind (arith, common_steps, bit_of-past_ones, members-all, first_ones, bit_of-ones, len-all_of)
