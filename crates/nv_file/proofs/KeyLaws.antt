-- The checks of one key with a given value.
use Rattle.std.proofs.Common.{◌≡◌, ◌∙◌, ℕ, Bool, true, false, ◌&&◌, List, [], length, Option, Some, None, is_some}
use Rattle.std.proofs.Common.{arith, if◌then◌else◌, unwrap_or, nat_le, refl, sym, ap}
use Rattle.nv_file.specs.Check.{check, first_error}
use Rattle.nv_file.specs.KeyChecks.{of_kind, tables, tables_at}
use Rattle.nv_file.proofs.Words.{as_tables, Data, get_member, in_limits, Key, key_text, Members, Range, SubsystemError}
use Rattle.nv_file.proofs.Words.{TableName}

-- ---- something is of a kind, or is not

-- a check for a value of a kind has no fault if there is one
pub is_of_kind : {A : Type 0} (o : Option A) (x : A) (e : SubsystemError) → o ≡ Some x
    → first_error (check (is_some o) e) ≡ None
unfolding first_error check
is_of_kind o x e h = rw h refl

-- a check for a value of a kind has its fault if there is none
pub is_not_of_kind : {A : Type 0} (o : Option A) (e : SubsystemError) → o ≡ None
    → first_error (check (is_some o) e) ≡ Some e
unfolding first_error check
is_not_of_kind o e h = rw h refl

-- if the check for a list passed, the list that was found, or else an empty one, is the list
list_of_kind : {A : Type 0} (o : Option (List A)) (e : SubsystemError) (found : List A)
    → first_error (check (is_some o) e) ≡ None → found ≡ unwrap_or o [] → o ≡ Some found
unfolding first_error check
list_of_kind (Some xs) e found passes is = ap (λ ys. Some ys) (sym is)
list_of_kind None e found passes is = absurd (cc passes)

-- ---- something is allowed, or isn't

-- a check of limits has no fault if they are kept
pub is_in_limits : (t : TableName) (k : Key) (b : Bool) → b ≡ true → first_error (in_limits t k b) ≡ None
unfolding first_error check
is_in_limits t k b h = rw h refl

-- if a check of limits has no fault, they are kept
pub was_in_limits : (t : TableName) (k : Key) (b : Bool) → first_error (in_limits t k b) ≡ None → b ≡ true
unfolding first_error check
was_in_limits t k b passes = grind arith

-- if a check of limits has a fault, they aren't kept
pub was_out_of_limits : (t : TableName) (k : Key) (b : Bool) (e : SubsystemError)
    → first_error (in_limits t k b) ≡ Some e → b ≡ false
unfolding first_error check
was_out_of_limits t k b e fails = grind arith

-- if a check of limits fails with e, another check of the same key that fails also fails with e
pub same_fault : (t : TableName) (k : Key) (a b : Bool) (e : SubsystemError)
    → first_error (in_limits t k a) ≡ Some e → b ≡ false → first_error (in_limits t k b) ≡ Some e
same_fault t k a b e fails h =
    ap (λ x. first_error (in_limits t k x)) (h ∙ sym (was_out_of_limits t k a e fails)) ∙ fails

-- ---- a key has a list of tables

-- for a key with a list of tables, only their number is left to check, and they are the tables at the key
pub tables_there : (t : TableName) (k : Key) (most : ℕ) (m : Members) (d : Data) (e : SubsystemError)
    (found : List Members) (b : Bool) → get_member (key_text k) m ≡ Some d
    → first_error (check (is_some (as_tables d)) e) ≡ None → found ≡ unwrap_or (as_tables d) []
    → (nat_le 1 (length found) && nat_le (length found) most) ≡ b
    → (first_error (tables t k most m) ≡ (if b then None else Some (Range t k))) × (found ≡ tables_at k m)
unfolding tables of_kind tables_at first_error check
tables_there t k most m d e found b there passes are counts =
    let is = list_of_kind (as_tables d) e found passes are in
    (rw there (rw is (rw counts refl)), rw there (rw is refl))

-- ---- one of a list is there

-- a check for an element that must be there has no fault if it is there
pub is_there : {A : Type 0} (t : TableName) (k : Key) (o : Option A) (x : A) → o ≡ Some x
    → (first_error (in_limits t k (is_some o)) ≡ None) × (Some x ≡ o)
is_there t k o x h = (is_of_kind o x (Range t k) h, sym h)
