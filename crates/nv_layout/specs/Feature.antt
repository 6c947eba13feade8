-- Features: one row for each, as in the section "Feature Specific Information". A feature has one
-- value under selector 0, or one under each of its selectors. The dword of a Set holds the value
-- and, for features with several values, the selector that it is for.
use Rattle.std.specs.Prelude.{ℕ, Bool, true, false, ◌==◌, ◌&&◌, ◌||◌, nat_lt, ◌/◌, ◌%◌, bit_and}
use Rattle.std.specs.Prelude.{List, [], ◌∷◌, length, Option, codes, find}
use Rattle.std.specs.List.{filter, list_any}
use Rattle.nv_layout.specs.Bits.{bits}
use Rattle.nv_layout.specs.declared.feature.Feature.{Feature}
use Rattle.nv_layout.specs.declared.feature.Feature.TheVariants as feature

-- a feature identifier, a name, the bits that the dword of a Set may have, those of them that must
-- be 0 anyway, those that are stored, whether each namespace has a value of its own, and the
-- selectors
pub record FeatureRow : Type 0 where
  pub fid : ℕ
  pub name : List ℕ
  pub mask : ℕ
  pub clear : ℕ
  pub kept : ℕ
  pub per_namespace : Bool
  pub selectors : List ℕ

-- a feature with one value, which keeps each bit of its mask
abbrev pub row : ℕ → List ℕ → ℕ → ℕ → Bool → FeatureRow
row fid name mask clear per_namespace = record {
  fid = fid;
  name = name;
  mask = mask;
  clear = clear;
  kept = mask;
  per_namespace = per_namespace;
  selectors = 0 ∷ [];
}

-- over and under each of nine temperatures: TMPSEL 0 to 8, plus 16 if THSEL is 1
abbrev pub thresholds : List ℕ
thresholds =
    0 ∷ 1 ∷ 2 ∷ 3 ∷ 4 ∷ 5 ∷ 6 ∷ 7 ∷ 8 ∷ 16 ∷ 17 ∷ 18 ∷ 19 ∷ 20 ∷ 21 ∷ 22 ∷ 23 ∷ 24 ∷ []

-- the row of each feature
abbrev pub row_of : Feature → FeatureRow
row_of feature.Arbitration = row 0x01 (codes "Arbitration") 0xffffff07 0 false
row_of feature.PowerManagement = row 0x02 (codes "Power Management") 0xff 0x1f false
row_of feature.TemperatureThreshold = record {
  fid = 0x04;
  name = codes "Temperature Threshold";
  mask = 0x3fffff;
  clear = 0;
  kept = 0xffff;
  per_namespace = false;
  selectors = thresholds;
}
row_of feature.ErrorRecovery = row 0x05 (codes "Error Recovery") 0x1ffff 0 true
row_of feature.VolatileWriteCache = row 0x06 (codes "Volatile Write Cache") 0x1 0 false
row_of feature.InterruptCoalescing = row 0x08 (codes "Interrupt Coalescing") 0xffff 0 false
row_of feature.WriteAtomicityNormal = row 0x0a (codes "Write Atomicity Normal") 0x1 0 false
row_of feature.AsynchronousEventConfiguration =
    row 0x0b (codes "Asynchronous Event Configuration") 0x7fff 0 false

-- every feature, in ascending order of identifiers
abbrev pub features : List Feature
features =
    feature.Arbitration
    ∷ feature.PowerManagement
    ∷ feature.TemperatureThreshold
    ∷ feature.ErrorRecovery
    ∷ feature.VolatileWriteCache
    ∷ feature.InterruptCoalescing
    ∷ feature.WriteAtomicityNormal
    ∷ feature.AsynchronousEventConfiguration
    ∷ []

-- the feature with an identifier
abbrev pub feature_of : ℕ → Option Feature
feature_of fid = find (λ f. (row_of f).fid == fid) features

-- each has a lower identifier than the next
abbrev pub is_ascending : List Feature → Bool
is_ascending [] = true
is_ascending (f ∷ []) = true
is_ascending (f ∷ g ∷ fs) = nat_lt (row_of f).fid (row_of g).fid && is_ascending (g ∷ fs)

-- ---- selectors

-- the selector in a dword: TMPSEL in its low four bits, THSEL in the two above
abbrev pub selector_in : Feature → ℕ → ℕ
selector_in feature.TemperatureThreshold dword = bits 16 6 dword
selector_in f dword = 0

-- one of the feature's selectors
abbrev pub is_selector : Feature → ℕ → Bool
is_selector f s = list_any (λ x. x == s) (row_of f).selectors

-- a Set for selector s is also for x: TMPSEL Fh is for each sensor of that THSEL
abbrev pub is_for : ℕ → ℕ → Bool
is_for s x = (x == s) || ((s % 16 == 15) && (x / 16 == s / 16))

-- the selectors that a Set with this dword is for
abbrev pub selectors_set : Feature → ℕ → List ℕ
selectors_set f dword = filter (is_for (selector_in f dword)) (row_of f).selectors

-- the dword of a Get has a selector of the feature
abbrev pub is_get_selector : Feature → ℕ → Bool
is_get_selector f cdw11 = is_selector f (selector_in f cdw11)

-- ---- values

-- a dword that a Set may have: it is within the mask, the clear bits are 0, and it is for some selector
abbrev pub is_accepted : Feature → ℕ → Bool
is_accepted f dword =
    (bit_and dword (row_of f).mask == dword)
    && (bit_and dword (row_of f).clear == 0)
    && nat_lt 0 (length (selectors_set f dword))

-- the part of it that is stored
abbrev pub stored : Feature → ℕ → ℕ
stored f dword = bit_and dword (row_of f).kept

-- a number that may be a stored value
abbrev pub is_value : Feature → ℕ → Bool
is_value f value =
    (bit_and value (row_of f).kept == value) && (bit_and value (row_of f).clear == 0)
