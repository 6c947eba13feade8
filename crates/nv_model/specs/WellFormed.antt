-- What holds for every subsystem from a file, and after every command; the unallocated capacity,
-- and the features that a controller supports.
use Rattle.std.specs.Prelude.{ℕ, ◌-◌, ◌/◌, ◌^◌, List, sum_by, slice_get, Bool, true, ◌==◌, Option, Some}
use Rattle.std.specs.Prelude.{None, bit_and, if◌then◌else◌, ◌≡◌, ◌≢◌, ◌+◌, ◌≤◌, ◌&&◌, min, false, length}
use Rattle.std.specs.Prelude.{count_by, All, AllPairs, IsSomeAnd}
use Rattle.std.specs.Option.{option_map_or}
use Rattle.std.specs.FinMap as map_of
use Rattle.nv_model.specs.State.{State, Namespaces, Controller, Nsids}
use Rattle.nv_model.specs.declared.format.Format.{Format}
use Rattle.nv_model.specs.declared.namespace.Namespace.{Namespace}
use Rattle.nv_layout.specs.Feature.{feature_of, row_of, is_selector, is_value}
use Rattle.nv_layout.specs.declared.feature.Feature.{Feature}
use Rattle.nv_layout.specs.declared.feature.Feature.TheVariants.{TemperatureThreshold, VolatileWriteCache}
use Rattle.nv_model.specs.Values.{FeatureRules, FeatureValues, ValueKey}
use Rattle.nv_model.specs.Ranges.{AreTopKeys, IsFeatureRule, IsFormat, IsIdentity, IsInFormat, IsSmart, greatest_count}
use Rattle.nv_model.specs.declared.feature_rule.FeatureRule.{FeatureRule}
use Rattle.nv_model.specs.declared.feature_value.FeatureValue.{FeatureValue}
use Rattle.nv_layout.specs.ErrorEntry.{ErrorEntryFits}

-- the sum of the capacities of all namespaces
abbrev pub used : Namespaces → ℕ
used namespaces = sum_by (λ x. x.capacity) (map_of.values namespaces)

-- the unallocated capacity: UNVMCAP
abbrev pub unallocated : State → ℕ
unallocated s = s.tnvmcap - used s.namespaces

-- the size of a namespace in logical blocks of its format, rounded down
abbrev pub blocks : List Format → Namespace → ℕ
blocks formats x = option_map_or (λ f. x.capacity / 2 ^ f.lbads) (slice_get formats x.format) 0

-- whether a feature is supported, by the file's rules and VWC: Temperature Threshold if the file has a
-- table for it, Volatile Write Cache if there is such a cache (VWC bit 0), and every other one
abbrev pub is_supported : FeatureRules → ℕ → Feature → Bool
is_supported rules vwc TemperatureThreshold =
    map_of.contains_key rules (row_of TemperatureThreshold).fid
is_supported rules vwc VolatileWriteCache = bit_and vwc 1 == 1
is_supported rules vwc f = true

-- the supported feature with an identifier
abbrev pub supported : FeatureRules → ℕ → ℕ → Option Feature
supported rules vwc fid =
    option_map_or (λ f. if is_supported rules vwc f then Some f else None) (feature_of fid) None

-- each rule has its feature identifier as its key
abbrev pub AreRules : FeatureRules → Type 0
AreRules rules = (fid : ℕ) (r : FeatureRule) → map_of.get rules fid ≡ Some r
    → IsFeatureRule r × (r.fid ≡ fid)

-- the values that a feature may have, including the saved one
abbrev pub may_have : Feature → FeatureValue → Bool
may_have f x = is_value f x.current && option_map_or (is_value f) x.saved true

-- a value that the feature of its key may have
abbrev pub is_value_at : ValueKey → FeatureValue → Bool
is_value_at k x = option_map_or (λ f. may_have f x) (feature_of k.fid) false

-- the NSIDs under which a feature has values: the attached ones if each namespace has a value of
-- its own, and otherwise only 0
abbrev pub is_nsid_of : Nsids → Feature → ℕ → Bool
is_nsid_of attached f nsid =
    if (row_of f).per_namespace then map_of.contains_key attached nsid else nsid == 0

-- a supported feature has a value under each of its selectors
abbrev pub has_value : FeatureRules → ℕ → Nsids → ValueKey → Bool
has_value rules vwc attached k = option_map_or
    (λ f. is_supported rules vwc f && (is_selector f k.selector && is_nsid_of attached f k.nsid))
    (feature_of k.fid) false

-- exactly these keys have a value, which their feature may have
pub record AreValues (rules : FeatureRules) (vwc : ℕ) (attached : Nsids) (values : FeatureValues)
    : Type 0 where
  pub keys : (k : ValueKey) → map_of.contains_key values k ≡ has_value rules vwc attached k
  pub sound : (k : ValueKey) (x : FeatureValue) → map_of.get values k ≡ Some x
      → is_value_at k x ≡ true

-- a controller of the subsystem: its table in the file is in range, it has only namespaces of the
-- subsystem, and its log has the newest of its refusals
pub record IsController (namespaces : Namespaces) (x : Controller) : Type 0 where
  pub identity : IsIdentity x.identity
  pub rules : AreRules x.rules
  pub smart : IsSmart x.smart
  pub log : length x.log ≡ min x.refusals (x.identity.numbers.elpe + 1)
  pub entries : All ErrorEntryFits x.log
  pub refusals : x.refusals ≤ greatest_count
  pub commands : x.commands ≤ greatest_count
  pub attached : (n : ℕ) → map_of.contains_key x.attached n ≡ true
      → map_of.contains_key namespaces n ≡ true
  pub values : AreValues x.rules x.identity.numbers.vwc x.attached x.values

-- a namespace of the subsystem
pub record IsNamespace (s : State) (n : ℕ) (x : Namespace) : Type 0 where
  pub nsid : (1 ≤ n) × (n ≤ s.nn)
  pub format : IsSomeAnd (slice_get s.formats x.format) (λ f. IsInFormat s.mc f x)
  pub private : x.shared ≡ false
      → count_by (λ c. map_of.contains_key c.attached n) s.controllers ≤ 1

-- a subsystem: its parts are in range, its controllers differ, and its namespaces fit the capacity
pub record IsWellFormed (s : State) : Type 0 where
  pub keys : AreTopKeys s.nn s.tnvmcap s.mc s.subnqn
  pub format_count : (1 ≤ length s.formats) × (length s.formats ≤ 16)
  pub formats : All IsFormat s.formats
  pub controller_count : (1 ≤ length s.controllers) × (length s.controllers ≤ 16)
  pub controllers : All (IsController s.namespaces) s.controllers
  pub cntlids : AllPairs (λ c d. c.identity.cntlid ≢ d.identity.cntlid) s.controllers
  pub namespaces : (n : ℕ) (x : Namespace) → map_of.get s.namespaces n ≡ Some x → IsNamespace s n x
  pub capacities : used s.namespaces ≤ s.tnvmcap
