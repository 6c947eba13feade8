-- An NVM subsystem as a value: what commands read and change, without how they are transferred.
use Rattle.std.specs.Prelude.{ℕ, Bool, List, zero, suc, [], ◌∷◌, Option, slice_get}
use Rattle.std.specs.Ordering.{nat_cmp}
use Rattle.std.specs.FinMap as map_of
use Rattle.std.specs.FinSet as set_of
use Rattle.nv_model.specs.declared.identity.IdentityNumbers.{IdentityNumbers}
use Rattle.nv_model.specs.Values.{FeatureRules, FeatureValues}
use Rattle.nv_layout.specs.declared.error_entry.ErrorEntry.{ErrorEntry}
use Rattle.nv_model.specs.declared.format.Format.{Format}
use Rattle.nv_model.specs.declared.namespace.Namespace.{Namespace}
use Rattle.nv_model.specs.declared.smart_base.SmartBase.{SmartBase}

-- what a controller says about itself: its identifier, its texts, its numbers, and whether it can erase by a key
pub record Identity : Type 0 where
  pub cntlid : ℕ
  pub sn : List ℕ
  pub mn : List ℕ
  pub fr : List ℕ
  pub numbers : IdentityNumbers
  pub crypto_erase : Bool

-- maps from NSIDs
abbrev pub Namespaces : Type 0
Namespaces = map_of.FinMap nat_cmp Namespace

-- sets of NSIDs
abbrev pub Nsids : Type 0
Nsids = set_of.FinSet nat_cmp

-- a controller: what its table in the file says, its error log, newest first, how many commands it
-- refused and how many it took, the NSIDs that are attached to it, and the values of its features.
-- A step logs entries without phase tags; the entries of a subsystem in memory have them
pub record Controller : Type 0 where
  pub identity : Identity
  pub rules : FeatureRules
  pub smart : SmartBase
  pub log : List ErrorEntry
  pub refusals : ℕ
  pub commands : ℕ
  pub attached : Nsids
  pub values : FeatureValues

-- a subsystem: the greatest NSID, the capacity in bytes, how metadata can be placed, the name, the
-- formats, the controllers, and the namespaces by their NSIDs
pub record State : Type 0 where
  pub nn : ℕ
  pub tnvmcap : ℕ
  pub mc : ℕ
  pub subnqn : List ℕ
  pub formats : List Format
  pub controllers : List Controller
  pub namespaces : Namespaces

-- controller c, if it exists
abbrev pub controller_at : State → ℕ → Option Controller
controller_at s c = slice_get s.controllers c

-- the NSIDs of a set, in ascending order
abbrev pub ascending : Nsids → List ℕ
ascending ns = map_of.keys ns

-- the allocated NSIDs, in ascending order
abbrev pub allocated_nsids : State → List ℕ
allocated_nsids s = map_of.keys s.namespaces

-- a list with the element at an index changed, and a subsystem with such a controller
abbrev pub changed_at : {A : Type 0} → List A → ℕ → (A → A) → List A
changed_at [] n f = []
changed_at (x ∷ xs) zero f = f x ∷ xs
changed_at (x ∷ xs) (suc n) f = x ∷ changed_at xs n f

-- a subsystem with controller c changed
abbrev pub with_controller : State → ℕ → (Controller → Controller) → State
with_controller s c f = record s { controllers = changed_at s.controllers c f }
