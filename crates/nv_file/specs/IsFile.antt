-- What holds of whatever a file gives.
use Rattle.std.specs.Prelude.{◌≡◌, ◌≢◌, ℕ, pos, ◌≤◌, false, List, length, sum_by, IsSomeAnd, All, Any}
use Rattle.std.specs.Prelude.{AllPairs, slice_get}
use Rattle.nv_model.specs.declared.format.Format.{Format}
use Rattle.nv_file.specs.FileValue.{ControllerValue, NamespaceValue, FileValue}
use Rattle.nv_model.specs.Ranges.{AreTopKeys, IsFormat, IsFeatureRule, IsSmart, IsIdentity, IsInFormat}

-- a controller: its parts are in range, and no two rules are for the same feature
pub record IsControllerEntry (c : ControllerValue) : Type 0 where
  pub identity : IsIdentity c.identity
  pub rules : All IsFeatureRule c.rules
  pub fids : AllPairs (λ r s. r.fid ≢ s.fid) c.rules
  pub smart : IsSmart c.smart

-- a namespace: its NSID is from 1 to NN, and it is in one of the formats
pub record IsNamespaceEntry (nn mc : ℕ) (formats : List Format) (n : NamespaceValue) : Type 0 where
  pub nsid : (1 ≤ n.nsid) × (n.nsid ≤ nn)
  pub format : IsSomeAnd (slice_get formats n.namespace.format) (λ f. IsInFormat mc f n.namespace)

-- The list names controllers, each once, and at most one if the namespace is private.
pub record IsAttached (controllers : List ControllerValue) (n : NamespaceValue) : Type 0 where
  pub known : All (λ z. Any (λ c. pos c.identity.cntlid ≡ z) controllers) n.controllers
  pub distinct : AllPairs (λ y z. y ≢ z) n.controllers
  pub private : n.namespace.shared ≡ false → length n.controllers ≤ 1

-- a file: its parts are in range, no two controllers or namespaces have the same number, the capacities fit, and the
-- attachments are allowed
pub record IsFile (f : FileValue) : Type 0 where
  pub keys : AreTopKeys f.nn f.tnvmcap f.mc f.subnqn
  pub format_count : (1 ≤ length f.formats) × (length f.formats ≤ 16)
  pub formats : All IsFormat f.formats
  pub controller_count : (1 ≤ length f.controllers) × (length f.controllers ≤ 16)
  pub controllers : All IsControllerEntry f.controllers
  pub cntlids : AllPairs (λ c d. c.identity.cntlid ≢ d.identity.cntlid) f.controllers
  pub namespace_count : length f.namespaces ≤ f.nn
  pub namespaces : All (IsNamespaceEntry f.nn f.mc f.formats) f.namespaces
  pub nsids : AllPairs (λ m n. m.nsid ≢ n.nsid) f.namespaces
  pub capacities : sum_by (λ n. n.namespace.capacity) f.namespaces ≤ f.tnvmcap
  pub attachments : All (IsAttached f.controllers) f.namespaces
