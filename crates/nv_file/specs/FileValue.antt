-- What a file holds, regardless of how it is stored in memory.
use Rattle.std.specs.Prelude.{ℕ, ℤ, pos, Bool, List, map, string_bytes}
use Rattle.std.specs.List.{list_any}
use Rattle.std.specs.Ordering.{int_eq}
use Rattle.nv_model.specs.declared.format.Format.{Format}
use Rattle.nv_model.specs.declared.namespace.Namespace.{Namespace}
use Rattle.nv_model.specs.declared.feature_rule.FeatureRule.{FeatureRule}
use Rattle.nv_model.specs.declared.smart_base.SmartBase.{SmartBase}
use Rattle.nv_file.specs.declared.controller.ControllerEntry.{ControllerEntry}
use Rattle.nv_file.specs.declared.namespace.NamespaceEntry.{NamespaceEntry}
use Rattle.nv_file.specs.declared.file.File.{File}
use Rattle.nv_model.specs.State.{Identity}
use Rattle.nv_model.specs.IdentityView.{identity_view}

-- a controller: its identity, the rules of its features, and its health log
pub record ControllerValue : Type 0 where
  pub identity : Identity
  pub rules : List FeatureRule
  pub smart : SmartBase

-- a namespace: its NSID, its data, and the identifiers of the controllers to which it is attached
pub record NamespaceValue : Type 0 where
  pub nsid : ℕ
  pub namespace : Namespace
  pub controllers : List ℤ

-- a file: the keys of its top table, and its formats, controllers and namespaces
pub record FileValue : Type 0 where
  pub nn : ℕ
  pub tnvmcap : ℕ
  pub mc : ℕ
  pub subnqn : List ℕ
  pub formats : List Format
  pub controllers : List ControllerValue
  pub namespaces : List NamespaceValue

-- the value of a controller in the code
abbrev pub controller_entry_view : ControllerEntry → ControllerValue
controller_entry_view c =
    record { identity = identity_view c.identity; rules = c.rules.items; smart = c.smart }

-- the value of a namespace in the code
abbrev pub namespace_entry_view : NamespaceEntry → NamespaceValue
namespace_entry_view n =
    record { nsid = n.nsid; namespace = n.namespace; controllers = n.controllers.items }

-- the value of a file in the code
abbrev pub file_view : File → FileValue
file_view f = record {
  nn = f.nn;
  tnvmcap = f.tnvmcap;
  mc = f.mc;
  subnqn = string_bytes f.subnqn;
  formats = f.formats.items;
  controllers = map controller_entry_view f.controllers.items;
  namespaces = map namespace_entry_view f.namespaces.items;
}

-- the list of the namespace names the controller
abbrev pub is_attached_to : ℕ → NamespaceValue → Bool
is_attached_to cntlid n = list_any (λ z. int_eq z (pos cntlid)) n.controllers
