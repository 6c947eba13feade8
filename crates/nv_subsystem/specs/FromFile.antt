-- The subsystem of a file: nothing was refused or counted yet.
use Rattle.std.specs.Prelude.{ℕ, ◌&&◌, not, List, [], map, Some, Result, Ok, if◌then◌else◌}
use Rattle.std.specs.List.{fold}
use Rattle.std.specs.FinMap as map_of
use Rattle.nv_file.specs.declared.error.SubsystemError.{SubsystemError}
use Rattle.nv_layout.specs.Steps.{◌>>=◌}
use Rattle.nv_file.specs.File.{file}
use Rattle.nv_file.specs.FileValue.{ControllerValue, FileValue, NamespaceValue, is_attached_to}
use Rattle.nv_layout.specs.Feature.{features, row_of}
use Rattle.nv_layout.specs.declared.feature.Feature.{Feature}
use Rattle.nv_model.specs.declared.feature_rule.FeatureRule.{FeatureRule}
use Rattle.nv_model.specs.Change.{Change, changed}
use Rattle.nv_model.specs.Values.{FeatureRules, first_value, FeatureValues, keys_of, recovery_key}
use Rattle.nv_model.specs.WellFormed.{is_supported}
use Rattle.nv_model.specs.State.{Controller, Namespaces, Nsids, State}

-- the namespaces with one more of the file
abbrev pub with_namespace : Namespaces → NamespaceValue → Namespaces
with_namespace namespaces n = map_of.insert namespaces n.nsid n.namespace

-- the rules with one more of the file
abbrev pub with_rule : FeatureRules → FeatureRule → FeatureRules
with_rule rules r = map_of.insert rules r.fid r

-- a key's first value
abbrev pub fill : FeatureRules → Change
fill rules k old = Some (first_value rules k)

-- a supported feature is at its defaults, if it has no value for each namespace
abbrev pub with_default : FeatureRules → ℕ → FeatureValues → Feature → FeatureValues
with_default rules vwc values f =
    if is_supported rules vwc f && not (row_of f).per_namespace
    then changed (fill rules) (keys_of f 0) values
    else values

-- Error Recovery for an attached namespace is at its default
abbrev pub with_recovery : ℕ → FeatureRules → FeatureValues → NamespaceValue → FeatureValues
with_recovery cntlid rules values n =
    if is_attached_to cntlid n
    then map_of.insert values (recovery_key n.nsid) (first_value rules (recovery_key n.nsid))
    else values

-- the rules of a controller of the file, by feature identifier
abbrev pub rules_of : List FeatureRule → FeatureRules
rules_of rules = fold with_rule map_of.empty rules

-- the values of a controller before any namespace is attached
abbrev pub defaults_of : FeatureRules → ℕ → FeatureValues
defaults_of rules vwc = fold (with_default rules vwc) map_of.empty features

-- the attached NSIDs, with the NSID of a namespace if its list names the controller
abbrev pub with_attachment : ℕ → Nsids → NamespaceValue → Nsids
with_attachment cntlid nsids n =
    if is_attached_to cntlid n then map_of.insert nsids n.nsid tt else nsids

-- the controller of the file, which has refused and taken no command
abbrev pub controller_of : List NamespaceValue → ControllerValue → Controller
controller_of namespaces c = record {
  identity = c.identity;
  rules = rules_of c.rules;
  smart = c.smart;
  log = [];
  refusals = 0;
  commands = 0;
  attached = fold (with_attachment c.identity.cntlid) map_of.empty namespaces;
  values = fold (with_recovery c.identity.cntlid (rules_of c.rules))
      (defaults_of (rules_of c.rules) c.identity.numbers.vwc) namespaces;
}

-- the subsystem of a file
abbrev pub state_of : FileValue → State
state_of f = record {
  nn = f.nn;
  tnvmcap = f.tnvmcap;
  mc = f.mc;
  subnqn = f.subnqn;
  formats = f.formats;
  controllers = map (controller_of f.namespaces) f.controllers;
  namespaces = fold with_namespace map_of.empty f.namespaces;
}

-- the subsystem of a file, or the file's first fault
unfoldable pub subsystem : List ℕ → Result State SubsystemError
subsystem bytes = do
  f ← file bytes
  Ok (state_of f)
