use Rattle.std.proofs.Common.{◌≢◌}
use Rattle.nv_file.specs.TableChecks.{feature_checks, feature_value}
use Rattle.nv_file.proofs.Words.{All, AllPairs, fid_of, IsFeatureRule}
use Rattle.nv_file.proofs.ReadTo.{IsReadTo}
use Rattle.nv_file.proofs.feature_rule.features_of.Given as goal

abbrev pub invariant-loop-table : goal.invariant-loop-table
invariant-loop-table l = record {
  read : IsReadTo fid_of (feature_checks l.version) (feature_value l.wctemp) l.tables l.table-index l.rules.items;
  sound : All IsFeatureRule l.rules.items;
  fids : AllPairs (λ r s. r.fid ≢ s.fid) l.rules.items;
}
