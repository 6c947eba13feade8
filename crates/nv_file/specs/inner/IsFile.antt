-- What holds of whatever a file gives: what no public contract reaches.
use Rattle.std.specs.Prelude.{◌≤◌, length}
use Rattle.nv_file.specs.inner.TopView.{Top}
use Rattle.nv_model.specs.Ranges.{AreTopKeys}

-- a top table: its keys are in range, and it has from 1 to 16 formats and controllers, and at most NN namespaces
pub record IsTop (t : Top) : Type 0 where
  pub version : (1 ≤ t.version) × (t.version ≤ 2)
  pub keys : AreTopKeys t.nn t.tnvmcap t.mc t.subnqn
  pub formats : (1 ≤ length t.formats) × (length t.formats ≤ 16)
  pub controllers : (1 ≤ length t.controllers) × (length t.controllers ≤ 16)
  pub namespaces : length t.namespaces ≤ t.nn
