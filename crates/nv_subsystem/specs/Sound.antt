-- What holds for the parts of every subsystem in memory, so that its calls are safe.
use Rattle.std.specs.Prelude.{◌≡◌, ℕ, ◌+◌, ◌<◌, ◌≤◌, List, length, Some, All}
use Rattle.std.specs.FinMap as map_of
use Rattle.nv_bits.specs.VecMap.{RangeMap}
use Rattle.nv_subsystem.specs.declared.controller.Controller.{Controller}
use Rattle.nv_model.specs.declared.format.Format.{Format}
use Rattle.nv_model.specs.declared.namespace.Namespace.{Namespace}
use Rattle.nv_layout.specs.Limits.{most_nsids}

-- a bit for each NSID, room for a value of each, room for ELPE + 1 log entries, and a greatest
-- transfer within its limit
pub record IsSized (nn : ℕ) (x : Controller) : Type 0 where
  pub first : x.attached.first ≡ 1
  pub count : x.attached.count ≡ nn
  pub values : x.values.nn ≡ nn
  pub log : x.log.most ≡ x.identity.numbers.elpe + 1
  pub mdts : x.identity.numbers.mdts ≤ 8

-- a slot for each NSID, and formats and controllers within their limits
pub record IsSound (slots : RangeMap Namespace) (table : List Format) (cs : List Controller)
    : Type 0 where
  pub first : slots.first ≡ 1
  pub count : slots.count ≤ most_nsids
  pub formats : (1 ≤ length table) × (length table ≤ 16)
  pub block_sizes : All (λ f. f.lbads ≤ 16) table
  pub in_formats : (n : ℕ) (x : Namespace) → map_of.get slots.values n ≡ Some x → x.format < 16
  pub few : length cs ≤ 16
  pub controllers : All (IsSized slots.count) cs
