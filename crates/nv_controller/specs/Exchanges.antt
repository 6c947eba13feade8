-- The entries that a controller takes in a turn, with their completions.
use Rattle.std.specs.Prelude.{ℕ, zero, suc, List, [], ◌∷◌, ◌++◌}
use Rattle.nv_register.specs.declared.readiness.Readiness.{Readiness}
use Rattle.nv_register.specs.declared.readiness.Readiness.TheVariants.{Off, Failed, Ready}
use Rattle.nv_model.specs.State.{State}
use Rattle.nv_bus.specs.Bus.{bank_at}
use Rattle.nv_bus.specs.Entry.{Scene, exchange_in, scene}
use Rattle.nv_bus.specs.declared.exchange.Exchange.{Exchange}
use Rattle.nv_controller.specs.Machine.{MachineValue}
use Rattle.nv_controller.specs.Tags.{scenes_after, untagged_scene}

-- what controller c takes with this number of entries, one after another
abbrev pub exchanges : ℕ → ℕ → Scene → List Exchange
exchanges zero c x = []
exchanges (suc k) c x = exchanges k c x ++ exchange_in c (untagged_scene (scenes_after k c x)) ∷ []

-- the same, depending on whether it is ready
abbrev pub exchanges_by : Readiness → ℕ → ℕ → State → List ℕ → List Exchange
exchanges_by Off count c s bytes = []
exchanges_by Failed count c s bytes = []
exchanges_by (Ready rings fatal) count c s bytes = exchanges count c (scene s rings bytes)

-- what controller c of a machine took in a turn of this number of entries
abbrev pub turn_exchanges : ℕ → ℕ → MachineValue → List ℕ → List Exchange
turn_exchanges count c m bytes = exchanges_by (bank_at m.banks c).readiness count c m.state bytes
