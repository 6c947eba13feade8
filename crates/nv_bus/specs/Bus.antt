-- The value that a bus represents.
use Rattle.std.specs.Prelude.{◌≡◌, ℕ, Bool, List, if◌then◌else◌, length, map, slice_index_or}
use Rattle.nv_register.specs.RegisterBank.{new_bank, stops_at}
use Rattle.nv_register.specs.Readiness.{is_enabled}
use Rattle.nv_register.specs.declared.register_bank.RegisterBank.{RegisterBank}
use Rattle.nv_model.specs.Step.{reset}
use Rattle.nv_model.specs.State.{State}
use Rattle.nv_model.specs.WellFormed.{IsWellFormed}

-- the subsystem, and for each controller its registers and rings
pub record BusValue : Type 0 where
  pub state : State
  pub banks : List RegisterBank

-- the registers of controller c, which are new registers past the last controller
abbrev pub bank_at : List RegisterBank → ℕ → RegisterBank
bank_at banks c = slice_index_or banks c new_bank

-- which controllers are enabled
abbrev pub enabled_in : List RegisterBank → List Bool
enabled_in banks = map (λ p. is_enabled p.readiness) banks

-- the subsystem after a write: clearing an EN that was 1 resets the controller
abbrev pub state_written : BusValue → ℕ → ℕ → ℕ → State
state_written b c offset x =
    if stops_at (bank_at b.banks c) offset x then reset b.state c else b.state

-- a well-formed subsystem, and registers for each of its controllers
pub record IsBus (b : BusValue) : Type 0 where
  pub state : IsWellFormed b.state
  pub banks : length b.banks ≡ length b.state.controllers
