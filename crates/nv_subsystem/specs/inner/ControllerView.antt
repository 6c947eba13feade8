-- The controllers of the code as values, and how they change.
use Rattle.std.specs.Prelude.{◌≡◌, ℕ, All, List, map}
use Rattle.nv_model.specs.IdentityView.{identity_view}
use Rattle.nv_model.specs.State.{Controller}
use Rattle.nv_subsystem.specs.Sound.{IsSized}
use Rattle.nv_subsystem.specs.declared.controller.Controller as controllers

-- the value of a controller in the code
abbrev pub controller_view : controllers.Controller → Controller
controller_view x = record {
  identity = identity_view x.identity;
  rules = x.rules.values;
  smart = x.smart;
  log = x.log.entries;
  refusals = x.refusals;
  commands = x.commands;
  attached = x.attached.members;
  values = x.values.values;
}

-- a controller changes by f, and its parts keep their sizes
pub record Becomes (f : Controller → Controller) (old new : controllers.Controller) : Type 0 where
  pub view : controller_view new ≡ f (controller_view old)
  pub sized : (nn : ℕ) → IsSized nn old → IsSized nn new

-- each controller changes by f, and its parts keep their sizes
pub record EachBecomes (f : Controller → Controller) (old new : List controllers.Controller)
    : Type 0 where
  pub views : map controller_view new ≡ map f (map controller_view old)
  pub sized : (nn : ℕ) → All (IsSized nn) old → All (IsSized nn) new
