-- A subsystem with one controller changed.
use Rattle.std.proofs.Common.{◌≡◌, ◌∙◌, ℕ, ◌<◌, ap, sym, arith, List, length, map, set, get_or}
use Rattle.nv_subsystem.specs.declared.controller.Controller as code
use Rattle.nv_model.proofs.ChangedAtLaws.{views_changed}
use Rattle.nv_subsystem.proofs.Words.{Controller, controller_view, length-map, State, with_controller}

-- the state with these controllers
abbrev pub with_controllers : State → List Controller → State
with_controllers s cs = record s { controllers = cs }

-- writing a controller whose value is f of the old one's gives the state with that controller changed by f
pub controller_written : (s fields : State) (xs : List code.Controller) (i : ℕ)
    (old new : code.Controller) (f : Controller → Controller)
    → with_controllers fields (map controller_view xs) ≡ s → i < length s.controllers
    → old ≡ get_or xs i old → controller_view new ≡ f (controller_view old)
    → with_controllers fields (map controller_view (set xs i new)) ≡ with_controller s i f
controller_written s fields xs i old new f is inside at e =
    let len : length s.controllers ≡ length xs =
    ap (λ t. length t.controllers) (sym is) ∙ length-map xs controller_view in
    let h : i < length xs = omega arith in
    ap (with_controllers fields) (views_changed controller_view f xs i new old h
    (e ∙ ap (λ x. f (controller_view x)) at))
    ∙ ap (λ t. with_controller t i f) is
