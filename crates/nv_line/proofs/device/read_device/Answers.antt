use Rattle.std.proofs.Common.{◌≡◌, ◌∙◌, ℕ, ap, lit<, option_and_then, option_map, sym, Bor, List, None, Option, Some}
use Rattle.nv_line.specs.Device.{controller_index, namespace_address}
use Rattle.nv_line.proofs.Strip.{at_controller, device_at, named, no_name, with_n, without_n}
use Rattle.nv_line.proofs.device.read_device.Goals as goal
use Rattle.nv_line.proofs.device.read_device.Goals.{in-Some+in_ok-decimal-in-Some, in-None}

pub returns-in_err-address-clause-value : goal.returns-in_err-address-clause-value
returns-in_err-address-clause-value c =
    c.from_residual.ensures
    ∙ device_at c.args.controllers c.args.text.now None _ c.strip_prefix.ensures.cases c.in_err-address.was

pub returns-in_err-decimal-in-Some-clause-value : goal.returns-in_err-decimal-in-Some-clause-value
returns-in_err-decimal-in-Some-clause-value c =
    let n = c.args.controllers in
    let x = c.in-Some.x.now in
    let y = c.in-Some.y.now in
    c.from_residual-in_err-decimal-in-Some.ensures
    ∙ no_name y (controller_index n x) (sym c.decimal.ensures ∙ c.in_err-decimal-in-Some.was)
    ∙ with_n n c.in_ok-address.address.now x y (c.in-Some.ensures.byte (lit< tt) (λ w o h. h))
    ∙ device_at n c.args.text.now (Some c.in_ok-address.address) _ c.strip_prefix.ensures.cases c.in_ok-address.was

pub returns-in_err-controller-clause-value : goal.returns-in_err-controller-clause-value
returns-in_err-controller-clause-value c =
    let n = c.args.controllers in
    let address = c.in_ok-address.address.now in
    let whole = Some c.in_ok-address.address in
    let at = device_at n c.args.text.now whole _ c.strip_prefix.ensures.cases c.in_ok-address.was in
    let none = sym c.controller_index.ensures.value ∙ c.in_err-controller.was in
    elim c.match-split_once.branch [
      | in-Some+in_ok-decimal-in-Some w ↦
          let x = w.in-Some.x.now in
          let y = w.in-Some.y.now in
          let none : controller_index n x ≡ None =
          ap (λ (p : Bor (List ℕ) × Option ℕ). controller_index n p.0.now) (sym w.nsid-is) ∙ none in
          c.from_residual-in_err-controller.ensures
          ∙ ap (option_and_then (namespace_address y)) (sym none)
          ∙ with_n n address x y (w.in-Some.ensures.byte (lit< tt) (λ w o h. h)) ∙ at
      | in-None w ↦
          let none : controller_index n address ≡ None =
          ap (λ (p : Bor (List ℕ) × Option ℕ). controller_index n p.0.now) (sym w.nsid-is) ∙ none in
          c.from_residual-in_err-controller.ensures
          ∙ ap (option_map (at_controller None)) (sym none)
          ∙ without_n n address (w.in-None.ensures.byte (lit< tt) (λ w o h. h)) ∙ at
    ]

pub returns-clause-value : goal.returns-clause-value
returns-clause-value c =
    let n = c.args.controllers in
    let address = c.in_ok-address.address.now in
    let whole = Some c.in_ok-address.address in
    let at = device_at n c.args.text.now whole _ c.strip_prefix.ensures.cases c.in_ok-address.was in
    let k = c.in_ok-controller.controller in
    let some = sym c.controller_index.ensures.value ∙ c.in_ok-controller.was in
    elim c.match-split_once.branch [
      | in-Some+in_ok-decimal-in-Some w ↦
          let x = w.in-Some.x.now in
          let y = w.in-Some.y.now in
          let some : controller_index n x ≡ Some k =
          ap (λ (p : Bor (List ℕ) × Option ℕ). controller_index n p.0.now) (sym w.nsid-is) ∙ some in
          named y k _ c.match-split_once.nsid.1 (ap (λ (p : Bor (List ℕ) × Option ℕ). p.1) w.nsid-is)
          (sym w.decimal.ensures ∙ w.in_ok-decimal-in-Some.was)
          ∙ ap (option_and_then (namespace_address y)) (sym some)
          ∙ with_n n address x y (w.in-Some.ensures.byte (lit< tt) (λ w o h. h)) ∙ at
      | in-None w ↦
          let some : controller_index n address ≡ Some k =
          ap (λ (p : Bor (List ℕ) × Option ℕ). controller_index n p.0.now) (sym w.nsid-is) ∙ some in
          ap (λ (p : Bor (List ℕ) × Option ℕ). Some (at_controller p.1 k)) w.nsid-is
          ∙ ap (option_map (at_controller None)) (sym some)
          ∙ without_n n address (w.in-None.ensures.byte (lit< tt) (λ w o h. h)) ∙ at
    ]
