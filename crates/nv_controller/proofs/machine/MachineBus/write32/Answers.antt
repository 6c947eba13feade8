use Rattle.std.proofs.Common.{◌≡◌, ◌∙◌, ◌<◌, ap, length, rules, subst, sym}
use Rattle.nv_register.specs.declared.register_bank.RegisterBank.{RegisterBank}
use Rattle.nv_controller.proofs.Words.{bank_at, get_or_default, if◌then◌else◌, machine_written, MachineValue, new_bank}
use Rattle.nv_controller.proofs.Words.{reset, stops_at, untagged}
use Rattle.nv_controller.proofs.BusLaws.{is_bus, reset_if_untagged, well_formed_bus}
use Rattle.nv_controller.proofs.machine.MachineBus.write32.Goals as goal

pub returns-clause-tags : goal.returns-clause-tags
returns-clause-tags c =
    let s = c.self.inside.subsystem in
    let banks = c.self.inside.banks.items in
    let at : c.index_mut-bank.result.now ≡ bank_at banks c.args.ctrl =
    c.index_mut-bank.ensures.value
    ∙ get_or_default banks c.args.ctrl c.index_mut-bank.result.now new_bank
    (subst (λ (m : MachineValue). c.args.ctrl < length m.banks) (sym c.self.view_is) c.requires) in
    c.write_bank.ensures.state
    ∙ ap (λ (b : RegisterBank). if stops_at b c.args.offset c.args.dword then reset s c.args.ctrl else s) at
    ∙ ap (λ m. machine_written m c.args.ctrl c.args.offset c.args.dword) c.self.view_is

pub returns-clause-state : goal.returns-clause-state
returns-clause-state c =
    ap untagged (returns-clause-tags c) ∙ reset_if_untagged _ c.args.self.now.state c.args.ctrl

pub returns-clause-bus : goal.returns-clause-bus
returns-clause-bus c bus =
    is_bus _ (c.write_bank.ensures.well_formed
    (well_formed_bus c.self.inside.subsystem _ (ap (λ (m : MachineValue). m.state) c.self.view_is) bus)) (search rules)
