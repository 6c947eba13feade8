use Rattle.nv_print.proofs.Words.{[], ◌++◌, ◌∙◌, ◌≡◌, ap, node_of, on_ok_weaker, rules, string_bytes}
use Rattle.nv_print.proofs.TokenLaws.{device_added}
use Rattle.nv_print.proofs.devices.write_device.Goals as goal

pub returns-clause-value : goal.returns-clause-value
returns-clause-value c =
    let d = c.args.device.now in
    let cleared : string_bytes c.clear.new.self ≡ [] = search rules in
    let name =
    c.deref.ensures ∙ c.in_ok-push_node.ensures ∙ ap (λ t. t ++ node_of d.controller d.nsid) cleared in
    let begun = c.in_ok-begin_object.ensures in
    let ended = c.end_object.ensures in
    on_ok_weaker c.end_object.result
    (λ last. device_added d c.args.out.now c.begin_object.new.self c.write_decimal.new.out c.write_decimal-2.new.out
    c.write_text.new.out c.write_decimal-3.new.out c.write_text-2.new.out c.write_text-3.new.out c.end_object.new.self
    (begun.room.0, begun.ok) c.in_ok-write_decimal.ensures c.in_ok-write_decimal-2.ensures
    (rw c.requires.model at c.in_ok-write_text.ensures) (rw c.from.ensures at c.in_ok-write_decimal-3.ensures)
    (rw name at c.in_ok-write_text-2.ensures) (rw c.requires.serial at c.in_ok-write_text-3.ensures)
    (ended.room.0, last)) ended.ok
