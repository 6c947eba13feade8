use Rattle.nv_print.proofs.Words.{Data, array, formats_of, items_of}
use Rattle.nv_print.proofs.Words.{map, object_of, on_ok_weaker}
use Rattle.std.proofs.Common.{codes}
use Rattle.nv_print.specs.Records.{fields_of_id_ns, fields_of_lbaf}
use Rattle.nv_print.proofs.TokenLaws.{among_added}
use Rattle.nv_print.proofs.namespace.write_namespace.Goals as goal

pub returns : goal.returns
unfolding fields_of_id_ns
returns c =
    let r = c.args.namespace.now in
    let list : Data = array (items_of (map (λ f. object_of (fields_of_lbaf f)) (formats_of r))) in
    let members = c.id_ns_members-before_lbafs in
    let begun = c.in_ok-begin_object.ensures in
    let name = c.in_ok-key.ensures in
    let list_begun = c.in_ok-begin_array.ensures in
    let list_ended = c.in_ok-end_array.ensures in
    let ended = c.end_object.ensures in
    on_ok_weaker c.end_object.result
    (λ last. among_added (codes "lbafs") (λ f. object_of (fields_of_lbaf f)) (formats_of r) members.result.0
    members.result.1 _ c.args.out.now c.begin_object.new.self c.write_fields.new.out c.key.new.self
    c.begin_array.new.self c.write_formats.new.out c.end_array.new.self c.write_fields-2.new.out c.end_object.new.self
    (members.ensures list) (begun.room.0, begun.ok) c.in_ok-write_fields.ensures (name.room.0, name.ok)
    (list_begun.room.0, list_begun.ok) (rw c.formats_of.ensures at c.in_ok-write_formats.ensures)
    (list_ended.room.0, list_ended.ok) c.in_ok-write_fields-2.ensures (ended.room.0, last)) ended.ok
