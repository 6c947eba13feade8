use Rattle.std.proofs.Common.{◌∙◌, ap, rules, sym}
use Rattle.nv_controller.proofs.Words.{completion_of, limit_untagged, scene, untagged}
use Rattle.nv_controller.proofs.EntryLaws.{completed, exchanged, tagged_one, taken_one}
use Rattle.nv_controller.proofs.entry.take_one.Goals as goal

pub returns-clause-one : goal.returns-clause-one
returns-clause-one g c =
    let e = c.answer_entry-command_result in
    taken_one c.args.ctrl (scene c.args.subsystem.now c.args.rings.now (g.M.PagedMemory.bytes c.args.mem.now))
    c.unwrap-entry.result (g.M.PagedMemory.page_len c.args.mem.now) _ c.head.result (search rules) (search rules)
    (sym (limit_untagged c.args.subsystem.now c.args.ctrl)) (search rules) _
    (completion_of c.unwrap-entry.result.cid c.head.result e.result) (g.M.PagedMemory.bytes e.new.mem)
    e.ensures.state e.ensures.moved (search rules) (ap (completion_of _ _) e.ensures.command_result) (search rules)

pub returns-clause-tagged : goal.returns-clause-tagged
returns-clause-tagged g c =
    let e = c.answer_entry-command_result in
    tagged_one c.args.ctrl (scene c.args.subsystem.now c.args.rings.now (g.M.PagedMemory.bytes c.args.mem.now))
    c.unwrap-entry.result (g.M.PagedMemory.page_len c.args.mem.now) _ c.head.result (search rules) (search rules)
    (sym (limit_untagged c.args.subsystem.now c.args.ctrl)) (search rules) _ _
    (completion_of c.unwrap-entry.result.cid c.head.result e.result) (g.M.PagedMemory.bytes e.new.mem)
    (search rules) e.ensures.tagged e.ensures.bytes (search rules) (ap (completion_of _ _) e.ensures.command_result)
    (search rules)

pub returns-clause-exchange : goal.returns-clause-exchange
returns-clause-exchange g c =
    let bytes = g.M.PagedMemory.bytes c.args.mem.now in
    let e = c.answer_entry-command_result in
    exchanged c.args.ctrl (scene (untagged c.args.subsystem.now) c.args.rings.now bytes) c.unwrap-entry.result
    c.address-entry_address.result c.address-completion_address.result
    (completion_of c.unwrap-entry.result.cid c.head.result e.result) c.phase-phase.result (search rules)
    (ap (completion_of _ _) e.ensures.command_result
    ∙ completed c.args.ctrl (scene c.args.subsystem.now c.args.rings.now bytes) c.unwrap-entry.result
    (g.M.PagedMemory.page_len c.args.mem.now) _ c.head.result (search rules) (search rules)
    (sym (limit_untagged c.args.subsystem.now c.args.ctrl)) (search rules))
    (search rules) (search rules) (search rules)
