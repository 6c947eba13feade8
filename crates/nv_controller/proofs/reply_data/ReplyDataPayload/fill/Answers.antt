use Rattle.std.proofs.Common.{◌≡◌, ◌∙◌, ◌+◌, ◌*◌, ◌≤◌, ap, ap₂, arith, drop, length, sym, take}
use Rattle.nv_controller.proofs.Words.{data_of, length-part, log_of, page_of, part, part-part}
use Rattle.nv_controller.proofs.DataLaws.{page_data, part_least, whole_page}
use Rattle.nv_controller.proofs.reply_data.ReplyDataPayload.fill.Goals as goal

pub returns-in-GetLog : goal.returns-in-GetLog
returns-in-GetLog c =
    let r = c.args.self.now.reply.now in
    let log = log_of r in
    let asked = c.in-GetLog.asked in
    let n = length c.args.out.now in
    let same : data_of c.args.self.now.command.now r ≡ part log asked.offset (4 * asked.dwords) =
    ap (λ k. data_of k r) c.in-GetLog.is in
    let inside : c.args.at + n ≤ 4 * asked.dwords =
    omega (arith, c.requires, ap length same, length-part log asked.offset (4 * asked.dwords)) in
    c.fill.ensures
    ∙ ap₂ (λ x y. part log (x + y) n) c.min-from.ensures c.min-past.ensures
    ∙ part_least log asked.offset c.args.at 16384 n c.args.self.now.short
    ∙ sym (part-part log asked.offset (4 * asked.dwords) c.args.at n inside)
    ∙ sym (ap (λ bytes. take n (drop c.args.at bytes)) same)

pub returns-in-Some : goal.returns-in-Some
returns-in-Some c =
    let r = c.args.self.now.reply.now in
    let n = length c.args.out.now in
    let same = page_data c.args.self.now.command.now r c.in_default.not-GetLog in
    let long = c.in-Some.ensures.variant in
    let inside : c.args.at + n ≤ length (page_of r) = omega (arith, c.requires, ap length same) in
    whole_page c.put.result c.put.new.page _ c.args.at _ c.put.ensures
    (grind (arith, long)) (grind (arith, long)) inside
    ∙ sym (ap (λ bytes. take n (drop c.args.at bytes)) same)
