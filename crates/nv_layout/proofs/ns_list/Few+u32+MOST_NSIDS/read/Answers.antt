use Rattle.std.proofs.Common.{◌∙◌, arith, sym}
use Rattle.nv_layout.specs.Limits.{most_nsids}
use Rattle.nv_layout.specs.NsList.{ns_list_of_bytes}
use Rattle.nv_layout.proofs.NsListLaws.{list_read}
use Rattle.nv_layout.proofs.ns_list.Few+u32+MOST_NSIDS.read.Goals as goal

pub returns-then-nsid-eq0 : goal.returns-then-nsid-eq0
unfolding ns_list_of_bytes
returns-then-nsid-eq0 c =
    list_read most_nsids c.args.bytes.now c.loop-i.self c.loop-i.i (omega arith)
    c.loop-i.invariant.size c.loop-i.invariant.read c.loop-i.invariant.full
    (λ _. sym c.u32_at-nsid.ensures ∙ c.if-nsid-eq0.true)

pub returns : goal.returns
unfolding ns_list_of_bytes
returns c =
    list_read most_nsids c.args.bytes.now c.loop-i.self c.loop-i.i (omega arith)
    c.loop-i.invariant.size c.loop-i.invariant.read c.loop-i.invariant.full
    (λ more. absurd (omega arith))
