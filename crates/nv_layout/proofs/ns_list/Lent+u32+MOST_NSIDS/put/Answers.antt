use Rattle.std.proofs.Common.{◌∙◌, ap, length}
use Rattle.nv_layout.specs.NsList.{bytes_of_ns_list}
use Rattle.nv_layout.specs.Limits.{most_nsids}
use Rattle.nv_layout.proofs.NsListLaws.{placed-padded}
use Rattle.nv_layout.specs.Parts.{numbers, placed, zeros}
use Rattle.nv_layout.proofs.ns_list.Lent+u32+MOST_NSIDS.put.Goals as goal

pub returns : goal.returns
unfolding bytes_of_ns_list
returns c =
    let ids = c.args.self.now in
    let written = c.put_u32s.ensures in
    let same = c.as_slice.ensures.items in
    written
    ∙ (λ i. placed ((c.clear.ensures ∙ ap (λ n. zeros n) c.told-out) i) (numbers 0 4 (length (same i)) (same i)))
    ∙ placed-padded most_nsids ids c.as_slice.ensures.within
