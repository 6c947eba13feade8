use Rattle.std.proofs.Common.{◌≡◌, ◌∙◌, ◌+◌, ◌-◌, ◌%◌, ◌∷◌, [], ap, arith, length, length-append, min, subst, sym}
use Rattle.nv_prp.specs.Buffer.{IsBuffer, buffer_place}
use Rattle.nv_prp.specs.Place.{LieIn, places}
use Rattle.nv_prp.proofs.Words.{Span}
use Rattle.nv_prp.proofs.BufferSpanLaws.{address_of, inside_more, next_page_begins, places_more, rest_inside}
use Rattle.nv_prp.proofs.buffer.Buffer.spans.Goals as goal

pub loop-done-preserved : goal.loop-done-preserved
loop-done-preserved g c =
    let size = g.M.PagedMemory.page_len c.args.mem.now in
    let pages = c.args.self.now.pages.now in
    let start = c.args.self.now.offset in
    let done = c.loop-done.done in
    let i = c.loop-done.invariant in
    let s : Span = record { address = c.page_address-page.result + c.from.result; len = c.min.result } in
    let address : s.address ≡ buffer_place size pages start done = grind (arith, address_of) in
    let len : s.len ≡ min (c.args.len - done) (size - (start + done) % size) = grind arith in
    let left = c.args.len - done in
    let all : c.args.len ≡ done + left = omega (arith, i.within) in
    let bytes = g.M.PagedMemory.bytes c.args.mem.now in
    let buffer = subst (IsBuffer bytes size pages start) all c.requires.buffer in
    let rest = rest_inside bytes pages size start done left (omega (arith, c.loop-done-test.true)) buffer in
    record {
      within = omega (arith, len);
      places = ap (λ xs. places xs) c.push.ensures
          ∙ places_more size pages start done c.loop-done.spans s i.places address (omega (arith, len));
      inside = subst (LieIn (length bytes)) (sym c.push.ensures)
          (inside_more _ c.loop-done.spans s i.inside (omega (arith, address, len, rest)));
      few = λ more.
          let next = next_page_begins size start done (length c.loop-done.spans) s.len
          (omega (arith, c.requires.buffer.below)) (omega (arith, len, more))
          (i.few (omega (arith, c.loop-done-test.true))) in
          omega (arith, next, ap length c.push.ensures, length-append c.loop-done.spans (s ∷ []));
    }
