use Rattle.nv_driver.proofs.Words.{◌<◌, ◌∙◌, ◌≡◌, arith, page_size_bounds, places, refl, request_as, request_place}
use Rattle.nv_driver.proofs.Words.{rules, sent_at, written_at}
use Rattle.nv_driver.proofs.SubmittingLaws.{buffer_later, changes_list, on_ok, pairs_same, prepared_by}
use Rattle.nv_driver.proofs.submitting.submit.Goals as goal

pub write_sent-requires-clause-buffer : goal.write_sent-requires-clause-buffer
write_sent-requires-clause-buffer g c =
    let b = c.point_to-prp1.ensures in
    buffer_later b.len b.page c.requires.place.buffer

pub returns : goal.returns
returns g c asked =
    let b = c.point_to-prp1.ensures in
    let pointer = c.point_to-prp1.result in
    let pair = c.args.pair.now in
    let q = request_as c.args.request.now asked in
    let x = sent_at (request_place c.args.place.now) q pair.next_cid pointer.0 pointer.1 in
    let before = g.M.PagedMemory.bytes c.args.mem.now in
    let built = g.M.PagedMemory.bytes c.point_to-prp1.new.mem in
    let ready = g.M.PagedMemory.bytes c.write_sent.new.mem in
    let size = g.M.PagedMemory.page_len c.args.mem.now in
    let place = c.requires.place in
    let len = c.bytes-len.ensures in
    let put : ready ≡ written_at built (places size x) q.sends = rw b.page at c.write_sent.ensures.bytes in
    let ok = c.unwrap-tail.ensures in
    let some : 0 < size = omega (arith, page_size_bounds size place.is_size) in
    record {
      prp1 = pointer.0;
      prp2 = pointer.1;
      ready = ready;
      prepared = prepared_by size x before built ready place.is_size c.requires.sent place.buffer place.distinct
          c.requires.few (search rules) (search rules) (rw (b.page, len) at b.stays)
          (changes_list size x before built some (rw (b.page, len) at b.no_list) (rw (b.page, len) at b.list)
          (rw (b.page, len) at b.only_list)) b.len put;
      list = rw (b.page, len) at b.list;
      one = rw (b.page, len) at b.one;
      pointer = λ none. b.none (len ∙ none);
      mem = on_ok c.push.result c.unwrap-tail.result ok c.push.ensures.bytes;
      pair = pairs_same (on_ok c.push.result c.unwrap-tail.result ok c.push.ensures.submitted) refl refl;
      tail = search rules;
      len = search rules;
      page = search rules;
    }
