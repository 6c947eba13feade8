use Rattle.std.proofs.Common.{◌≡◌, ◌++◌, ◌∙◌, ◌-◌, ◌+◌, ◌*◌, ◌/◌, ◌%◌, ap, arith, drop, length, length-drop}
use Rattle.std.proofs.Common.{length-take, refl, sym, take}
use Rattle.std.proofs.lemmas.List.{take_all}
use Rattle.std.proofs.lemmas.Slice.{take-put_mid}
use Rattle.nv_layout.specs.ErrorEntryBytes.{bytes_of_entries, bytes_of_error_entry}
use Rattle.nv_layout.proofs.LogLaws.{part_of_entry}
use Rattle.nv_layout.proofs.PartLaws.{part-append}
use Rattle.nv_layout.specs.Parts.{part}
use Rattle.nv_layout.proofs.error_entries.ErrorEntries.fill_within.Goals as goal

pub loop-done-init : goal.loop-done-init
unfolding part
loop-done-init c = record { within = omega arith; written = refl }

pub loop-done-preserved : goal.loop-done-preserved
loop-done-preserved c =
    let now = c.loop-done.invariant in
    let entries = c.args.self.now in
    let from = c.args.from in
    let done = c.loop-done.done in
    let more = c.min.result in
    let place = from + done in
    let bytes = bytes_of_entries entries in
    let size : length c.put_part.new.out ≡ more = omega arith in
    let split : 64 * (place / 64) + place % 64 ≡ place = omega arith in
    let room : length (take (done + more - done) (drop done c.loop-done.out)) ≡ more =
    simp (length-take, length-drop) (omega arith) in
    let this : c.put_part.new.out ≡ part bytes place more =
    c.put_part.ensures
    ∙ (λ i. part (bytes_of_error_entry (c.get.ensures i)) (place % 64) (room i))
    ∙ sym (part_of_entry entries (place / 64) (place % 64) more (omega arith))
    ∙ ap (λ p. part bytes p more) split in
    record {
      within = omega arith;
      written = take-put_mid done (done + more - done) c.loop-done.out c.put_part.new.out (done + more)
          (omega (arith, size)) (omega arith)
          ∙ (λ i. now.written i ++ this i)
          ∙ part-append bytes from done more;
    }

pub returns : goal.returns
returns c =
    let all : c.loop-done.done ≡ length c.args.out.now = omega arith in
    sym (take_all c.loop-done.done c.loop-done.out (omega arith))
    ∙ c.loop-done.invariant.written
    ∙ ap (part (bytes_of_entries c.args.self.now) c.args.from) all
