use Rattle.std.proofs.Common.{◌≡◌, ◌∙◌, ℕ, ◌-◌, ◌*◌, ◌++◌, ap, arith, drop, length, min, replicate, sym, take}
use Rattle.std.proofs.lemmas.List.{length-take-le}
use Rattle.nv_layout.specs.ErrorEntryBytes.{bytes_of_entries}
use Rattle.nv_layout.proofs.LogLaws.{length-entries, part_past_blanks}
use Rattle.nv_layout.proofs.PartLaws.{part_in_two, part_within}
use Rattle.nv_layout.specs.Parts.{part}
use Rattle.nv_layout.proofs.error_entries.ErrorEntries.fill.Goals as goal

pub returns : goal.returns
returns c =
    let es = c.args.self.now in
    let n = length c.args.out.now in
    let at = c.min-from.result in
    let count = c.min-count.result in
    let had = take c.present-end.result es in
    let bytes = bytes_of_entries had in
    let same = λ (from n : ℕ). ap (λ xs. part (bytes_of_entries xs) from n) c.present-end.ensures.past
    ∙ part_past_blanks had (length es - c.present-end.result) from n in
    let end : length bytes ≡ 64 * c.present-end.result =
    length-entries had ∙ ap (λ m. 64 * m) (length-take-le c.present-end.result es c.present-end.ensures.within) in
    let within = part_within bytes at count (omega (arith, end)) in
    let room = c.split_at_mut-written.ensures.front_len in
    let rest : length c.split_at_mut-written.result.1.now ≡ n - count =
    omega (arith, c.split_at_mut-written.ensures.back_len) in
    let written : c.fill_within.new.out ≡ take count (drop at bytes) =
    c.fill_within.ensures ∙ ap (part (bytes_of_entries es) at) room ∙ same at count ∙ within in
    let past : c.fill.new.self ≡ replicate (n - count) 0 =
    c.fill.ensures.after (λ y e. e) ∙ ap (λ m. replicate m 0) rest in
    (λ i. written i ++ past i)
    ∙ part_in_two bytes c.args.from n at count (c.min-from.ensures ∙ ap (min c.args.from) (sym end))
    (c.min-count.ensures ∙ ap (λ m. min n (m - at)) (sym end))
    ∙ sym (same c.args.from n)
