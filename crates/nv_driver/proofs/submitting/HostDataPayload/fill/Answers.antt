use Rattle.nv_driver.proofs.Words.{ℕ, ◌++◌, ◌∙◌, List, arith, drop, length, sym, take}
use Rattle.nv_driver.specs.HostData.{sent_by}
use Rattle.nv_driver.proofs.DataLaws.{data_whole}
use Rattle.nv_driver.proofs.PaddingLaws.{length-padded, padded_part}
use Rattle.nv_driver.proofs.submitting.HostDataPayload.fill.Goals as goal

pub returns-in-Some : goal.returns-in-Some
returns-in-Some c =
    let long = c.in-Some.ensures.variant in
    let part = λ (bytes : List ℕ). take (length c.args.out.now) (drop c.args.at bytes) in
    c.put.ensures
    ∙ data_whole c.in-Command.command.now _ c.args.at (length c.args.out.now) c.fits.ensures (grind (arith, long))
    (grind (arith, long)) (rw c.in-Command.is at c.requires)
    ∙ (λ i. part (sent_by (sym c.in-Command.is i)))

pub returns-in-Bytes : goal.returns-in-Bytes
returns-in-Bytes c =
    let bytes = c.in-Bytes.bytes.now in
    let part = λ (bytes : List ℕ). take (length c.args.out.now) (drop c.args.at bytes) in
    padded_part c.in-Bytes.len c.args.at c.min-first.result c.min-count.result _ _ (length c.args.out.now) bytes _
    c.min-first.ensures c.min-count.ensures (omega arith) (omega (arith, c.split_at_mut-given.ensures.back_len))
    (omega (arith, rw c.in-Bytes.is at c.requires, length-padded c.in-Bytes.len bytes))
    (λ i. c.copy_from_slice-in-Bytes.ensures.after i ++ c.fill.ensures.after (λ y e. e) i)
    ∙ (λ i. part (sent_by (sym c.in-Bytes.is i)))
