use Rattle.nv_script.proofs.Words.{◌+◌, ◌<◌, ◌∙◌, ◌≡◌, Answer, IsOk, Send, ap, arith, at_read, drop, get_or, is_ok}
use Rattle.nv_script.proofs.Words.{length, listing_after, listing_of, map, order_of, sym, true}
use borrow.Author.Count.{below_more}
use Rattle.nv_script.proofs.ListLaws.{listing_more}
use Rattle.nv_script.proofs.listing.Listing.keep_all.Goals as goal

pub loop-i-preserved : goal.loop-i-preserved
loop-i-preserved c =
    let ctrl = c.args.ctrl in
    let ks = c.args.commands.now in
    let xs = c.args.answers.now in
    let i = c.loop-i.i in
    let k = c.index-commands-i.result in
    let x = c.index-answers-i.result in
    let some : i < length ks = omega arith in
    let answered : i < length xs = omega arith in
    let command : k ≡ get_or ks i k = cc in
    let answer : x ≡ get_or xs i x = cc in
    let accepted : is_ok x ≡ true = cc (c.in_ok-keep.ensures.accepted) in
    let kept : c.keep.new.self ≡ listing_after ctrl c.loop-i.self (Send (get_or ks i k)) (get_or xs i x) =
    cc (c.in_ok-keep.ensures.kept) in
    record {
      kept = ap (λ l. listing_of l (map (order_of ctrl) (drop (i + 1) ks)) (drop (i + 1) xs)) kept
          ∙ sym (listing_more ctrl c.loop-i.self ks xs i k x some answered) ∙ c.loop-i.invariant.kept;
      accepted = λ n d below.
          below_more (λ n. (d : Answer) → IsOk (get_or xs n d)) i (λ n less d. c.loop-i.invariant.accepted n d less)
          (at_read xs (λ a. IsOk a) i x answered answer accepted) n below d;
    }
