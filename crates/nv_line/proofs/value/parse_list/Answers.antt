use Rattle.std.proofs.Common.{◌∙◌, ap, sym, arith, lit<, Some}
use Rattle.std.specs.List.{slice_split}
use Rattle.std.proofs.lemmas.Iterator.Consumers.{YieldsList-end, YieldsList-turn}
use Rattle.std.proofs.lemmas.Iterator.Splits.{YieldsList-from_str_split}
use Rattle.std.proofs.lemmas.List.{length_push}
use Rattle.nv_line.specs.Values.{is_comma}
use Rattle.nv_line.proofs.ListReading.{all_read, no_number, piece_read, too_many}
use Rattle.nv_line.proofs.value.parse_list.Goals as goal

pub returns-then-len-eq-MOST_CNTLIDS : goal.returns-then-len-eq-MOST_CNTLIDS
returns-then-len-eq-MOST_CNTLIDS c =
    let t = YieldsList-turn (YieldsList-from_str_split 44 c.args.text.now (lit< tt) (cc) (cc) (cc))
    c.loop-piece.yielded _ c.loop-piece.yielded_by
    _ _ c.in-Some.piece c.in-Some.is c.next.ensures.steps in
    let count = c.loop-piece.invariant.count in
    too_many c.args.text.now (omega (arith, t.0, count))

pub returns-in_default : goal.returns-in_default
returns-in_default c =
    let t = YieldsList-turn (YieldsList-from_str_split 44 c.args.text.now (lit< tt) (cc) (cc) (cc))
    c.loop-piece.yielded _ c.loop-piece.yielded_by
    _ _ c.in-Some.piece c.in-Some.is c.next.ensures.steps in
    no_number c.args.text.now c.loop-piece.place _ c.in-Some.piece.now c.loop-piece.invariant t
    (sym c.parse_number.ensures ∙ c.in_default.is)

pub loop-piece-preserved : goal.loop-piece-preserved
loop-piece-preserved c =
    let t = YieldsList-turn (YieldsList-from_str_split 44 c.args.text.now (lit< tt) (cc) (cc) (cc))
    c.loop-piece.yielded _ c.loop-piece.yielded_by
    _ _ c.in-Some.piece c.in-Some.is c.next.ensures.steps in
    let read = piece_read (slice_split is_comma c.args.text.now) c.loop-piece.place _
    c.in-Some.piece.now c.in-Some-parse_number.identifier c.loop-piece.invariant
    (omega (arith, c.loop-piece.invariant.count)) t (sym c.parse_number.ensures ∙ c.in-Some-parse_number.is) in
    let n = length_push c.loop-piece.yielded c.in-Some.piece in
    rw (c.push.ensures, n) read

pub returns : goal.returns
returns c =
    let e = YieldsList-end (YieldsList-from_str_split 44 c.args.text.now (lit< tt) (cc) (cc) (cc))
    c.loop-piece.yielded _ c.loop-piece.yielded_by _ _ c.in-None.is c.next.ensures.steps in
    ap Some c.ids.ensures ∙ all_read c.args.text.now c.loop-piece.place _ c.loop-piece.invariant (omega (arith, e.1))
