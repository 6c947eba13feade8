use Rattle.std.proofs.Common.{◌/◌, arith}
use Rattle.nv_bits.proofs.WordLaws.{first_found, later_found, none_found, none_past}
use Rattle.nv_bits.proofs.bit_set.least_from.Goals as goal

pub overflow_add-result : goal.overflow_add-result
overflow_add-result c =
    let found = first_found c.args.words.now c.args.at (c.type_inv.words (c.args.at / 64)).fits (omega arith) in
    omega arith

pub returns-then-rest-ne0 : goal.returns-then-rest-ne0
returns-then-rest-ne0 c =
    (first_found c.args.words.now c.args.at (c.type_inv.words (c.args.at / 64)).fits (omega arith)).1

pub returns-then-word-words : goal.returns-then-word-words
returns-then-word-words c k from = none_past c.args.words.now k (omega arith)

pub returns-then-next-words : goal.returns-then-next-words
returns-then-next-words c =
    let next = c.next_word-next.result in
    none_found c.args.words.now c.args.at next c.if-next-words.true c.if-rest-ne0.false c.next_word-next.ensures.zeros

pub overflow_mul-result : goal.overflow_mul-result
overflow_mul-result c = omega arith

pub overflow_add-result-2 : goal.overflow_add-result-2
overflow_add-result-2 c =
    let i = c.next_word-next.result in
    let found =
    later_found c.args.words.now c.args.at i (omega arith) (c.type_inv.words i).fits
    (c.next_word-next.ensures.found (omega arith))
    c.if-rest-ne0.false c.next_word-next.ensures.zeros in
    omega arith

pub returns : goal.returns
returns c =
    let i = c.next_word-next.result in
    (later_found c.args.words.now c.args.at i (omega arith) (c.type_inv.words i).fits
    (c.next_word-next.ensures.found (omega arith))
    c.if-rest-ne0.false c.next_word-next.ensures.zeros).1
