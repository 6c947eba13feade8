use Rattle.nv_print.proofs.Words.{ℕ, ◌-◌, ◌∙◌, IsTrimAsciiEnd, ap, length, printable, subst, sym, take}
use Rattle.nv_print.proofs.PrintableLaws.{printable_is_utf8, printable_padded, trimmed_is}
use Rattle.nv_print.proofs.printable.printable_bytes.Goals as goal

pub returns-clause-value : goal.returns-clause-value
returns-clause-value c =
    let all = c.args.bytes.now in
    let bytes = c.without_padding-bytes.result.now in
    let P : ℕ → Type 0 = λ n. IsTrimAsciiEnd (take n bytes) c.trim_ascii_end.result.now in
    trimmed_is bytes c.trim_ascii_end.result.now (subst P c.printable_len.ensures c.trim_ascii_end.ensures.value)
    ∙ sym (printable_padded (length all - length bytes) bytes)
    ∙ ap printable (sym c.without_padding-bytes.ensures)

pub returns-clause-utf8 : goal.returns-clause-utf8
returns-clause-utf8 c = printable_is_utf8 c.args.bytes.now c.trim_ascii_end.result.now (returns-clause-value c)
