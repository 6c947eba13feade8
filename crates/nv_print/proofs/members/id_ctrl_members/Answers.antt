use Rattle.nv_print.proofs.Words.{ap, before, no_members, sym}
use Rattle.nv_print.specs.Records.{fields_of_id_ctrl}
use Rattle.nv_print.proofs.Fields.{◌∷≡◌, and_last}
use Rattle.nv_print.proofs.members.id_ctrl_members.Goals as goal

pub returns-clause-value : goal.returns-clause-value
unfolding fields_of_id_ctrl
returns-clause-value c =
    let same =
    c.decimal.ensures ∷≡ c.hexadecimal.ensures ∷≡ c.hexadecimal-2.ensures ∷≡ c.hexadecimal-3.ensures ∷≡
    c.decimal-2.ensures ∷≡ c.hexadecimal-4.ensures ∷≡ c.ascii.ensures ∷≡ c.hexadecimal-5.ensures ∷≡
    c.six_digits.ensures ∷≡ c.hexadecimal-6.ensures ∷≡ c.decimal-3.ensures ∷≡ c.ascii-2.ensures ∷≡
    c.decimal-4.ensures ∷≡ c.decimal-5.ensures ∷≡ c.hexadecimal-7.ensures ∷≡ c.hexadecimal-8.ensures ∷≡
    c.decimal-6.ensures ∷≡ c.ascii-3.ensures ∷≡ c.hexadecimal-9.ensures ∷≡ c.hexadecimal-10.ensures ∷≡
    c.ascii-4.ensures ∷≡ c.wide.ensures ∷≡ c.wide-2.ensures ∷≡ c.hexadecimal-11.ensures ∷≡
    c.hexadecimal-12.ensures ∷≡ c.hexadecimal-13.ensures ∷≡ and_last c.decimal-7.ensures in
    ap (λ fs. before fs no_members) (sym same)
