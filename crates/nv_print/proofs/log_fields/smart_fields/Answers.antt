use Rattle.std.proofs.Common.{refl}
use Rattle.nv_print.specs.Records.{fields_of_smart}
use Rattle.nv_print.proofs.Fields.{◌∷≡◌}
use Rattle.nv_print.proofs.log_fields.smart_fields.Goals as goal

pub returns : goal.returns
unfolding fields_of_smart
returns c =
    c.hexadecimal.ensures ∷≡ c.decimal.ensures ∷≡ c.decimal-2.ensures ∷≡ c.decimal-3.ensures ∷≡
    c.decimal-4.ensures ∷≡ c.wide.ensures ∷≡ c.wide-2.ensures ∷≡ c.wide-3.ensures ∷≡ c.wide-4.ensures ∷≡
    c.wide-5.ensures ∷≡ c.wide-6.ensures ∷≡ c.wide-7.ensures ∷≡ c.wide-8.ensures ∷≡ c.wide-9.ensures ∷≡
    c.wide-10.ensures ∷≡ c.decimal-5.ensures ∷≡ c.decimal-6.ensures ∷≡ c.decimal-7.ensures ∷≡
    c.decimal-8.ensures ∷≡ c.decimal-9.ensures ∷≡ c.decimal-10.ensures ∷≡ c.decimal-11.ensures ∷≡
    c.decimal-12.ensures ∷≡ c.decimal-13.ensures ∷≡ c.decimal-14.ensures ∷≡ refl
