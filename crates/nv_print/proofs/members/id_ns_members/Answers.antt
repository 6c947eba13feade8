use Rattle.nv_print.proofs.Words.{ap₂, before, member, no_members, sym}
use Rattle.std.proofs.Common.{codes}
use Rattle.nv_print.specs.Records.{fields_of_id_ns}
use Rattle.nv_print.proofs.Fields.{◌∷≡◌, and_last}
use Rattle.nv_print.proofs.members.id_ns_members.Goals as goal

pub returns : goal.returns
unfolding fields_of_id_ns
returns c formats =
    let first =
    c.hexadecimal.ensures ∷≡ c.hexadecimal-2.ensures ∷≡ and_last c.hexadecimal-3.ensures in
    let others =
    c.hexadecimal-4.ensures ∷≡ c.hexadecimal-5.ensures ∷≡ c.decimal.ensures ∷≡ c.hexadecimal-6.ensures ∷≡
    c.hexadecimal-7.ensures ∷≡ c.hexadecimal-8.ensures ∷≡ c.hexadecimal-9.ensures ∷≡ and_last c.wide.ensures in
    ap₂ (λ xs ys. before xs (member (codes "lbafs") formats (before ys no_members))) (sym first) (sym others)
