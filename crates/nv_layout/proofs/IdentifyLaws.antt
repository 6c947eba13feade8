-- The Identify data of namespaces and controllers is read back from its 4,096 bytes if its fields
-- fit.
use Rattle.std.proofs.lemmas.Grind.{common_steps}
use Rattle.std.proofs.Common.{◌≡◌, ◌∙◌, ℕ, ◌+◌, ◌^◌, ◌<◌, rules}
use Rattle.std.proofs.Common.{refl, arith, List, [], ◌∷◌, length, map}
use Rattle.std.specs.List.{AllByRecursion}
use Rattle.std.proofs.lemmas.List.{length-map}
use Rattle.nv_layout.specs.IdCtrl.{IdCtrlReadsBack, bytes_of_id_ctrl, id_ctrl_of_bytes}
use Rattle.nv_layout.specs.IdCtrl.{id_ctrl_parts}
use Rattle.nv_layout.specs.IdNs.{IdNsReadsBack, LbafFits, bytes_of_id_ns, id_ns_of_bytes}
use Rattle.nv_layout.specs.IdNs.{LbafReadsBack, bytes_of_lbaf, id_ns_parts, lbaf_of_bytes, lbaf_of_number}
use Rattle.nv_layout.specs.IdNs.{number_of_lbaf}
use Rattle.nv_layout.specs.NewNamespace.{NewNamespaceReadsBack, bytes_of_new_namespace}
use Rattle.nv_layout.specs.NewNamespace.{new_namespace_of_bytes, new_namespace_parts}
use Rattle.nv_layout.specs.Bits.{at_bits, bits}
use Rattle.nv_layout.specs.Parts.{number}
use Rattle.nv_layout.specs.declared.id_ctrl.IdCtrl.{IdCtrl}
use Rattle.nv_layout.specs.declared.id_ns.IdNs.{IdNs}
use Rattle.nv_layout.specs.declared.id_ns.Lbaf.{Lbaf}
use Rattle.nv_layout.specs.declared.new_namespace.NewNamespace.{NewNamespace}
use Rattle.nv_layout.proofs.TableLaws.{length-laid_out, table_back}

-- ---- namespaces

-- the LBA format whose fields are all 0
abbrev pub none : Lbaf
none = record { ms = 0; lbads = 0; rp = 0 }

-- a number made of an LBA format's three fields has four bytes, and its bits are the fields
lbaf_bits : (m l p : ℕ) → m < 2 ^ 16 → l < 2 ^ 8 → p < 2 ^ 2
    → let n = at_bits 0 16 m + at_bits 16 8 l + at_bits 24 2 p in
    (n < 256 ^ 4) × (bits 0 16 n ≡ m) × (bits 16 8 n ≡ l) × (bits 24 2 n ≡ p)
lbaf_bits m l p hm hl hp = (omega arith, omega arith, omega arith, omega arith)

-- the number of an LBA format whose fields fit has four bytes
lbaf_fits : (l : Lbaf) → LbafFits l → number_of_lbaf l < 256 ^ 4
lbaf_fits l fits = (lbaf_bits l.ms l.lbads l.rp fits.ms fits.lbads fits.rp).0

-- if the fields of every format fit, each format's number has four bytes
lbafs_fit : (ls : List Lbaf) → AllByRecursion LbafFits ls
    → AllByRecursion (λ x. x < 256 ^ 4) (map number_of_lbaf ls)
lbafs_fit [] fits = tt
lbafs_fit (l ∷ ls) fits = (lbaf_fits l fits.0, lbafs_fit ls fits.1)

-- an LBA format whose fields fit is read back from its number
lbaf_back : (l : Lbaf) → LbafFits l → lbaf_of_number (number_of_lbaf l) ≡ l
lbaf_back l fits = search rules

-- an LBA format whose fields fit is read back from its four bytes
pub lbaf_read_back : LbafReadsBack
unfolding bytes_of_lbaf lbaf_of_bytes
lbaf_read_back l fits =
    grind (arith, common_steps, table_back 4 (number 0 4 (number_of_lbaf l) ∷ []) refl (lbaf_fits l fits, tt))

-- LBA formats whose fields fit are read back from their numbers
lbafs_back : (ls : List Lbaf) → AllByRecursion LbafFits ls
    → map lbaf_of_number (map number_of_lbaf ls) ≡ ls
lbafs_back [] fits = refl
lbafs_back (l ∷ ls) fits = λ i. lbaf_back l fits.0 i ∷ lbafs_back ls fits.1 i

-- a namespace's Identify data with sixteen formats has 4,096 bytes
pub length-bytes_of_id_ns : (r : IdNs) → length r.lbafs ≡ 16 → length (bytes_of_id_ns r) ≡ 4096
unfolding bytes_of_id_ns
length-bytes_of_id_ns r h =
    let formats = length-map r.lbafs number_of_lbaf ∙ h in length-laid_out 4096 (id_ns_parts r) refl assumption

-- a namespace's Identify data whose fields fit is read back from its bytes
pub id_ns_back : IdNsReadsBack
unfolding bytes_of_id_ns id_ns_of_bytes
id_ns_back r fits =
    let count = length-map r.lbafs number_of_lbaf ∙ fits.formats in
    let each = lbafs_fit r.lbafs fits.each_format in
    let fields = table_back 4096 (id_ns_parts r) refl assumption in
    grind (arith, fields, lbafs_back r.lbafs fits.each_format)

-- ---- namespaces to create

-- the parameters of a namespace to create have 4,096 bytes
pub length-bytes_of_new_namespace : (w : NewNamespace) → length (bytes_of_new_namespace w) ≡ 4096
unfolding bytes_of_new_namespace
length-bytes_of_new_namespace w = length-laid_out 4096 (new_namespace_parts w) refl assumption

-- the parameters of a namespace to create whose fields fit are read back from their bytes
pub new_namespace_back : NewNamespaceReadsBack
unfolding bytes_of_new_namespace new_namespace_of_bytes
new_namespace_back w fits = grind (arith, common_steps, table_back 4096 (new_namespace_parts w) refl assumption)

-- ---- controllers

-- a controller's Identify data with texts of the right lengths has 4,096 bytes
pub length-bytes_of_id_ctrl : (r : IdCtrl) → length r.sn ≡ 20 → length r.mn ≡ 40 → length r.fr ≡ 8
    → length r.subnqn ≡ 256 → length (bytes_of_id_ctrl r) ≡ 4096
unfolding bytes_of_id_ctrl
length-bytes_of_id_ctrl r sn mn fr subnqn = length-laid_out 4096 (id_ctrl_parts r) refl assumption

-- an IEEE OUI below 2 ^ 24 has three bytes, and its 24 bits are the number itself
ieee_bits : (x : ℕ) → x < 2 ^ 24 → (at_bits 0 24 x < 256 ^ 3) × (at_bits 0 24 x ≡ x)
ieee_bits x h = (omega arith, omega arith)

-- a controller's Identify data whose fields fit is read back from its bytes
pub id_ctrl_back : IdCtrlReadsBack
unfolding bytes_of_id_ctrl id_ctrl_of_bytes
id_ctrl_back r fits =
    let (small, whole) = ieee_bits r.ieee fits.ieee in
    let fields = table_back 4096 (id_ctrl_parts r) refl assumption in grind (arith, fields, whole)
