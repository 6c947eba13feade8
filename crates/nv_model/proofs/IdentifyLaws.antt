-- The Identify data of a namespace fits its record.
use Rattle.std.proofs.lemmas.Grind.{common_steps}
use Rattle.std.proofs.Common.{rules, ℕ, zero, suc, ◌<◌, ◌≤◌, ◌^◌, arith, List, [], ◌∷◌, ◌++◌}
use Rattle.std.proofs.Common.{length, map, get_or}
use Rattle.nv_model.proofs.Words.{All, AllByRecursion, blank, common_of, Format, id_ns_of, IdNsFits, IsFormat}
use Rattle.nv_model.proofs.Words.{lbaf_of, LbafFits, Namespace}
use Rattle.nv_model.proofs.Words.{no_lbaf, replicate}

-- an LBA format of zeros fits its record
no_lbaf_fits : LbafFits no_lbaf
no_lbaf_fits = search rules

-- LBA formats of zeros fit their records
blanks_fit : (n : ℕ) → AllByRecursion LbafFits (replicate n no_lbaf)
blanks_fit zero = tt
blanks_fit (suc n) = (no_lbaf_fits, blanks_fit n)

-- the formats of a subsystem, and zeros after them, fit their records
formats_fit : (fs : List Format) (n : ℕ) → All IsFormat fs → AllByRecursion LbafFits (map lbaf_of fs
    ++ replicate n no_lbaf)
formats_fit [] n h = blanks_fit n
formats_fit (f ∷ fs) n h =
    let at : IsFormat f = h 0 f (omega arith) in (
      search (rules, arith, at),
      formats_fit fs n (λ k d l. let later : IsFormat (get_or fs k d) =
          h (suc k) d (omega arith) in later),
    )

-- the Identify data of a namespace that doesn't exist fits its record
pub blank_fits : IdNsFits blank
blank_fits = search (rules, arith, blanks_fit 16)

-- the Identify data that all namespaces have in common fits its record
pub common_fits : (fs : List Format) (mc : ℕ) → mc ≤ 3 → length fs ≤ 16 → All IsFormat fs
    → IdNsFits (common_of fs mc)
common_fits fs mc m few h = grind (arith, common_steps, formats_fit)

-- the Identify data of a namespace with a format below 16 and a capacity of 64 bits fits its record
pub id_ns_fits : (fs : List Format) (mc : ℕ) (x : Namespace) → mc ≤ 3 → length fs ≤ 16
    → All IsFormat fs → x.format < 16 → x.capacity < 2 ^ 64 → IdNsFits (id_ns_of fs mc x)
id_ns_fits fs mc x m few h f c = grind (arith, common_steps, common_fits fs mc m few h)
