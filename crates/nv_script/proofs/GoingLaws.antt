-- How batches go, one after another.
use Rattle.nv_script.proofs.Words.{[], ◌++◌, ◌∷◌, Batch, DriverValue, GoesAll, Going, List, after_batch, subst}

module _ {B : Type 0} (goes : Going B) where
  -- if batches went, and others after them, they went one after another
  pub goes-append : (xs ys : List Batch) (d mid last : DriverValue) (old at new : B) → GoesAll goes d old mid at xs
      → GoesAll goes mid at last new ys → GoesAll goes d old last new (xs ++ ys)
  goes-append [] ys d mid last old at new h k =
      subst (λ (x : DriverValue). GoesAll goes x old last new ys) h.0
      (subst (λ (x : B). GoesAll goes mid x last new ys) h.1 k)
  goes-append (x ∷ xs) ys d mid last old at new h k =
      (h.0, h.1, goes-append xs ys (after_batch d x) mid last h.0 at new h.2 k)
