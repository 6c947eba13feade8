-- A change of one controller leaves a well-formed subsystem well formed.
use Rattle.std.proofs.lemmas.Grind.{common_steps}
use Rattle.std.proofs.Common.{◌≡◌, ◌∙◌, ℕ, ◌≤◌, Some, ap, sym, refl, subst, arith}
use Rattle.std.specs.FinMap as map_of
use Rattle.nv_model.proofs.Words.{Controller, controller_at, get_or_from_slice_get, Identity, IsController}
use Rattle.nv_model.proofs.Words.{IsWellFormed, Namespaces, Nsids, slice_get_within, State, with_controller}
use Rattle.nv_model.proofs.ChangedAtLaws.{All-changed_at, count_by-changed_at, each_place, length-changed_at}

-- each controller of a well-formed subsystem is one that IsController allows
pub is_controller : (s : State) (c : ℕ) → IsWellFormed s → (x : Controller) → controller_at s c ≡ Some x
    → IsController s.namespaces x
is_controller s c w x e =
    grind (arith, common_steps, get_or_from_slice_get s.controllers c x x e, slice_get_within s.controllers c x e)

-- what a command preserves of each controller
pub record KeepsController (f : Controller → Controller) : Type 0 where
  pub identity : (x : Controller) → (f x).identity ≡ x.identity
  pub attached : (x : Controller) → (f x).attached ≡ x.attached
  pub sound : (ns : Namespaces) (x : Controller) → IsController ns x → IsController ns (f x)

-- a change that keeps a controller keeps which NSIDs are attached to it
same_shared : (f : Controller → Controller) (k : KeepsController f) (n : ℕ) (x : Controller)
    → map_of.contains_key (f x).attached n ≡ map_of.contains_key x.attached n
same_shared f k n x = ap (λ (a : Nsids). map_of.contains_key a n) (k.attached x)

-- a change that keeps each controller leaves a well-formed subsystem well formed
pub keeps : (s : State) (c : ℕ) (f : Controller → Controller) → KeepsController f → IsWellFormed s
    → IsWellFormed (with_controller s c f)
keeps s c f k w =
    let cs = s.controllers in
    let len = length-changed_at f cs c in
    record {
      keys = w.keys;
      format_count = w.format_count;
      formats = w.formats;
      controller_count =
          (omega (arith, len, w.controller_count.0), omega (arith, len, w.controller_count.1));
      controllers =
          All-changed_at (IsController s.namespaces) f (k.sound s.namespaces) cs c w.controllers;
      cntlids = λ i j d h l.
          let at = λ (n : ℕ). each_place (λ (a b : Controller). b.identity.cntlid
          ≡ a.identity.cntlid) f (λ y. refl) (λ y. ap (λ (i : Identity). i.cntlid)
          (k.identity y)) cs c n d in
          λ e. w.cntlids i j d h (omega (arith, len)) (sym (at i) ∙ e ∙ at j);
      namespaces = λ n x e.
          let old = w.namespaces n x e in
          record {
            nsid = old.nsid;
            format = old.format;
            private =
                λ p. subst (λ m. m ≤ 1)
                (sym (count_by-changed_at (λ (y : Controller). map_of.contains_key y.attached n) f
                (same_shared f k n) cs c)) (old.private p);
          };
      capacities = w.capacities;
    }
