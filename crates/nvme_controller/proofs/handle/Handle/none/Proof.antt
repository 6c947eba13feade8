-- `none` makes a handle that owns nothing.
use Rattle.std_heap.specs.contracts.Global as Heap
use Rattle.nvme_controller.specs.contracts.handle.Handle.none as F
use contract.Running.{tables, tables_of}
use types.Kit.{Item, ‵, raw, ◌⊛◌, ◌$◌, ◌∵◌, !, qed, by, move, drop, use1, join, split, fsplit, fjoin, fpack, feq_i}
use types.Kit.{suffices, done}
use denote.Struct.Owning.{shape}
use denote.Struct.Struct.{within}
use Rattle.std_alloc.proofs.ResultValues.{and_tt}
use Rattle.nvme_controller.specs.contracts.handle.Handle.none.Key.{name as #self}
use Rattle.nvme_controller.proofs.Walks.{[], agg, alloc_all, and_then, emp, ends_at, ent, enter, entered, free_all}
use Rattle.nvme_controller.proofs.Walks.{fsep, ftrue, Fun, get, Goes-dropped, handle_tells, has_ty, id⊢, List, lit}
use Rattle.nvme_controller.proofs.Walks.{lit<, Logic, look_at, Memory, no_more, None, nothing, null_ptr, owning, P}
use Rattle.nvme_controller.proofs.Walks.{pass_all, plain, ptr_val, RawPtr, refl, returns, Routine, says, sets, SProp}
use Rattle.nvme_controller.proofs.Walks.{stay_dropped, Stays, subst, sym, Tables, triple_of, type_at, Ura, Val, Valss}
use Rattle.nvme_controller.proofs.Walks.{vcons, vnil, vnull, vstruct, walk_Meets, walk_of, WpFn, WpFn-mono, yes, α}
use Rattle.nvme_controller.proofs.Walks.{◌++◌, ◌∷◌}
use Rattle.nvme_controller.proofs.AsBox.{E}
use Rattle.nvme_controller.proofs.handle.Handle.none.Statement as stated
use Rattle.nvme_controller.proofs.handle.Handle.none.Code as code

abbrev stayed : Stays (F.ended).signature.params (F.ended).kept
stayed = (stay_dropped (plain (λ _. Heap.the_row)) yes, tt)

module _ {M : Type 1} {𝓤 : Ura M} (𝓛 : Logic 𝓤) (at_mem : Memory → SProp 𝓤) (run : Routine → Fun 𝓤) (𝓣 : Tables 𝓤 𝓛.H) where
  open 𝓛 use {H}

  walk : (z : (walk_of 𝓛 F.ended stayed (F.clauses 𝓛 at_mem run)).Ghost)
      → ent 𝓤 ((walk_of 𝓛 F.ended stayed (F.clauses 𝓛 at_mem run)).pre z) (WpFn 𝓤 H 𝓣.C 𝓣.Λ code.function (z.0.4.0 ++ []) ((walk_of 𝓛 F.ended stayed (F.clauses 𝓛 at_mem run)).post z))
  walk z =
      let Post = (walk_of 𝓛 F.ended stayed (F.clauses 𝓛 at_mem run)).post z in
      let To = type_at (F.signature).result tt in
      let made : To.Denot = record { at = null_ptr; alloc = z.0.3.0; machine = None } in
      qed 𝓛 ((‵ ftrue ⊛ ‵ (fsep ((Heap.the_row).own_val z.0.3.0 z.0.4.0) ftrue)) ∷ raw (emp 𝓤) ∷ []) ∵ split ! $ drop ! $ fsplit ! $
      handle_tells E.al ! z.0.3.0 z.0.4.0 (λ hv ws fa. move ! (1 ∷ 2 ∷ []) $ drop ! $ drop ! $
      let w : Val = vstruct (vcons vnull (vcons hv vnil)) in
      let Γ : List (Item 𝓤) = ‵ ((Heap.the_row).own_val z.0.3.0 (hv ∷ [])) ∷ [] in
      by ! (subst (λ (us : List Val). ent 𝓤 (types.Kit.⋆ 𝓛 Γ) (WpFn 𝓤 H 𝓣.C 𝓣.Λ code.function (us ++ []) Post)) (sym ws)
      (qed 𝓛 Γ ∵ enter ! 𝓣.C 𝓣.Λ code.function (hv ∷ []) _ $ alloc_all ! (λ ls. pass_all ! refl (fa, tt) $
      sets ! (agg ! (and_then ! (lit ! tt) (and_then ! (get ! refl) (no_more !)))) refl (and_tt (has_ty (α E.al) hv) fa.0, (record { fits = lit< tt }, (fa.1, tt))) $ returns ! (look_at ! 0 refl) $ free_all ! refl $
      nothing ! $ move ! (1 ∷ 0 ∷ []) $ fjoin ! $ feq_i ! (List Val) (vnull ∷ []) (ptr_val null_ptr ∷ []) refl $ fjoin ! $ feq_i ! (List Val) (w ∷ []) (w ∷ []) refl $ fjoin ! $
      fpack ! (Valss (RawPtr ∷ P E ∷ [])) (within (shape (owning E)) (null_ptr, (z.0.3.0, tt)) (w ∷ [])) (vnull ∷ [], (hv ∷ [], tt)) $
      nothing ! $ move ! (1 ∷ 0 ∷ []) $ fjoin ! $ use1 𝓛 (‵ (To.own_val made (w ∷ []))) (id⊢ 𝓤 _) $
      suffices ! _ (ends_at 𝓛 F.ended stayed (F.clauses 𝓛 at_mem run) z w made (tt, tt) (tt, tt)) $ says ! refl $
      nothing ! $ nothing ! $ fjoin ! $ join ! $ nothing ! $ join ! $ done !))))

pub none_spec : {M : Type 1} → stated.statement M
unfolding tables_of
none_spec 𝓤 𝓛 𝓜 𝓡 wired =
    let 𝓣 : Tables 𝓤 𝓛.H = tables_of 𝓤 𝓛.H 𝓜 (tables 𝓤 𝓛.H 𝓜 𝓡 𝓡.env) in
    entered 𝓤 𝓛.H (triple_of 𝓛 F.signature (F.spec 𝓛 𝓜.mem 𝓡.returns)) 𝓣.C 𝓣.Λ #self code.function (code.unfolded 𝓤 𝓛.H 𝓜 𝓡 wired)
    (walk_Meets 𝓛 F.ended stayed (Goes-dropped 𝓛 0 (plain (λ _. Heap.the_row)) yes (λ κs x f. refl), tt) (F.clauses 𝓛 𝓜.mem 𝓡.returns) (WpFn 𝓤 𝓛.H 𝓣.C 𝓣.Λ code.function) (WpFn-mono 𝓤 𝓛.H 𝓛.laws 𝓣 code.function)
    (walk 𝓛 𝓜.mem 𝓡.returns 𝓣))
