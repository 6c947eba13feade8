use Rattle.std.proofs.Common.{◌∙◌, ap, arith, inl, inr, length, refl, sym}
use Rattle.nv_bus.proofs.CallLaws.{legal_places, no_places, nothing_lies_in, places-nil}
use Rattle.nv_controller.proofs.Words.{data_places, length_of, places, Transfer}
use Rattle.nv_controller.proofs.entry.find_data.Goals as goal

pub returns-in-NoData-clause-found : goal.returns-in-NoData-clause-found
returns-in-NoData-clause-found g c =
    no_places (g.M.PagedMemory.page_len c.args.mem.now) (g.M.PagedMemory.bytes c.args.mem.now)
    c.args.entry.now _ _ c.in-NoData.is (ap places c.clear.ensures ∙ places-nil)

pub returns-in-NoData-clause-inside : goal.returns-in-NoData-clause-inside
returns-in-NoData-clause-inside g c = rw c.clear.ensures (nothing_lies_in _)

pub returns-in-NoData-clause-len : goal.returns-in-NoData-clause-len
returns-in-NoData-clause-len g c =
    ap length (ap places c.clear.ensures ∙ places-nil) ∙ sym (ap length_of c.in-NoData.is)

pub returns-in-NoData-clause-few : goal.returns-in-NoData-clause-few
returns-in-NoData-clause-few g c = omega (arith, ap length (ap places c.clear.ensures ∙ places-nil))

pub returns-in-Ok-clause-found : goal.returns-in-Ok-clause-found
returns-in-Ok-clause-found g c =
    let found = legal_places _ (places c.walk.new.spans) (c.in-Ok.ensures.legal.0 refl) c.in-Ok.ensures.places in
    let at = λ (m : Transfer).
    data_places (g.M.PagedMemory.page_len c.args.mem.now) (g.M.PagedMemory.bytes c.args.mem.now) c.args.entry.now m in
    elim c.in-ToHost.is [
      | inl is ↦ ap at is ∙ found
      | inr is ↦ ap at is ∙ found
    ]
