-- The places of an entry's data.
use Rattle.std.proofs.Common.{◌≡◌, ◌∙◌, ◌==◌, if◌then◌else◌, ℕ, false, ap, arith, length, sym, List, []}
use Rattle.std.proofs.Common.{Option, Some, Ok, Err}
use Rattle.std.proofs.lemmas.Bool.{eq-eqb}
use Rattle.nv_layout.specs.declared.sqe.Sqe.{Sqe}
use Rattle.nv_prp.proofs.FaultLaws.{none_from_legal}
use Rattle.nv_prp.specs.Place.{LieIn, places}
use Rattle.nv_prp.specs.Transfer.{IsLegal, first_fault, transfer, transfer_places}
use Rattle.nv_prp.specs.declared.error.PrpError.{PrpError}
use Rattle.nv_prp.specs.declared.spans.Span.{Span}
use Rattle.nv_blocks.specs.Effect.{places_of, places_unless, prp_refusal}
use Rattle.nv_blocks.specs.declared.refusal.Refusal.{Refusal}

-- no spans have no places
pub none_placed : (spans : List Span) → spans ≡ [] → places spans ≡ []
unfolding places
none_placed spans none = ap places none

-- no spans lie in any memory
pub none_lie : (size : ℕ) (spans : List Span) → spans ≡ [] → LieIn size spans
unfolding LieIn
none_lie size spans none = λ i d h. absurd (omega (arith, ap length none))

-- no bytes have no places
pub no_places : (page_size : ℕ) (bytes : List ℕ) (e : Sqe) (len : ℕ) (spans : List Span) → len ≡ 0 → spans ≡ []
    → places_of page_size bytes e len ≡ Ok (places spans)
unfolding places_of
no_places page_size bytes e len spans is none =
    let t = transfer page_size bytes e.prp1 e.prp2 len in
    ap (λ b. if b then Ok [] else places_unless (first_fault t) (transfer_places t)) (eq-eqb len 0 is)
    ∙ ap Ok (sym (none_placed spans none))

-- the places of a transfer of some bytes, or its fault
pub some_places : (page_size : ℕ) (bytes : List ℕ) (e : Sqe) (len : ℕ) → (len == 0) ≡ false
    → let t = transfer page_size bytes e.prp1 e.prp2 len in
    places_of page_size bytes e len ≡ places_unless (first_fault t) (transfer_places t)
unfolding places_of
some_places page_size bytes e len some =
    let t = transfer page_size bytes e.prp1 e.prp2 len in
    ap (λ b. if b then Ok [] else places_unless (first_fault t) (transfer_places t)) some

-- a legal transfer has the places of its bytes
pub legal_places : (page_size : ℕ) (bytes : List ℕ) (e : Sqe) (len : ℕ) (at : List ℕ) → (len == 0) ≡ false
    → let t = transfer page_size bytes e.prp1 e.prp2 len in
    IsLegal t → at ≡ transfer_places t → places_of page_size bytes e len ≡ Ok at
legal_places page_size bytes e len at some legal is =
    let t = transfer page_size bytes e.prp1 e.prp2 len in
    some_places page_size bytes e len some
    ∙ ap (λ (o : Option PrpError). places_unless o (transfer_places t)) (none_from_legal t legal) ∙ ap Ok (sym is)

-- a transfer with a fault is refused
pub faulty_places : (page_size : ℕ) (bytes : List ℕ) (e : Sqe) (len : ℕ) (fault : PrpError) (refusal : Refusal)
    → (len == 0) ≡ false
    → first_fault (transfer page_size bytes e.prp1 e.prp2 len) ≡ Some fault → refusal ≡ prp_refusal fault
    → places_of page_size bytes e len ≡ Err refusal
faulty_places page_size bytes e len fault refusal some is refused =
    let t = transfer page_size bytes e.prp1 e.prp2 len in
    some_places page_size bytes e len some
    ∙ ap (λ (o : Option PrpError). places_unless o (transfer_places t)) is ∙ ap Err (sym refused)

pub ruleset found = (none_placed, none_lie, no_places, legal_places, faulty_places)
