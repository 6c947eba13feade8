-- A transfer between a memory and a controller, described by two PRP entries: what no public
-- contract reaches.
use Rattle.std.specs.Prelude.{◌≡◌, ℕ, List, MatchResult, None, Option, Result, Some}
use Rattle.nv_prp.specs.declared.error.PrpError.{PrpError}
use Rattle.nv_prp.specs.declared.pointer.DataPointer.{DataPointer}
use Rattle.nv_prp.specs.declared.spans.Span.{Span}
use Rattle.nv_prp.specs.Transfer.{PrpTransfer, transfer, spans_of}

-- the transfer with the entries and the length of a data pointer
abbrev pub transfer_of : ℕ → List ℕ → DataPointer → PrpTransfer
transfer_of page_size bytes pointer = transfer page_size bytes pointer.prp1 pointer.prp2 pointer.len

-- the result is the fault, if there is one
abbrev pub HasFault : {X : Type 0} → Result X PrpError → Option PrpError → Type 0
HasFault result fault = MatchResult result (λ _. fault ≡ None) (λ e. fault ≡ Some e)

-- a walk ended with this fault, or without a fault and with the spans of all data pages
abbrev pub HasWalked : {X : Type 0} → PrpTransfer → Option PrpError → Result X PrpError
    → List Span → Type 0
HasWalked t fault result spans =
    MatchResult result (λ _. (fault ≡ None) × (spans ≡ spans_of t)) (λ e. fault ≡ Some e)
