-- The places of an entry's data.
use Rattle.std.proofs.Common.{◌≡◌, ◌∙◌, ℕ, ◌%◌, ◌^◌, ◌<◌, ◌≤◌, ◌==◌, Bool, true, false}
use Rattle.std.proofs.Common.{if◌then◌else◌, ap, refl, subst, sym, arith, List, []}
use Rattle.std.proofs.Common.{Option, Result, Ok, Err, rules}
use Rattle.std.proofs.lemmas.Bool.Decides.{nat_tests}
use Rattle.nv_layout.specs.declared.sqe.Sqe.{Sqe}
use Rattle.nv_command.specs.Decoding.{decoded_as, decoded_of, opcode_of, transfer_in, transfer_of}
use Rattle.nv_command.specs.Form.{namespace_of}
use Rattle.nv_command.specs.Identify.{identify_by}
use Rattle.nv_command.specs.declared.command.Command.{Command}
use Rattle.nv_command.specs.declared.decoded.Decoded.{Decoded}
use Rattle.nv_command.specs.declared.decoded.Decoded.TheVariants as decoded
use Rattle.nv_layout.specs.Steps.{◌>>=◌}
use Rattle.nv_command.specs.declared.decoded.Opcode.{Opcode}
use Rattle.nv_command.specs.declared.decoded.Opcode.TheVariants.{Identify, NamespaceManagement}
use Rattle.nv_command.specs.declared.decoded.Opcode.TheVariants.{NamespaceAttachment, GetLogPage}
use Rattle.nv_command.specs.declared.status_code.StatusCode.{StatusCode}
use Rattle.nv_command.specs.declared.status_code.StatusCode.TheVariants.{InvalidFieldInCommand}
use Rattle.nv_command.specs.declared.transfer.Transfer.{Transfer}
use Rattle.nv_command.specs.declared.transfer.Transfer.TheVariants.{FromHost, NoData, ToHost}
use Rattle.nv_prp.specs.Place.{LieIn, places}
use Rattle.nv_prp.proofs.FaultLaws.{none_from_legal}
use Rattle.nv_prp.specs.Transfer.{IsLegal, PrpTransfer, most_bytes, transfer_places}
use Rattle.nv_prp.specs.declared.error.PrpError.{PrpError}
use Rattle.nv_bus.specs.Call.{HasRoom, data_places, length_of, places_of, places_unless}
use Rattle.nv_bus.specs.Call.{within}

-- a legal transfer has the places of its bytes
pub legal_places : (t : PrpTransfer) (at : List ℕ) → IsLegal t → at ≡ transfer_places t
    → places_of t ≡ Ok at
unfolding places_of
legal_places t at l e =
    ap (λ (o : Option PrpError). places_unless o (transfer_places t)) (none_from_legal t l) ∙ ap Ok (sym e)

-- an empty list of segments has no places
pub places-nil : places [] ≡ []
unfolding places
places-nil = refl

-- an empty list of places lies in any memory
pub nothing_lies_in : (size : ℕ) → LieIn size []
unfolding LieIn
nothing_lies_in size = λ i d h. absurd (omega arith)

-- an entry without data has no places
pub no_places : (page_size : ℕ) (bytes : List ℕ) (e : Sqe) (m : Transfer) (at : List ℕ) → m ≡ NoData
    → at ≡ [] → data_places page_size bytes e m ≡ Ok at
no_places page_size bytes e m at is none = ap (λ (x : Transfer). data_places page_size bytes e x) is
    ∙ ap Ok (sym none)

-- ---- what an entry asks for

-- the length is greater than 0, and the host sends at most a page of 4,096 bytes
abbrev HasSome : Transfer → Type 0
HasSome NoData = Unit {0}
HasSome (ToHost n) = 0 < n
HasSome (FromHost n) = (0 < n) × (n ≤ 4096)

-- the NSID of a command
abbrev pub namespace_in : Decoded → ℕ
namespace_in (decoded.Whole k) = namespace_of k
namespace_in decoded.Create = 0
namespace_in (decoded.Attachment n detach) = n

-- what an entry with this NSID may ask for: any data has a length, and the NSID is the entry's or 0
abbrev pub IsAsked : ℕ → Decoded → Type 0
IsAsked n asked = HasSome (transfer_in asked) × (namespace_in asked ≤ n)

-- if an entry with this NSID breaks no rule, what it asks for is one that it may ask for
abbrev pub AskedIf : ℕ → Result Decoded StatusCode → Type 0
AskedIf n (Ok asked) = IsAsked n asked
AskedIf n (Err code) = Unit {0}

-- a command as what an entry asks for when nothing of it is in the host's data
abbrev whole : Command → Result Decoded StatusCode
whole k = Ok (decoded.Whole k)

-- of a choice between a command and a result, each may be asked for if both may
asked_if : (n : ℕ) (b : Bool) (k : Command) (r : Result Command StatusCode) → IsAsked n (decoded.Whole k)
    → AskedIf n (r >>= whole) → AskedIf n ((if b then Ok k else r) >>= whole)
asked_if n true k r first later = first
asked_if n false k r first later = later

-- an Identify with this NSID asks for what such an entry may ask for
asked_identify : (cns n : ℕ) → AskedIf n (identify_by cns n >>= whole)
asked_identify cns n = search (rules, asked_if)

-- a choice between two operations by SEL, each of which may be asked for, may be asked for
asked_select : (n select : ℕ) (x y : Decoded) → IsAsked n x → IsAsked n y
    → AskedIf n (if select == 0x0 then Ok x else (if select == 0x1 then Ok y else Err InvalidFieldInCommand))
asked_select n select x y first later = search rules

-- what an entry asks for by its opcode may be asked for with the entry's NSID
asked_as : (o : Opcode) (e : Sqe) → AskedIf e.nsid (decoded_as o e)
asked_as Identify e = asked_identify (e.cdw10 % 2 ^ 8) e.nsid
asked_as NamespaceManagement e = search (rules, asked_select)
asked_as NamespaceAttachment e = search (rules, asked_select)
asked_as GetLogPage e = (omega arith, omega arith)
asked_as o e = (tt, omega arith)

-- this also holds if the opcode isn't known
asked_by_opcode : (r : Result Opcode StatusCode) (e : Sqe) → AskedIf e.nsid (r >>= (λ o. decoded_as o e))
asked_by_opcode (Ok o) e = asked_as o e
asked_by_opcode (Err code) e = tt

-- what an entry asks for may be asked for with its NSID
pub asked_of : (e : Sqe) → AskedIf e.nsid (decoded_of e)
asked_of e = asked_by_opcode (opcode_of e) e

-- ---- a length that a data pointer can have

-- the transfer of what may be asked for has a length if it moves data
some_of : (n : ℕ) (r : Result Decoded StatusCode) (t : Transfer) → AskedIf n r
    → (r >>= (λ asked. Ok (transfer_in asked))) ≡ Ok t → HasSome t
some_of n (Ok asked) t h is = let same : transfer_in asked ≡ t = cc in subst HasSome same h.0
some_of n (Err code) t h is = absurd (cc)

-- a transfer whose data has a length has, within the limit, one that a data pointer can have
room_within : (limit : ℕ) (t : Transfer) → limit ≤ most_bytes → HasSome t → length_of t ≤ limit
    → HasRoom t
room_within limit NoData low some few = tt
room_within limit (ToHost n) low some few = (some, omega arith)
room_within limit (FromHost n) low some few = some

-- what the rule on the length accepts is no longer than the limit
pub within_limit : (limit : ℕ) (asked t : Transfer) → within limit asked ≡ Ok t → (t ≡ asked)
    × (length_of t ≤ limit)
within_limit limit asked t h = grind (arith, nat_tests, h)

-- what is no longer than the limit is accepted
pub within_few : (limit : ℕ) (asked : Transfer) → length_of asked ≤ limit → within limit asked
    ≡ Ok asked
within_few limit asked few = grind (arith, nat_tests)

-- the transfer of an entry that the rule on its length accepts has a length that a data pointer can have
pub has_room : (limit : ℕ) (e : Sqe) (asked t : Transfer) → limit ≤ most_bytes → transfer_of e ≡ Ok asked
    → within limit asked ≡ Ok t → HasRoom t
has_room limit e asked t low h w =
    let both = within_limit limit asked t w in
    let some = some_of e.nsid (decoded_of e) asked (asked_of e) h in
    room_within limit t low (subst HasSome (sym both.0) some) both.1
