-- What a command that succeeds did, by the fields of its entry.
use Rattle.std.proofs.Common.{◌≡◌, ◌∙◌, ◌==◌, if◌then◌else◌, nat_lt, ℕ, ◌+◌, ◌*◌, ◌/◌, ◌<◌, ◌≤◌, ◌&&◌, Bool, true}
use Rattle.std.proofs.Common.{false}
use Rattle.std.proofs.Common.{ap, arith, length, refl, sym, List, replicate, Option, Some, None, Result, Ok, Err}
use Rattle.std.proofs.Math.Nat.{mul-le-mul_left}
use Rattle.std.proofs.lemmas.Bool.{leb-true, ne_eqb}
use Rattle.std.specs.Str.{bytes_eq}
use Rattle.nv_host.specs.Bytes.{bytes_at, with_bytes}
use Rattle.nv_layout.specs.Steps.{◌>>=◌}
use Rattle.nv_layout.specs.declared.sqe.Sqe.{Sqe}
use Rattle.nv_prp.proofs.PlaceLaws.{length-written_at}
use Rattle.nv_prp.specs.Place.{read_at, written_at}
use Rattle.nv_prp.specs.Transfer.{PrpTransfer, first_fault, transfer, transfer_places}
use Rattle.nv_prp.specs.declared.error.PrpError.{PrpError}
use Rattle.nv_blocks.proofs.BlockLaws.{blocks_inside}
use Rattle.nv_blocks.proofs.PlaceLaws.{some_places}
use Rattle.nv_blocks.specs.Blocks.{stored_in, zeroed}
use Rattle.nv_blocks.specs.Command.{asked_of, block_count, command_of, data_set, deallocates, extent_of, extent_within}
use Rattle.nv_blocks.specs.Command.{first_block, has_data, is_plain, is_within, length_of, lent_as, namespace_of}
use Rattle.nv_blocks.specs.Command.{on_blocks}
use Rattle.nv_blocks.specs.Command.{opcode_by, opcode_of, range_count, sets_reserved, unreserved}
use Rattle.nv_blocks.specs.Effect.{Effect, acted, effect, effect_of, execution, places_of, places_unless}
use Rattle.nv_blocks.specs.Effect.{sent}
use Rattle.nv_blocks.specs.History.{host_bytes, host_places}
use Rattle.nv_blocks.specs.Ranges.{are_within, deallocated, managed}
use Rattle.nv_blocks.specs.declared.command.Action.{Action}
use Rattle.nv_blocks.specs.declared.command.Action.TheVariants.{Read, Write, Compare, WriteZeroes, Verify}
use Rattle.nv_blocks.specs.declared.command.Command.{Command}
use Rattle.nv_blocks.specs.declared.command.Command.TheVariants as command
use Rattle.nv_blocks.specs.declared.command.Extent.{Extent}
use Rattle.nv_blocks.specs.declared.command.Opcode.{Opcode}
use Rattle.nv_blocks.specs.declared.command.Opcode.TheVariants.{Flush, OnBlocks, DatasetManagement}
use Rattle.nv_blocks.specs.declared.refusal.Refusal.TheVariants.{CapacityExceeded, InvalidFieldInCommand}
use Rattle.nv_blocks.specs.declared.refusal.Refusal.TheVariants.{InvalidNamespaceOrFormat}
use Rattle.nv_blocks.specs.declared.refusal.Refusal.TheVariants.{CompareFailure, LbaOutOfRange}
use Rattle.nv_blocks.specs.declared.terms.Namespace.{Namespace}
use Rattle.nv_blocks.specs.declared.terms.Terms.{Terms}

-- ---- what an effect is, by the fields of the entry

-- where the blocks of an entry begin in the data, and how many bytes they have
abbrev pub start_of : Namespace → Sqe → ℕ
start_of namespace e = first_block e * namespace.block_size

-- how many bytes the blocks of an entry have
abbrev pub size_of : Namespace → Sqe → ℕ
size_of namespace e = block_count e * namespace.block_size

-- the list of ranges that the host sends
abbrev pub list_of : ℕ → List ℕ → Sqe → List ℕ
list_of page_size bytes e = host_bytes page_size bytes e (16 * range_count e)

-- the effect of an action
abbrev pub IsActed : Action → Namespace → ℕ → List ℕ → Sqe → List ℕ → Effect → Type 0
IsActed Read namespace page_size bytes e stored effect =
    (effect.stored ≡ stored)
    × (effect.bytes ≡ written_at bytes (host_places page_size bytes e (size_of namespace e))
    (bytes_at stored (start_of namespace e) (size_of namespace e)))
IsActed Write namespace page_size bytes e stored effect =
    effect.stored ≡ with_bytes stored (start_of namespace e) (host_bytes page_size bytes e (size_of namespace e))
IsActed Compare namespace page_size bytes e stored effect = effect.stored ≡ stored
IsActed WriteZeroes namespace page_size bytes e stored effect =
    effect.stored ≡ with_bytes stored (start_of namespace e) (replicate (size_of namespace e) 0)
IsActed Verify namespace page_size bytes e stored effect = effect.stored ≡ stored

-- the effect of a command
abbrev pub IsDone : Opcode → Namespace → ℕ → List ℕ → Sqe → List ℕ → Effect → Type 0
IsDone Flush namespace page_size bytes e stored effect = effect.stored ≡ stored
IsDone (OnBlocks action) namespace page_size bytes e stored effect =
    (start_of namespace e + size_of namespace e ≤ length stored)
    × IsActed action namespace page_size bytes e stored effect
IsDone DatasetManagement namespace page_size bytes e stored effect =
    let list = list_of page_size bytes e in
    (are_within (length stored / namespace.block_size) list (range_count e) ≡ true)
    × (effect.stored ≡ (if deallocates e
    then deallocated namespace.block_size list stored (range_count e)
    else stored))

-- ---- results of steps

-- if two steps succeed, the first does, and then the second
pub from_ok : {A B E : Type 0} (r : Result A E) (f : A → Result B E) (y : B) → (r >>= f) ≡ Ok y
    → (x : A) × (r ≡ Ok x) × (f x ≡ Ok y)
from_ok (Ok x) f y is = (x, refl, is)
from_ok (Err e) f y is = absurd (cc)

-- a result is the later one if a test that would refuse doesn't
pub from_else : {A E : Type 0} (b : Bool) (e : E) (r : Result A E) (y : A) → (if b then Err e else r) ≡ Ok y → r ≡ Ok y
from_else true e r y is = absurd (cc)
from_else false e r y is = is

-- a result is there only if its test holds
from_then : {A E : Type 0} (b : Bool) (e : E) (x y : A) → (if b then Ok x else Err e) ≡ Ok y → (b ≡ true) × (x ≡ y)
from_then true e x y is = (refl, cc)
from_then false e x y is = absurd (cc)

-- ---- the parts of a command

-- a namespace that an entry finds is the one that is lent
lent_is : (o : Option Namespace) (nsid : ℕ) (namespace : Namespace) → lent_as o nsid ≡ Ok namespace → o ≡ Some namespace
lent_is (Some one) nsid namespace is =
    ap Some (from_then (one.nsid == nsid) InvalidNamespaceOrFormat one namespace is).1
lent_is None nsid namespace is = absurd (cc)

-- an opcode that an entry has is that of its number
pub opcode_is : (e : Sqe) (opcode : Opcode) → opcode_of e ≡ Ok opcode → opcode_by e.opcode ≡ Ok opcode
opcode_is e opcode is =
    let (o, known, plain) = from_ok (opcode_by e.opcode) (λ o. if is_plain e then Ok o else Err InvalidFieldInCommand)
    opcode is in
    known ∙ ap Ok (from_then (is_plain e) InvalidFieldInCommand o opcode plain).1

-- some bytes, where they are found, lie at the places of their transfer
places_are : (page_size : ℕ) (bytes : List ℕ) (e : Sqe) (len : ℕ) (at : List ℕ) → 0 < len
    → places_of page_size bytes e len ≡ Ok at → at ≡ host_places page_size bytes e len
places_are page_size bytes e len at some is =
    by_fault (first_fault t) (sym (some_places page_size bytes e len (ne_eqb len 0 (λ none. omega arith))) ∙ is)
  where
    t : PrpTransfer
    t = transfer page_size bytes e.prp1 e.prp2 len

    by_fault : (o : Option PrpError) → places_unless o (transfer_places t) ≡ Ok at → at ≡ transfer_places t
    by_fault None found = cc
    by_fault (Some fault) found = absurd (cc)

-- some blocks of some bytes are some bytes
some_blocks : (count size : ℕ) → 0 < count → 0 < size → 0 < count * size
some_blocks count size some each =
    let most : count * 1 ≤ count * size = mul-le-mul_left count (let least : 1 ≤ size = omega arith in least) in
    omega arith

-- ---- a command that succeeds

-- an action that succeeds has its effect
acted_is : (action : Action) (namespace : Namespace) (is_exhausted : Bool) (page_size : ℕ) (bytes : List ℕ) (e : Sqe)
    (stored at : List ℕ) (done : Effect)
    → let extent = extent_of namespace.block_size (first_block e) (block_count e) in
    places_of page_size bytes e (length_of (command.OnBlocks action extent)) ≡ Ok at
    → acted action is_exhausted extent at stored bytes ≡ Ok done
    → IsActed action namespace page_size bytes e stored done
acted_is Read namespace is_exhausted page_size bytes e stored at done found is =
    let some = some_blocks (block_count e) namespace.block_size (omega arith) namespace.some_bytes in
    let place = places_are page_size bytes e (size_of namespace e) at some found in
    let same : effect stored (written_at bytes at
    (stored_in stored (extent_of namespace.block_size (first_block e) (block_count e)))) ≡ done = cc in (
      sym (ap (λ d. d.stored) same),
      sym (ap (λ d. d.bytes) same) ∙ ap (λ l. written_at bytes l
          (stored_in stored (extent_of namespace.block_size (first_block e) (block_count e)))) place,
    )
acted_is Write namespace is_exhausted page_size bytes e stored at done found is =
    let some = some_blocks (block_count e) namespace.block_size (omega arith) namespace.some_bytes in
    let place = places_are page_size bytes e (size_of namespace e) at some found in
    let whole = from_else is_exhausted CapacityExceeded
    (Ok (effect (with_bytes stored (start_of namespace e) (read_at bytes at)) bytes)) done is in
    let same : effect (with_bytes stored (start_of namespace e) (read_at bytes at)) bytes ≡ done = cc in
    sym (ap (λ d. d.stored) same) ∙ ap (λ l. with_bytes stored (start_of namespace e) (read_at bytes l)) place
acted_is Compare namespace is_exhausted page_size bytes e stored at done found is =
    let extent = extent_of namespace.block_size (first_block e) (block_count e) in
    let same = (from_then (bytes_eq (read_at bytes at) (stored_in stored extent)) CompareFailure
    (effect stored bytes) done is).1 in
    sym (ap (λ d. d.stored) same)
acted_is WriteZeroes namespace is_exhausted page_size bytes e stored at done found is =
    let same : effect (zeroed stored (extent_of namespace.block_size (first_block e) (block_count e))) bytes
    ≡ done = cc in
    sym (ap (λ d. d.stored) same)
acted_is Verify namespace is_exhausted page_size bytes e stored at done found is =
    let same : effect stored bytes ≡ done = cc in sym (ap (λ d. d.stored) same)

-- what an entry asks for, once it is done, had its effect
asked_is : (opcode : Opcode) (namespace : Namespace) (terms : Terms) (page_size : ℕ) (bytes : List ℕ) (e : Sqe)
    (stored at : List ℕ) (asked : Command) (done : Effect)
    → asked_of opcode namespace terms.limit (length stored) e ≡ Ok asked
    → places_of page_size bytes e (length_of asked) ≡ Ok at
    → effect_of terms at stored bytes asked ≡ Ok done
    → IsDone opcode namespace page_size bytes e stored done
unfolding on_blocks data_set managed
asked_is Flush namespace terms page_size bytes e stored at asked done asks found is =
    let same : command.Flush ≡ asked = cc in
    let whole : Ok (effect stored bytes) ≡ Ok done = ap (effect_of terms at stored bytes) same ∙ is in
    let end : effect stored bytes ≡ done = cc in
    sym (ap (λ d. d.stored) end)
asked_is (OnBlocks action) namespace terms page_size bytes e stored at asked done asks found is =
    let size = namespace.block_size in
    let extent = extent_of size (first_block e) (block_count e) in
    let limited = from_else (has_data action && nat_lt terms.limit (block_count e * size)) InvalidFieldInCommand
    (extent_within (length stored) size (first_block e) (block_count e)
    >>= (λ one. Ok (command.OnBlocks action one))) asked asks in
    let (one, within, known) = from_ok (extent_within (length stored) size (first_block e) (block_count e))
    (λ one. Ok (command.OnBlocks action one)) asked limited in
    let both = from_then (is_within (length stored / size) (first_block e) (block_count e))
    LbaOutOfRange extent one within in
    let same : command.OnBlocks action extent ≡ asked =
    (let given : command.OnBlocks action one ≡ asked = cc in ap (command.OnBlocks action) both.1 ∙ given) in (
      blocks_inside (length stored) size (first_block e) (block_count e) namespace.some_bytes
          (leb-true (first_block e + block_count e) (length stored / size) both.0),
      acted_is action namespace terms.is_exhausted page_size bytes e stored at done
          (ap (λ (c : Command). places_of page_size bytes e (length_of c)) same ∙ found)
          (ap (effect_of terms at stored bytes) same ∙ is),
    )
asked_is DatasetManagement namespace terms page_size bytes e stored at asked done asks found is =
    let size = namespace.block_size in
    let n = range_count e in
    let listed = command.DatasetManagement n size (deallocates e) in
    let limited = from_else (nat_lt terms.limit (16 * n)) InvalidFieldInCommand (Ok listed) asked asks in
    let same : listed ≡ asked = cc in
    let place = places_are page_size bytes e (16 * n) at (omega arith)
    (ap (λ (c : Command). places_of page_size bytes e (length_of c)) same ∙ found) in
    let (new, left, ends) = from_ok (managed n size (deallocates e) (read_at bytes at) stored)
    (λ new. Ok (effect new bytes)) done (ap (effect_of terms at stored bytes) same ∙ is) in
    let both = from_then (are_within (length stored / size) (read_at bytes at) n) LbaOutOfRange
    (if deallocates e then deallocated size (read_at bytes at) stored n else stored) new left in
    let end : effect new bytes ≡ done = cc in (
      ap (λ l. are_within (length stored / size) (read_at bytes l) n) (sym place) ∙ both.0,
      sym (ap (λ d. d.stored) end) ∙ sym both.1
          ∙ ap (λ l. if deallocates e then deallocated size (read_at bytes l) stored n else stored) place,
    )

-- the namespace and the opcode of an entry that succeeded, and its effect
pub record IsExecuted (terms : Terms) (page_size : ℕ) (stored bytes : List ℕ) (e : Sqe) (done : Effect)
    (namespace : Namespace) (opcode : Opcode) : Type 0 where
  pub lent : terms.namespace ≡ Some namespace
  pub known : opcode_by e.opcode ≡ Ok opcode
  pub effect : IsDone opcode namespace page_size bytes e stored done

-- an entry that succeeds has a namespace and an opcode, and its effect
pub executed : (terms : Terms) (page_size : ℕ) (stored bytes : List ℕ) (e : Sqe) (done : Effect)
    → execution terms page_size stored bytes e ≡ Ok done
    → (namespace : Namespace) × (opcode : Opcode) × IsExecuted terms page_size stored bytes e done namespace opcode
unfolding execution command_of
executed terms page_size stored bytes e done is =
    let size = length stored in
    let (asked, of, rest) = from_ok (command_of terms size e)
    (λ asked. places_of page_size bytes e (length_of asked)
    >>= (λ at. effect_of terms at stored bytes asked)) done is in
    let (at, found, acts) = from_ok (places_of page_size bytes e (length_of asked))
    (λ at. effect_of terms at stored bytes asked) done rest in
    let (opcode, known, more) = from_ok (opcode_of e)
    (λ opcode. namespace_of terms e.nsid
    >>= (λ namespace. unreserved opcode namespace terms.limit size e)) asked of in
    let (namespace, lent, asks) = from_ok (namespace_of terms e.nsid)
    (λ namespace. unreserved opcode namespace terms.limit size e) asked more in (
      namespace,
      opcode,
      record {
        lent = lent_is terms.namespace e.nsid namespace lent;
        known = opcode_is e opcode known;
        effect = asked_is opcode namespace terms page_size bytes e stored at asked done
            (from_else (sets_reserved opcode e) InvalidFieldInCommand
            (asked_of opcode namespace terms.limit size e) asked asks) found acts;
      },
    )

-- ---- the length of the host's memory

-- an action keeps it
acted_length : (action : Action) (is_exhausted : Bool) (extent : Extent) (at stored bytes : List ℕ) (done : Effect)
    → acted action is_exhausted extent at stored bytes ≡ Ok done → length done.bytes ≡ length bytes
acted_length Read is_exhausted extent at stored bytes done is =
    let same : effect stored (written_at bytes at (stored_in stored extent)) ≡ done = cc in
    ap (λ d. length d.bytes) (sym same) ∙ length-written_at bytes at (stored_in stored extent)
acted_length Write is_exhausted extent at stored bytes done is =
    let whole = from_else is_exhausted CapacityExceeded
    (Ok (effect (with_bytes stored extent.start (read_at bytes at)) bytes)) done is in
    let same : effect (with_bytes stored extent.start (read_at bytes at)) bytes ≡ done = cc in
    ap (λ d. length d.bytes) (sym same)
acted_length Compare is_exhausted extent at stored bytes done is =
    let same = (from_then (bytes_eq (read_at bytes at) (stored_in stored extent)) CompareFailure
    (effect stored bytes) done is).1 in
    ap (λ d. length d.bytes) (sym same)
acted_length WriteZeroes is_exhausted extent at stored bytes done is =
    let same : effect (zeroed stored extent) bytes ≡ done = cc in ap (λ d. length d.bytes) (sym same)
acted_length Verify is_exhausted extent at stored bytes done is =
    let same : effect stored bytes ≡ done = cc in ap (λ d. length d.bytes) (sym same)

-- a command keeps it
effect_length : (terms : Terms) (at stored bytes : List ℕ) (asked : Command) (done : Effect)
    → effect_of terms at stored bytes asked ≡ Ok done → length done.bytes ≡ length bytes
effect_length terms at stored bytes command.Flush done is =
    let same : effect stored bytes ≡ done = cc in ap (λ d. length d.bytes) (sym same)
effect_length terms at stored bytes (command.OnBlocks action extent) done is =
    acted_length action terms.is_exhausted extent at stored bytes done is
effect_length terms at stored bytes (command.DatasetManagement ranges block_size deallocates) done is =
    let (new, left, ends) = from_ok (managed ranges block_size deallocates (read_at bytes at) stored)
    (λ new. Ok (effect new bytes)) done is in
    let same : effect new bytes ≡ done = cc in ap (λ d. length d.bytes) (sym same)

-- an entry that succeeds keeps it
pub executed_length : (terms : Terms) (page_size : ℕ) (stored bytes : List ℕ) (e : Sqe) (done : Effect)
    → execution terms page_size stored bytes e ≡ Ok done → length done.bytes ≡ length bytes
unfolding execution
executed_length terms page_size stored bytes e done is =
    let (asked, of, rest) = from_ok (command_of terms (length stored) e)
    (λ asked. places_of page_size bytes e (length_of asked)
    >>= (λ at. effect_of terms at stored bytes asked)) done is in
    let (at, found, acts) = from_ok (places_of page_size bytes e (length_of asked))
    (λ at. effect_of terms at stored bytes asked) done rest in
    effect_length terms at stored bytes asked done acts

-- so does an answer whose data is sent
pub sent_length : (page_size : ℕ) (e : Sqe) (written bytes new : List ℕ) → sent page_size e written bytes ≡ Ok new
    → length new ≡ length bytes
unfolding sent
sent_length page_size e written bytes new is =
    let (at, found, ends) = from_ok (places_of page_size bytes e (length written))
    (λ at. Ok (written_at bytes at written)) new is in
    let same : written_at bytes at written ≡ new = cc in
    ap length (sym same) ∙ length-written_at bytes at written
