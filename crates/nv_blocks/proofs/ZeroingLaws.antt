-- What a command zeroes is all that it does, if it only zeroes.
use Rattle.std.proofs.Common.{◌≡◌, ◌∙◌, ◌⊎◌, ◌/◌, ◌*◌, ◌+◌, ◌&&◌, if◌then◌else◌, nat_lt, ℕ, zero, suc, Bool}
use Rattle.std.proofs.Common.{true, false, ap, inl, inr}
use Rattle.std.proofs.Common.{length, length-append, refl, subst, sym, List, [], ◌∷◌, ◌++◌, Result, Ok, Err, arith}
use Rattle.nv_layout.specs.Steps.{◌>>=◌}
use Rattle.nv_layout.specs.declared.sqe.Sqe.{Sqe}
use Rattle.nv_prp.specs.Place.{read_at}
use Rattle.nv_blocks.proofs.ExecutionLaws.{from_else, from_ok, opcode_is}
use Rattle.nv_blocks.specs.Blocks.{zeroed}
use Rattle.nv_blocks.specs.Command.{asked_of, block_count, command_of, data_set, deallocates, extent_of}
use Rattle.nv_blocks.specs.Command.{extent_within, first_block}
use Rattle.nv_blocks.specs.Command.{has_data, length_of, namespace_of, on_blocks, opcode_by, opcode_of, range_count}
use Rattle.nv_blocks.specs.Command.{sets_reserved}
use Rattle.nv_blocks.specs.Command.{unreserved}
use Rattle.nv_blocks.specs.Effect.{Effect, effect, effect_of, execution, places_of}
use Rattle.nv_blocks.specs.Ranges.{are_within, deallocated, managed, range_at}
use Rattle.nv_blocks.specs.Zeroing.{ZeroingIsExecution, all_zeroed, effect_by, listed, zeroed_by, zeroed_in, zeroing}
use Rattle.nv_blocks.specs.declared.command.Action.TheVariants.{WriteZeroes}
use Rattle.nv_blocks.specs.declared.command.Command.{Command}
use Rattle.nv_blocks.specs.declared.command.Command.TheVariants as command
use Rattle.nv_blocks.specs.declared.command.Extent.{Extent}
use Rattle.nv_blocks.specs.declared.command.Opcode.{Opcode}
use Rattle.nv_blocks.specs.declared.command.Opcode.TheVariants.{OnBlocks, DatasetManagement}
use Rattle.nv_blocks.specs.declared.refusal.Refusal.{Refusal}
use Rattle.nv_blocks.specs.declared.refusal.Refusal.TheVariants.{InvalidFieldInCommand, LbaOutOfRange}
use Rattle.nv_blocks.specs.declared.terms.Namespace.{Namespace}
use Rattle.nv_blocks.specs.declared.terms.Terms.{Terms}

-- ---- ranges

-- zeroing one extent more zeroes it last
all_zeroed-append : (stored : List ℕ) (extents : List Extent) (last : Extent)
    → all_zeroed stored (extents ++ last ∷ []) ≡ zeroed (all_zeroed stored extents) last
all_zeroed-append stored [] last = refl
all_zeroed-append stored (first ∷ extents) last = all_zeroed-append (zeroed stored first) extents last

-- so many ranges have so many extents
pub length_listed : (size : ℕ) (list : List ℕ) (n : ℕ) → length (listed size list n) ≡ n
length_listed size list zero = refl
length_listed size list (suc n) =
    let range = range_at list n in
    length-append (listed size list n) (extent_of size range.first range.count ∷ [])
    ∙ ap (λ k. k + 1) (length_listed size list n) ∙ omega arith

-- zeroing the extents of ranges deallocates the ranges
all_zeroed-listed : (size : ℕ) (list stored : List ℕ) (n : ℕ)
    → all_zeroed stored (listed size list n) ≡ deallocated size list stored n
all_zeroed-listed size list stored zero = refl
all_zeroed-listed size list stored (suc n) =
    let range = range_at list n in
    let last = extent_of size range.first range.count in
    all_zeroed-append stored (listed size list n) last ∙ ap (λ l. zeroed l last) (all_zeroed-listed size list stored n)

-- the effect of ranges is that of zeroing them, or the same refusal
ranges_zero : (n size : ℕ) (deallocates : Bool) (list stored bytes : List ℕ)
    → (managed n size deallocates list stored >>= (λ new. Ok (effect new bytes)))
    ≡ effect_by (zeroed_by (length stored) n size deallocates list) stored bytes
unfolding managed zeroed_by
ranges_zero n size deallocates list stored bytes = by_tests (are_within (length stored / size) list n) deallocates
  where
    by_tests : (within deallocates : Bool)
        → ((if within then Ok (if deallocates then deallocated size list stored n else stored) else Err LbaOutOfRange)
        >>= (λ new. Ok (effect new bytes)))
        ≡ effect_by (if within then Ok (if deallocates then listed size list n else [])
        else Err LbaOutOfRange) stored bytes
    by_tests false deallocates = refl
    by_tests true false = refl
    by_tests true true = ap (λ l. Ok (effect l bytes)) (sym (all_zeroed-listed size list stored n))

-- ---- a command that only zeroes

-- Write Zeroes, or Dataset Management
abbrev OnlyZeroes : Command → Type 0
OnlyZeroes asked =
    ((extent : Extent) × (asked ≡ command.OnBlocks WriteZeroes extent))
    ⊎ ((n : ℕ) × (size : ℕ) × (ends : Bool) × (asked ≡ command.DatasetManagement n size ends))

-- the effect of a command that only zeroes is to zero, or the same refusal
zeroes_as : (terms : Terms) (at stored bytes : List ℕ) (asked : Command) → OnlyZeroes asked
    → effect_of terms at stored bytes asked
    ≡ effect_by (zeroed_in (length stored) asked (read_at bytes at)) stored bytes
zeroes_as terms at stored bytes asked only =
    let P : Command → Type 0 = λ c. effect_of terms at stored bytes c
    ≡ effect_by (zeroed_in (length stored) c (read_at bytes at)) stored bytes in
    elim only [
      | inl one ↦ subst P (sym one.1) refl
      | inr many ↦
          subst P (sym many.3) (ranges_zero many.0 many.1 many.2 (read_at bytes at) stored bytes)
    ]

-- what an entry with such an opcode asks for only zeroes
asks_only : (opcode : Opcode) (namespace : Namespace) (limit size : ℕ) (e : Sqe) (asked : Command)
    → (opcode ≡ OnBlocks WriteZeroes) ⊎ (opcode ≡ DatasetManagement)
    → asked_of opcode namespace limit size e ≡ Ok asked → OnlyZeroes asked
unfolding on_blocks data_set
asks_only opcode namespace limit size e asked kind asks =
    let block_size = namespace.block_size in
    elim kind [
      | inl is ↦
          let given = ap (λ (o : Opcode). asked_of o namespace limit size e) (sym is) ∙ asks in
          let limited = from_else (has_data WriteZeroes && nat_lt limit (block_count e * block_size))
          InvalidFieldInCommand
          (extent_within size block_size (first_block e) (block_count e)
          >>= (λ one. Ok (command.OnBlocks WriteZeroes one))) asked given in
          let (one, within, known) = from_ok (extent_within size block_size (first_block e) (block_count e))
          (λ one. Ok (command.OnBlocks WriteZeroes one)) asked limited in
          let same : command.OnBlocks WriteZeroes one ≡ asked = cc in
          inl (one, sym same)
      | inr is ↦
          let given = ap (λ (o : Opcode). asked_of o namespace limit size e) (sym is) ∙ asks in
          let listed = command.DatasetManagement (range_count e) block_size (deallocates e) in
          let limited = from_else (nat_lt limit (16 * range_count e)) InvalidFieldInCommand (Ok listed) asked given in
          let same : listed ≡ asked = cc in
          inr (range_count e, block_size, deallocates e, sym same)
    ]

-- so does its command
commands_only : (terms : Terms) (size : ℕ) (e : Sqe) (asked : Command)
    → (opcode_by e.opcode ≡ Ok (OnBlocks WriteZeroes)) ⊎ (opcode_by e.opcode ≡ Ok DatasetManagement)
    → command_of terms size e ≡ Ok asked → OnlyZeroes asked
unfolding command_of
commands_only terms size e asked kind of =
    let (opcode, known, more) = from_ok (opcode_of e)
    (λ opcode. namespace_of terms e.nsid
    >>= (λ namespace. unreserved opcode namespace terms.limit size e)) asked of in
    let (namespace, lent, asks) = from_ok (namespace_of terms e.nsid)
    (λ namespace. unreserved opcode namespace terms.limit size e) asked more in
    let is = opcode_is e opcode known in
    let own : (opcode ≡ OnBlocks WriteZeroes) ⊎ (opcode ≡ DatasetManagement) =
    elim kind [
      | inl one ↦ inl (let both = one in cc)
      | inr many ↦ inr (let both = many in cc)
    ] in
    asks_only opcode namespace terms.limit size e asked own
    (from_else (sets_reserved opcode e) InvalidFieldInCommand
    (asked_of opcode namespace terms.limit size e) asked asks)

-- ---- steps

-- two second steps that agree after a first one
same_steps : {A B E : Type 0} (r : Result A E) (f g : A → Result B E) → ((x : A) → r ≡ Ok x → f x ≡ g x)
    → (r >>= f) ≡ (r >>= g)
same_steps (Ok x) f g same = same x refl
same_steps (Err e) f g same = refl

-- the effect of two steps is that of the second one
effect_steps : {A : Type 0} (r : Result A Refusal) (f : A → Result (List Extent) Refusal) (stored bytes : List ℕ)
    → effect_by (r >>= f) stored bytes ≡ (r >>= (λ x. effect_by (f x) stored bytes))
effect_steps (Ok x) f stored bytes = refl
effect_steps (Err e) f stored bytes = refl

-- ---- the law

-- the effect of an entry that only zeroes is to zero what it zeroes
pub every_zeroing : ZeroingIsExecution
unfolding execution zeroing
every_zeroing terms page_size stored bytes e kind =
    let size = length stored in
    let found : Command → Result (List ℕ) Refusal = λ asked. places_of page_size bytes e (length_of asked) in
    let zeroes : Command → List ℕ → Result (List Extent) Refusal =
    λ asked at. zeroed_in size asked (read_at bytes at) in
    let whole : Command → Result Effect Refusal = λ asked.
    found asked >>= (λ at. effect_by (zeroes asked at) stored bytes) in
    same_steps (command_of terms size e)
    (λ asked. found asked >>= (λ at. effect_of terms at stored bytes asked)) whole
    (λ asked is. same_steps (found asked) (λ at. effect_of terms at stored bytes asked)
    (λ at. effect_by (zeroes asked at) stored bytes)
    (λ at there. zeroes_as terms at stored bytes asked (commands_only terms size e asked kind is)))
    ∙ sym (effect_steps (command_of terms size e) (λ asked. found asked >>= zeroes asked) stored bytes
    ∙ same_steps (command_of terms size e)
    (λ asked. effect_by (found asked >>= zeroes asked) stored bytes) whole
    (λ asked is. effect_steps (found asked) (zeroes asked) stored bytes))
