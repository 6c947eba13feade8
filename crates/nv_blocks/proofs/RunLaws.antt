-- Along every run each block is what the newest change left, and a read gives that.
use Rattle.std.proofs.Common.{◌≡◌, ◌≢◌, ◌∙◌, ◌==◌, if◌then◌else◌, ℕ, zero, suc, ◌+◌, ◌-◌, ◌*◌, ◌<◌, ◌≤◌, ◌&&◌, Bool}
use Rattle.std.proofs.Common.{true, false}
use Rattle.std.proofs.Common.{ap, arith, drop, inl, inr, length, refl, subst, sym, take, List, [], ◌∷◌, ◌++◌, replicate}
use Rattle.std.proofs.Common.{Option, Some, None, Result, Ok, Err}
use Rattle.std.proofs.Math.Seq.{take-add}
use Rattle.std.proofs.lemmas.Bool.{cases_eq, eq-eqb, ne_eqb}
use Rattle.std.proofs.lemmas.List.{drop-drop, length-replicate}
use Rattle.nv_host.proofs.BytesLaws.{length-with_bytes}
use Rattle.nv_host.specs.Bytes.{bytes_at}
use Rattle.nv_layout.specs.declared.sqe.Sqe.{Sqe}
use Rattle.nv_prp.proofs.PageLaws.{length_transfer_places}
use Rattle.nv_prp.proofs.PlaceLaws.{length-read_at}
use Rattle.nv_prp.specs.Place.{written_at}
use Rattle.nv_prp.specs.Transfer.{transfer}
use Rattle.nv_blocks.proofs.CompareLaws.{no_bytes}
use Rattle.nv_blocks.proofs.ExecutionLaws.{IsDone, executed, list_of, size_of, start_of}
use Rattle.nv_blocks.proofs.HistoryLaws.{block, ends_before, length-deallocated, ranges_cleared, ranges_of_another}
use Rattle.nv_blocks.proofs.HistoryLaws.{written_changes, zeros_change, zeros_part}
use Rattle.nv_blocks.specs.Command.{block_count, deallocates, first_block, opcode_by, range_count}
use Rattle.nv_blocks.specs.Effect.{Effect, execution}
use Rattle.nv_blocks.specs.History.{Change, Cleared, Made, Written, blocks_from, changed, changes_as, changes_by}
use Rattle.nv_blocks.specs.History.{cleared_ranges, host_bytes, host_places, if_done, is_among, newest}
use Rattle.nv_blocks.specs.Ranges.{deallocated}
use Rattle.nv_blocks.specs.Runs.{Answered, Between, EveryReadGivesTheNewest, Event, HoldsNewest, IsLent, MayAllHappen}
use Rattle.nv_blocks.specs.Runs.{MayHappen, NewData, ReadsNewest, Turn, World, after, changes_in, changes_next}
use Rattle.nv_blocks.specs.Runs.{given_back}
use Rattle.nv_blocks.specs.Runs.{history, history_from, lent_of, put, turn_scene, world_after}
use Rattle.nv_blocks.specs.Turn.{entry_in, outcome_by, outcome_of, scene_by}
use Rattle.nv_blocks.specs.declared.command.Action.TheVariants.{Read, Write, Compare, WriteZeroes, Verify}
use Rattle.nv_blocks.specs.declared.command.Opcode.{Opcode}
use Rattle.nv_blocks.specs.declared.command.Opcode.TheVariants.{Flush, OnBlocks, DatasetManagement}
use Rattle.nv_blocks.specs.declared.refusal.Refusal.{Refusal}
use Rattle.nv_blocks.specs.declared.terms.Namespace.{Namespace}
use Rattle.nv_blocks.specs.declared.terms.Terms.{Terms}
use Rattle.nv_blocks.specs.declared.turns.Stop.{Stop}

-- each block of namespaces with this data and these block sizes is what the newest change left
abbrev Holds : List Change → (ℕ → List ℕ) → (ℕ → ℕ) → Type 0
Holds changes stored sizes =
    (n b : ℕ) → (b + 1) * sizes n ≤ length (stored n)
    → bytes_at (stored n) (b * sizes n) (sizes n) ≡ newest changes n b

-- ---- the data of a transfer

-- the host's memory has so many bytes at an entry's places
length-host_bytes : (page_size : ℕ) (bytes : List ℕ) (e : Sqe) (len : ℕ)
    → length (host_bytes page_size bytes e len) ≡ len
length-host_bytes page_size bytes e len =
    length-read_at bytes (host_places page_size bytes e len)
    ∙ length_transfer_places (transfer page_size bytes e.prp1 e.prp2 len)

-- ---- one command

-- a command keeps the length of the data
done_length : (opcode : Opcode) (namespace : Namespace) (page_size : ℕ) (bytes : List ℕ) (e : Sqe) (stored : List ℕ)
    (done : Effect) → IsDone opcode namespace page_size bytes e stored done → length done.stored ≡ length stored
done_length Flush namespace page_size bytes e stored done is = ap length is
done_length (OnBlocks Read) namespace page_size bytes e stored done is = ap length is.1.0
done_length (OnBlocks Write) namespace page_size bytes e stored done is =
    ap length is.1
    ∙ length-with_bytes stored (start_of namespace e) (host_bytes page_size bytes e (size_of namespace e))
    (omega (arith, length-host_bytes page_size bytes e (size_of namespace e), is.0))
done_length (OnBlocks Compare) namespace page_size bytes e stored done is = ap length is.1
done_length (OnBlocks WriteZeroes) namespace page_size bytes e stored done is =
    ap length is.1
    ∙ length-with_bytes stored (start_of namespace e) (replicate (size_of namespace e) 0)
    (omega (arith, length-replicate {A = ℕ} (size_of namespace e) 0, is.0))
done_length (OnBlocks Verify) namespace page_size bytes e stored done is = ap length is.1
done_length DatasetManagement namespace page_size bytes e stored done is = ap length is.1 ∙ by_test (deallocates e)
  where
    list : List ℕ
    list = list_of page_size bytes e

    by_test : (t : Bool)
        → length (if t then deallocated namespace.block_size list stored (range_count e) else stored) ≡ length stored
    by_test true = length-deallocated namespace.block_size list stored (range_count e) namespace.some_bytes is.0
    by_test false = refl

-- after a command, a block of its namespace is what the newest change left
own_newest : (opcode : Opcode) (namespace : Namespace) (page_size : ℕ) (bytes : List ℕ) (e : Sqe) (stored : List ℕ)
    (done : Effect) (older : List Change) (b : ℕ) → IsDone opcode namespace page_size bytes e stored done
    → block stored namespace.block_size b ≡ newest older namespace.nsid b
    → block done.stored namespace.block_size b
    ≡ newest (changes_as opcode namespace page_size bytes e ++ older) namespace.nsid b
own_newest Flush namespace page_size bytes e stored done older b is before =
    ap (λ l. block l namespace.block_size b) is ∙ before
own_newest (OnBlocks Read) namespace page_size bytes e stored done older b is before =
    ap (λ l. block l namespace.block_size b) is.1.0 ∙ before
own_newest (OnBlocks Write) namespace page_size bytes e stored done older b is before =
    let size = namespace.block_size in
    let written = host_bytes page_size bytes e (size_of namespace e) in
    ap (λ l. block l size b) is.1
    ∙ written_changes namespace.nsid stored written size (first_block e) (block_count e) b
    (length-host_bytes page_size bytes e (size_of namespace e)) is.0
    ∙ ap (changed (Written namespace.nsid size (first_block e) (block_count e) written) namespace.nsid b) before
own_newest (OnBlocks Compare) namespace page_size bytes e stored done older b is before =
    ap (λ l. block l namespace.block_size b) is.1 ∙ before
own_newest (OnBlocks WriteZeroes) namespace page_size bytes e stored done older b is before =
    let size = namespace.block_size in
    ap (λ l. block l size b) is.1
    ∙ zeros_change namespace.nsid stored size (first_block e) (block_count e) b is.0
    ∙ ap (changed (Cleared namespace.nsid size (first_block e) (block_count e)) namespace.nsid b) before
own_newest (OnBlocks Verify) namespace page_size bytes e stored done older b is before =
    ap (λ l. block l namespace.block_size b) is.1 ∙ before
own_newest DatasetManagement namespace page_size bytes e stored done older b is before =
    ap (λ l. block l namespace.block_size b) is.1 ∙ by_test (deallocates e)
  where
    list : List ℕ
    list = list_of page_size bytes e

    by_test : (t : Bool)
        → block (if t then deallocated namespace.block_size list stored (range_count e) else stored)
        namespace.block_size b
        ≡ newest ((if t then cleared_ranges namespace list (range_count e) else []) ++ older) namespace.nsid b
    by_test true = ranges_cleared namespace list stored older (range_count e) b is.0 before
    by_test false = before

-- a command changes no block of another namespace
another_stays : (opcode : Opcode) (namespace : Namespace) (page_size : ℕ) (bytes : List ℕ) (e : Sqe)
    (older : List Change) (n b : ℕ) → namespace.nsid ≢ n
    → newest (changes_as opcode namespace page_size bytes e ++ older) n b ≡ newest older n b
another_stays Flush namespace page_size bytes e older n b other = refl
another_stays (OnBlocks Read) namespace page_size bytes e older n b other = refl
another_stays (OnBlocks Write) namespace page_size bytes e older n b other =
    let size = namespace.block_size in
    let written = host_bytes page_size bytes e (size_of namespace e) in
    ap (λ t. if t && is_among (first_block e) (block_count e) b
    then block written size (b - first_block e) else newest older n b) (ne_eqb namespace.nsid n other)
another_stays (OnBlocks Compare) namespace page_size bytes e older n b other = refl
another_stays (OnBlocks WriteZeroes) namespace page_size bytes e older n b other =
    ap (λ t. if t && is_among (first_block e) (block_count e) b
    then replicate namespace.block_size 0 else newest older n b) (ne_eqb namespace.nsid n other)
another_stays (OnBlocks Verify) namespace page_size bytes e older n b other = refl
another_stays DatasetManagement namespace page_size bytes e older n b other = by_test (deallocates e)
  where
    list : List ℕ
    list = list_of page_size bytes e

    by_test : (t : Bool)
        → newest ((if t then cleared_ranges namespace list (range_count e) else []) ++ older) n b ≡ newest older n b
    by_test true = ranges_of_another namespace list older (range_count e) n b other
    by_test false = refl

-- ---- the data of all namespaces

-- the value for n, and the values for others
put_same : {X : Type 0} (f : ℕ → X) (n k : ℕ) (value : X) → n ≡ k → put f n value k ≡ value
put_same f n k value is = ap (λ t. if t then value else f k) (eq-eqb n k is)

-- another value stays
put_other : {X : Type 0} (f : ℕ → X) (n k : ℕ) (value : X) → n ≢ k → put f n value k ≡ f k
put_other f n k value other = ap (λ t. if t then value else f k) (ne_eqb n k other)

-- data that was lent and isn't changed is the same
given_back_same : (o : Option Namespace) (stored : ℕ → List ℕ) (n : ℕ)
    → given_back o stored (lent_of o stored) n ≡ stored n
given_back_same None stored n = refl
given_back_same (Some namespace) stored n = elim (cases_eq namespace.nsid n) [
  | inl is ↦ put_same stored namespace.nsid n (stored namespace.nsid) is ∙ ap stored is
  | inr other ↦ put_other stored namespace.nsid n (stored namespace.nsid) other
]

-- the same data holds the same
same_holds : (changes : List Change) (old new : ℕ → List ℕ) (sizes : ℕ → ℕ) → ((n : ℕ) → new n ≡ old n)
    → Holds changes old sizes → Holds changes new sizes
same_holds changes old new sizes same holds n b =
    let P : List ℕ → Type 0 = λ l. (b + 1) * sizes n ≤ length l
    → bytes_at l (b * sizes n) (sizes n) ≡ newest changes n b in
    subst P (sym (same n)) (holds n b)

-- ---- one event

-- after a command that was lent the data of a namespace, each block is what the newest change left
done_holds : (opcode : Opcode) (namespace : Namespace) (page_size : ℕ) (bytes : List ℕ) (e : Sqe) (done : Effect)
    (older : List Change) (stored : ℕ → List ℕ) (sizes : ℕ → ℕ) → Holds older stored sizes
    → namespace.block_size ≡ sizes namespace.nsid
    → IsDone opcode namespace page_size bytes e (stored namespace.nsid) done
    → Holds (changes_as opcode namespace page_size bytes e ++ older) (put stored namespace.nsid done.stored) sizes
done_holds opcode namespace page_size bytes e done older stored sizes holds size is n b =
    elim (cases_eq namespace.nsid n) [
      | inl same ↦
          let changes = changes_as opcode namespace page_size bytes e ++ older in
          let own : (b + 1) * sizes namespace.nsid ≤ length done.stored
          → bytes_at done.stored (b * sizes namespace.nsid) (sizes namespace.nsid) ≡ newest changes namespace.nsid b =
          (let P : ℕ → Type 0 = λ k. (b + 1) * k ≤ length done.stored
          → bytes_at done.stored (b * k) k ≡ newest changes namespace.nsid b in
          subst P size (λ inside. own_newest opcode namespace page_size bytes e (stored namespace.nsid) done older b is
          (let Q : ℕ → Type 0 = λ k. (b + 1) * k ≤ length (stored namespace.nsid)
          → bytes_at (stored namespace.nsid) (b * k) k ≡ newest older namespace.nsid b in
          subst Q (sym size) (holds namespace.nsid b)
          (omega (
            arith,
            inside,
            done_length opcode namespace page_size bytes e (stored namespace.nsid) done is,
          ))))) in
          let R : ℕ → Type 0 = λ k. (b + 1) * sizes k ≤ length done.stored
          → bytes_at done.stored (b * sizes k) (sizes k) ≡ newest changes k b in
          let P : List ℕ → Type 0 = λ l. (b + 1) * sizes n ≤ length l
          → bytes_at l (b * sizes n) (sizes n) ≡ newest changes n b in
          subst P (sym (put_same stored namespace.nsid n done.stored same)) (subst R same own)
      | inr other ↦
          let P : List ℕ → Type 0 = λ l. (b + 1) * sizes n ≤ length l
          → bytes_at l (b * sizes n) (sizes n)
          ≡ newest (changes_as opcode namespace page_size bytes e ++ older) n b in
          subst P (sym (put_other stored namespace.nsid n done.stored other))
          (λ inside. holds n b inside ∙ sym (another_stays opcode namespace page_size bytes e older n b other))
    ]

-- after an entry that succeeds or is refused, each block is what the newest change left
entry_holds : (terms : Terms) (page_size : ℕ) (bytes : List ℕ) (e : Sqe) (found : Result Effect Refusal)
    (older : List Change) (stored : ℕ → List ℕ) (sizes : ℕ → ℕ)
    → execution terms page_size (lent_of terms.namespace stored) bytes e ≡ found
    → Holds older stored sizes → IsLent terms.namespace sizes
    → Holds (if_done found (changes_by (opcode_by e.opcode) terms.namespace page_size bytes e) ++ older)
    (given_back terms.namespace stored (outcome_by found (lent_of terms.namespace stored) bytes).stored) sizes
entry_holds terms page_size bytes e (Err refusal) older stored sizes is holds lent =
    same_holds older stored _ sizes (given_back_same terms.namespace stored) holds
entry_holds terms page_size bytes e (Ok done) older stored sizes is holds lent =
    let (namespace, opcode, did) = executed terms page_size (lent_of terms.namespace stored) bytes e done is in
    let P : Option Namespace → Type 0 = λ o.
    Holds (changes_by (opcode_by e.opcode) o page_size bytes e ++ older) (given_back o stored done.stored) sizes in
    let Q : Result Opcode Refusal → Type 0 = λ r.
    Holds (changes_by r (Some namespace) page_size bytes e ++ older) (put stored namespace.nsid done.stored) sizes in
    let size : namespace.block_size ≡ sizes namespace.nsid =
    (let R : Option Namespace → Type 0 = λ o. IsLent o sizes in subst R did.lent lent) in
    let D : List ℕ → Type 0 = λ l. IsDone opcode namespace page_size bytes e l done in
    subst P (sym did.lent) (subst Q (sym did.known)
    (done_holds opcode namespace page_size bytes e done older stored sizes holds size
    (subst D (ap (λ o. lent_of o stored) did.lent) did.effect)))

-- the same for the next entry of a queue, or if there is none
turn_holds : (found : Result Sqe Stop) (cqid : ℕ) (terms : Terms) (older : List Change) (w : World)
    → HoldsNewest older w → IsLent terms.namespace w.block_sizes
    → let x = turn_scene cqid terms w in
    Holds (changes_next found terms w ++ older)
    (given_back terms.namespace w.stored
    (scene_by found terms.sqid (outcome_of terms w.page_size x.stored x.bytes) x).stored) w.block_sizes
turn_holds (Err stop) cqid terms older w holds lent =
    same_holds older w.stored _ w.block_sizes (given_back_same terms.namespace w.stored) holds
turn_holds (Ok e) cqid terms older w holds lent =
    entry_holds terms w.page_size w.bytes e _ older w.stored w.block_sizes refl holds lent

-- data that was made or formatted is zeros
new_holds : (nsid size blocks : ℕ) (older : List Change) (w : World) → HoldsNewest older w
    → HoldsNewest (Made nsid size ∷ older) (after (NewData nsid size blocks) w)
new_holds nsid size blocks older w holds n b = by_test (nsid == n)
  where
    by_test : (t : Bool)
        → (b + 1) * (if t then size else w.block_sizes n) ≤ length (if t then replicate (blocks * size) 0
        else w.stored n)
        → bytes_at (if t then replicate (blocks * size) 0 else w.stored n)
        (b * (if t then size else w.block_sizes n)) (if t then size else w.block_sizes n)
        ≡ (if t then replicate size 0 else newest older n b)
    by_test true inside =
        zeros_part (blocks * size) (b * size) size (omega (arith, inside, length-replicate {A = ℕ} (blocks * size) 0))
    by_test false inside = holds n b inside

-- after an event, each block is what the newest change left
event_holds : (event : Event) (older : List Change) (w : World) → HoldsNewest older w → MayHappen event w
    → HoldsNewest (changes_in event w ++ older) (after event w)
event_holds (Turn cqid terms) older w holds may =
    turn_holds (entry_in (turn_scene cqid terms w)) cqid terms older w holds may
event_holds (Answered cqid sqid command_result written) older w holds may = holds
event_holds (NewData nsid size blocks) older w holds may = new_holds nsid size blocks older w holds
event_holds (Between bytes submissions completions) older w holds may = holds

-- after events, each block is what the newest change left
run_holds : (events : List Event) (older : List Change) (w : World) → HoldsNewest older w → MayAllHappen events w
    → HoldsNewest (history_from older events w) (world_after events w)
run_holds [] older w holds may = holds
run_holds (event ∷ events) older w holds may =
    run_holds events (changes_in event w ++ older) (after event w) (event_holds event older w holds may.0) may.1

-- ---- reads

-- i and then k bytes are i + k bytes
bytes_in_two : (m : List ℕ) (a i k n : ℕ) → n ≡ i + k → bytes_at m a n ≡ bytes_at m a i ++ bytes_at m (a + i) k
unfolding bytes_at
bytes_in_two m a i k n is =
    ap (λ j. take j (drop a m)) is
    ∙ take-add i k (drop a m)
    ∙ ap (λ l. take i (drop a m) ++ take k l) (drop-drop i a m)

-- the bytes of blocks are those of each of them in turn
blocks_in_turn : (stored : List ℕ) (f : ℕ → List ℕ) (size first count : ℕ)
    → ((b : ℕ) → b < first + count → block stored size b ≡ f b)
    → bytes_at stored (first * size) (count * size) ≡ blocks_from f first count
blocks_in_turn stored f size first zero each =
    let none : zero * size ≡ 0 = omega arith in
    ap (bytes_at stored (first * size)) none ∙ no_bytes stored (first * size)
blocks_in_turn stored f size first (suc n) each =
    let place : first * size + n * size ≡ (first + n) * size = omega arith in
    bytes_in_two stored (first * size) (n * size) size (suc n * size) (omega arith)
    ∙ ap (λ l. l ++ bytes_at stored (first * size + n * size) size)
    (blocks_in_turn stored f size first n (λ b below. each b (omega arith)))
    ∙ ap (λ p. blocks_from f first n ++ bytes_at stored p size) place
    ∙ ap (λ l. blocks_from f first n ++ l) (each (first + n) (omega arith))

-- a read that succeeds sends what the newest changes left
read_gives : (changes : List Change) (w : World) → HoldsNewest changes w → ReadsNewest changes w
read_gives changes w holds terms namespace e done lent size read is =
    let stored = w.stored namespace.nsid in
    let (one, opcode, did) = executed terms w.page_size stored w.bytes e done is in
    let same : one ≡ namespace = (let both = did.lent in cc) in
    let action : opcode ≡ OnBlocks Read = (let both = did.known in cc) in
    let D : Opcode → Type 0 = λ o. IsDone o namespace w.page_size w.bytes e stored done in
    let E : Namespace → Type 0 = λ n. IsDone opcode n w.page_size w.bytes e stored done in
    let effect = subst D action (subst E same did.effect) in
    effect.1.1
    ∙ ap (written_at w.bytes (host_places w.page_size w.bytes e (size_of namespace e)))
    (blocks_in_turn stored (newest changes namespace.nsid) namespace.block_size (first_block e) (block_count e)
    (λ b below. (let P : ℕ → Type 0 = λ k. (b + 1) * k ≤ length stored
    → bytes_at stored (b * k) k ≡ newest changes namespace.nsid b in
    subst P (sym size) (holds namespace.nsid b))
    (omega (arith, ends_before b (first_block e + block_count e) namespace.block_size below, effect.0))))

-- ---- every run

-- every read gives what the newest changes left
pub every_read : EveryReadGivesTheNewest
every_read events w none may =
    let no_data : HoldsNewest [] w = λ n b inside.
    (let zero : w.block_sizes n ≡ 0 = omega (arith, inside, ap length (none n)) in
    ap (λ k. bytes_at (w.stored n) (b * k) k) zero ∙ no_bytes (w.stored n) (b * 0)) in
    let holds = run_holds events [] w no_data may in
    (holds, read_gives (history events w) (world_after events w) holds)
