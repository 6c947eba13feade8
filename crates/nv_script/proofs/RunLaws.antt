-- How the pieces of a run form the whole run.
use Rattle.nv_script.proofs.Words.{[], ℕ, ◌++◌, ◌+◌, ◌<◌, ◌==◌, ◌||◌, ◌↔◌, ◌∙◌, ◌∷◌, ◌≡◌, ◌≤◌, AllEnabled, Appends-same}
use Rattle.nv_script.proofs.Words.{AreFailed, AreFaults, Batch, Bool, BringingUp, Consumes, Consumes-join}
use Rattle.nv_script.proofs.Words.{Consumes-same, DriverValue, Err, GoesAll, Going, Headline, IfSome, IsAtEnd}
use Rattle.nv_script.proofs.Words.{IsCutShort, IsEndOf, IsFailureOf, IsFresh, IsReadToEnd, IsRun, LastLeaves, Leaves}
use Rattle.nv_script.proofs.Words.{LeavesAll, Left, List, None, Ok, Option, PieceLeaves, Progress, Result, RunEnd}
use Rattle.nv_script.proofs.Words.{RunState, Runs, RunsFrom, Session, Some, SourceState, Stands, State, WasRead}
use Rattle.nv_script.proofs.Words.{WithDriver, ap, append-nil, arith, as_line, begun, common_steps, end_without, false}
use Rattle.nv_script.proofs.Words.{geometry_fault, has_stopped, inl, inr, joined_lines, left_by, length, length-append}
use Rattle.nv_script.proofs.Words.{length-take-le, length-taken, nat_tests, new_driver, next_cids_of, pieces, read_size}
use Rattle.nv_script.proofs.Words.{replicate, script_lines, subst, sym, take, whole}
use Rattle.nv_driver.specs.inner.Driver.{error_without}
use Rattle.nv_driver.specs.declared.error.DriverError.{DriverError}
use Rattle.nv_driver.specs.declared.geometry.Geometry.{Geometry as DriverGeometry}
use Rattle.nv_driver.specs.declared.geometry_field.GeometryField.{GeometryField}
use Rattle.nv_script.specs.declared.ends.RunEnd.TheVariants.{Geometry, Memory, NoReady, Read, Status}
use Rattle.nv_script.proofs.PieceLaws.{as_line-some, length-joined, length-pieces, piece-among}
use Rattle.nv_driver.specs.declared.error.DriverError.TheVariants as error

-- a script was read to its end if a read gave no byte and one more could have been made
read_to_end : (reads call before : ℕ) (script : SourceState) (count : ℕ) → before ≡ call
    → script.calls ≡ before + 1 → (call + 1 ≡ reads → ⊥) → script.has_failed ≡ false
    → script.has_ended ≡ (count == 0) → (count ≡ 0 → IsAtEnd script.to_come) → count ≡ 0 → IsReadToEnd reads script
read_to_end reads call before script count calls next one_more not_failed ended at_end none =
    grind (arith, common_steps, nat_tests)

-- if the last piece has a byte, it is the last line of the script
pub last_line : (bytes : List ℕ) → 0 < length (pieces bytes).last
    → script_lines bytes ≡ (pieces bytes).ended ++ (pieces bytes).last ∷ []
last_line bytes h = ap (λ x. (pieces bytes).ended ++ x) (as_line-some (pieces bytes).last h)

-- if the last piece is no line, the script has the lines that have ended
pub no_last : (bytes : List ℕ) → as_line (pieces bytes).last ≡ [] → script_lines bytes ≡ (pieces bytes).ended
no_last bytes e = ap (λ x. (pieces bytes).ended ++ x) e ∙ append-nil (pieces bytes).ended

-- a run whose progress is that of the whole script leaves all of its lines
pub ends_whole : (s : State) (bytes : List ℕ) (q : Progress) (left : Left) (session : Session)
    → whole s (script_lines bytes) ≡ q → Stands q left session
    → LeavesAll session.status s bytes left
ends_whole s bytes q left session e h = grind (arith, common_steps)

-- before anything is read, no bytes were read
pub read_first : (script : SourceState) → script.given ≡ 0 → WasRead script script []
read_first script e = record { first = Consumes-same script.to_come; count = sym e }

-- before the first line, the state, the texts and the session are what a script without lines leaves
pub stands_first : (s : State) (left : Left) (session : Session) → left.out ≡ left.out_before
    → left.messages ≡ left.messages_before → left.state ≡ s → left.went []
    → next_cids_of session.driver ≡ replicate (length s.controllers) 0 → session.number ≡ 0 → session.status ≡ 0
    → Stands (whole s (pieces []).ended) left session
stands_first s left session eo em es gone er en et = grind (arith, common_steps, Appends-same)

-- if the bytes are known and were read to their end, what holds for the bytes that were read holds for them
read_whole : (old new : Option (List ℕ)) (bytes : List ℕ) (P : List ℕ → Type 0) → Consumes old new bytes → IsAtEnd new
    → P bytes → IfSome old P
read_whole None new bytes P h k p = tt
read_whole (Some xs) None bytes P h k p = absurd h
read_whole (Some xs) (Some ys) bytes P h k p = subst P (sym (h ∙ ap (λ z. bytes ++ z) k ∙ append-nil bytes)) p

-- a run that was cut short in the last piece of a script was cut short
last_cut : (end : RunEnd) (reads : ℕ) (script : SourceState) (s : State) (bytes : List ℕ) (left : Left)
    → IsReadToEnd reads script → LastLeaves (Err end) s bytes left → IsCutShort end reads script s bytes left
last_cut end reads script s bytes left read h = grind (arith, common_steps, length-joined, length-pieces)

-- a run that was cut short in a line of a further piece was cut short
piece_cut : (end : RunEnd) (reads : ℕ) (script : SourceState) (s : State) (bytes piece : List ℕ)
    (line : Option (List ℕ)) (left : Left) (session : Session) → length piece ≤ read_size
    → script.last_given ≡ length piece
    → PieceLeaves {A = Unit {0}} (Err end) s bytes piece line left session
    → IsCutShort end reads script s (bytes ++ piece) left
piece_cut end reads script s bytes piece line left session small last h =
    let i = h.0 in
    let xs = bytes ++ take i piece in
    let among = piece-among bytes piece i h.1 h.2 in
    let at_once : length (bytes ++ piece)
    < length (joined_lines ((pieces xs).ended ++ (pieces xs).last ∷ [])) + script.last_given = omega (
      arith,
      last,
      length-joined (pieces xs).ended (pieces xs).last,
      length-pieces xs,
      length-append bytes (take i piece),
      length-take-le i piece (omega arith),
      length-append bytes piece,
    ) in
    record {
      before = (pieces xs).ended;
      line = (pieces xs).last;
      later = among.0;
      lines = inl among.1;
      beginning = h.3;
      at_once = at_once;
      ahead = omega (arith, at_once, last, small);
    }

-- a run that was cut short in a line has its end, and leaves what the end says
cut_end : (end : RunEnd) (reads : ℕ) (now : RunState) (s : State) (bytes : List ℕ) (left : Left)
    → IsCutShort end reads now.script s bytes left → AreFailed end now.out.has_failed now.messages.has_failed
    → Leaves end reads now.script s bytes left × IsEndOf end reads now
cut_end (Status status) reads now s bytes left h failed = absurd failed
cut_end Read reads now s bytes left h failed = absurd failed
cut_end end reads now s bytes left h failed = (h, failed)

-- reading more bytes adds them to the bytes that were read
pub read_more : (old mid new : SourceState) (bytes buf : List ℕ) (count : ℕ) → WasRead old mid bytes
    → Consumes mid.to_come new.to_come (take count buf) → count ≤ length buf → new.given ≡ mid.given + count
    → WasRead old new (bytes ++ take count buf)
read_more old mid new bytes buf count h k z e = grind (arith, common_steps, Consumes-join, length-taken)

-- a read that gave no byte leaves the bytes that were read
read_none : (old mid new : SourceState) (bytes buf : List ℕ) (count : ℕ) → WasRead old mid bytes
    → Consumes mid.to_come new.to_come (take count buf) → count ≡ 0 → new.given ≡ mid.given + count
    → WasRead old new bytes
read_none old mid new bytes buf count h k z e = grind (arith, common_steps, append-nil, read_more)

-- ---- the ends of a run after a read

-- the end of a run after its last piece
abbrev pub end_of : Result ℕ RunEnd → RunEnd
end_of (Ok status) = Status status
end_of (Err cut) = cut

module _ (s : State) (reads call : ℕ) (went : List Batch → Type 0) (old new : RunState) (mid : SourceState)
    (bytes buf : List ℕ) (count : ℕ) (so_far : WasRead old.script mid bytes) (before : mid.calls ≡ call)
    (within : call < reads) (taken : Consumes mid.to_come new.script.to_come (take count buf))
    (given : new.script.given ≡ mid.given + count) (next : new.script.calls ≡ mid.calls + 1) where
  -- what the last piece leaves is what the run leaves
  last_leaves : (result : Result ℕ RunEnd) → IsReadToEnd reads new.script
      → LastLeaves result s bytes (left_by went old new) → IsFailureOf result new.out.has_failed new.messages.has_failed
      → Leaves (end_of result) reads new.script s bytes (left_by went old new) × IsEndOf (end_of result) reads new
  last_leaves (Ok status) read h failure = (h, (read, failure.0, failure.1))
  last_leaves (Err cut) read h failure =
      cut_end cut reads new s bytes (left_by went old new)
      (last_cut cut reads new.script s bytes (left_by went old new) read h) failure

  -- the read gave no byte, and the last piece was executed
  pub finished : (result : Result ℕ RunEnd) → count ≡ 0 → (count ≡ 0 → IsAtEnd new.script.to_come)
      → new.script.has_failed ≡ false → new.script.has_ended ≡ (count == 0) → (call + 1 ≡ reads → ⊥)
      → LastLeaves result s bytes (left_by went old new) → IsFailureOf result new.out.has_failed new.messages.has_failed
      → RunsFrom s reads (end_of result) went old new
  finished result none at_end not_failed ended one_more h failure =
      let end =
      read_to_end reads call mid.calls new.script count before next one_more not_failed ended at_end none in
      let last = last_leaves result end h failure in
      record {
        bytes = bytes;
        was_read = read_none old.script mid new.script bytes buf count so_far taken none given;
        left = last.0;
        end_of = last.1;
        calls = omega arith;
      }

  -- the run was cut short in a line of the piece that was read
  pub cut_in_piece : (cut : RunEnd) (line : Option (List ℕ)) (session : Session) → count ≤ length buf
      → length buf ≡ read_size → new.script.last_given ≡ count
      → PieceLeaves {A = Unit {0}} (Err cut) s bytes (take count buf) line (left_by went old new) session
      → AreFailed cut new.out.has_failed new.messages.has_failed → RunsFrom s reads cut went old new
  cut_in_piece cut line session bound room last h failed =
      let many = length-take-le count buf bound in
      let ended =
      cut_end cut reads new s (bytes ++ take count buf) (left_by went old new)
      (piece_cut cut reads new.script s bytes (take count buf) line (left_by went old new) session (omega arith)
      (last ∙ sym many) h) failed in
      record {
        bytes = bytes ++ take count buf;
        was_read = read_more old.script mid new.script bytes buf count so_far taken bound given;
        left = ended.0;
        end_of = ended.1;
        calls = omega arith;
      }

-- ---- with or without a driver

-- the end of a run after an error of the driver
abbrev pub Gives : DriverError → RunEnd → Type 0
Gives e end = ((field : GeometryField) → e ≡ error.Geometry field → end ≡ Geometry field)
    × (e ≡ error.Memory → end ≡ Memory) × (e ≡ error.NoReady → end ≡ NoReady)

-- an end without a driver is the one for the first field of the geometry outside its limits, or for lack of memory
pub without : (fault : Option GeometryField) (e : DriverError) (end : RunEnd) → e ≡ error_without fault → Gives e end
    → end ≡ end_without fault
without (Some field) e end same gives = gives.0 field same
without None e end same gives = gives.1 same

-- ---- the main promise

-- an end without a driver isn't a status
no_status : (o : Option GeometryField) (status : ℕ) → end_without o ≡ Status status → ⊥
no_status None status e = absurd (cc)
no_status (Some field) status e = absurd (cc)

-- an end without a driver names a field of the geometry if and only if that is the first one outside its limits
geometry_without : (o : Option GeometryField) (field : GeometryField)
    → (end_without o ≡ Geometry field) ↔ (o ≡ Some field)
geometry_without None field = (λ e. absurd (cc), λ e. absurd (cc))
geometry_without (Some f) field =
    (λ e. let same : f ≡ field = cc in ap Some same, λ e. let same : f ≡ field = cc in ap Geometry same)

-- a run that has its end by IsEndOf has the faults of AreFaults
faults_with : (reads : ℕ) (end : RunEnd) (now : RunState) → IsEndOf end reads now → AreFaults reads end now
faults_with reads (Geometry field) now h = absurd h
faults_with reads NoReady now h = absurd h
faults_with reads end now h = grind (arith, common_steps)

-- a source that has not stopped, and sinks that have not failed
pub record IsWell (reads : ℕ) (now : RunState) : Type 0 where
  pub stopped : has_stopped reads now.script ≡ false
  pub out : now.out.has_failed ≡ false
  pub messages : now.messages.has_failed ≡ false

-- a fresh source and sinks that haven't failed are well before the first read
pub fresh_well : (reads : ℕ) (now : RunState) → IsFresh now.script → 0 < reads → now.out.has_failed ≡ false
    → now.messages.has_failed ≡ false → IsWell reads now
fresh_well reads now fresh some out messages =
    record {
      stopped = stays now.script.has_failed now.script.calls fresh.not_failed fresh.no_call;
      out = out;
      messages = messages;
    }
  where
    stays : (failed : Bool) (calls : ℕ) → failed ≡ false → calls ≡ 0 → (failed || calls == reads) ≡ false
    stays failed calls well none = grind (arith, nat_tests, well, none, some)

-- a run without a driver has the faults of AreFaults, if the streams were well before it
faults_without : (o : Option GeometryField) (reads : ℕ) (now : RunState) → IsWell reads now
    → AreFaults reads (end_without o) now
faults_without (Some field) reads now well = grind (arith, common_steps)
faults_without None reads now well = faults_with reads Memory now (well.out, well.messages)

module _ {B : Type 0} (brings_up : BringingUp B) (goes : Going B) (g : DriverGeometry) (reads : ℕ) (end : RunEnd)
    (before after : B) (old new : RunState) (well : IsWell reads old) where
  -- each run leaves what the headline says
  headline : Runs brings_up goes g reads end before after old new → Headline brings_up goes g end before after old new
  headline (inl h) status e = absurd (no_status (geometry_fault g) status (sym h.0 ∙ e))
  headline (inr run) status is =
      let h = run.2 in
      let runs = h.3 in
      let s = begun old in
      let left = left_by (GoesAll goes (new_driver g (length old.subsystem.controllers)) h.0 h.1 after) old new in
      let ended = subst (λ e. IsEndOf e reads new) is runs.end_of in
      read_whole old.script.to_come new.script.to_come runs.bytes
      (λ script. WithDriver brings_up goes g before after old
      (λ went. LeavesAll status s script (left_by went old new)))
      runs.was_read.first ended.0.at_end
      (h.0, h.1, h.2, subst (λ e. Leaves e reads new.script s runs.bytes left) is runs.left)

  -- a run ends with a field of the geometry if and only if that is the first one outside its limits
  geometry : (field : GeometryField) → Runs brings_up goes g reads end before after old new
      → (end ≡ Geometry field) ↔ (geometry_fault g ≡ Some field)
  geometry field (inl h) =
      subst (λ x. (x ≡ Geometry field) ↔ (geometry_fault g ≡ Some field)) (sym h.0)
      (geometry_without (geometry_fault g) field)
  geometry field (inr h) =
      let is = h.0 in
      let ended = h.2.3.end_of in grind (arith, common_steps, is, ended)

  -- each run has the faults of AreFaults
  faults : Runs brings_up goes g reads end before after old new → AreFaults reads end new
  faults (inl h) = grind (arith, common_steps, faults_without)
  faults (inr h) = faults_with reads end new h.2.3.end_of

  -- all that a run promises follows from how it ends
  pub is_run : Runs brings_up goes g reads end before after old new
      → IsRun brings_up goes g reads end before after old new
  is_run h = record {
    headline = headline h;
    ends = h;
    geometry = λ field. geometry field h;
    faults = faults h;
  }

  -- a run from the bus and the driver that bringing it up leaves is one that promises this
  pub is_run_with : (up : B) {first : DriverValue} (last : DriverValue) {s : State} {enabled : List Bool} (n : ℕ)
      → geometry_fault g ≡ None → s ≡ begun old → n ≡ length old.subsystem.controllers → brings_up g n before up
      → first ≡ new_driver g n
      → RunsFrom s reads end (GoesAll goes first up last after) (record old { subsystem = s; enabled = enabled }) new
      → AllEnabled new → IsRun brings_up goes g reads end before after old new
  is_run_with up {first} last {s} n is same many brought driver runs all =
      let here : first ≡ new_driver g (length old.subsystem.controllers) = driver ∙ ap (new_driver g) many in
      is_run (inr (
        is,
        all,
        (
          up,
          last,
          subst (λ m. brings_up g m before up) many brought,
          record {
            bytes = runs.bytes;
            was_read = runs.was_read;
            left = subst (λ from. Leaves end reads new.script from runs.bytes
                (left_by (GoesAll goes (new_driver g (length old.subsystem.controllers)) up last after) old new)) same
                (subst (λ (d : DriverValue). Leaves end reads new.script s runs.bytes
                (left_by (GoesAll goes d up last after) old new)) here runs.left);
            end_of = runs.end_of;
            calls = runs.calls;
          },
        ),
      ))
