-- What each step of a run leaves behind: a text, a line, a piece of the script, and its last piece.
use Rattle.std.specs.Prelude.{◌≡◌, ◌⊎◌, ℕ, ◌<◌, Bool, true, false, List, [], ◌∷◌, ◌++◌, length, take, Option}
use Rattle.std.specs.Prelude.{Result, Ok, Err, slice_index}
use Rattle.std.specs.Io.KnownBytes.{Appends}
use Rattle.nv_model.specs.State.{State}
use Rattle.nv_script.specs.Cuts.{AreFailed, IsCutIn, Holds, Left}
use Rattle.nv_script.specs.Ends.{LeavesAll}
use Rattle.nv_script.specs.Results.{Progress, after, whole}
use Rattle.nv_script.specs.inner.ScriptLines.{buffer_of}
use Rattle.nv_script.specs.ScriptLines.{pieces, script_lines}
use Rattle.nv_driver.specs.inner.Linked.{next_cids_of}
use Rattle.nv_stream.specs.Streams.{IsBeginning}
use Rattle.nv_script.specs.declared.ends.RunEnd.{RunEnd}
use Rattle.nv_script.specs.declared.ends.RunEnd.TheVariants.{Memory, MessageWrite}
use Rattle.nv_script.specs.declared.session.Session.{Session}

-- a run is at p
pub record Stands (p : Progress) (left : Left) (session : Session) : Type 0 where
  pub holds : Holds left p.output p.messages p.state p.batches
  pub next : next_cids_of session.driver ≡ p.next_cids
  pub number : session.number ≡ p.number
  pub status : session.status ≡ p.status

-- a text was written whole, or a beginning of it up to the sink's fault
abbrev pub PrintLeaves : {A : Type 0} → Result A RunEnd → RunEnd → List ℕ
    → Option (List ℕ) → Option (List ℕ) → Bool → Type 0
PrintLeaves (Ok done) fault text old new failed = Appends old new text × (failed ≡ false)
PrintLeaves (Err end) fault text old new failed = (end ≡ fault)
    × ((part : List ℕ) × IsBeginning part text × Appends old new part)
    × (failed ≡ true)

-- a message was printed, or memory was refused for it and nothing was
abbrev pub ReportLeaves : {A : Type 0} → Result A RunEnd → List ℕ
    → Option (List ℕ) → Option (List ℕ) → Bool → Type 0
ReportLeaves result message old new failed = PrintLeaves result MessageWrite message old new failed
    ⊎ ((result ≡ Err Memory) × (new ≡ old) × (failed ≡ false))

-- what one line after p leaves, done or cut short
abbrev pub LineLeaves : {A : Type 0} → Result A RunEnd → Progress → List ℕ → Left → Session → Type 0
LineLeaves (Ok done) p line left session = Stands (after p line) left session
LineLeaves (Err end) p line left session = IsCutIn end p line left

-- no sink has failed, or the one that cut the line short
abbrev pub IsFailureOf : {A : Type 0} → Result A RunEnd → Bool → Bool → Type 0
IsFailureOf (Ok done) out messages = (out ≡ false) × (messages ≡ false)
IsFailureOf (Err end) out messages = AreFailed end out messages

-- what a further piece of a script leaves, after some bytes: its ended lines are done and its last
-- piece is in the buffer, or the run was cut short in the line that the newline at an index ended
abbrev pub PieceLeaves : {A : Type 0} → Result A RunEnd → State → List ℕ → List ℕ → Option (List ℕ)
    → Left → Session → Type 0
PieceLeaves (Ok done) s bytes piece line left session =
    let p = pieces (bytes ++ piece) in
    (line ≡ buffer_of p.last) × Stands (whole s p.ended) left session
PieceLeaves (Err end) s bytes piece line left session =
    (i : ℕ) × (i < length piece) × (slice_index piece i ≡ 10)
    × (let p = pieces (bytes ++ take i piece) in IsCutIn end (whole s p.ended) p.last left)

-- what the last piece of a script leaves, done with this status or cut short
abbrev pub LastLeaves : Result ℕ RunEnd → State → List ℕ → Left → Type 0
LastLeaves (Ok status) s bytes left = LeavesAll status s bytes left
LastLeaves (Err end) s bytes left =
    let p = pieces bytes in
    (script_lines bytes ≡ p.ended ++ p.last ∷ []) × IsCutIn end (whole s p.ended) p.last left
