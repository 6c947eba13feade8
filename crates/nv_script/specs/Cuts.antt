-- The state of the streams and of the subsystem after some lines, and where a line was cut short.
use Rattle.std.specs.Prelude.{◌≡◌, ◌≢◌, ℕ, ◌+◌, ◌<◌, Bool, true, false, List, [], ◌∷◌, ◌++◌, length}
use Rattle.std.specs.Prelude.{take, flat_map, Option, Result, Ok, Err}
use Rattle.std.specs.Io.KnownBytes.{Appends}
use Rattle.nv_model.specs.State.{State}
use Rattle.nv_script.specs.Orders.{Batch, batches_of, orders_in_all}
use Rattle.nv_script.specs.Outcomes.{outcome_of}
use Rattle.nv_script.specs.Results.{Progress, after, result_at, said_at, whole}
use Rattle.nv_script.specs.ScriptLines.{AreRead}
use Rattle.nv_stream.specs.Streams.{IsBeginning, SourceState}
use Rattle.nv_script.specs.declared.ends.RunEnd.{RunEnd}
use Rattle.nv_script.specs.declared.ends.RunEnd.TheVariants.{OutWrite, MessageWrite, Memory}
use Rattle.nv_line.specs.declared.fault.LineFault.{LineFault}
use Rattle.nv_line.specs.declared.line.Line.{Line}
use Rattle.nv_line.specs.declared.line.Line.TheVariants as line
use Rattle.nv_stream.specs.Streams.{read_size}

-- the streams, the subsystem and the bus: what each sink had taken before a run and has taken since, if that
-- is known, and what is said of the batches that went
pub record Left : Type 1 where
  pub out_before : Option (List ℕ)
  pub out : Option (List ℕ)
  pub messages_before : Option (List ℕ)
  pub messages : Option (List ℕ)
  pub state : State
  pub went : List Batch → Type 0

-- the streams, the subsystem and the bus with these values
abbrev pub left_at : Option (List ℕ) → Option (List ℕ) → Option (List ℕ) → Option (List ℕ) → State
    → (List Batch → Type 0) → Left
left_at out_before out messages_before messages state went = record {
  out_before = out_before;
  out = out;
  messages_before = messages_before;
  messages = messages;
  state = state;
  went = went;
}

-- the streams have taken these texts, this is the state of the subsystem, and these batches went
pub record Holds (left : Left) (output messages : List ℕ) (state : State) (batches : List Batch) : Type 0 where
  pub took_output : Appends left.out_before left.out output
  pub took_messages : Appends left.messages_before left.messages messages
  pub reached : left.state ≡ state
  pub went : left.went batches

-- the texts, the state and the batches after all these lines
abbrev pub HoldsWhole : State → List (List ℕ) → Left → Type 0
HoldsWhole s lines left =
    let p = whole s lines in Holds left p.output p.messages p.state p.batches

-- the first k batches of a line
abbrev pub batches_amid : State → Result Line LineFault → ℕ → List Batch
batches_amid s (Ok line.Skipped) k = []
batches_amid s (Ok (line.Request r)) k = take k (batches_of s r.query)
batches_amid s (Err fault) k = []

-- the state after them
abbrev pub state_amid : State → List ℕ → Result Line LineFault → ℕ → State
state_amid s next_cids said k = (outcome_of s next_cids (orders_in_all (batches_amid s said k))).state

-- How a line after p is cut short. The output failed: the texts before the line are complete,
-- followed by a beginning of its output; the subsystem and the bus are as after the line.
abbrev pub IsOutputBeginning : Progress → List ℕ → Left → Type 0
IsOutputBeginning p line left = (part : List ℕ) × IsBeginning part (result_at p line).output
    × Holds left (p.output ++ part) p.messages (after p line).state (after p line).batches

-- the messages failed: the texts before the line are complete, followed by a beginning of its message
abbrev pub IsMessageBeginning : Progress → List ℕ → Left → Type 0
IsMessageBeginning p line left = (part : List ℕ) × IsBeginning part (result_at p line).message
    × Holds left p.output (p.messages ++ part) (after p line).state (after p line).batches

-- memory was refused, at a line that isn't skipped: nothing of it is written, and some of its batches
-- went and were executed
abbrev pub IsMemoryBeginning : Progress → List ℕ → Left → Type 0
IsMemoryBeginning p text left =
    let said = said_at p text in
    (k : ℕ) × Holds left p.output p.messages (state_amid p.state p.next_cids said k)
    (p.batches ++ batches_amid p.state said k) × (said ≢ Ok line.Skipped)

-- what an end in a line after p leaves; no other end than these three cuts a line short
abbrev pub IsCutIn : RunEnd → Progress → List ℕ → Left → Type 0
IsCutIn OutWrite p line left = IsOutputBeginning p line left
IsCutIn MessageWrite p line left = IsMessageBeginning p line left
IsCutIn Memory p line left = IsMemoryBeginning p line left
IsCutIn _ p line left = ⊥

-- whether the output and the messages have failed there
abbrev pub AreFailed : RunEnd → Bool → Bool → Type 0
AreFailed OutWrite out messages = (out ≡ true) × (messages ≡ false)
AreFailed MessageWrite out messages = (out ≡ false) × (messages ≡ true)
AreFailed Memory out messages = (out ≡ false) × (messages ≡ false)
AreFailed _ out messages = ⊥

-- the bytes of these lines, each with its newline
abbrev pub joined_lines : List (List ℕ) → List ℕ
joined_lines lines = flat_map (λ line. line ++ 10 ∷ []) lines

-- A run that read these bytes was cut short in one of the lines that were read. The last read
-- returned that line's newline, or there is none: no read left a line undone whose newline had been
-- read before. At most 4,095 bytes past that newline were read.
pub record IsCutShort (end : RunEnd) (reads : ℕ) (script : SourceState) (s : State) (bytes : List ℕ)
    (left : Left) : Type 0 where
  pub before : List (List ℕ)
  pub line : List ℕ
  pub later : List (List ℕ)
  pub lines : AreRead reads script bytes (before ++ line ∷ later)
  pub beginning : IsCutIn end (whole s before) line left
  pub at_once : length bytes < length (joined_lines (before ++ line ∷ [])) + script.last_given
  pub ahead : length bytes < length (joined_lines (before ++ line ∷ [])) + read_size
