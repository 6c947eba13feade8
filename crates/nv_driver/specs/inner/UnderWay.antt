-- A list of requests of one controller while several of them are outstanding: what no public
-- contract reaches.
use Rattle.std.specs.Prelude.{◌≡◌, ℕ, ◌+◌, ◌-◌, ◌*◌, ◌<◌, List, length, min, slice_index_or}
use Rattle.std.specs.Prelude.{take}
use Rattle.nv_prp.specs.Buffer.{IsBuffer}
use Rattle.nv_bus.specs.Entry.{command_result_of}
use Rattle.nv_bus.specs.declared.command_result.CommandResult.{CommandResult}
use Rattle.nv_driver.specs.Answer.{Answer}
use Rattle.nv_driver.specs.Schedule.{Delivers, Sent, answers_of_all, bytes_read, data_length, numbered, step_of}
use Rattle.nv_driver.specs.UnderWay.{IsHeld, LiesInPages, Run, numbered_of}
use Rattle.nv_driver.specs.declared.batch.Batch.{Batch}
use Rattle.nv_driver.specs.declared.command_pages.CommandPages.{CommandPages}
use Rattle.nv_driver.specs.declared.requests.Requests.{Requests}
use Rattle.nv_driver.specs.declared.requests.Requests.TheVariants as sends

-- the first answers are the same as if the requests were sent one at a time
pub record HasAnswers (r : Run) (collected : ℕ) (answers : List Answer) : Type 0 where
  pub len : length answers ≡ length r.requests
  pub first : take collected answers
      ≡ take collected (answers_of_all r.controller r.bus.state (numbered_of r))

-- what was told last and its pages hold the answer to the first request
pub record IsHeard (r : Run) (places : List CommandPages) (bytes : List ℕ) (last : CommandResult) : Type 0 where
  pub one : Sent
  pub kept : LiesInPages r 0 one
  pub held : (p : CommandPages) → IsHeld (slice_index_or places 0 p) one
  pub buffer : IsBuffer bytes r.geometry.page_size one.pages one.offset (data_length one)
  pub told : last ≡ command_result_of (step_of r.controller r.bus.state (numbered one)).answer
  pub came : Delivers one.request.asked (step_of r.controller r.bus.state (numbered one)).answer
      (bytes_read r.geometry.page_size one bytes)

-- the first answers are in their slots, or that to an entry is in its pages
abbrev pub AreReceived : Requests → Run → ℕ → List Answer → List CommandPages → List ℕ → CommandResult → Type 0
AreReceived (sends.Commands ks) r collected answers places bytes last = HasAnswers r collected answers
AreReceived (sends.Entry e given) r collected answers places bytes last =
    0 < collected → IsHeard r places bytes last

-- what remains to be done for n requests
abbrev pub left_of : ℕ → Batch → ℕ
left_of n b = 2 * (n - b.collected) + min 1 (b.collected - b.told)
