-- A request that a driver submitted, and where its data lies: what no public contract reaches.
use Rattle.std.specs.Prelude.{◌≡◌, ℕ, ◌+◌, ◌*◌, ◌<◌, ◌≤◌, List, ◌∷◌, length}
use Rattle.nv_host.specs.Pages.{IsPageSize}
use Rattle.nv_prp.specs.Buffer.{IsBuffer, IsListPlace}
use Rattle.nv_prp.specs.Place.{AreDistinct}
use Rattle.nv_queue.specs.Numbers.{IsSlotBetween, next, slot_of}
use Rattle.nv_queue.specs.Rings.{IsSubmitFull, submitted_one}
use Rattle.nv_queue.specs.Slots.{IsAwaitedThere, awaited_completion, with_submission}
use Rattle.nv_bus.specs.Call.{length_of}
use Rattle.nv_model.specs.Ranges.{cid_count}
use Rattle.nv_model.specs.Step.{cid_after}
use Rattle.nv_driver.specs.Request.{Asked, Request}
use Rattle.nv_driver.specs.Pointer.{IsListedAtPlace, IsZeroForOne}
use Rattle.nv_driver.specs.Schedule.{IsPrepared, entry}
use Rattle.nv_driver.specs.declared.submitting.DataPlace.{DataPlace}
use Rattle.nv_driver.specs.declared.submitting.Outgoing.{Outgoing}
use Rattle.nv_driver.specs.declared.queue_pair.QueuePair.{QueuePair as QueuePairFields}
use Rattle.nv_driver.specs.HostData.{sent_by}
use Rattle.nv_driver.specs.Submitting.{RequestPlace, sent_at}

-- the place of a request's data that a driver uses
abbrev pub request_place : DataPlace → RequestPlace
request_place p = record {
  pages = p.buffer.pages.now;
  offset = p.buffer.offset;
  first = p.list.first;
  second = p.list.second;
  list_offset = p.list.offset;
}

-- a request that asks for this
abbrev pub request_as : Outgoing → Asked → Request
request_as q asked =
    record { entry = q.entry; transfer = q.transfer; sends = sent_by q.sends; asked = asked }

-- all pages of a place: the two for a list, and then those of the data
abbrev pub pages_at : RequestPlace → List ℕ
pages_at at = at.first ∷ at.second ∷ at.pages

-- `len` bytes and a list fit there, in distinct pages of the memory
pub record IsPlaceFor (mem : List ℕ) (page_size : ℕ) (at : RequestPlace) (len : ℕ) : Type 0 where
  pub is_size : IsPageSize page_size
  pub buffer : IsBuffer mem page_size at.pages at.offset len
  pub list : IsListPlace mem page_size at.first at.second at.list_offset
  pub distinct : AreDistinct (pages_at at)

-- the submission ring of a queue pair lies in the memory, and has a free slot
pub record HasFreeSlot (l : QueuePairFields) (mem : List ℕ) : Type 0 where
  pub next_cid : l.next_cid < cid_count
  pub ring : l.submission.base + 64 * l.submission.depth ≤ length mem
  pub free : ¬ IsSubmitFull l.submission

-- the pages are prepared, and the entry is in the ring, with its new tail; a request without data has no
-- data pointer
pub record IsSubmittedAt (page_size : ℕ) (at : RequestPlace) (q : Request)
    (old new : QueuePairFields) (before after : List ℕ) (now end : ℕ) : Type 0 where
  pub prp1 : ℕ
  pub prp2 : ℕ
  pub ready : List ℕ
  pub prepared : IsPrepared page_size (sent_at at q old.next_cid prp1 prp2) before ready
  pub list : IsListedAtPlace page_size (sent_at at q old.next_cid prp1 prp2) ready
  pub one : IsZeroForOne page_size (sent_at at q old.next_cid prp1 prp2) ready
  pub pointer : length_of q.transfer ≡ 0 → (prp1 ≡ 0) × (prp2 ≡ 0)
  pub mem : after
      ≡ with_submission ready old.submission (entry (sent_at at q old.next_cid prp1 prp2))
  pub pair : new ≡ record old {
    submission = submitted_one old.submission;
    next_cid = cid_after old.next_cid;
  }
  pub tail : end ≡ slot_of old.submission.depth (next old.submission.depth old.submission.submitted)
  pub len : length after ≡ length before
  pub page : now ≡ page_size

-- the awaited completion of a queue pair was posted, with a head that frees submissions
pub record CanCollect (l : QueuePairFields) (mem : List ℕ) : Type 0 where
  pub inside : l.completion.base + 16 * l.completion.depth ≤ length mem
  pub awaited : IsAwaitedThere mem l.completion
  pub freed : IsSlotBetween l.submission.depth l.submission.known l.submission.submitted
      (awaited_completion mem l.completion).sq_head
