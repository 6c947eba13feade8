-- Turns of I/O queues that a program in C keeps, over blocks that it lends.
use Rattle.std.specs.Prelude.{◌≡◌, ℕ, ℤ, pos, negsuc, ◌==◌, ◌&&◌, ◌≤◌, min, not, nat_lt, Bool, true, false, IsTrue}
use Rattle.std.specs.Prelude.{List, Option, None, Some, Result, Ok, Err}
use Rattle.nv_layout.specs.Sqe.{bytes_of_sqe}
use Rattle.nv_layout.specs.Status.{number_of_status, status_of_number}
use Rattle.nv_layout.specs.declared.sqe.Sqe.{Sqe}
use Rattle.nv_host.specs.Pages.{are_pages}
use Rattle.nv_prp.specs.Transfer.{most_bytes}
use Rattle.nv_queue.specs.Rings.{IsFetchRing, IsPostRing}
use Rattle.nv_blocks.specs.Refusal.{status_of_refusal}
use Rattle.nv_blocks.specs.Turn.{Scene, after_answer, after_turn, next_entry, scene, taken_in, taken_with}
use Rattle.nv_blocks.specs.declared.answer.CommandResult.{CommandResult}
use Rattle.nv_blocks.specs.declared.refusal.Refusal.{Refusal}
use Rattle.nv_blocks.specs.declared.refusal.Refusal.TheVariants.{DataTransferError}
use Rattle.nv_blocks.specs.declared.terms.Namespace.{Namespace}
use Rattle.nv_blocks.specs.declared.terms.Terms.{Terms}
use Rattle.nv_blocks.specs.declared.turns.Stop.{Stop}
use Rattle.nv_blocks.specs.declared.turns.Stop.TheVariants.{Empty, Full, Outside}
use Rattle.nv_blocks.specs.declared.turns.Taken.{Taken}
use Rattle.nvme_controller.specs.Queues.{fetch_of, post_of, with_fetch, with_post}
use Rattle.nvme_controller.specs.declared.blocks.LentBlocks.{LentBlocks}
use Rattle.nvme_controller.specs.declared.caller.Answer.{Answer}
use Rattle.nvme_controller.specs.declared.queues.CompletionQueue.{CompletionQueue}
use Rattle.nvme_controller.specs.declared.queues.SubmissionQueue.{SubmissionQueue}

-- ---- what a call is given

-- the numbers of both queues are those of rings, and the bytes are whole pages
pub record CanServe (s : SubmissionQueue) (c : CompletionQueue) (page_size size : ℕ) : Type 0 where
  pub fetch : IsFetchRing (fetch_of s)
  pub post : IsPostRing (post_of c)
  pub pages : IsTrue (are_pages page_size size)

-- what these queues, bytes and blocks are for a turn
abbrev pub scene_of : SubmissionQueue → CompletionQueue → List ℕ → List ℕ → Scene
scene_of s c stored memory = scene (fetch_of s) (post_of c) stored memory

-- what a completion says, as a program in C passes it
abbrev pub answer_result : Answer → CommandResult
answer_result a = record { dword0 = a.dword0; status = status_of_number a.status }

-- ---- the next entry

-- 1 for an entry, 0 if none waits or its completion has no free slot, and -1 if the memory lacks a slot
abbrev pub stop_number : Stop → ℤ
stop_number Empty = pos 0
stop_number Full = pos 0
stop_number Outside = negsuc 0

-- the number that is returned for the next entry
abbrev pub next_number : Result Sqe Stop → ℤ
next_number (Ok e) = pos 1
next_number (Err stop) = stop_number stop

-- its bytes, or the bytes as they were if there is none
abbrev pub next_bytes : Result Sqe Stop → List ℕ → List ℕ
next_bytes (Ok e) old = bytes_of_sqe e
next_bytes (Err stop) old = old

-- the number that is returned for an entry that the caller completes
abbrev pub taken_number : Result Taken Stop → ℤ
taken_number (Ok taken) = pos 1
taken_number (Err stop) = stop_number stop

-- the number that is returned for an entry that a turn takes: the status of its completion, or -1
abbrev pub status_number : Result Taken Stop → ℤ
status_number (Ok taken) = pos (number_of_status taken.completion.status)
status_number (Err stop) = negsuc 0

-- ---- the terms of a turn

-- the blocks are those of a namespace
abbrev pub are_blocks : LentBlocks → Bool
are_blocks b = nat_lt 0 b.nsid && (nat_lt b.nsid 4294967295 && nat_lt 0 b.block_size)

-- the namespace that is lent
abbrev pub IsLent : LentBlocks → Option Namespace → Type 0
IsLent b None = are_blocks b ≡ false
IsLent b (Some n) = (are_blocks b ≡ true) × (n.nsid ≡ b.nsid) × (n.block_size ≡ b.block_size)

-- these are the terms of a turn of a submission queue over lent blocks
pub record AreTerms (b : LentBlocks) (id : ℕ) (terms : Terms) : Type 0 where
  pub sqid : terms.sqid ≡ id
  pub namespace : IsLent b terms.namespace
  pub limit : terms.limit ≡ min b.greatest_transfer most_bytes
  pub is_exhausted : terms.is_exhausted ≡ not (b.is_full == 0)

-- ---- what a call leaves

-- the queues, blocks and memory after it are those of this scene
pub record Leaves (x : Scene) (s : SubmissionQueue) (c : CompletionQueue) (blocks bytes : List ℕ)
    (s' : SubmissionQueue) (c' : CompletionQueue) : Type 0 where
  pub submissions : s' ≡ with_fetch s x.fetch
  pub completions : c' ≡ with_post c x.post
  pub stored : blocks ≡ x.stored
  pub memory : bytes ≡ x.bytes

-- ---- data that is sent

-- the memory's bytes are whole pages, and no more bytes are sent than a command can transfer
pub record CanSend (page_size size count : ℕ) : Type 0 where
  pub pages : IsTrue (are_pages page_size size)
  pub few : count ≤ most_bytes

-- the status of sending bytes
abbrev pub sent_status : Result (List ℕ) Refusal → ℕ
sent_status (Ok new) = 0
sent_status (Err refusal) = number_of_status (status_of_refusal refusal)

-- the status if they can't be sent
abbrev pub cannot_send : ℕ
cannot_send = number_of_status (status_of_refusal DataTransferError)

-- the memory after it
abbrev pub sent_memory : Result (List ℕ) Refusal → List ℕ → List ℕ
sent_memory (Ok new) old = new
sent_memory (Err refusal) old = old
