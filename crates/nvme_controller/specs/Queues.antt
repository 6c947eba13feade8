-- The I/O queues that a program in C keeps as values.
use Rattle.nv_queue.specs.Rings.{FetchNumbers, PostNumbers}
use Rattle.nvme_controller.specs.declared.queues.CompletionQueue.{CompletionQueue}
use Rattle.nvme_controller.specs.declared.queues.SubmissionQueue.{SubmissionQueue}

-- the device's side of a submission ring with the numbers of a queue
abbrev pub fetch_of : SubmissionQueue → FetchNumbers
fetch_of q = record { base = q.base; depth = q.depth; fetched = q.fetched; rung = q.rung }

-- the queue with the numbers of such a ring
abbrev pub with_fetch : SubmissionQueue → FetchNumbers → SubmissionQueue
with_fetch q ring = record q { fetched = ring.fetched; rung = ring.rung }

-- the device's side of a completion ring with the numbers of a queue
abbrev pub post_of : CompletionQueue → PostNumbers
post_of q = record { base = q.base; depth = q.depth; posted = q.posted; told = q.told }

-- the queue with the numbers of such a ring
abbrev pub with_post : CompletionQueue → PostNumbers → CompletionQueue
with_post q ring = record q { posted = ring.posted; told = ring.told }
