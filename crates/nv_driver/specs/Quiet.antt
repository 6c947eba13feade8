-- A controller's rings and pages when no command is outstanding.
use Rattle.std.specs.Prelude.{◌≡◌, false}
use Rattle.nv_host.specs.PageSets.{all_of}
use Rattle.nv_driver.specs.QueuePair.{QueuePair}
use Rattle.nv_driver.specs.declared.queue_pair.QueuePair.{QueuePair as QueuePairFields}

-- all numbers are those of the next command, and all its pages are free
pub record IsQuiet (l : QueuePairFields) : Type 0 where
  pub depth : l.completion.depth ≡ l.submission.depth
  pub known : l.submission.known ≡ l.submission.submitted
  pub collected : l.completion.collected ≡ l.submission.submitted
  pub told : l.completion.told ≡ l.submission.submitted
  pub untold : l.completion.untold ≡ false
  pub free : l.pages.members ≡ all_of l.pages.first l.pages.count

-- the value of a queue pair without outstanding commands
abbrev pub pair_value : QueuePairFields → QueuePair
pair_value l = record {
  sq = l.submission.base;
  cq = l.completion.base;
  depth = l.submission.depth;
  number = l.submission.submitted;
  next_cid = l.next_cid;
  geometry = l.geometry;
  first_page = l.pages.first;
  page_count = l.pages.count;
}
