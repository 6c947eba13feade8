use Rattle.std.proofs.Common.{length, ◌+◌, ◌-◌, ◌/◌, ◌<◌, ◌≡◌, ◌≤◌}
use Rattle.nv_prp.specs.Buffer.{buffer_places}
use Rattle.nv_prp.specs.Place.{LieIn, places}
use Rattle.nv_prp.proofs.buffer.Buffer.spans.Given as goal

-- the spans of the first bytes were found, at most as many as pages
abbrev pub invariant-loop-done : goal.invariant-loop-done
invariant-loop-done g l = record {
  within : l.done ≤ l.len;
  places : places l.spans ≡ buffer_places (g.M.PagedMemory.page_len l.mem) l.self.pages.now l.self.offset l.done;
  inside : LieIn (length (g.M.PagedMemory.bytes l.mem)) l.spans;
  few : l.done < l.len → length l.spans ≤ (l.self.offset + l.done) / g.M.PagedMemory.page_len l.mem;
}

abbrev pub decreases-loop-done : goal.decreases-loop-done
decreases-loop-done g l = l.initial.len - l.done
