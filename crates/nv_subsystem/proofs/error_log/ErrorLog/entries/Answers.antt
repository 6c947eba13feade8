use Rattle.std.proofs.Common.{◌∙◌, ℕ, ◌-◌, List, ◌++◌, ap, length, sym}
use Rattle.nv_subsystem.proofs.Words.{ErrorEntry, length-append, Log, no_entry, replicate}
use Rattle.nv_subsystem.proofs.error_log.ErrorLog.entries.Goals as goal

-- entries, filled up to this number with entries without an error
abbrev filled : ℕ → List ErrorEntry → List ErrorEntry
filled most es = es ++ replicate (most - length es) no_entry

pub returns : goal.returns
returns c =
    let newest = c.as_slices.result.0.now in
    let older = c.as_slices.result.1.now in
    c.new.ensures
    ∙ ap (λ n. (newest ++ older) ++ replicate (c.capacity.result - n) no_entry) (sym (length-append newest older))
    ∙ (λ i. filled (c.capacity.ensures.capacity i) (c.as_slices.ensures i))
    ∙ ap (λ (l : Log). filled l.most l.entries) c.self.view_is
