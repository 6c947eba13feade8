use Rattle.std.proofs.Common.{◌∙◌, ℕ, ◌+◌, ◌∷◌, List, ap, sym, take}
use Rattle.nv_subsystem.proofs.Words.{controller_view, ErrorEntry, log_entry, next_count, with_phase}
use Rattle.nv_subsystem.proofs.TaggedLaws.{newest_of_taken}
use Rattle.nv_subsystem.proofs.controller.Controller.book.Goals as goal

pub returns-clause-refusal : goal.returns-clause-refusal
returns-clause-refusal c =
    let x = controller_view c.args.self.now in
    let phase = c.args.origin.phase in
    let refusals = c.saturating_add-self.ensures in
    let entry = λ (count : ℕ). log_entry count c.args.origin.cid c.args.nsid c.args.refusal in
    record {
      view = (λ i. record x { refusals = c.saturating_add-self.result; log = (c.book.ensures i).entries })
          ∙ (λ i. record x {
            refusals = refusals i;
            log = take (c.requires i) (with_phase phase (entry (refusals i)) ∷ x.log);
          })
          ∙ ap (λ (log : List ErrorEntry). record x { refusals = next_count x.refusals; log = log })
          (sym (newest_of_taken phase (x.identity.numbers.elpe + 1) (entry (next_count x.refusals)) x.log));
      sized = λ nn is. let most = ap (λ l. l.most) c.book.ensures ∙ is.log in assumption (most, is);
    }
