use Rattle.std.proofs.Common.{rules}
use Rattle.nvme_controller.proofs.blocks.nvme_lent_turn.Goals as goal

-- the terms are those that the turn was done under
pub returns-clause-turned : goal.returns-clause-turned
returns-clause-turned c can = (
  c.terms-terms.result,
  c.terms-terms.ensures,
  search rules,
  record {
    submissions = search rules;
    completions = search rules;
    stored = search rules;
    memory = search rules;
  },
)
