use Rattle.std.proofs.Common.{ap, ◌∙◌}
use Rattle.toml.proofs.Views.{table_get}
use Rattle.nv_file.proofs.Words.{get_member, table_view}
use Rattle.nv_file.proofs.section.Section.find.Goals as goal

pub returns : goal.returns
returns c =
    table_get c.get.result c.text.result.now c.args.self.now.table.now.entries c.get.ensures.value
    ∙ ap (λ k. get_member k (table_view c.args.self.now.table.now)) c.text.ensures
