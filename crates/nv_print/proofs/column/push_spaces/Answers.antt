use Rattle.nv_print.proofs.Padding.{spaces_cut}
use Rattle.nv_print.proofs.column.push_spaces.Goals as goal

pub split_at-requires : goal.split_at-requires
split_at-requires c = spaces_cut c.args.count c.requires
