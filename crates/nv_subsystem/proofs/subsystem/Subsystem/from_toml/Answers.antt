use Rattle.std.proofs.Common.{sym, subst}
use Rattle.nv_subsystem.proofs.Words.{file_view, IsWellFormed}
use Rattle.nv_subsystem.proofs.FileStates.{state_ok}
use Rattle.nv_subsystem.proofs.subsystem.Subsystem.from_toml.Goals as goal

pub returns-clause-well_formed : goal.returns-clause-well_formed
returns-clause-well_formed c = subst IsWellFormed (sym c.in_ok-subsystem.ensures.state)
    (state_ok (file_view c.in_ok-file.file) c.in_ok-file.ensures.sound)
