use Rattle.nv_tests.proofs.lent.lend_any.Given as goal

-- the reference to the bytes
abbrev pub ghosts-lend : goal.ghosts-lend
ghosts-lend a a' = record { reference = a'.bytes.ghost_name }
