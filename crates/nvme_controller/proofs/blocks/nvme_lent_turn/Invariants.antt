use Rattle.nvme_controller.proofs.blocks.nvme_lent_turn.Given as goal

-- the reference to the bytes
abbrev pub ghosts-serve : goal.ghosts-serve
ghosts-serve a = record { reference = a.memory.ghost_name }
