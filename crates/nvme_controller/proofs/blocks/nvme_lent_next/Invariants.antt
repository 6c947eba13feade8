use Rattle.nvme_controller.proofs.blocks.nvme_lent_next.Given as goal

-- the reference to the bytes
abbrev pub ghosts-look : goal.ghosts-look
ghosts-look a = record { reference = a.memory.ghost_name }
