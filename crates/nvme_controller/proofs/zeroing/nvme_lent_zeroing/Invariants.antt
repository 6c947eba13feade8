use Rattle.nvme_controller.proofs.zeroing.nvme_lent_zeroing.Given as goal

-- the reference to the bytes
abbrev pub ghosts-find : goal.ghosts-find
ghosts-find a = record { reference = a.memory.ghost_name }
