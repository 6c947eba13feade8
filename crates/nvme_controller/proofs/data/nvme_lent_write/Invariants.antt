use Rattle.nvme_controller.proofs.data.nvme_lent_write.Given as goal

-- the reference to the bytes
abbrev pub ghosts-write : goal.ghosts-write
ghosts-write a = record { reference = a.memory.ghost_name }
