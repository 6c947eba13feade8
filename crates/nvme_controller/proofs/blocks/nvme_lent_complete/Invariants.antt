use Rattle.nvme_controller.proofs.blocks.nvme_lent_complete.Given as goal

-- the reference to the bytes
abbrev pub ghosts-answer : goal.ghosts-answer
ghosts-answer a = record { reference = a.memory.ghost_name }
