use Rattle.nvme_controller.proofs.calls.nvme_handle_turn.Given as goal

-- the reference to the bytes
abbrev pub ghosts-turn : goal.ghosts-turn
ghosts-turn a = record { reference = a.memory.ghost_name }
