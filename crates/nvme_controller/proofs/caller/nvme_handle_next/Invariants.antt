use Rattle.nvme_controller.proofs.caller.nvme_handle_next.Given as goal

-- the reference to the bytes
abbrev pub ghosts-act : goal.ghosts-act
ghosts-act a = record { reference = a.memory.ghost_name }
