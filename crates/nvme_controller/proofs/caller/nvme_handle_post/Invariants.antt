use Rattle.nvme_controller.proofs.caller.nvme_handle_post.Given as goal

-- the reference to the bytes
abbrev pub ghosts-post : goal.ghosts-post
ghosts-post a = record { reference = a.memory.ghost_name }
