-- The page size that a controller is configured with.
use Rattle.std.specs.Prelude.{ℕ, ◌+◌, ◌^◌}
use Rattle.nv_register.specs.declared.register.Sizes.{Sizes}

-- the size of a page in bytes
abbrev pub page_size_of : Sizes → ℕ
page_size_of sizes = 2 ^ (12 + sizes.mps)
