-- The NSID that means all namespaces.
use Rattle.std.specs.Prelude.{ℕ}

-- the broadcast NSID, FFFFFFFFh
abbrev pub broadcast_nsid : ℕ
broadcast_nsid = 0xffffffff
