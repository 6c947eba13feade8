-- The data of a namespace.
use Rattle.std.specs.Prelude.{ℕ, List, replicate}
use Rattle.nv_host.specs.Bytes.{bytes_at, with_bytes}
use Rattle.nv_blocks.specs.declared.command.Extent.{Extent}

-- the bytes of an extent
abbrev pub stored_in : List ℕ → Extent → List ℕ
stored_in stored extent = bytes_at stored extent.start extent.len

-- the data after these bytes were stored in an extent
abbrev pub with_stored : List ℕ → Extent → List ℕ → List ℕ
with_stored stored extent written = with_bytes stored extent.start written

-- the data after an extent was zeroed
abbrev pub zeroed : List ℕ → Extent → List ℕ
zeroed stored extent = with_stored stored extent (replicate extent.len 0)
