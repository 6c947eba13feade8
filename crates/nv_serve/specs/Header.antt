-- The bytes of a request: a header, and the data from the host.
use Rattle.std.specs.Prelude.{◌≡◌, ℕ, Bool, ◌==◌, ◌<◌, ◌≤◌, ◌++◌, List, [], drop, if◌then◌else◌, length, take}
use Rattle.nv_layout.specs.Bits.{bits}
use Rattle.nv_layout.specs.Parts.{number_at}
use Rattle.nv_layout.specs.Sqe.{sqe_of_bytes}
use Rattle.nv_layout.specs.declared.sqe.Sqe.{Sqe}
use Rattle.nv_serve.specs.declared.header.Header.{Header}
use Rattle.nv_serve.specs.declared.header.Kind.{Kind}
use Rattle.nv_serve.specs.declared.header.Kind.TheVariants.{Entry, Reset, List as ListKind, Unknown}

-- how many bytes a header has
abbrev pub header_size : ℕ
header_size = 72

-- the greatest length of data in bytes: as much as a controller may transfer for one command
abbrev pub most_data : ℕ
most_data = 1048576

-- the kind of a request by its number; any number above 2 is unknown
abbrev pub kind_of : ℕ → Kind
kind_of n = if n == 0 then Entry else if n == 1 then Reset else if n == 2 then ListKind else Unknown

-- the header in these bytes
unfoldable pub header_of : List ℕ → Header
header_of bytes = record {
  controller = number_at 0 2 bytes;
  kind = kind_of (number_at 2 2 bytes);
  length = number_at 4 4 bytes;
  entry = sqe_of_bytes (take 64 (drop 8 bytes));
}

-- the host sends data with an entry if the lowest bit of its opcode is 1
abbrev pub sends_data : Sqe → Bool
sends_data e = bits 0 1 e.opcode == 1

-- how many bytes of data follow a header
abbrev pub sent_by_kind : Kind → Header → ℕ
sent_by_kind Entry h = if sends_data h.entry then h.length else 0
sent_by_kind kind h = 0

-- how many bytes of data follow a header
abbrev pub sent_length : Header → ℕ
sent_length h = sent_by_kind h.kind h

-- how many bytes of data come back
abbrev pub wanted_by_kind : Kind → Header → ℕ
wanted_by_kind Entry h = if sends_data h.entry then 0 else h.length
wanted_by_kind ListKind h = h.length
wanted_by_kind kind h = 0

-- how many bytes of data the answer to a header has
abbrev pub wanted_length : Header → ℕ
wanted_length h = wanted_by_kind h.kind h

-- a request, or what was read of one: the bytes of its header, and of its data
pub record Request : Type 0 where
  pub header : List ℕ
  pub payload : List ℕ

-- a request as bytes: its header, and then its data
abbrev pub bytes_of : Request → List ℕ
bytes_of r = r.header ++ r.payload

-- its header is complete, and asks for no more data than is allowed
pub record HasHeader (r : Request) : Type 0 where
  pub header : length r.header ≡ header_size
  pub small : (header_of r.header).length ≤ most_data

-- the whole request was read
pub record IsWhole (r : Request) : Type 0 where
  pub begun : HasHeader r
  pub payload : length r.payload ≡ sent_length (header_of r.header)

-- its header asks for more data than is allowed
pub record IsTooLong (r : Request) : Type 0 where
  pub header : length r.header ≡ header_size
  pub long : most_data < (header_of r.header).length
  pub payload : r.payload ≡ []

-- it was cut short, in its header or in its data
pub data IsCutShort (r : Request) : Type 0 where
  in_header : length r.header < header_size → r.payload ≡ [] → IsCutShort r
  in_data : HasHeader r → length r.payload < sent_length (header_of r.header) → IsCutShort r
