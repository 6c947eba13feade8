-- How many bytes the replies of each kind have.
use Rattle.std.specs.Prelude.{◌≡◌, ℕ, ◌/◌, ◌≤◌}
use Rattle.nv_command.specs.declared.transfer.ReplyKind.{ReplyKind}
use Rattle.nv_command.specs.declared.transfer.ReplyKind.TheVariants as kind

-- how many bytes of a page a reply of a kind has, if it is no log
abbrev pub page_bytes : ReplyKind → ℕ
page_bytes kind.Controller = 4096
page_bytes kind.Namespace = 4096
page_bytes kind.List = 4096
page_bytes k = 0

-- the number of bytes from which a reply of a kind is read; the error log has at most 256 entries
abbrev pub IsSizeOf : ReplyKind → ℕ → Type 0
IsSizeOf kind.Errors n = n / 64 ≤ 256
IsSizeOf kind.Smart n = n ≡ 512
IsSizeOf k n = n ≡ page_bytes k
