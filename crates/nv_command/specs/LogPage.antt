-- Log pages: the identifier of each, and the kind of the reply that brings it. Section "Log Page
-- Identifiers".
use Rattle.std.specs.Prelude.{ℕ, ◌==◌, List, [], ◌∷◌, find}
use Rattle.std.specs.Option.{option_map_or}
use Rattle.nv_command.specs.declared.log_page.LogPage.{LogPage}
use Rattle.nv_command.specs.declared.log_page.LogPage.TheVariants.{ErrorInformation, Health}
use Rattle.nv_command.specs.declared.transfer.ReplyKind.{ReplyKind}
use Rattle.nv_command.specs.declared.transfer.ReplyKind.TheVariants as kind

-- the log page identifier
abbrev pub lid_of : LogPage → ℕ
lid_of ErrorInformation = 0x01
lid_of Health = 0x02

-- every log page
abbrev pub log_pages : List LogPage
log_pages = ErrorInformation ∷ Health ∷ []

-- the log page that an identifier asks for; the health log for one that no log page has, which is
-- refused
abbrev pub log_asked : ℕ → LogPage
log_asked lid = option_map_or (λ page. page) (find (λ page. lid_of page == lid) log_pages) Health

-- the kind of the reply that brings the log page
abbrev pub log_kind : LogPage → ReplyKind
log_kind ErrorInformation = kind.Errors
log_kind Health = kind.Smart
