-- Replies whose entries of the error log have phase tags.
use Rattle.std.proofs.Common.{◌≡◌, refl, subst, sym}
use Rattle.nv_command.proofs.LogLaws.{fits-without_phases, is_reply-without_phases}
use Rattle.nv_command.specs.Logs.{without_phases}
use Rattle.nv_command.specs.Reply.{FitsRecord, IsReplyTo, dword0_of}
use Rattle.nv_command.specs.declared.command.Command.{Command}
use Rattle.nv_command.specs.declared.reply.Reply.{Reply}
use Rattle.nv_command.specs.declared.reply.Reply.TheVariants as reply

-- a reply without phase tags has the same dword 0
pub dword0_tagged : (r : Reply) → dword0_of (without_phases r) ≡ dword0_of r
dword0_tagged (reply.Errors es) = refl
dword0_tagged r = refl

-- a reply that without its phase tags is one to a command and fits its record also does with them
pub tagged : (k : Command) (r reply : Reply) → without_phases r ≡ reply → IsReplyTo k reply
    × FitsRecord reply → IsReplyTo k r × FitsRecord r
tagged k r reply same is =
    let own = subst (λ (q : Reply). IsReplyTo k q × FitsRecord q) (sym same) is in
    (is_reply-without_phases k r own.0, fits-without_phases r own.1)
