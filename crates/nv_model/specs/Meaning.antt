-- What each command means: the one table of refusals, replies and effects.
use Rattle.std.specs.Prelude.{ℕ, List, [], Option}
use Rattle.nv_command.specs.declared.command.Command.{Command}
use Rattle.nv_command.specs.declared.command.Command.TheVariants.{IdentifyController, IdentifyNamespace}
use Rattle.nv_command.specs.declared.command.Command.TheVariants.{AllocatedNamespace, ActiveList, AllocatedList, Create}
use Rattle.nv_command.specs.declared.command.Command.TheVariants.{Delete, Attachment, Format, GetFeature, SetFeature}
use Rattle.nv_command.specs.declared.command.Command.TheVariants.{GetLog}
use Rattle.nv_layout.specs.declared.new_namespace.NewNamespace.{NewNamespace}
use Rattle.nv_command.specs.declared.reply.Reply.{Reply}
use Rattle.nv_command.specs.declared.reply.Reply.TheVariants.{Done, Number}
use Rattle.nv_model.specs.Attachment.{attachment_rows, with_attachments}
use Rattle.nv_model.specs.Features.{feature_number, get_feature_rows, set_feature_rows, with_feature}
use Rattle.nv_model.specs.Format.{format_rows, formatted}
use Rattle.nv_model.specs.Identify.{active_list_reply, active_reply, active_rows, allocated_list_reply}
use Rattle.nv_model.specs.Identify.{allocated_reply, allocated_rows, list_rows}
use Rattle.nv_model.specs.IdentifyController.{controller_reply}
use Rattle.nv_command.specs.LogPage.{log_asked}
use Rattle.nv_model.specs.Logs.{log_reply, log_rows}
use Rattle.nv_model.specs.Management.{create_rows, created, created_nsid, delete_rows, deleted}
use Rattle.nv_model.specs.State.{State}
use Rattle.nv_model.specs.Conditions.{Row, first_refusal}
use Rattle.nv_command.specs.declared.refusal.Refusal.{Refusal}

-- for a command of controller c in state s: the rows by which it is refused and, if none applies,
-- its reply and the state after it
pub record Meaning : Type 0 where
  pub rows : State → ℕ → List Row
  pub reply : State → ℕ → Reply
  pub effect : State → ℕ → State

-- it returns something, and changes nothing
abbrev pub telling : (State → ℕ → List Row) → (State → ℕ → Reply) → Meaning
telling rows reply = record { rows = rows; reply = reply; effect = λ s c. s }

-- it changes something, and returns success
abbrev pub changing : (State → ℕ → List Row) → (State → ℕ → State) → Meaning
changing rows after = record { rows = rows; reply = λ s c. Done; effect = after }

-- the meaning of a create: it changes something, and returns an NSID
abbrev pub creating : NewNamespace → Meaning
creating w = record {
  rows = λ s c. create_rows s w;
  reply = λ s c. Number (created_nsid s);
  effect = λ s c. created s w;
}

-- the meaning of each command
abbrev pub meaning_of : Command → Meaning
meaning_of IdentifyController = telling (λ s c. []) (λ s c. controller_reply s c)
meaning_of (IdentifyNamespace n) = telling (λ s c. active_rows s n) (λ s c. active_reply s c n)
meaning_of (AllocatedNamespace n) =
    telling (λ s c. allocated_rows s n) (λ s c. allocated_reply s n)
meaning_of (ActiveList after) =
    telling (λ s c. list_rows after) (λ s c. active_list_reply s c after)
meaning_of (AllocatedList after) =
    telling (λ s c. list_rows after) (λ s c. allocated_list_reply s after)
meaning_of (Create w) = creating w
meaning_of (Delete n) = changing (λ s c. delete_rows s n) (λ s c. deleted s n)
meaning_of (Attachment n detach ids) =
    changing (λ s c. attachment_rows s n detach ids) (λ s c. with_attachments s n detach ids)
meaning_of (Format f) = changing (λ s c. format_rows s c f) (λ s c. formatted s c f)
meaning_of (GetFeature q) =
    telling (λ s c. get_feature_rows s c q) (λ s c. Number (feature_number s c q))
meaning_of (SetFeature x) =
    changing (λ s c. set_feature_rows s c x) (λ s c. with_feature s c x)
meaning_of (GetLog q) = telling (λ s c. log_rows s c q) (λ s c. log_reply s c (log_asked q.lid))

-- the state after a command of controller c that isn't refused
abbrev pub effect_of : State → ℕ → Command → State
effect_of s c k = (meaning_of k).effect s c

-- the rows of a command of controller c
abbrev pub rows_of : State → ℕ → Command → List Row
rows_of s c k = (meaning_of k).rows s c

-- the refusal of a command of controller c, if a row refuses it
abbrev pub refusal_of : State → ℕ → Command → Option Refusal
refusal_of s c k = first_refusal (rows_of s c k)

-- the reply to a command of controller c that isn't refused
abbrev pub reply_of : State → ℕ → Command → Reply
reply_of s c k = (meaning_of k).reply s c
