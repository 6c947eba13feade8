-- The changes of what each controller has attached.
use Rattle.std.specs.Prelude.{◌≡◌, ℕ, ◌&&◌, nat_le, true}
use Rattle.nv_model.specs.Attachment.{fewer, more}
use Rattle.nv_model.specs.Management.{Attached, without, without_any}
use Rattle.nv_model.specs.State.{Controller}
use Rattle.nv_subsystem.specs.declared.attachment.AttachmentChange.{AttachmentChange}
use Rattle.nv_subsystem.specs.declared.attachment.AttachmentChange.TheVariants as to

-- what a controller has attached after a change
abbrev pub changed_by : AttachmentChange → Controller → Attached
changed_by (to.Attach n ids) = more n ids.now
changed_by (to.Detach n ids) = fewer n ids.now
changed_by (to.DetachEverywhere n) = without n
changed_by to.DetachAll = without_any

-- a namespace is attached only if its NSID is one of the first nn
abbrev pub HasPlace : ℕ → AttachmentChange → Type 0
HasPlace nn (to.Attach n ids) = (nat_le 1 n && nat_le n nn) ≡ true
HasPlace nn (to.Detach n ids) = Unit
HasPlace nn (to.DetachEverywhere n) = Unit
HasPlace nn to.DetachAll = Unit
