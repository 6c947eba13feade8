-- Namespace Attachment: when an attach or a detach is refused, and what it changes.
use Rattle.std.specs.Prelude.{ℕ, ◌==◌, ◌&&◌, ◌||◌, not, nat_lt, Bool, false, List, [], ◌∷◌, ◌++◌}
use Rattle.std.specs.Prelude.{drop, length, count_by, if◌then◌else◌}
use Rattle.std.specs.List.{list_all, list_any, zip}
use Rattle.std.specs.Option.{option_map_or}
use Rattle.std.specs.FinMap as map_of
use Rattle.nv_command.specs.declared.status_code.StatusCode.TheVariants.{ControllerListInvalid, InvalidFieldInCommand}
use Rattle.nv_command.specs.declared.status_code.StatusCode.TheVariants.{InvalidNamespaceOrFormat}
use Rattle.nv_command.specs.declared.status_code.StatusCode.TheVariants.{NamespaceAlreadyAttached, NamespaceIsPrivate}
use Rattle.nv_command.specs.declared.status_code.StatusCode.TheVariants.{NamespaceNotAttached}
use Rattle.nv_model.specs.Values.{first_value, recovery_key}
use Rattle.nv_model.specs.Management.{Attached, with_attached, without}
use Rattle.nv_model.specs.Conditions.{is_allocated, is_valid, row, Row}
use Rattle.nv_model.specs.State.{Controller, State}

-- ---- the list of controller identifiers

-- the controller is in the list
abbrev pub is_listed : List ℕ → Controller → Bool
is_listed ids x = list_any (λ id. id == x.identity.cntlid) ids

-- the numbers strictly ascend
abbrev pub is_ascending : List ℕ → Bool
is_ascending ids = list_all (λ p. nat_lt p.0 p.1) (zip ids (drop 1 ids))

-- a controller of the subsystem has the identifier
abbrev pub is_known : State → ℕ → Bool
is_known s id = list_any (λ x. id == x.identity.cntlid) s.controllers

-- the list has some controllers of the subsystem, in ascending order
abbrev pub is_list_of : State → List ℕ → Bool
is_list_of s ids = not (length ids == 0) && is_ascending ids && list_all (is_known s) ids

-- ---- rows

-- whether a controller has the namespace attached
abbrev pub has_attached : ℕ → Controller → Bool
has_attached n x = map_of.contains_key x.attached n

-- a namespace that at most one controller may have attached
abbrev pub is_private : State → ℕ → Bool
is_private s n = option_map_or (λ x. not x.shared) (map_of.get s.namespaces n) false

-- the rows that an attach and a detach share
abbrev pub first_rows : State → ℕ → List ℕ → List Row
first_rows s n ids =
    row (not (is_valid s n)) InvalidNamespaceOrFormat
    ∷ row (not (is_allocated s n)) InvalidFieldInCommand
    ∷ row (not (is_list_of s ids)) ControllerListInvalid
    ∷ []

-- a listed controller has the namespace attached
abbrev pub has_one_attached : State → ℕ → List ℕ → Bool
has_one_attached s n ids = list_any (λ x. is_listed ids x && has_attached n x) s.controllers

-- a listed controller doesn't have it attached
abbrev pub lacks_one_attached : State → ℕ → List ℕ → Bool
lacks_one_attached s n ids = list_any (λ x. is_listed ids x && not (has_attached n x)) s.controllers

-- how many controllers have it attached or are listed
abbrev pub count_with : State → ℕ → List ℕ → ℕ
count_with s n ids = count_by (λ x. has_attached n x || is_listed ids x) s.controllers

-- the rows of an attach: those that it shares, an attached namespace, and a private one with two controllers
abbrev pub attach_rows : State → ℕ → List ℕ → List Row
attach_rows s n ids =
    first_rows s n ids
    ++ row (has_one_attached s n ids) NamespaceAlreadyAttached
    ∷ row (is_private s n && nat_lt 1 (count_with s n ids)) NamespaceIsPrivate
    ∷ []

-- the rows of a detach: those that it shares, and a namespace that isn't attached
abbrev pub detach_rows : State → ℕ → List ℕ → List Row
detach_rows s n ids =
    first_rows s n ids ++ row (lacks_one_attached s n ids) NamespaceNotAttached ∷ []

-- the rows of an attach or a detach
abbrev pub attachment_rows : State → ℕ → Bool → List ℕ → List Row
attachment_rows s n detach ids = if detach then detach_rows s n ids else attach_rows s n ids

-- ---- effects

-- a controller after a namespace was attached, with its Error Recovery at the default
abbrev pub with_one : ℕ → Controller → Attached
with_one n x = record {
  nsids = map_of.insert x.attached n tt;
  values = map_of.insert x.values (recovery_key n) (first_value x.rules (recovery_key n));
}

-- a controller that doesn't change
abbrev pub unchanged : Controller → Attached
unchanged x = record { nsids = x.attached; values = x.values }

-- a controller after an attach: if it is listed, it has the namespace attached
abbrev pub more : ℕ → List ℕ → Controller → Attached
more n ids x = if is_listed ids x then with_one n x else unchanged x

-- a controller after a detach: if it is listed, it doesn't have the namespace attached
abbrev pub fewer : ℕ → List ℕ → Controller → Attached
fewer n ids x = if is_listed ids x then without n x else unchanged x

-- the state after an attach: all listed controllers have the namespace attached
abbrev pub attached : State → ℕ → List ℕ → State
attached s n ids = with_attached s (more n ids)

-- the state after a detach: no listed controller has it attached
abbrev pub detached : State → ℕ → List ℕ → State
detached s n ids = with_attached s (fewer n ids)

-- the state after an attach or a detach
abbrev pub with_attachments : State → ℕ → Bool → List ℕ → State
with_attachments s n detach ids = if detach then detached s n ids else attached s n ids
