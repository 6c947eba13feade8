-- The meaning of each command is sound: the one table of facts about refusals, replies and effects.
use Rattle.std.proofs.Common.{◌≡◌, ℕ, ◌≤◌, ◌==◌, arith, refl, [], true, List, Option, Some, None, is_some, length}
use Rattle.std.proofs.Common.{rules}
use Rattle.std.specs.FinMap as map_of
use Rattle.nv_command.specs.LogPage.{log_kind}
use Rattle.nv_command.specs.declared.log_page.LogPage.{LogPage}
use Rattle.nv_command.specs.declared.log_page.LogPage.TheVariants.{ErrorInformation, Health}
use Rattle.nv_command.specs.declared.command.Command.TheVariants.{IdentifyController, IdentifyNamespace}
use Rattle.nv_command.specs.declared.command.Command.TheVariants.{AllocatedNamespace, ActiveList, AllocatedList, Create}
use Rattle.nv_command.specs.declared.command.Command.TheVariants.{Delete, Attachment, Format, GetFeature, SetFeature}
use Rattle.nv_command.specs.declared.command.Command.TheVariants.{GetLog}
use Rattle.nv_command.specs.declared.transfer.ReplyKind.{ReplyKind}
use Rattle.nv_command.specs.declared.reply.Reply.{Reply}
use Rattle.nv_model.proofs.Words.{above, ascending, blank, broadcast_nsid, Command, Controller, controller_at}
use Rattle.nv_model.proofs.Words.{first_refusal, FitsRecord, form_of, id_ns_of, IdNsFits, InvalidNamespaceOrFormat}
use Rattle.nv_model.proofs.Words.{is_active, is_refusal-refusal_by, IsController, IsNsidList, IsWellFormed, kind_of}
use Rattle.nv_model.proofs.Words.{log_reply, Meaning, meaning_of, Namespace, option_map_or, Row, slice_get, State}
use Rattle.nv_model.proofs.Words.{telling}
use Rattle.nv_model.proofs.AttachmentLaws.{attachment_controllers, attachment_keeps, attachment_rows_fit}
use Rattle.nv_model.proofs.ChoiceLaws.{chosen_fits}
use Rattle.nv_model.proofs.FormatLaws.{format_keeps, format_rows_fit}
use Rattle.nv_model.proofs.KeepingLaws.{is_controller}
use Rattle.nv_model.proofs.IdentifyControllerLaws.{id_ctrl_fits}
use Rattle.nv_model.proofs.IdentifyLaws.{blank_fits, common_fits, id_ns_fits}
use Rattle.nv_model.proofs.InFormatLaws.{capacity_fits, format_below}
use Rattle.nv_model.proofs.ListLaws.{keys_fit}
use Rattle.nv_model.proofs.LogLaws.{errors_fit, log_rows_fit, smart_fits}
use Rattle.nv_model.proofs.ManagementLaws.{AllRefuse, create_keeps, create_rows_fit, created_controllers}
use Rattle.nv_model.proofs.ManagementLaws.{created_nsid_fits, delete_keeps, delete_rows_fit, deleted_controllers}
use Rattle.nv_model.proofs.SetFeatureLaws.{feature_controllers, feature_keeps, feature_number_fits}
use Rattle.nv_model.proofs.SetFeatureLaws.{get_feature_rows_fit, set_feature_rows_fit}

-- ---- replies

-- an allocated NSID is from 1 to NN
inside : (s : State) → IsWellFormed s → (n : ℕ) (o : Option Namespace) → map_of.get s.namespaces n
    ≡ o → is_some o ≡ true → (1 ≤ n) × (n ≤ s.nn)
inside s w n None e t = absurd (cc)
inside s w n (Some x) e t = (w.namespaces n x e).nsid

-- the Identify data of an allocated namespace, or of none, fits its record
allocated_fits : (s : State) → IsWellFormed s → (n : ℕ) (o : Option Namespace)
    → map_of.get s.namespaces n ≡ o → IdNsFits (option_map_or (id_ns_of s.formats s.mc) o blank)
allocated_fits s w n None e = blank_fits
allocated_fits s w n (Some x) e =
    let is = w.namespaces n x e in
    id_ns_fits s.formats s.mc x w.keys.mc w.format_count.1 w.formats
    (omega (arith, format_below s.mc x s.formats is.format, w.format_count.1))
    (capacity_fits s.mc x (slice_get s.formats x.format) is.format)

-- the NSIDs above a number that are attached to a controller, or to none, fit a list
list_fits : (s : State) (after : ℕ) → IsWellFormed s → (o : Option Controller)
    → ((x : Controller) → o ≡ Some x → IsController s.namespaces x)
    → IsNsidList (above after (option_map_or (λ x. ascending x.attached) o []))
list_fits s after w None is = record { count = omega arith; numbers = tt }
list_fits s after w (Some x) is =
    let c = is x refl in
    keys_fit after s.nn x.attached w.keys.nn.1 (λ n t. inside s w n (map_of.get s.namespaces n) refl
    (c.attached n t))

-- the error log and the health log of a controller fit their records
logs_fit : (s : State) (c : ℕ) (page : LogPage)
    → ((x : Controller) → controller_at s c ≡ Some x → IsController s.namespaces x)
    → FitsRecord (log_reply s c page)
logs_fit s c ErrorInformation is = errors_fit s.namespaces (controller_at s c) is
logs_fit s c Health is = smart_fits s.namespaces (controller_at s c) is

-- a reply with the error log or the health log has the kind of that log
is_log_reply : (s : State) (c : ℕ) (page : LogPage) → kind_of (log_reply s c page) ≡ log_kind page
is_log_reply s c page = search rules

-- ---- meanings

-- its rows refuse; its reply is of this kind, and in a well-formed subsystem fits its record; what
-- it changes preserves well-formedness, and adds or removes no controller
pub record IsSound (kind : ReplyKind) (m : Meaning) : Type 0 where
  pub rows : (s : State) (c : ℕ) → AllRefuse (m.rows s c)
  pub is_reply : (s : State) (c : ℕ) → kind_of (m.reply s c) ≡ kind
  pub fits : (s : State) (c : ℕ) → IsWellFormed s → FitsRecord (m.reply s c)
  pub keeps : (s : State) (c : ℕ) → first_refusal (m.rows s c) ≡ None → IsWellFormed s
      → IsWellFormed (m.effect s c)
  pub controllers : (s : State) (c : ℕ) → length (m.effect s c).controllers ≡ length s.controllers

-- a meaning that tells something is sound if its rows refuse, and its replies are of this kind and fit their records
tells : (kind : ReplyKind) (rows : State → ℕ → List Row) (reply : State → ℕ → Reply)
    → ((s : State) (c : ℕ) → AllRefuse (rows s c))
    → ((s : State) (c : ℕ) → kind_of (reply s c) ≡ kind)
    → ((s : State) (c : ℕ) → IsWellFormed s → FitsRecord (reply s c)) → IsSound kind (telling rows reply)
tells kind rows reply refuse is fits = assumption

-- the meaning of each command is sound
pub sound : (k : Command) → IsSound (form_of k).reply (meaning_of k)
sound IdentifyController = search (rules, id_ctrl_fits, is_controller)
sound (IdentifyNamespace n) =
    tells _ _ _ (λ s c. (is_refusal-refusal_by InvalidNamespaceOrFormat, tt)) (λ s c. refl)
    (λ s c w. chosen_fits IdNsFits (n == broadcast_nsid) _ _
    (common_fits s.formats s.mc w.keys.mc w.format_count.1 w.formats)
    (chosen_fits IdNsFits (is_active s c n) _ _
    (allocated_fits s w n (map_of.get s.namespaces n) refl) blank_fits))
sound (AllocatedNamespace n) = search (rules, is_refusal-refusal_by, allocated_fits)
sound (ActiveList after) = search (rules, is_refusal-refusal_by, list_fits, is_controller)
sound (AllocatedList after) =
    tells _ _ _ (λ s c. (is_refusal-refusal_by InvalidNamespaceOrFormat, tt)) (λ s c. refl)
    (λ s c w. keys_fit after s.nn s.namespaces w.keys.nn.1
    (λ n t. inside s w n (map_of.get s.namespaces n) refl t))
sound (GetFeature q) = search (rules, get_feature_rows_fit, feature_number_fits)
sound (GetLog q) = search (rules, log_rows_fit, is_log_reply, logs_fit, is_controller)
sound (Create x) =
    search (rules, create_rows_fit, created_nsid_fits, create_keeps, created_controllers)
sound (Delete n) = search (rules, delete_rows_fit, delete_keeps, deleted_controllers)
sound (Attachment n detach ids) = search (rules, attachment_rows_fit, attachment_keeps, attachment_controllers)
sound (Format f) = search (rules, format_rows_fit, format_keeps)
sound (SetFeature x) = search (rules, set_feature_rows_fit, feature_keeps, feature_controllers)
