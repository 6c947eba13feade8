-- A subsystem with the phase tags of its logs, and the same without them.
use Rattle.std.proofs.Common.{◌≡◌, ◌≢◌, ◌∙◌, ℕ, zero, suc, ◌+◌, ◌-◌, ◌≤◌, ◌==◌, ◌&&◌, not, Bool, true, false, ap, arith}
use Rattle.std.proofs.Common.{List, [], ◌∷◌, ◌++◌, get_or, length, map, Option, None, Some, refl, subst, sym, take}
use Rattle.std.specs.FinMap as map_of
use Rattle.nv_command.specs.declared.reply.Reply.TheVariants as reply
use Rattle.std.specs.List.{All}
use Rattle.nv_command.specs.LogPage.{log_asked}
use Rattle.nv_command.specs.declared.log_page.LogPage.{LogPage}
use Rattle.nv_command.specs.declared.log_page.LogPage.TheVariants.{ErrorInformation, Health}
use Rattle.nv_command.specs.Logs.{without_phases}
use Rattle.nv_command.specs.Nsid.{broadcast_nsid}
use Rattle.nv_command.specs.declared.command.Command.{Command}
use Rattle.nv_command.specs.declared.command.Command.TheVariants as command
use Rattle.nv_layout.specs.ErrorEntryBytes.{without_phase}
use Rattle.nv_layout.proofs.LogLaws.{fits_with_phase}
use Rattle.nv_layout.specs.declared.id_ctrl.IdCtrl.{IdCtrl}
use Rattle.nv_layout.specs.declared.smart.Smart.{Smart}
use Rattle.nv_model.specs.Attachment.{attach_rows, attachment_rows, count_with, detach_rows, fewer, first_rows}
use Rattle.nv_model.specs.Attachment.{has_one_attached, lacks_one_attached, more}
use Rattle.nv_model.specs.Meaning.{effect_of, refusal_of, rows_of, reply_of}
use Rattle.nv_model.specs.Format.{in_format}
use Rattle.nv_model.specs.Conditions.{limit_of, concerned, free_nsid, Row, first_refusal}
use Rattle.nv_model.specs.Logs.{log_reply, errors_of, no_health, smart_of}
use Rattle.nv_model.specs.Management.{Attached, new_namespace, without, without_all, without_any, without_one}
use Rattle.nv_model.specs.declared.origin.Origin.{Origin}
use Rattle.nv_subsystem.proofs.Words.{All-map, answer_by, answer_to, answer_without_phases, booked, changed_at}
use Rattle.nv_subsystem.proofs.Words.{changed_at_keys, changed_nsids, Controller, controller_at, count_by, count_by-map}
use Rattle.nv_subsystem.proofs.Words.{ErrorEntry, ErrorEntryFits, Feature, feature_of, get_or-map, has_attached}
use Rattle.nv_subsystem.proofs.Words.{id_ctrl_of, if◌then◌else◌, is_known, is_listed, IsController, IsWellFormed}
use Rattle.nv_subsystem.proofs.Words.{length-map, list_any-map, log_entry, map-append, Namespaces, nat_le}
use Rattle.nv_subsystem.proofs.Words.{newest_tagged, next_count, no_controller, no_entry, option_map_or}
use Rattle.nv_subsystem.proofs.Words.{pairs_map, Refusal, refused, replicate, Reply, reset, settled, slice_get, State}
use Rattle.nv_subsystem.proofs.Words.{step, step_by, take-map, untagged, untagged_log, with_booked, with_command}
use Rattle.nv_subsystem.proofs.Words.{with_controller, with_nsids, with_phase, with_refusal, with_values}

-- ---- logs

-- tagging the newest entry of a log that is cut is cutting the log with the tagged entry
pub newest_of_taken : (phase : Bool) (most : ℕ) (e : ErrorEntry) (es : List ErrorEntry)
    → newest_tagged phase (take most (e ∷ es)) ≡ take most (with_phase phase e ∷ es)
newest_of_taken phase zero e es = refl
newest_of_taken phase (suc most) e es = refl

-- the log with a new entry that has a phase tag is, without phase tags, the log with the entry
newest_untagged : (phase : Bool) (most : ℕ) (e : ErrorEntry) (es : List ErrorEntry) → without_phase e ≡ e
    → map without_phase (newest_tagged phase (take most (e ∷ es))) ≡ take most (e ∷ map without_phase es)
newest_untagged phase zero e es bare = refl
newest_untagged phase (suc most) e es bare = λ i. bare i ∷ sym (take-map without_phase most es) i

-- entries that hold no error have no phase tags
blanks : (n : ℕ) → map without_phase (replicate n no_entry) ≡ replicate n no_entry
blanks zero = refl
blanks (suc n) = ap (λ es. no_entry ∷ es) (blanks n)

-- removing phase tags from a controller removes them from the entries of its error log
errors_untagged : (x : Controller) → map without_phase (errors_of x) ≡ errors_of (untagged_log x)
errors_untagged x =
    let most = x.identity.numbers.elpe + 1 in
    map-append without_phase x.log (replicate (most - length x.log) no_entry)
    ∙ ap (λ es. map without_phase x.log ++ es) (blanks (most - length x.log))
    ∙ ap (λ n. map without_phase x.log ++ replicate (most - n) no_entry) (sym (length-map x.log without_phase))

-- ---- controllers

-- a function that reads one controller, and not its log
module _ {A : Type 0} (read : List Controller → ℕ → A)
    (first : (x : Controller) (xs ys : List Controller) → read (untagged_log x ∷ xs) zero ≡ read (x ∷ ys) zero)
    (later : (x : Controller) (xs : List Controller) (c : ℕ) → read (x ∷ xs) (suc c) ≡ read xs c) where
  -- such a function reads the same of the controllers without phase tags
  read_untagged : (xs : List Controller) (c : ℕ) → read (map untagged_log xs) c ≡ read xs c
  read_untagged [] c = refl
  read_untagged (x ∷ xs) zero = first x (map untagged_log xs) xs
  read_untagged (x ∷ xs) (suc c) =
      later (untagged_log x) (map untagged_log xs) c ∙ read_untagged xs c ∙ sym (later x xs c)

-- the state with these controllers
abbrev of_controllers : State → List Controller → State
of_controllers s xs = record s { controllers = xs }

-- two changes that agree without phase tags also agree on one of several controllers
changed_untagged : (f g : Controller → Controller)
    → ((x : Controller) → untagged_log (f x) ≡ g (untagged_log x)) → (xs : List Controller) (c : ℕ)
    → map untagged_log (changed_at xs c f) ≡ changed_at (map untagged_log xs) c g
changed_untagged f g same [] c = refl
changed_untagged f g same (x ∷ xs) zero = ap (λ y. y ∷ map untagged_log xs) (same x)
changed_untagged f g same (x ∷ xs) (suc c) =
    ap (λ ys. untagged_log x ∷ ys) (changed_untagged f g same xs c)

-- two changes that agree without phase tags also agree on one controller of a state without phase tags
with_untagged : (f g : Controller → Controller)
    → ((x : Controller) → untagged_log (f x) ≡ g (untagged_log x)) → (s : State) (c : ℕ)
    → untagged (with_controller s c f) ≡ with_controller (untagged s) c g
with_untagged f g same s c = ap (of_controllers s) (changed_untagged f g same s.controllers c)

-- a change that agrees with itself without phase tags does so on all controllers
each_untagged : (f : Controller → Controller)
    → ((x : Controller) → untagged_log (f x) ≡ f (untagged_log x)) → (xs : List Controller)
    → map untagged_log (map f xs) ≡ map f (map untagged_log xs)
each_untagged f same [] = refl
each_untagged f same (x ∷ xs) = λ i. same x i ∷ each_untagged f same xs i

-- the limit of controller c doesn't depend on phase tags
pub limit_untagged : (s : State) (c : ℕ) → limit_of (untagged s) c ≡ limit_of s c
limit_untagged s c = read_untagged (λ xs c. limit_of (of_controllers s xs) c)
    (λ x xs ys. refl) (λ x xs c. refl) s.controllers c

-- ---- refusals

module _ (s : State) (n : ℕ) (ids : List ℕ) where
  -- which controllers are known doesn't depend on phase tags
  known : is_known (untagged s) ≡ is_known s
  known = λ i id. list_any-map (λ (x : Controller). id == x.identity.cntlid) untagged_log s.controllers i

  -- the rows that an attach and a detach share don't depend on phase tags
  first_same : first_rows (untagged s) n ids ≡ first_rows s n ids
  first_same = cc known

  -- whether a listed controller has the namespace attached doesn't depend on phase tags
  one_attached : has_one_attached (untagged s) n ids ≡ has_one_attached s n ids
  one_attached = list_any-map (λ x. is_listed ids x && has_attached n x) untagged_log s.controllers

  -- whether a listed controller lacks the namespace doesn't depend on phase tags
  one_lacking : lacks_one_attached (untagged s) n ids ≡ lacks_one_attached s n ids
  one_lacking = list_any-map (λ x. is_listed ids x && not (has_attached n x)) untagged_log s.controllers

  -- how many controllers have the namespace or are listed doesn't depend on phase tags
  counted_with : count_with (untagged s) n ids ≡ count_with s n ids
  counted_with = count_by-map _ untagged_log _ (λ x. refl) s.controllers

  -- the rows of an attach don't depend on phase tags
  attach_same : attach_rows (untagged s) n ids ≡ attach_rows s n ids
  attach_same = cc (first_same, one_attached, counted_with)

  -- the rows of a detach don't depend on phase tags
  detach_same : detach_rows (untagged s) n ids ≡ detach_rows s n ids
  detach_same = cc (first_same, one_lacking)

  -- the rows of an attach or a detach don't depend on phase tags
  attachment_same : (detach : Bool) → attachment_rows (untagged s) n detach ids ≡ attachment_rows s n detach ids
  attachment_same true = detach_same
  attachment_same false = attach_same

module _ (s : State) (c : ℕ) where
  -- the rows of a command as a function of the controllers
  abbrev rows_in : Command → List Controller → ℕ → List Row
  rows_in k xs c = rows_of (of_controllers s xs) c k

  -- the rows of a command don't depend on phase tags
  rows_untagged : (k : Command) → rows_of (untagged s) c k ≡ rows_of s c k
  rows_untagged (command.Attachment n detach ids) = attachment_same s n ids detach
  rows_untagged k = read_untagged (rows_in k) (λ x xs ys. refl) (λ x xs c. refl) s.controllers c

  -- the refusal of a command doesn't depend on phase tags
  pub refusal_untagged : (k : Command) → refusal_of (untagged s) c k ≡ refusal_of s c k
  refusal_untagged k = ap first_refusal (rows_untagged k)

-- ---- replies

-- the Identify data of a controller doesn't depend on the phase tags of the subsystem
id_ctrl_untagged : (s : State) → id_ctrl_of (untagged s) ≡ id_ctrl_of s
id_ctrl_untagged s = λ i x. record (id_ctrl_of s x) {
  cmic = if nat_le 2 (length-map s.controllers untagged_log i) then 0x02 else 0;
}

-- removing phase tags from all controllers removes them from the error log of controller c, or of none
logs_untagged : (xs : List Controller) (c : ℕ)
    → map without_phase (option_map_or errors_of (slice_get xs c) (no_entry ∷ []))
    ≡ option_map_or errors_of (slice_get (map untagged_log xs) c) (no_entry ∷ [])
logs_untagged [] c = refl
logs_untagged (x ∷ xs) zero = errors_untagged x
logs_untagged (x ∷ xs) (suc c) = logs_untagged xs c

module _ (s : State) (c : ℕ) where
  -- the reply to a command as a function of the controllers
  abbrev reply_in : Command → List Controller → ℕ → Reply
  reply_in k xs c = reply_of (of_controllers s xs) c k

  -- the Identify data of controller c doesn't depend on phase tags
  controller_told : option_map_or (id_ctrl_of (untagged s)) (controller_at (untagged s) c) no_controller
      ≡ option_map_or (id_ctrl_of s) (controller_at s c) no_controller
  controller_told =
      ap (λ (tell : Controller → IdCtrl). option_map_or tell (controller_at (untagged s) c) no_controller)
      (id_ctrl_untagged s)
      ∙ read_untagged (λ xs c. option_map_or (id_ctrl_of s) (slice_get xs c) no_controller)
      (λ x xs ys. refl) (λ x xs c. refl) s.controllers c

  -- the health log of controller c doesn't depend on phase tags
  health_untagged : option_map_or smart_of (controller_at (untagged s) c) no_health
      ≡ option_map_or smart_of (controller_at s c) no_health
  health_untagged = read_untagged (λ xs c. option_map_or smart_of (slice_get xs c) no_health)
      (λ x xs ys. refl) (λ x xs c. refl) s.controllers c

  -- a log page without phase tags is that of the state without them
  log_untagged : (page : LogPage) → without_phases (log_reply s c page) ≡ log_reply (untagged s) c page
  log_untagged ErrorInformation = ap reply.Errors (logs_untagged s.controllers c)
  log_untagged Health = ap reply.Smart (sym health_untagged)

  -- the reply to a command without phase tags is the reply of the state without phase tags
  pub reply_untagged : (k : Command) → without_phases (reply_of s c k) ≡ reply_of (untagged s) c k
  reply_untagged command.IdentifyController = ap reply.Controller (sym controller_told)
  reply_untagged (command.GetLog q) =
      log_untagged (log_asked q.lid)
  reply_untagged k = sym (read_untagged (reply_in k) (λ x xs ys. refl) (λ x xs c. refl) s.controllers c)

-- an answer without phase tags is the refusal, or the reply without phase tags
answer_by_untagged : (o : Option Refusal) (r : Reply)
    → answer_without_phases (answer_by o r) ≡ answer_by o (without_phases r)
answer_by_untagged None r = refl
answer_by_untagged (Some refusal) r = refl

-- the answer to a command without phase tags is the answer of the state without phase tags
pub answer_untagged : (s : State) (c : ℕ) (k : Command)
    → answer_without_phases (answer_to s c k) ≡ answer_to (untagged s) c k
answer_untagged s c k =
    answer_by_untagged (refusal_of s c k) (reply_of s c k)
    ∙ (λ i. answer_by (sym (refusal_untagged s c k) i) (reply_untagged s c k i))

-- ---- effects

-- the state that is chosen, without phase tags, is the one that is chosen of the states without phase tags
chosen_untagged : (b : Bool) (s t s' t' : State) → untagged s ≡ s' → untagged t ≡ t'
    → untagged (if b then s else t) ≡ (if b then s' else t')
chosen_untagged true s t s' t' first second = first
chosen_untagged false s t s' t' first second = second

-- an effect that depends on an optional value, without phase tags, is the effect without phase tags
mapped_untagged : {A : Type 0} (f g : A → State) (s : State) → ((a : A) → untagged (f a) ≡ g a) → (o : Option A)
    → untagged (option_map_or f o s) ≡ option_map_or g o (untagged s)
mapped_untagged f g s same None = refl
mapped_untagged f g s same (Some a) = same a

-- changing what is attached to each controller is the same with and without phase tags
attached_untagged : (s : State) (namespaces : Namespaces) (to : Controller → Attached)
    → ((x : Controller) → untagged_log (with_nsids to x) ≡ with_nsids to (untagged_log x))
    → ◌≡◌ {A = State}
    (record s { controllers = map untagged_log (map (with_nsids to) s.controllers); namespaces = namespaces })
    (record s { controllers = map (with_nsids to) (map untagged_log s.controllers); namespaces = namespaces })
attached_untagged s namespaces to same =
    ap (λ (xs : List Controller). record s { controllers = xs; namespaces = namespaces })
    (each_untagged (with_nsids to) same s.controllers)

module _ (s : State) (c : ℕ) where
  -- the NSIDs that a command concerns don't depend on phase tags
  concerned_untagged : (n : ℕ) → concerned (untagged s) c n ≡ concerned s c n
  concerned_untagged n = read_untagged (λ xs c. concerned (of_controllers s xs) c n)
      (λ x xs ys. refl) (λ x xs c. refl) s.controllers c

  -- the NSIDs that a Set changes don't depend on phase tags
  nsids_untagged : (n : ℕ) (f : Feature) → changed_nsids (untagged s) c n f ≡ changed_nsids s c n f
  nsids_untagged n f = read_untagged (λ xs c. changed_nsids (of_controllers s xs) c n f)
      (λ x xs ys. refl) (λ x xs c. refl) s.controllers c

  -- the effect of a command without phase tags is its effect on the state without phase tags
  pub effect_untagged : (k : Command) → untagged (effect_of s c k) ≡ effect_of (untagged s) c k
  effect_untagged (command.Create w) = mapped_untagged _
      (λ n. record (untagged s) { namespaces = map_of.insert s.namespaces n (new_namespace s w) })
      s (λ n. refl) (free_nsid s)
  effect_untagged (command.Delete n) = chosen_untagged (n == broadcast_nsid) (without_all s) (without_one s n) _ _
      (attached_untagged s map_of.empty without_any (λ x. refl))
      (attached_untagged s (map_of.remove s.namespaces n) (without n) (λ x. refl))
  effect_untagged (command.Attachment n true ids) = attached_untagged s s.namespaces (fewer n ids) (λ x. refl)
  effect_untagged (command.Attachment n false ids) = attached_untagged s s.namespaces (more n ids) (λ x. refl)
  effect_untagged (command.Format f) =
      ap (λ ns. record (untagged s) { namespaces = changed_at_keys ns (in_format f.lbaf f.mset) s.namespaces })
      (sym (concerned_untagged f.nsid))
  effect_untagged (command.SetFeature k) = mapped_untagged _
      (λ f. with_controller (untagged s) c (with_values f k.value k.save (changed_nsids (untagged s) c k.nsid f)))
      s (λ f. with_untagged _ (with_values f k.value k.save (changed_nsids s c k.nsid f)) (λ x. refl) s c
      ∙ ap (λ ns. with_controller (untagged s) c (with_values f k.value k.save ns)) (sym (nsids_untagged k.nsid f)))
      (feature_of k.fid)
  effect_untagged k = refl

-- ---- refusals that are logged, and the step

-- counting a command is the same with and without phase tags
pub counted_untagged : (s : State) (c : ℕ) → untagged (with_command s c) ≡ with_command (untagged s) c
counted_untagged s c = with_untagged _ (λ x. record x { commands = next_count x.commands }) (λ x. refl) s c

-- a reset is the same with and without phase tags
pub reset_untagged : (s : State) (c : ℕ) → untagged (reset s c) ≡ reset (untagged s) c
reset_untagged s c = with_untagged _ _ (λ x. refl) s c

-- a controller that logs a refusal with its phase tag, without it, is one that logs it without phase tags
booking_untagged : (nsid : ℕ) (origin : Origin) (r : Refusal) (x : Controller)
    → untagged_log (with_booked nsid origin r x) ≡ with_refusal nsid origin.cid r (untagged_log x)
booking_untagged nsid origin r x = ap
    (λ (log : List ErrorEntry). record x { refusals = next_count x.refusals; log = log })
    (newest_untagged origin.phase (x.identity.numbers.elpe + 1)
    (log_entry (next_count x.refusals) origin.cid nsid r) x.log refl)

-- a refusal that is logged with its phase tag leaves, without it, the state after a refusal without phase tags
pub booked_untagged : (s : State) (c nsid : ℕ) (origin : Origin) (r : Refusal)
    → untagged (with_command (booked s c nsid origin r) c)
    ≡ with_command (refused (untagged s) c nsid origin.cid r) c
booked_untagged s c nsid origin r =
    counted_untagged (booked s c nsid origin r) c
    ∙ ap (λ t. with_command t c) (with_untagged (with_booked nsid origin r) (with_refusal nsid origin.cid r)
    (booking_untagged nsid origin r) s c)

-- the state after a command, by its refusal, is without phase tags the state after the step
settled_by : (o : Option Refusal) (s : State) (c : ℕ) (k : Command) (origin : Origin)
    → untagged (settled s c k origin o) ≡ (step_by o (untagged s) c k origin.cid).state
settled_by None s c k origin =
    counted_untagged (effect_of s c k) c ∙ ap (λ t. with_command t c) (effect_untagged s c k)
settled_by (Some r) s c k origin = booked_untagged s c _ origin r

-- the state after a command without phase tags is the state after the step of the state without them
pub settled_untagged : (s : State) (c : ℕ) (k : Command) (origin : Origin) (o : Option Refusal) → o ≡ refusal_of s c k
    → untagged (settled s c k origin o) ≡ (step (untagged s) c k origin.cid).state
settled_untagged s c k origin o is =
    settled_by o s c k origin
    ∙ ap (λ o. (step_by o (untagged s) c k origin.cid).state) (is ∙ sym (refusal_untagged s c k))

-- ---- well-formedness

-- a controller with another log of the same length, whose entries fit, is still one that IsController allows
with_log : (ns : Namespaces) (x : Controller) (log : List ErrorEntry) → length log ≡ length x.log
    → All ErrorEntryFits log → IsController ns x → IsController ns (record x { log = log })
with_log ns x log same fit is = assumption (same ∙ is.log, fit, is)

-- a controller that IsController allows is also allowed without phase tags
controller_keeps : (ns : Namespaces) (x : Controller) → IsController ns x → IsController ns (untagged_log x)
controller_keeps ns x is = with_log ns x (map without_phase x.log) (length-map x.log without_phase)
    (All-map ErrorEntryFits without_phase x.log
    (λ k d h. fits_with_phase (get_or x.log k d) false (is.entries k d h))) is

-- a controller that IsController allows without phase tags is also allowed with them
controller_back : (ns : Namespaces) (x : Controller) → IsController ns (untagged_log x) → IsController ns x
controller_back ns x is = with_log ns (untagged_log x) x.log (sym (length-map x.log without_phase))
    (λ k d h.
    let e = get_or x.log k d in
    fits_with_phase (without_phase e) e.phase
    (subst ErrorEntryFits (get_or-map without_phase x.log k d (without_phase d) h)
    (is.entries k (without_phase d) (omega (arith, length-map x.log without_phase))))) is

module _ (s : State) where
  -- removing phase tags adds or removes no controller
  len : length (map untagged_log s.controllers) ≡ length s.controllers
  len = length-map s.controllers untagged_log

  -- a well-formed subsystem is well formed without phase tags
  pub untagged_keeps : IsWellFormed s → IsWellFormed (untagged s)
  untagged_keeps w = record {
    keys = w.keys;
    format_count = w.format_count;
    formats = w.formats;
    controller_count = (omega (arith, len, w.controller_count.0), omega (arith, len, w.controller_count.1));
    controllers = All-map (IsController s.namespaces) untagged_log s.controllers
        (λ k d h. controller_keeps s.namespaces (get_or s.controllers k d) (w.controllers k d h));
    cntlids = pairs_map (λ (a b : Controller). a.identity.cntlid ≢ b.identity.cntlid) untagged_log s.controllers
        w.cntlids;
    namespaces = λ n x e.
        let same = count_by-map (has_attached n) untagged_log (has_attached n) (λ y. refl) s.controllers in
        let private : x.shared ≡ false → count_by (has_attached n) (map untagged_log s.controllers) ≤ 1 =
        λ p. omega (arith, same, (w.namespaces n x e).private p) in
        assumption (private, w.namespaces n x e);
    capacities = w.capacities;
  }

  -- a subsystem that is well formed without phase tags is well formed
  pub untagged_back : IsWellFormed (untagged s) → IsWellFormed s
  untagged_back w =
      let at = λ (k : ℕ) (d : Controller). get_or-map untagged_log s.controllers k d (untagged_log d) in
      record {
        keys = w.keys;
        format_count = w.format_count;
        formats = w.formats;
        controller_count = (omega (arith, len, w.controller_count.0), omega (arith, len, w.controller_count.1));
        controllers = λ k d h. controller_back s.namespaces (get_or s.controllers k d)
            (subst (IsController s.namespaces) (at k d h)
            (w.controllers k (untagged_log d) (omega (arith, len))));
        cntlids = λ i j d a b e. w.cntlids i j (untagged_log d) a (omega (arith, len))
            (ap (λ (x : Controller). x.identity.cntlid) (at i d (omega arith)) ∙ e
            ∙ sym (ap (λ (x : Controller). x.identity.cntlid) (at j d b)));
        namespaces = λ n x e.
            let same = count_by-map (has_attached n) untagged_log (has_attached n) (λ y. refl) s.controllers in
            let private : x.shared ≡ false → count_by (has_attached n) s.controllers ≤ 1 =
            λ p. omega (arith, same, (w.namespaces n x e).private p) in
            assumption (private, w.namespaces n x e);
        capacities = w.capacities;
      }
