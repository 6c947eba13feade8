-- Whatever is accepted is shown.
use Rattle.nv_script.proofs.Words.{[], ℕ, ◌++◌, ◌/◌, ◌∙◌, ◌∷◌, ◌≡◌, ◌≤◌, Act, Ask, Bool, Command, Controller, Err}
use Rattle.nv_script.proofs.Words.{Exchange, IdentifyController, IdentifyNamespace, IsSome, List, Listing, None, Ok}
use Rattle.nv_script.proofs.Words.{Option, Order, Outcome, Query, Refusal, Reply, Result, Row, Send, Shown, Some, State}
use Rattle.nv_script.proofs.Words.{Status, above, active_nsids, answer_received, ap, append-nil, append_assoc, arith}
use Rattle.nv_script.proofs.Words.{common_steps, controller_at, exchange_by, exchange_of, false, feature_set}
use Rattle.nv_script.proofs.Words.{feature_value, first_of_log, first_refusal, flat_map, flat_map-append, get_or}
use Rattle.nv_script.proofs.Words.{if◌then◌else◌, is_supported, length, listing_after, listing_of, log_reply, map}
use Rattle.nv_script.proofs.Words.{map-append, nat_lt, nat_tests, no_listing, option_map_or, order_of, orders_of}
use Rattle.nv_script.proofs.Words.{outcome_after, outcome_of, range_with_len, received, refl, refusal_of, reply_of, row}
use Rattle.nv_script.proofs.Words.{shown_by, shown_of_one, step_by, suc, supported, sym, true, zero}
use Rattle.nv_command.specs.LogPage.{log_asked}
use Rattle.nv_command.specs.declared.log_page.LogPage.{LogPage}
use Rattle.nv_command.specs.declared.log_page.LogPage.TheVariants.{ErrorInformation, Health}
use Rattle.nv_command.specs.declared.status_code.StatusCode.TheVariants.{InvalidFieldInCommand}
use Rattle.nv_layout.specs.Feature.{feature_of}
use Rattle.nv_layout.specs.declared.feature.Feature.{Feature}
use Rattle.nv_model.proofs.ManagementLaws.{none_holds}
use Rattle.nv_model.specs.Features.{supported_rows}
use Rattle.nv_print.specs.Message.{select_of}
use Rattle.nv_print.specs.declared.select.Select.{Select}
use Rattle.nv_script.proofs.GroupLaws.{list_orders, namespace_orders, orders_of_controller}
use Rattle.nv_script.specs.EachShown.{EachIsShown, IsListed, IsShown, attached_numbers, device_numbers}
use Rattle.nv_command.specs.declared.command.Command.TheVariants as command
use Rattle.nv_command.specs.declared.reply.Reply.TheVariants as reply
use Rattle.nv_line.specs.declared.request.Ask.TheVariants as ask
use Rattle.nv_line.specs.declared.request.Query.TheVariants as query

-- ---- a feature that a command is accepted for has a name, and so has its select

module _ (s : State) (c fid : ℕ) (rows : Feature → List Row) where
  -- the rows of this feature, or the refusal of an unknown one, refuse nothing
  abbrev IsAccepted : Option Feature → Type 0
  IsAccepted o = first_refusal (option_map_or rows o (row true InvalidFieldInCommand ∷ [])) ≡ None

  -- there is a feature, and its rows refuse nothing
  abbrev IsFeature : Option Feature → Type 0
  IsFeature o = (f : Feature) × (o ≡ Some f) × (first_refusal (rows f) ≡ None)

  -- a feature that is accepted if it is supported is a feature that is accepted
  by_support : (b : Bool) (f : Feature) → IsAccepted (if b then Some f else None) → IsFeature (Some f)
  by_support true f e = (f, refl, e)
  by_support false f e = absurd (cc e)

  -- a feature that a controller accepts is a feature that is accepted
  by_feature : (x : Controller) (o : Option Feature)
      → IsAccepted (option_map_or (λ f. if is_supported x.rules x.identity.numbers.vwc f then Some f else None) o None)
      → IsFeature o
  by_feature x None e = absurd (cc e)
  by_feature x (Some f) e = by_support (is_supported x.rules x.identity.numbers.vwc f) f e

  -- a feature identifier that a controller accepts, if there is one, belongs to a feature that is accepted
  by_controller : (o : Option Controller)
      → IsAccepted (option_map_or (λ x. supported x.rules x.identity.numbers.vwc fid) o None)
      → IsFeature (feature_of fid)
  by_controller None e = absurd (cc e)
  by_controller (Some x) e = by_feature x (feature_of fid) e

  -- if no row of a feature command refuses it, its identifier belongs to a feature that is accepted
  supported_is_feature : first_refusal (supported_rows s c fid rows) ≡ None → IsFeature (feature_of fid)
  supported_is_feature e = by_controller (controller_at s c) e

-- a number that isn't greater than 3 is at most 3
up_to_three : (sel : ℕ) → nat_lt 3 sel ≡ false → sel ≤ 3
up_to_three sel e = grind (arith, nat_tests)

-- a number up to 3 selects a value
select_is_known : (sel : ℕ) → sel ≤ 3 → IsSome (select_of sel)
select_is_known zero h = refl
select_is_known (suc zero) h = refl
select_is_known (suc (suc zero)) h = refl
select_is_known (suc (suc (suc zero))) h = refl
select_is_known (suc (suc (suc (suc n)))) h = absurd (omega arith)

-- a value of a feature that exists, by a select that is known, is shown
value_is_shown : (o : Option Feature) (select : Option Select) (f : Feature) (value : ℕ) → o ≡ Some f → IsSome select
    → IsSome (feature_value o select value)
value_is_shown None select f value e is = absurd (cc e)
value_is_shown (Some g) None f value e is = absurd (cc is)
value_is_shown (Some g) (Some select) f value e is = refl

-- the setting of a feature that exists is shown
set_is_shown : (o : Option Feature) (f : Feature) (value : ℕ) (save : Bool) → o ≡ Some f
    → IsSome (feature_set o value save)
set_is_shown None f value save e = absurd (cc e)
set_is_shown (Some g) f value save e = refl

-- ---- one controller is asked

module _ (s : State) (next_cids : List ℕ) (c : ℕ) (show : List Reply → Option Shown) (k : Command) where
  -- what follows if the command is the last one
  abbrev left : Option Refusal → State → List ℕ → Outcome
  left refusal now next =
      outcome_after (answer_received k (step_by refusal s c k (get_or next_cids c 0)).answer) now next
      (outcome_of now next [])

  -- a command that comes last and is accepted is shown if its reply is shown
  by_refusal : (refusal : Option Refusal) (now : State) (next : List ℕ)
      → (refusal ≡ None → IsSome (show (received k (reply_of s c k) ∷ []))) → (left refusal now next).refusal ≡ None
      → IsSome (show (left refusal now next).replies)
  by_refusal None now next is e = is refl
  by_refusal (Some r) now next is e = absurd (cc e)

  -- the last command is shown if its reply is shown, and if it is accepted
  last_is_shown : (refusal_of s c k ≡ None → IsSome (show (received k (reply_of s c k) ∷ [])))
      → (outcome_of s next_cids (order_of c k ∷ [])).refusal ≡ None
      → IsSome (show (outcome_of s next_cids (order_of c k ∷ [])).replies)
  last_is_shown is e =
      let x = exchange_by (Send k) s next_cids c in
      by_refusal (refusal_of s c k) x.state x.next_cids is e

module _ (s : State) (next_cids : List ℕ) (c : ℕ) where
  -- the entries of an error log or the health log, as they are received, are shown for any ask
  log_is_shown : (a : Ask) (room : ℕ) (page : LogPage)
      → IsSome (shown_by a (first_of_log room (log_reply s c page)))
  log_is_shown a room ErrorInformation = refl
  log_is_shown a room Health = refl

  -- the reply to a command that is accepted is shown
  command_is_shown : (k : Command) → refusal_of s c k ≡ None
      → IsSome (shown_by (ask.Send k) (received k (reply_of s c k)))
  command_is_shown (command.GetFeature q) e =
      grind (arith, common_steps, supported_is_feature, none_holds, value_is_shown, select_is_known, up_to_three)
  command_is_shown (command.SetFeature x) e = grind (arith, common_steps, supported_is_feature, set_is_shown)
  command_is_shown (command.GetLog q) e =
      log_is_shown (ask.Send (command.GetLog q)) (q.dwords / 16) (log_asked q.lid)
  command_is_shown k e = refl

  -- what one controller is asked is shown if none of its orders is refused
  one_is_shown : (a : Ask) → IsShown s next_cids (query.One c a)
  one_is_shown (ask.Send k) e = last_is_shown s next_cids c (shown_of_one (ask.Send k)) k (command_is_shown k) e
  one_is_shown ask.Reset e = refl
  one_is_shown (ask.ErrorLog entries) e = grind (arith, common_steps, last_is_shown)

-- ---- each controller is asked

-- the namespace that an act asks for
abbrev asked_place : ℕ → Act → List (ℕ × ℕ)
asked_place c (Send (command.IdentifyNamespace n)) = (c, n) ∷ []
asked_place c _ = []

-- the namespace that an order asks for, with its controller
abbrev order_place : Order → List (ℕ × ℕ)
order_place o = asked_place o.controller o.act

-- the controllers and NSIDs of the devices in a listing
abbrev places_in : Listing → List (ℕ × ℕ)
places_in l = map device_numbers l.devices

module _ (s : State) (next_cids : List ℕ) (c : ℕ) (l : Listing) where
  -- an answer to this act lists the namespace that the act asks for, and no other
  abbrev Keeps : Act → Reply → Type 0
  Keeps a reply = places_in (listing_after c l a (Ok reply)) ≡ places_in l ++ asked_place c a

  -- the answer to Identify Controller lists no namespace
  identity_kept : (reply : Reply) → Keeps (Send command.IdentifyController) reply
  identity_kept (reply.Controller identity) = sym (append-nil (places_in l))
  identity_kept r = sym (append-nil (places_in l))

  -- the answer to an accepted Identify Namespace lists that namespace
  namespace_kept : (n : ℕ) (refusal : Option Refusal) (reply : Reply)
      → answer_received (command.IdentifyNamespace n)
      (step_by refusal s c (command.IdentifyNamespace n) (get_or next_cids c 0)).answer ≡ Ok reply
      → Keeps (Send (command.IdentifyNamespace n)) reply
  namespace_kept n None reply e = grind (arith, common_steps, map-append)
  namespace_kept n (Some r) reply e = absurd (cc e)

  -- the answer to any accepted act lists the namespace that it asks for
  kept : (a : Act) (reply : Reply) → (exchange_by a s next_cids c).answer ≡ Ok reply → Keeps a reply
  kept (Send command.IdentifyController) reply e = identity_kept reply
  kept (Send (command.IdentifyNamespace n)) reply e =
      namespace_kept n (refusal_of s c (command.IdentifyNamespace n)) reply e
  kept a reply e = sym (append-nil (places_in l))

-- if none of the orders is refused, the listing has the namespaces that they ask for, in order
abbrev AreListed : List Order → State → List ℕ → Listing → Type 0
AreListed orders s next_cids l = (outcome_of s next_cids orders).refusal ≡ None
    → places_in (listing_of l orders (map Ok (outcome_of s next_cids orders).replies))
    ≡ places_in l ++ flat_map order_place orders

module _ (s : State) (next_cids : List ℕ) (o : Order) (os : List Order) (l : Listing) where
  -- the exchange of the first order
  abbrev x : Exchange
  x = exchange_of s next_cids o

  -- the outcome of all orders, by the answer to the first one
  abbrev after : Result Reply Status → Outcome
  after answer = outcome_after answer x.state x.next_cids (outcome_of x.state x.next_cids os)

  -- if the later orders are listed whatever was listed before, so are the first order and the later ones
  one_more : ((l : Listing) → AreListed os x.state x.next_cids l) → (answer : Result Reply Status) → x.answer ≡ answer
      → (after answer).refusal ≡ None
      → places_in (listing_of l (o ∷ os) (map Ok (after answer).replies)) ≡ places_in l ++ flat_map order_place (o ∷ os)
  one_more later (Err status) is e = absurd (cc e)
  one_more later (Ok reply) is e = grind (arith, common_steps, kept, append_assoc)

-- accepted orders are listed in order, whatever was listed before
all_listed : (orders : List Order) (s : State) (next_cids : List ℕ) (l : Listing) → AreListed orders s next_cids l
all_listed [] s next_cids l e = sym (append-nil (places_in l))
all_listed (o ∷ os) s next_cids l e =
    let x = exchange_of s next_cids o in
    one_more s next_cids o os l (λ l. all_listed os x.state x.next_cids l) x.answer refl e

-- ---- the namespaces that `list` asks for

-- the commands for some NSIDs of a controller ask for these namespaces
asked_of_controller : (c : ℕ) (ns : List ℕ) → flat_map order_place (namespace_orders c ns) ≡ map (λ n. (c, n)) ns
asked_of_controller c [] = refl
asked_of_controller c (n ∷ ns) = ap (λ ps. (c, n) ∷ ps) (asked_of_controller c ns)

-- the orders of some controllers ask for the namespaces that are attached to these controllers
asked_of_controllers : (s : State) (cs : List ℕ)
    → flat_map order_place (flat_map (orders_of_controller s) cs) ≡ flat_map (attached_numbers s) cs
asked_of_controllers s [] = refl
asked_of_controllers s (c ∷ cs) =
    flat_map-append order_place (orders_of_controller s c) (flat_map (orders_of_controller s) cs)
    ∙ (λ i. asked_of_controller c (above 0 (active_nsids s c)) i ++ asked_of_controllers s cs i)

-- `list` shows each attached namespace once if none of its orders is refused
list_is_shown : (s : State) (next_cids : List ℕ) → IsListed s next_cids
list_is_shown s next_cids e =
    all_listed (orders_of s query.List) s next_cids no_listing e ∙ ap (flat_map order_place) (list_orders s)
    ∙ asked_of_controllers s (range_with_len 0 (length s.controllers))

-- each query shows something if none of its orders is refused
is_shown : (s : State) (next_cids : List ℕ) (q : Query) → IsShown s next_cids q
is_shown s next_cids (query.One c a) e = one_is_shown s next_cids c a e
is_shown s next_cids query.List e = refl

-- whatever is accepted is shown
pub each_is_shown : EachIsShown
each_is_shown = record { queries = is_shown; namespaces = list_is_shown }
