-- What a query shows, by the replies to its orders.
use Rattle.std.specs.Prelude.{ℕ, Bool, List, [], ◌∷◌, ◌++◌, Option, None, Some, if◌then◌else◌, map}
use Rattle.std.specs.Prelude.{Result, Ok}
use Rattle.std.specs.Option.{option_map}
use Rattle.nv_layout.specs.Feature.{feature_of}
use Rattle.nv_layout.specs.declared.feature.Feature.{Feature}
use Rattle.nv_layout.specs.declared.cqe.Status.{Status}
use Rattle.nv_command.specs.declared.command.Command.TheVariants.{Attachment, Create, Delete}
use Rattle.nv_command.specs.declared.command.Command.TheVariants.{Format, GetFeature, SetFeature}
use Rattle.nv_command.specs.declared.command.Command.TheVariants.{IdentifyController}
use Rattle.nv_command.specs.declared.command.Command.TheVariants.{IdentifyNamespace}
use Rattle.nv_command.specs.declared.reply.Reply.{Reply}
use Rattle.nv_command.specs.declared.reply.Reply.TheVariants as reply
use Rattle.nv_model.specs.IdentifyController.{no_controller}
use Rattle.nv_line.specs.declared.output_format.OutputFormat.{OutputFormat}
use Rattle.nv_line.specs.declared.output_format.OutputFormat.TheVariants.{Normal, Json}
use Rattle.nv_line.specs.declared.request.Ask.{Ask}
use Rattle.nv_line.specs.declared.request.Ask.TheVariants as ask
use Rattle.nv_line.specs.declared.request.Query.{Query}
use Rattle.nv_line.specs.declared.request.Query.TheVariants as query
use Rattle.nv_print.specs.Devices.{device_of}
use Rattle.nv_print.specs.Message.{select_of}
use Rattle.nv_print.specs.Shown.{has_json, json_of, text_of}
use Rattle.nv_print.specs.declared.select.Select.{Select}
use Rattle.nv_print.specs.declared.shown.Shown.{Shown}
use Rattle.nv_print.specs.declared.shown.Shown.TheVariants as shown
use Rattle.nv_script.specs.Outcomes.{Act, Order, Send}
use Rattle.nv_script.specs.declared.listing.Listing.{Listing}

-- ---- one controller was asked

-- the value of a feature, if both the feature and the select are known
abbrev pub feature_value : Option Feature → Option Select → ℕ → Option Shown
feature_value (Some f) (Some select) value = Some (shown.FeatureValue f select value)
feature_value _ _ value = None

-- the setting of a feature, if the feature is known
abbrev pub feature_set : Option Feature → ℕ → Bool → Option Shown
feature_set f value save = option_map (λ f. shown.FeatureSet f value save) f

-- what a number shows: the NSID of a new namespace, or the value of a feature
abbrev pub shown_number : Ask → ℕ → Option Shown
shown_number (ask.Send (Create w)) nsid = Some (shown.Created nsid)
shown_number (ask.Send (GetFeature q)) value =
    feature_value (feature_of q.fid) (select_of q.sel) value
shown_number _ number = None

-- what a success without a value shows
abbrev pub shown_done : Ask → Option Shown
shown_done (ask.Send (Attachment nsid detach ids)) =
    Some (if detach then shown.Detached nsid else shown.Attached nsid)
shown_done (ask.Send (Delete nsid)) = Some (shown.Deleted nsid)
shown_done (ask.Send (Format f)) = Some (shown.Formatted f.nsid)
shown_done (ask.Send (SetFeature x)) = feature_set (feature_of x.fid) x.value x.save
shown_done ask.Reset = Some shown.Reset
shown_done _ = None

-- what an ask shows after the last reply to it
abbrev pub shown_by : Ask → Reply → Option Shown
shown_by a (reply.Controller identity) = Some (shown.Controller identity)
shown_by a (reply.List nsids) = Some (shown.NsList nsids)
shown_by a (reply.Namespace namespace) = Some (shown.Namespace namespace)
shown_by a (reply.Smart smart) = Some (shown.Smart smart)
shown_by a (reply.Errors errors) = Some (shown.Errors errors)
shown_by a (reply.Number number) = shown_number a number
shown_by a reply.Done = shown_done a

-- what an ask shows after the replies to it, in order
abbrev pub shown_of_one : Ask → List Reply → Option Shown
shown_of_one a [] = None
shown_of_one a (reply ∷ []) = shown_by a reply
shown_of_one a (reply ∷ next ∷ later) = shown_of_one a (next ∷ later)

-- ---- each controller was asked

-- a listing with nothing in it yet
abbrev pub no_listing : Listing
no_listing = record { identity = no_controller; devices = [] }

-- the listing with the answer to an act at controller c; a refusal adds nothing
abbrev pub listing_after : ℕ → Listing → Act → Result Reply Status → Listing
listing_after c l (Send IdentifyController) (Ok (reply.Controller identity)) =
    record l { identity = identity }
listing_after c l (Send (IdentifyNamespace n)) (Ok (reply.Namespace namespace)) =
    record l { devices = l.devices ++ device_of c n l.identity namespace ∷ [] }
listing_after c l _ _ = l

-- the listing with the answers to some orders
abbrev pub listing_of : Listing → List Order → List (Result Reply Status) → Listing
listing_of l (order ∷ orders) (answer ∷ answers) =
    listing_of (listing_after order.controller l order.act answer) orders answers
listing_of l _ _ = l

-- ---- what is shown, and how it is printed

-- what a query shows after the replies to these orders of it
abbrev pub shown_of : List Order → Query → List Reply → Option Shown
shown_of orders (query.One c a) replies = shown_of_one a replies
shown_of orders query.List replies =
    Some (shown.Devices (listing_of no_listing orders (map Ok replies)).devices)

-- as JSON if that is asked for and there is a JSON form, and otherwise as text
abbrev pub written : OutputFormat → Shown → List ℕ
written Normal shown = text_of shown
written Json shown = if has_json shown then json_of shown else text_of shown

-- the bytes that are printed, if anything is shown
abbrev pub output_of : OutputFormat → Option Shown → List ℕ
output_of wanted None = []
output_of wanted (Some shown) = written wanted shown
