-- What the words of a command line ask for.
use Rattle.std.specs.Prelude.{ℕ, ◌<◌, List as ListOf, [], codes, true, false}
use Rattle.std.specs.Prelude.{Result, Ok, unwrap_or}
use Rattle.std.specs.Option.{ok_or}
use Rattle.clap.specs.Words.{Row, Text, first_of}
use Rattle.nv_command.specs.declared.command.Command.TheVariants.{IdentifyController}
use Rattle.nv_line.specs.Ask.{IsAskable}
use Rattle.nv_line.specs.ClapRule.{rows_of_words}
use Rattle.nv_line.specs.Device.{device_of}
use Rattle.nv_line.specs.Commands.{get_feature_of, set_feature_of}
use Rattle.nv_line.specs.Commands.{format_of}
use Rattle.nv_line.specs.Commands.{id_ns_of, list_ns_of}
use Rattle.nv_layout.specs.Steps.{◌>>=◌}
use Rattle.nv_line.specs.Commands.{error_log_of, smart_log_of}
use Rattle.nv_line.specs.Commands.{attachment_of, create_ns_of, delete_ns_of}
use Rattle.nv_line.specs.Values.{format_in}
use Rattle.nv_line.specs.Options.{output_format_option}
use Rattle.nv_line.specs.declared.device.Device.{Device}
use Rattle.nv_line.specs.declared.fault.LineFault.{LineFault}
use Rattle.nv_line.specs.declared.fault.LineFault.TheVariants as fault
use Rattle.nv_line.specs.declared.request.Ask.{Ask}
use Rattle.nv_line.specs.declared.request.Ask.TheVariants as ask
use Rattle.nv_line.specs.declared.request.Query.{Query}
use Rattle.nv_line.specs.declared.request.Query.TheVariants as query
use Rattle.nv_line.specs.declared.request.Request.{Request}
use Rattle.nv_line.specs.declared.verb.DeviceVerb.{DeviceVerb}
use Rattle.nv_line.specs.declared.verb.DeviceVerb.TheVariants.{IdCtrl, IdNs, ListNs, CreateNs}
use Rattle.nv_line.specs.declared.verb.DeviceVerb.TheVariants.{AttachNs, DetachNs, DeleteNs, Format}
use Rattle.nv_line.specs.declared.verb.DeviceVerb.TheVariants.{GetFeature, SetFeature, SmartLog}
use Rattle.nv_line.specs.declared.verb.DeviceVerb.TheVariants.{ErrorLog, Reset}
use Rattle.nv_line.specs.declared.verb.Verb.{Verb}
use Rattle.nv_line.specs.declared.verb.Verb.TheVariants.{Of, List}

-- the request of each command word, in one line each
abbrev pub ask_of : DeviceVerb → ListOf Row → Device → Result Ask LineFault
ask_of IdCtrl = λ rows device. Ok (ask.Send IdentifyController)
ask_of IdNs = id_ns_of
ask_of ListNs = list_ns_of
ask_of CreateNs = create_ns_of
ask_of AttachNs = attachment_of false
ask_of DetachNs = attachment_of true
ask_of DeleteNs = delete_ns_of
ask_of Format = format_of
ask_of GetFeature = get_feature_of
ask_of SetFeature = set_feature_of
ask_of SmartLog = smart_log_of
ask_of ErrorLog = error_log_of
ask_of Reset = λ rows device. Ok ask.Reset

-- the device that a line names, if it is one of the subsystem
abbrev pub device_in : ℕ → ListOf Row → Result Device LineFault
device_in controllers rows =
    ok_or (device_of controllers (unwrap_or (first_of (codes "device") rows) [])) fault.Device

-- one controller is asked, or each of them; the device is read first, and then the options
abbrev pub query_of : ℕ → Verb → ListOf Row → Result Query LineFault
query_of controllers (Of verb) rows = do
  device ← device_in controllers rows
  asked ← ask_of verb rows device
  Ok (query.One device.controller asked)
query_of controllers List rows = Ok query.List

-- the words of a line with this command: usage faults come first, by clap and by the output format,
-- and then those of the request
abbrev pub request_of : ℕ → Verb → ListOf Text → Result Request LineFault
request_of controllers verb words = do
  rows ← rows_of_words verb words
  format ← format_in rows output_format_option
  asked ← query_of controllers verb rows
  Ok (record { query = asked; format = format })

-- a controller that is asked is one of the subsystem's, and a driver may ask it
pub record IsAskKnown (controllers c : ℕ) (a : Ask) : Type 0 where
  pub controller : c < controllers
  pub askable : IsAskable a

-- a query asks only controllers of the subsystem
abbrev pub IsQueryKnown : ℕ → Query → Type 0
IsQueryKnown controllers (query.One c a) = IsAskKnown controllers c a
IsQueryKnown controllers query.List = Unit {0}
