-- The command words.
use Rattle.std.specs.Prelude.{List as ListOf, [], ◌∷◌, Option, None, codes, find}
use Rattle.std.specs.Str.{bytes_eq}
use Rattle.clap.specs.Words.{Text}
use Rattle.nv_line.specs.declared.verb.DeviceVerb.{DeviceVerb}
use Rattle.nv_line.specs.declared.verb.DeviceVerb.TheVariants.{IdCtrl, IdNs, ListNs, CreateNs}
use Rattle.nv_line.specs.declared.verb.DeviceVerb.TheVariants.{AttachNs, DetachNs, DeleteNs, Format}
use Rattle.nv_line.specs.declared.verb.DeviceVerb.TheVariants.{GetFeature, SetFeature, SmartLog}
use Rattle.nv_line.specs.declared.verb.DeviceVerb.TheVariants.{ErrorLog, Reset}
use Rattle.nv_line.specs.declared.verb.Verb.{Verb}
use Rattle.nv_line.specs.declared.verb.Verb.TheVariants.{Of, List}

-- the word of each command that takes a device
abbrev pub device_word_of : DeviceVerb → Text
device_word_of IdCtrl = codes "id-ctrl"
device_word_of IdNs = codes "id-ns"
device_word_of ListNs = codes "list-ns"
device_word_of CreateNs = codes "create-ns"
device_word_of AttachNs = codes "attach-ns"
device_word_of DetachNs = codes "detach-ns"
device_word_of DeleteNs = codes "delete-ns"
device_word_of Format = codes "format"
device_word_of GetFeature = codes "get-feature"
device_word_of SetFeature = codes "set-feature"
device_word_of SmartLog = codes "smart-log"
device_word_of ErrorLog = codes "error-log"
device_word_of Reset = codes "reset"

-- the word of each command
abbrev pub word_of : Verb → Text
word_of (Of verb) = device_word_of verb
word_of List = codes "list"

-- all commands, which are distinguished by their words
abbrev pub verbs : ListOf Verb
verbs =
    Of IdCtrl
    ∷ Of IdNs
    ∷ Of ListNs
    ∷ Of CreateNs
    ∷ Of AttachNs
    ∷ Of DetachNs
    ∷ Of DeleteNs
    ∷ Of Format
    ∷ Of GetFeature
    ∷ Of SetFeature
    ∷ Of SmartLog
    ∷ Of ErrorLog
    ∷ Of Reset
    ∷ List
    ∷ []

-- the command with this word
abbrev pub verb_of : Text → Option Verb
verb_of word = find (λ v. bytes_eq word (word_of v)) verbs

-- the command of the first word
abbrev pub verb_in : ListOf Text → Option Verb
verb_in [] = None
verb_in (word ∷ rest) = verb_of word
