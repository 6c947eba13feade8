-- What is written to a writer of JSON.
use Rattle.std.specs.Prelude.{◌≡◌, List, [], ◌∷◌, ◌++◌, if◌then◌else◌}
use Rattle.json.specs.Token as json
use Rattle.json.specs.Token.{Token}
use Rattle.json.specs.Tree.{json_tokens}
use Rattle.json.specs.Written.{Written}
use Rattle.serde_json.specs.Data.{Data, Members, member}
use Rattle.serde_json.specs.Written.{outline}
use Rattle.nv_layout.specs.declared.error_entry.ErrorEntry.{ErrorEntry}
use Rattle.nv_print.specs.Field.{Field, object_of, shape_data}
use Rattle.nv_print.specs.Records.{fields_of_entry, holds_error}

-- tokens are added to those of a writer
abbrev pub Adds : List Token → Written → Written → Type 0
Adds ts old new = (new.before ≡ old.before) × (new.tokens ≡ old.tokens ++ ts)

-- the tokens of a value
abbrev pub data_tokens : Data → List Token
data_tokens d = json_tokens (outline d)

-- a key, and its value
abbrev pub field_tokens : Field → List Token
field_tokens f = json.key f.key ∷ data_tokens (shape_data f.shape)

-- an entry of an error log, if it holds an error
abbrev pub error_tokens : ErrorEntry → List Token
error_tokens e = if holds_error e then data_tokens (object_of (fields_of_entry e)) else []

-- fields as the first members of an object
abbrev pub before : List Field → Members → Members
before [] ms = ms
before (f ∷ fields) ms = member f.key (shape_data f.shape) (before fields ms)
