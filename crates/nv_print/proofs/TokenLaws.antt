-- The tokens of objects and of lists, from those of their parts.
use Rattle.nv_print.proofs.Words.{[], ℕ, ◌++◌, ◌+◌, ◌<◌, ◌∙◌, ◌∷◌, ◌≡◌, Adds, Bool, Data, ErrorEntry, Field, List}
use Rattle.nv_print.proofs.Words.{ListedDevice, Members, Token, ap, append_assoc, arith, array, as_text, before}
use Rattle.nv_print.proofs.Words.{common_steps, data_tokens, error_tokens, false, field, field_tokens, filter, flat_map}
use Rattle.nv_print.proofs.Words.{get_or, holds_error, if◌then◌else◌, in_decimal, items_of, length, map, member}
use Rattle.nv_print.proofs.Words.{no_members, node_of, object, object_of, printable, refl, sym, take, true}
use Rattle.std.specs.Prelude.{codes}
use Rattle.std.proofs.lemmas.List.Folds.{flat_map-map}
use Rattle.json.specs.Tree.{items_tokens, members_tokens}
use Rattle.json.specs.Written.{Written}
use Rattle.serde_json.specs.Written.{items_outline, members_outline}
use Rattle.nv_print.specs.Devices.{fields_of_device}
use Rattle.nv_print.specs.Records.{fields_of_entry}
use Rattle.nv_print.proofs.Fields.{flat_map_next}
use Rattle.json.specs.Token as json

-- ---- tokens that are added in turn

-- adding the tokens ts and then us adds ts ++ us
pub both_added : (ts us : List Token) (old mid new : Written) → Adds ts old mid → Adds us mid new
    → Adds (ts ++ us) old new
both_added ts us old mid new first second = grind (arith, common_steps)

-- adding the tokens of the first i elements and then of element i adds the tokens of the first i + 1
pub next_added : {A : Type 0} (f : A → List Token) (xs : List A) (i : ℕ) (d : A) (old mid new : Written) → i < length xs
    → Adds (flat_map f (take i xs)) old mid → Adds (f (get_or xs i d)) mid new
    → Adds (flat_map f (take (i + 1) xs)) old new
next_added f xs i d old mid new h these this = grind (arith, common_steps, flat_map_next)

-- ---- objects

-- the tokens of members, with the closing bracket
abbrev tokens_of_members : Members → List Token
tokens_of_members ms = members_tokens (members_outline ms)

-- the tokens of fields and then of other members are the tokens of the members with the fields before them
pub fields_before : (fields : List Field) (ms : Members)
    → flat_map field_tokens fields ++ tokens_of_members ms ≡ tokens_of_members (before fields ms)
fields_before [] ms = refl
fields_before (f ∷ fields) ms =
    append_assoc (field_tokens f) (flat_map field_tokens fields) (tokens_of_members ms)
    ∙ ap (λ ts. field_tokens f ++ ts) (fields_before fields ms)

-- the tokens of a device's fields, in the order of their keys and in brackets, are the tokens of its object
pub device_added : (d : ListedDevice) (old opened a b c e f g new : Written) → Adds (json.begin_object ∷ []) old opened
    → Adds (field_tokens (field (codes "block_size") (in_decimal d.block_size))) opened a
    → Adds (field_tokens (field (codes "bytes") (in_decimal d.bytes))) a b
    → Adds (field_tokens (field (codes "model") (as_text (printable d.model)))) b c
    → Adds (field_tokens (field (codes "namespace") (in_decimal d.nsid))) c e
    → Adds (field_tokens (field (codes "node") (as_text (node_of d.controller d.nsid)))) e f
    → Adds (field_tokens (field (codes "serial") (as_text (printable d.serial)))) f g
    → Adds (json.end_object ∷ []) g new → Adds (data_tokens (object_of (fields_of_device d))) old new
unfolding fields_of_device
device_added d old opened a b c e f g new begun block_size bytes model nsid node serial ended =
    grind (arith, common_steps, both_added)

-- ---- lists

-- the tokens of a list's items are the tokens of each item and then the closing bracket
items : (ds : List Data) → items_tokens (items_outline (items_of ds)) ≡ flat_map data_tokens ds ++ json.end_array ∷ []
items [] = refl
items (d ∷ ds) =
    ap (λ ts. data_tokens d ++ ts) (items ds)
    ∙ sym (append_assoc (data_tokens d) (flat_map data_tokens ds) (json.end_array ∷ []))

-- the tokens of a list's elements, its closing bracket and more tokens are the tokens of its items and then more
list_before : {A : Type 0} (data_of : A → Data) (xs : List A) (more : List Token)
    → flat_map (λ x. data_tokens (data_of x)) xs ++ json.end_array ∷ more
    ≡ items_tokens (items_outline (items_of (map data_of xs))) ++ more
list_before data_of xs more = grind (arith, common_steps, flat_map-map, append_assoc, items)

-- the tokens of a list's elements and the brackets that end it and its object are the tokens of its items and a bracket
pub list_ends : {A : Type 0} (data_of : A → Data) (xs : List A)
    → flat_map (λ x. data_tokens (data_of x)) xs ++ json.end_array ∷ (json.end_object ∷ [])
    ≡ items_tokens (items_outline (items_of (map data_of xs))) ++ json.end_object ∷ []
list_ends data_of xs = list_before data_of xs (json.end_object ∷ [])

-- a key, the tokens of a list in brackets and more tokens are the tokens of that member and then more
member_added : {A : Type 0} (key : List ℕ) (data_of : A → Data) (xs : List A) (more : List Token)
    (old named first last after new : Written) → Adds (json.key key ∷ []) old named
    → Adds (json.begin_array ∷ []) named first → Adds (flat_map (λ x. data_tokens (data_of x)) xs) first last
    → Adds (json.end_array ∷ []) last after → Adds more after new
    → Adds (json.key key ∷ (data_tokens (array (items_of (map data_of xs))) ++ more)) old new
member_added key data_of xs more old named first last after new name begun added ended others =
    grind (arith, common_steps, list_before, both_added)

-- an object of fields and of a list among them
pub among_added : {A : Type 0} (key : List ℕ) (data_of : A → Data) (xs : List A) (some others : List Field)
    (ms : Members) (old opened start named first last after end new : Written)
    → ms ≡ before some (member key (array (items_of (map data_of xs))) (before others no_members))
    → Adds (json.begin_object ∷ []) old opened → Adds (flat_map field_tokens some) opened start
    → Adds (json.key key ∷ []) start named → Adds (json.begin_array ∷ []) named first
    → Adds (flat_map (λ x. data_tokens (data_of x)) xs) first last → Adds (json.end_array ∷ []) last after
    → Adds (flat_map field_tokens others) after end → Adds (json.end_object ∷ []) end new
    → Adds (data_tokens (object ms)) old new
among_added key data_of xs some others ms old opened start named first last after end new is begun some_added name
    list_begun added list_ended others_added ended =
    let rest = both_added (flat_map field_tokens others) (json.end_object ∷ []) after end new others_added ended in
    let list =
    member_added key data_of xs (tokens_of_members (before others no_members)) start named first last after new name
    list_begun added list_ended (rw (fields_before others no_members) at rest) in
    let members : Members = member key (array (items_of (map data_of xs))) (before others no_members) in
    rw is (grind (arith, common_steps, both_added, list, fields_before some members))

-- ---- entries of an error log

-- the tokens of an entry, if it is chosen, and of others are the tokens of the entries with it among them
chosen : (b : Bool) (e : ErrorEntry) (es : List ErrorEntry)
    → (if b then data_tokens (object_of (fields_of_entry e)) else [])
    ++ flat_map (λ e. data_tokens (object_of (fields_of_entry e))) es
    ≡ flat_map (λ e. data_tokens (object_of (fields_of_entry e))) (if b then e ∷ es else es)
chosen true e es = refl
chosen false e es = refl

-- the tokens of an error log are the tokens of its entries that hold an error
pub errors_are : (es : List ErrorEntry)
    → flat_map error_tokens es
    ≡ flat_map (λ e. data_tokens (object_of (fields_of_entry e))) (filter holds_error es)
errors_are [] = refl
errors_are (e ∷ es) =
    ap (λ ts. error_tokens e ++ ts) (errors_are es) ∙ chosen (holds_error e) e (filter holds_error es)
