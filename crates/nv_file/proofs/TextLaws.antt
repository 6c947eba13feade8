-- Bytes that aren't UTF-8, and texts of white space and comments alone.
use Rattle.std.proofs.Common.{◌≡◌, ◌∙◌, ℕ, List, Bool, true, false, [], ◌++◌, Some, Err, ap, append_assoc, append-nil}
use Rattle.std.proofs.Common.{sym}
use Rattle.toml.specs.Parse.{lines, parse_document}
use Rattle.nv_file.specs.File.{document}
use Rattle.nv_file.proofs.Words.{is_utf8, is_utf8-from_IsUtf8, IsBlank, IsUtf8, IsUtf8-from_is_utf8, no_members}
use Rattle.nv_file.proofs.Words.{NotToml, ok_or}

-- a document that is parsed as the text of UTF-8 bytes is the document of the bytes
pub text_document : (bytes text : List ℕ) → text ≡ bytes → IsUtf8 bytes
    → ok_or (parse_document text) NotToml ≡ document bytes
unfolding document
text_document bytes text same is = rw (same, is_utf8-from_IsUtf8 bytes is)

-- bytes that aren't UTF-8 are no document
pub no_text : (bytes : List ℕ) (b : Bool) → is_utf8 bytes ≡ b → (IsUtf8 bytes → ⊥) → document bytes ≡ Err NotToml
unfolding document
no_text bytes true is never = absurd (never (IsUtf8-from_is_utf8 bytes is))
no_text bytes false is never = rw is

-- a text of white space and comments alone is a document without members
pub blank_document : (text : List ℕ) → IsBlank text → parse_document text ≡ Some no_members
unfolding parse_document lines
blank_document text blank = rw blank

-- ---- the parts of a fault's text

-- a text about a table has two parts
pub of_table : (what table : List ℕ) → what ++ (table ++ ([] ++ [])) ≡ what ++ table
of_table what table = ap (λ x. what ++ x) (append-nil table)

-- a text about a key has four
pub of_key : (what table dot key : List ℕ) → what ++ (table ++ (dot ++ key)) ≡ what ++ (table ++ dot ++ key)
of_key what table dot key = ap (λ x. what ++ x) (sym (append_assoc table dot key))
