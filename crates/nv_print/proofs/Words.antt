-- The words and the lemmas that several proofs share.
pub use Rattle.json.specs.Print.{escape, quoted}
pub use Rattle.json.specs.Token.{Token}
pub use Rattle.nv_layout.specs.ErrorEntry.{no_entry}
pub use Rattle.nv_layout.specs.declared.error_entry.ErrorEntry.{ErrorEntry}
pub use Rattle.nv_layout.specs.declared.id_ns.IdNs.{IdNs}
pub use Rattle.nv_layout.specs.declared.id_ns.Lbaf.{Lbaf}
pub use Rattle.nv_print.specs.Devices.{node_of}
pub use Rattle.nv_print.specs.Field.{Field, as_text, field, field_line, fields_text, in_decimal, in_hexadecimal}
pub use Rattle.nv_print.specs.Field.{object_of, shape_data}
pub use Rattle.nv_print.specs.Records.{entries_text, entry_text, field_within, formats_of, holds_error, lbaf_line}
pub use Rattle.nv_print.specs.Records.{nsid_line, nsids_text}
pub use Rattle.nv_print.specs.Text.{hexadecimal, is_printable, left, lines_of, printable, right, six_digits}
pub use Rattle.nv_print.specs.declared.device.ListedDevice.{ListedDevice}
pub use Rattle.nv_print.specs.inner.Tokens.{Adds, before, data_tokens, error_tokens, field_tokens}
pub use Rattle.serde_json.specs.Data.{Data, Members, array, member, no_members, number, object, put, unsigned}
pub use Rattle.serde_json.specs.View.{items_of}
pub use Rattle.serde_json.specs.Written.{compact_text}
pub use Rattle.std.proofs.Common.{[], ℕ, ◌%◌, ◌*◌, ◌++◌, ◌+◌, ◌-◌, ◌/◌, ◌<◌, ◌^◌, ◌∙◌, ◌∷◌, ◌≡◌, ◌≤◌, Bool, List, ap}
pub use Rattle.std.proofs.Common.{append-nil, append_assoc, ap₂, arith, drop, false, get_or, length, length-append}
pub use Rattle.std.proofs.Common.{length-set, map, refl, rules, set, string_bytes, subst, suc, sym, take, true, zero}
pub use Rattle.std.proofs.lemmas.Bool.Decides.{nat_tests}
pub use Rattle.std.proofs.lemmas.Grind.{common_steps}
pub use Rattle.std.proofs.lemmas.List.{length-take}
pub use Rattle.std.proofs.lemmas.Result.{on_ok_weaker}
pub use Rattle.std.proofs.lemmas.Str.{IsAscii-append, IsUtf8-from_ascii}
pub use Rattle.std.proofs.lemmas.Str.Ascii.{IsAscii-cons, IsAscii-nil}
pub use Rattle.std.specs.Fmt.{decimal, digit_glyph, digits_onto}
pub use Rattle.std.specs.List.{All, take_while}
pub use Rattle.std.specs.Prelude.{◌==◌, filter, flat_map, if◌then◌else◌}
pub use Rattle.std.specs.Str.{IsAscii, IsTrimAsciiEnd, IsUtf8}
