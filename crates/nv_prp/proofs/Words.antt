-- The words and the lemmas that several proofs share.
pub use Rattle.nv_host.proofs.PageLaws.{page_size_bounds, page_size_in_qwords, pages_apart}
pub use Rattle.nv_host.specs.Pages.{HasPage, IsPageSize}
pub use Rattle.nv_prp.specs.Place.{AreDistinct, table}
pub use Rattle.nv_prp.specs.Transfer.{data_pages, fault_after_prp1, first_byte, first_qword_fault, IsLegal, list_place}
pub use Rattle.nv_prp.specs.Transfer.{list_qwords, most_bytes, naming_number, offset, prp1_fault, PrpTransfer, room}
pub use Rattle.nv_prp.specs.Transfer.{second_page, transfer}
pub use Rattle.nv_prp.specs.declared.error.PrpError.{PrpError}
pub use Rattle.nv_prp.specs.declared.spans.Span.{Span}
pub use Rattle.nv_prp.specs.inner.Buffer.{ChangesOnly, NamesPages}
pub use Rattle.nv_prp.specs.inner.ListWalk.{Comes, cursor_of, IsList, ListTurn, used_of}
pub use Rattle.nv_prp.specs.inner.Transfer.{transfer_of}
pub use Rattle.std.proofs.Math.Nat.{mul-add-mod_self_left, mul-le-mul, mul-le-mul_right, mul-mod_left}
pub use Rattle.std.proofs.lemmas.Bool.{cases_lt, cases_order, le-ltb, lt-ltb}
pub use Rattle.std.proofs.lemmas.Bool.Decides.{nat_tests}
pub use Rattle.std.proofs.lemmas.Grind.{common_steps, div_ceil_times, flat_map-append, same_number_lists}
pub use Rattle.std.proofs.lemmas.Nat.{div-add-mod', div-mul-add, div_below, from_le_bytes-to_le_bytes_8, mod-mul-add}
pub use Rattle.std.proofs.lemmas.Nat.{mod_below, same_from_place}
pub use Rattle.std.proofs.lemmas.Result.{err_from_is_err_and}
pub use Rattle.std.specs.Int.{div_ceil, from_le_bytes, to_le_bytes, w64}
pub use Rattle.std.specs.List.{All, flat_map}
