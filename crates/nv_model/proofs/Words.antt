-- The words and the lemmas that several proofs share.
pub use Rattle.nv_bits.proofs.NumberLaws.{contains-insert, contains-remove, get_of_insert, get_of_remove, left, less}
pub use Rattle.nv_bits.proofs.NumberLaws.{remove_absent, right, same_numbers}
pub use Rattle.nv_bits.specs.Above.{above}
pub use Rattle.nv_command.proofs.RefusalLaws.{is_refusal-refusal_by}
pub use Rattle.nv_command.specs.Form.{form_of, namespace_of}
pub use Rattle.nv_command.specs.Nsid.{broadcast_nsid}
pub use Rattle.nv_command.specs.Refusal.{IsRefusal}
pub use Rattle.nv_command.specs.Reply.{FitsRecord, IsEntryList, IsNsidList, kind_of}
pub use Rattle.nv_command.specs.declared.command.Command.{Command}
pub use Rattle.nv_command.specs.declared.refusal.Refusal.{Refusal}
pub use Rattle.nv_command.specs.declared.status_code.StatusCode.TheVariants.{InvalidFieldInCommand}
pub use Rattle.nv_command.specs.declared.status_code.StatusCode.TheVariants.{InvalidNamespaceOrFormat}
pub use Rattle.nv_command.specs.declared.status_code.StatusCode.TheVariants.{NamespaceInsufficientCapacity}
pub use Rattle.nv_layout.proofs.FeatureTableLaws.{default_is_value, feature_at, feature_with, stored_is_value}
pub use Rattle.nv_layout.proofs.FeatureTableLaws.{value_fits}
pub use Rattle.nv_layout.specs.ErrorEntry.{ErrorEntryFits, no_entry}
pub use Rattle.nv_layout.specs.Feature.{feature_of, is_accepted, is_get_selector, is_selector, is_value, row_of}
pub use Rattle.nv_layout.specs.Feature.{selector_in, stored}
pub use Rattle.nv_layout.specs.IdNs.{IdNsFits, LbafFits}
pub use Rattle.nv_layout.specs.Limits.{most_nsids}
pub use Rattle.nv_layout.specs.declared.error_entry.ErrorEntry.{ErrorEntry}
pub use Rattle.nv_layout.specs.declared.feature.Feature.{Feature}
pub use Rattle.nv_model.specs.Change.{changed, changed_at_keys}
pub use Rattle.nv_model.specs.Conditions.{active_nsids, can_have, concerned, first_refusal, format_at, free_nsid}
pub use Rattle.nv_model.specs.Conditions.{greatest_limit, is_active, is_allocated, limit_of, may_extend, mdts_of, Row}
pub use Rattle.nv_model.specs.Conditions.{row}
pub use Rattle.nv_model.specs.Features.{changed_nsids, with_values}
pub use Rattle.nv_model.specs.Identify.{blank, common_of, flbas_of, id_ns_of, lbaf_of, lbafs_of, no_lbaf}
pub use Rattle.nv_model.specs.Logs.{errors_of, health_of, log_reply, log_rows, no_health, smart_of, zero_smart}
pub use Rattle.nv_model.specs.Meaning.{effect_of, Meaning, meaning_of, refusal_of, reply_of, rows_of, telling}
pub use Rattle.nv_model.specs.Ranges.{greatest_count, IsFormat, IsInFormat, IsSmart}
pub use Rattle.nv_model.specs.State.{ascending, changed_at, Controller, controller_at, Identity, Namespaces, Nsids}
pub use Rattle.nv_model.specs.State.{State, with_controller}
pub use Rattle.nv_model.specs.WellFormed.{AreRules, AreValues, has_value, is_supported, is_value_at, IsController}
pub use Rattle.nv_model.specs.WellFormed.{IsNamespace, IsWellFormed, may_have, supported, unallocated, used}
pub use Rattle.nv_model.specs.declared.feature_rule.FeatureRule.{FeatureRule}
pub use Rattle.nv_model.specs.declared.feature_value.FeatureValue.{FeatureValue}
pub use Rattle.nv_model.specs.declared.format.Format.{Format}
pub use Rattle.nv_model.specs.declared.namespace.Namespace.{Namespace}
pub use Rattle.std.proofs.lemmas.Bool.{and_from, and_parts, eq-eqb, eqb-true, false_from_ne_true, not-false, not-true}
pub use Rattle.std.proofs.lemmas.Bool.{or_left, or_parts, or_right}
pub use Rattle.std.proofs.lemmas.Bool.Decides.{nat_tests}
pub use Rattle.std.proofs.lemmas.List.{get_or-map, length-append, length-map, length-replicate, length-take}
pub use Rattle.std.proofs.lemmas.List.Elements.{All-cons, All-map, All-take, All-weaker}
pub use Rattle.std.proofs.lemmas.List.Sums.{count_by-le-length, length-filter, sum_by-cons}
pub use Rattle.std.proofs.lemmas.Option.{get_or_from_slice_get, slice_get_cases, slice_get_within}
pub use Rattle.std.specs.Cmp.{Equal-is, IsTotalOrder, nat_cmp_total, unsigned_tied}
pub use Rattle.std.specs.FinMap.{contains_key-keys, entries-insert, entries_sorted, find, FinMap, get-empty}
pub use Rattle.std.specs.FinMap.{get-entries, get-from_entries, get-insert, get-remove, get-retain_keys, is_sorted}
pub use Rattle.std.specs.FinMap.{IsAntisymmetric, len-empty, len-entries, nat_cmp-IsAntisymmetric, same_map}
pub use Rattle.std.specs.FinMap.{slice_cmp-IsAntisymmetric}
pub use Rattle.std.specs.List.{AllByRecursion, fold, list_any, range_with_len}
pub use Rattle.std.specs.Option.{option_map_or}
pub use Rattle.std.specs.Ordering.{eq_by_cmp, is_eq, is_lt, nat_cmp, ordering_then}
pub use Rattle.std.specs.Prelude.{All, AllPairs, count_by, if◌then◌else◌, IsSomeAnd, map, nat_le, not, option_map}
pub use Rattle.std.specs.Prelude.{replicate, slice_get, slice_index_or, sum_by, unwrap_or, ◌&&◌, ◌==◌, ◌||◌}
pub use Rattle.std.specs.declared.cmp.Ordering.TheVariants.{Equal, Greater, Less}
