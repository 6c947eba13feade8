-- The words and the lemmas that several proofs share.
pub use Rattle.nv_bits.proofs.NumberLaws.{get_of_insert, get_of_remove, remove_absent}
pub use Rattle.nv_bits.specs.Numbers.{IsOf, NumberMap}
pub use Rattle.nv_bits.specs.VecMap.{IsLowestFree, RangeMap}
pub use Rattle.nv_command.specs.declared.refusal.Refusal.{Refusal}
pub use Rattle.nv_command.specs.declared.reply.Reply.{Reply}
pub use Rattle.nv_file.specs.FileValue.{controller_entry_view, ControllerValue, file_view, FileValue, is_attached_to}
pub use Rattle.nv_file.specs.FileValue.{namespace_entry_view, NamespaceValue}
pub use Rattle.nv_file.specs.IsFile.{IsAttached, IsControllerEntry, IsFile, IsNamespaceEntry}
pub use Rattle.nv_layout.proofs.FeatureTableLaws.{feature_at, of_namespaces, other_identifier, selector_below}
pub use Rattle.nv_layout.specs.ErrorEntry.{ErrorEntryFits, no_entry}
pub use Rattle.nv_layout.specs.Feature.{feature_of, features, is_selector, row_of}
pub use Rattle.nv_layout.specs.declared.error_entry.ErrorEntry.{ErrorEntry}
pub use Rattle.nv_layout.specs.declared.feature.Feature.{Feature}
pub use Rattle.nv_model.proofs.ManagementLaws.{free_is, left, none_holds}
pub use Rattle.nv_model.proofs.MappedLaws.{count_by-map, list_any-map, next_mapped, none_pass, pairs_map, untrue}
pub use Rattle.nv_model.proofs.ResetLaws.{get-all_restored, reset_keeps}
pub use Rattle.nv_model.proofs.UsedLaws.{used-change, used-empty, used-insert, used-remove}
pub use Rattle.nv_model.specs.Answer.{answer_by, answer_to, answer_without_phases}
pub use Rattle.nv_model.specs.Attachment.{has_attached, is_known, is_listed}
pub use Rattle.nv_model.specs.Change.{changed, changed_at_keys}
pub use Rattle.nv_model.specs.ErrorLog.{Log}
pub use Rattle.nv_model.specs.Features.{changed_nsids, is_set, with_value, with_values, write}
pub use Rattle.nv_model.specs.Identify.{lbaf_of, no_lbaf}
pub use Rattle.nv_model.specs.IdentifyController.{id_ctrl_of, no_controller, padded}
pub use Rattle.nv_model.specs.Management.{with_nsids}
pub use Rattle.nv_model.specs.Ranges.{IsFeatureRule, IsFormat}
pub use Rattle.nv_model.specs.State.{changed_at, Controller, controller_at, Namespaces, Nsids, State, with_controller}
pub use Rattle.nv_model.specs.Step.{all_restored, log_entry, next_count, refused, reset, step, step_by, with_command}
pub use Rattle.nv_model.specs.Step.{with_refusal, with_restored}
pub use Rattle.nv_model.specs.Values.{default_of, FeatureRules, FeatureValues, first_value, is_alone, key_cmp, key_of}
pub use Rattle.nv_model.specs.Values.{recovery_key, restored, rule_for, ValueKey}
pub use Rattle.nv_model.specs.WellFormed.{AreRules, AreValues, is_supported, IsController, IsNamespace, IsWellFormed}
pub use Rattle.nv_model.specs.WellFormed.{unallocated, used}
pub use Rattle.nv_model.specs.declared.namespace.Namespace.{Namespace}
pub use Rattle.nv_model.specs.inner.Format.{with_format}
pub use Rattle.nv_subsystem.specs.FromFile.{controller_of, defaults_of, fill, rules_of, state_of, with_attachment}
pub use Rattle.nv_subsystem.specs.FromFile.{with_default, with_namespace, with_recovery, with_rule}
pub use Rattle.nv_subsystem.specs.Sound.{IsSized, IsSound}
pub use Rattle.nv_subsystem.specs.Tagged.{booked, newest_tagged, settled, untagged, untagged_log, with_booked}
pub use Rattle.nv_subsystem.specs.Tagged.{with_phase}
pub use Rattle.nv_subsystem.specs.ValueTable.{AreTables, IsOver, key_at, keyed, values_of, ValueTable}
pub use Rattle.nv_subsystem.specs.contracts.subsystem.Subsystem.{the_view}
pub use Rattle.nv_subsystem.specs.inner.Attachments.{changed_by, HasPlace}
pub use Rattle.nv_subsystem.specs.inner.ControllerView.{Becomes, controller_view}
pub use Rattle.nv_subsystem.specs.inner.ValueTable.{AreRestored, restored_at}
pub use Rattle.std.proofs.lemmas.Bool.{cases_eq, ne_eqb}
pub use Rattle.std.proofs.lemmas.Bool.Decides.{Decides-int_eq, nat_tests}
pub use Rattle.std.proofs.lemmas.Iterator.{YieldsList-from_slice}
pub use Rattle.std.proofs.lemmas.Iterator.Search.{all_from_yields_List, any_from_yields_List}
pub use Rattle.std.proofs.lemmas.List.{get_or-map, length-append, length-map, length-take-le, map-append, map_push}
pub use Rattle.std.proofs.lemmas.List.{take-map, take_all, take_more, with_items_is}
pub use Rattle.std.proofs.lemmas.List.Elements.{All-map, All-push, All-set, All-weaker}
pub use Rattle.std.proofs.lemmas.List.Sums.{count_by-le-length, length-filter, sum_by-cons}
pub use Rattle.std.specs.Cmp.{both_ways, unsigned_tied}
pub use Rattle.std.specs.FinMap.{get-empty, get-entries, get-from_entries, len-entries}
pub use Rattle.std.specs.List.{fold, list_all, list_any, range_with_len}
pub use Rattle.std.specs.Option.{option_map_or, option_or}
pub use Rattle.std.specs.Ordering.{nat_cmp}
pub use Rattle.std.specs.Prelude.{All, AllPairs, count_by, find, if◌then◌else◌, map, nat_le, nat_lt, option_map}
pub use Rattle.std.specs.Prelude.{replicate, slice_get, sum_by, unwrap_or}
