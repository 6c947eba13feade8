-- The words and the lemmas that several proofs share.
pub use Rattle.nv_file.specs.FileValue.{controller_entry_view, ControllerValue, file_view, namespace_entry_view}
pub use Rattle.nv_file.specs.FileValue.{NamespaceValue}
pub use Rattle.nv_file.specs.IsFile.{IsAttached, IsControllerEntry, IsNamespaceEntry}
pub use Rattle.nv_file.specs.KeyChecks.{as_integers, as_tables, each, has_only, in_limits, is_within, items_as, number}
pub use Rattle.nv_file.specs.Names.{key_text}
pub use Rattle.nv_file.specs.TableChecks.{cntlid_of, fid_of, first_feature_checks, nsid_of}
pub use Rattle.nv_file.specs.declared.controller.ControllerEntry.{ControllerEntry}
pub use Rattle.nv_file.specs.declared.error.SubsystemError.{SubsystemError}
pub use Rattle.nv_file.specs.declared.error.SubsystemError.TheVariants.{Kind, Memory, Missing, NotToml, Range, Unknown}
pub use Rattle.nv_file.specs.declared.key.Key.{Key}
pub use Rattle.nv_file.specs.declared.namespace.NamespaceEntry.{NamespaceEntry}
pub use Rattle.nv_file.specs.declared.table_name.TableName.{TableName}
pub use Rattle.nv_file.specs.inner.Reading.{IsCheckedBeforeMemory, IsCheckedUnlessMemory, IsPassed}
pub use Rattle.nv_file.specs.inner.SectionView.{tables_view}
pub use Rattle.nv_model.proofs.MappedLaws.{list_any-map}
pub use Rattle.nv_model.specs.Ranges.{IsFeatureRule, IsFormat}
pub use Rattle.nv_model.specs.declared.feature_rule.FeatureRule.{FeatureRule}
pub use Rattle.std.proofs.lemmas.Bool.{and_parts, false≢true, leb-true}
pub use Rattle.std.proofs.lemmas.Grind.{common_steps}
pub use Rattle.std.proofs.lemmas.Iterator.{YieldsList, YieldsList-from_slice}
pub use Rattle.std.proofs.lemmas.List.{drop_all, drop_more, length-map, map_push, take_all, take_more}
pub use Rattle.std.proofs.lemmas.List.Elements.{All-push, All-weaker}
pub use Rattle.std.proofs.lemmas.List.Folds.{Any-from_list_any, list_all_at, list_all_more, list_any_at}
pub use Rattle.std.proofs.lemmas.Str.{is_utf8-from_IsUtf8, IsUtf8-from_is_utf8}
pub use Rattle.std.specs.List.{fold, list_all, list_any}
pub use Rattle.std.specs.Option.{ok_or, option_map_or}
pub use Rattle.std.specs.Prelude.{All, AllPairs, Any, IsSomeAnd, Option}
pub use Rattle.std.specs.Str.{bytes_eq, is_utf8, IsUtf8}
pub use Rattle.toml.specs.Data.{as_integer, as_table, Data, get_member, Members, no_members}
pub use Rattle.toml.specs.Errors.{IsBlank}
pub use Rattle.toml.specs.View.{items_view, members_view, table_view, view}
pub use Rattle.toml.specs.declared.value.Value.{Value}
