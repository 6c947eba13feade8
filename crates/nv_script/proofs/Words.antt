-- The words and the lemmas that several proofs share.
pub use Rattle.memchr.specs.Find.{IsFirstByte, Nowhere, Passes, is_byte}
pub use Rattle.nv_bits.specs.Above.{above}
pub use Rattle.nv_bus.specs.Bus.{BusValue}
pub use Rattle.nv_command.specs.Received.{answer_received, first_of_log, received}
pub use Rattle.nv_command.specs.declared.command.Command.{Command}
pub use Rattle.nv_command.specs.declared.command.Command.TheVariants.{ActiveList, IdentifyController}
pub use Rattle.nv_command.specs.declared.command.Command.TheVariants.{IdentifyNamespace}
pub use Rattle.nv_command.specs.declared.refusal.Refusal.{Refusal}
pub use Rattle.nv_command.specs.declared.reply.Reply.{Reply}
pub use Rattle.nv_command.specs.declared.reply.Reply.TheVariants.{Done}
pub use Rattle.nv_driver.proofs.AdminLaws.{after_first}
pub use Rattle.nv_driver.proofs.LinkedLaws.{all_enabled, cids_after, cids_reset, first_cids, next_cid_is, pair_count}
pub use Rattle.nv_driver.proofs.LinkedLaws.{same_pairs}
pub use Rattle.nv_driver.specs.Answer.{Answer}
pub use Rattle.nv_driver.specs.BringingUp.{Still}
pub use Rattle.nv_driver.specs.Driver.{after_command, after_commands, after_reset, new_driver, no_pair, pair_at}
pub use Rattle.nv_driver.specs.Geometry.{geometry_fault}
pub use Rattle.nv_driver.specs.Linked.{IsLinked}
pub use Rattle.nv_driver.specs.QueuePair.{QueuePair}
pub use Rattle.nv_driver.specs.Settled.{DriverValue}
pub use Rattle.nv_driver.specs.inner.Linked.{next_cids_of}
pub use Rattle.nv_layout.specs.declared.cqe.Status.{Status}
pub use Rattle.nv_line.specs.declared.request.Ask.{Ask}
pub use Rattle.nv_line.specs.declared.request.Query.{Query}
pub use Rattle.nv_line.specs.declared.request.Request.{Request}
pub use Rattle.nv_model.proofs.LookupLaws.{IsAlike, IsInside, IsLookup, active_inside, alike-join, alike-self}
pub use Rattle.nv_model.proofs.LookupLaws.{attached, controller, looked_alike, looked_received, namespace}
pub use Rattle.nv_model.specs.Conditions.{Row, active_nsids, first_refusal, row}
pub use Rattle.nv_model.specs.Logs.{entry_count, log_reply}
pub use Rattle.nv_model.specs.Meaning.{refusal_of, reply_of}
pub use Rattle.nv_model.specs.State.{Controller, State, controller_at}
pub use Rattle.nv_model.specs.Step.{cid_after, reset, step, step_by}
pub use Rattle.nv_model.specs.WellFormed.{IsWellFormed, is_supported, supported}
pub use Rattle.nv_print.specs.declared.shown.Shown.{Shown}
pub use Rattle.nv_script.specs.Cuts.{AreFailed, Holds, IsCutIn, IsCutShort, IsMemoryBeginning, Left, batches_amid}
pub use Rattle.nv_script.specs.Cuts.{joined_lines, left_at, state_amid}
pub use Rattle.nv_script.specs.Ends.{AllEnabled, AreFaults, BringingUp, Headline, IsEndOf, IsRun, Leaves, LeavesAll}
pub use Rattle.nv_script.specs.Ends.{RunState, Runs, RunsFrom, WasRead, WithDriver, begun, end_without, left_by}
pub use Rattle.nv_script.specs.Ends.{run_state}
pub use Rattle.nv_script.specs.Going.{Goes, GoesAll, Going, after_batch}
pub use Rattle.nv_script.specs.Orders.{Batch, Commands, Restart, alone, asking_for, batches_of, batches_of_controller}
pub use Rattle.nv_script.specs.Orders.{batches_of_list, batches_of_one, batches_with, errors_command, groups}
pub use Rattle.nv_script.specs.Orders.{namespace_batches, orders_in, orders_in_all, orders_of}
pub use Rattle.nv_script.specs.Outcomes.{Act, Exchange, Order, Outcome, Reset, Send, exchange_by, exchange_of}
pub use Rattle.nv_script.specs.Outcomes.{exchange_with, order_of, outcome_after, outcome_of}
pub use Rattle.nv_script.specs.Results.{LineResult, Progress, after, answer_result, line_result, message_at}
pub use Rattle.nv_script.specs.Results.{output_for, quiet_result, request_result, result_at, said_at, start, whole}
pub use Rattle.nv_script.specs.ScriptLines.{IsReadToEnd, Pieces, as_line, has_stopped, pieces, script_lines, with_byte}
pub use Rattle.nv_script.specs.Shown.{feature_set, feature_value, listing_after, listing_of, no_listing, shown_by}
pub use Rattle.nv_script.specs.Shown.{shown_of, shown_of_one}
pub use Rattle.nv_script.specs.declared.ends.RunEnd.{RunEnd}
pub use Rattle.nv_script.specs.declared.ends.RunEnd.TheVariants.{OutWrite}
pub use Rattle.nv_script.specs.declared.listing.Listing.{Listing}
pub use Rattle.nv_script.specs.declared.performing.NoText.{NoText}
pub use Rattle.nv_script.specs.declared.session.Session.{Session}
pub use Rattle.nv_script.specs.inner.Feeding.{IsFailureOf, LastLeaves, LineLeaves, PieceLeaves, PrintLeaves}
pub use Rattle.nv_script.specs.inner.Feeding.{ReportLeaves, Stands}
pub use Rattle.nv_script.specs.inner.Listing.{AreBegun, AreListed, IsHandedOn, IsListed, ListLeaves, Standing}
pub use Rattle.nv_script.specs.inner.Listing.{answers_to, asked, asked_all, nsids_listed}
pub use Rattle.nv_script.specs.inner.Performing.{AskLeaves, IsReached, NoTextLeaves, QueryLeaves}
pub use Rattle.nv_script.specs.inner.ScriptLines.{buffer_after, buffer_of}
pub use Rattle.nv_stream.proofs.Taking.{Appends-at, Appends-join, Appends-same, Consumes-join, Consumes-same}
pub use Rattle.nv_stream.proofs.Taking.{done_more, length-taken}
pub use Rattle.nv_stream.specs.Streams.{IsFresh, SourceState, read_size}
pub use Rattle.std.proofs.Common.{[], ⊎_elim, ℕ, ◌%◌, ◌*◌, ◌++◌, ◌+◌, ◌-◌, ◌/◌, ◌<◌, ◌==◌, ◌||◌, ◌↔◌, ◌∙◌, ◌∷◌, ◌≡◌}
pub use Rattle.std.proofs.Common.{◌≢◌, ◌≤◌, ◌⊎◌, Bool, Err, List, None, Ok, Option, Result, Some, ap, append-nil}
pub use Rattle.std.proofs.Common.{append_assoc, arith, cond, drop, eqb, false, fold, get_or, inl, inr, length, map}
pub use Rattle.std.proofs.Common.{refl, rules, set, subst, suc, sym, take, true, zero}
pub use Rattle.std.proofs.Math.Seq.{take-append-add, take-append_seam}
pub use Rattle.std.proofs.lemmas.Bool.Decides.{nat_tests}
pub use Rattle.std.proofs.lemmas.Grind.{common_steps}
pub use Rattle.std.proofs.lemmas.List.{at_drop_more, drop_all, ext_get_or, get_or-append-add, get_or-map}
pub use Rattle.std.proofs.lemmas.List.{get_or-set_same, get_or-take, length-append, length-drop, length-map}
pub use Rattle.std.proofs.lemmas.List.{length-replicate, length-set, length-take-le, map-append, map-set, set-set}
pub use Rattle.std.proofs.lemmas.List.{take-append-drop, take_all, take_more}
pub use Rattle.std.proofs.lemmas.List.Concat.{flat_map-append}
pub use Rattle.std.proofs.lemmas.List.Elements.{All-tail, Contains-append_left, Contains-append_right, at_read}
pub use Rattle.std.proofs.lemmas.List.Sums.{fold-append}
pub use Rattle.std.proofs.lemmas.Result.{err_from_is_err_and}
pub use Rattle.std.specs.Io.KnownBytes.{Appends, Consumes, IsAtEnd}
pub use Rattle.std.specs.List.{AllByRecursion, range_with_len}
pub use Rattle.std.specs.Option.{option_map_or}
pub use Rattle.std.specs.Prelude.{All, Contains, IfErr, IfSome, IsOk, IsSome, OnOk, filter, flat_map, if◌then◌else◌}
pub use Rattle.std.specs.Prelude.{is_ok, min, nat_le, nat_lt, replicate, unwrap_or}
