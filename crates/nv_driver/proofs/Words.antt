-- The words and the lemmas that several proofs share.
pub use Rattle.nv_bits.proofs.NumberLaws.{contains-insert, contains-remove, has_one, len-all_of, same_numbers}
pub use Rattle.nv_bits.specs.Numbers.{NumberSet}
pub use Rattle.nv_bus.proofs.TagLaws.{dword0_tagged, tagged}
pub use Rattle.nv_bus.proofs.TurnLaws.{can_means, turn_count_is}
pub use Rattle.nv_bus.specs.Bus.{BusValue, IsBus, bank_at, enabled_in, state_written}
pub use Rattle.nv_bus.specs.Call.{Call, HasRoom, call_of, command_in, data_places, length_of, moves_of, places_of}
pub use Rattle.nv_bus.specs.Call.{sent_from, within}
pub use Rattle.nv_bus.specs.Entry.{MovesBy, One, Scene, asked_step, command_result_of, completion_with, scene}
pub use Rattle.nv_bus.specs.Entry.{status_in, step_unless}
pub use Rattle.nv_bus.specs.Turn.{BankTurn, RingsLie, Site, Taken, Takes, can_take, ready_bank, site, turn_count}
pub use Rattle.nv_bus.specs.declared.command_result.CommandResult.{CommandResult}
pub use Rattle.nv_command.proofs.TravelLaws.{commands_travel, replies_fit, replies_travel}
pub use Rattle.nv_command.specs.Command.{CommandFits, bytes_from_host, bytes_to_host, host_data_of, transfer_by}
pub use Rattle.nv_command.specs.Decoding.{command_of, transfer_of}
pub use Rattle.nv_command.specs.Logs.{IsSendable, IsWhole, without_phases}
pub use Rattle.nv_command.specs.Reply.{FitsRecord, IsReplyTo, data_of, dword0_of, reply_in, with_data}
pub use Rattle.nv_command.specs.declared.command.Command.{Command}
pub use Rattle.nv_command.specs.declared.command.Command.TheVariants.{ActiveList, Attachment, GetLog}
pub use Rattle.nv_command.specs.declared.status_code.StatusCode.{StatusCode}
pub use Rattle.nv_command.specs.declared.transfer.Transfer.{Transfer}
pub use Rattle.nv_command.specs.declared.transfer.Transfer.TheVariants.{FromHost, NoData, ToHost}
pub use Rattle.nv_driver.specs.Alone.{Comes, IsReadIn, IsReceived, asked_in, came_with, entry_step}
pub use Rattle.nv_driver.specs.Answer.{Answer}
pub use Rattle.nv_driver.specs.Batch.{answers_of, from_cid, numbered_request, state_after}
pub use Rattle.nv_driver.specs.BringingUp.{BusTurn, Configures, Enables, EnablesFirst, Read, ReadsOther, SetsQueues}
pub use Rattle.nv_driver.specs.BringingUp.{Still, TailWrite, Write, Zeroes}
pub use Rattle.nv_driver.specs.CommandPages.{AreLowest, AreTaken, all_pages, without}
pub use Rattle.nv_driver.specs.Driver.{HasEntryPages, IsDriver, IsPlaced, after_command, after_commands, driver_value}
pub use Rattle.nv_driver.specs.Driver.{driver_with, no_pair, page_count, pages_behind, pair_at}
pub use Rattle.nv_driver.specs.Exchange.{IsReady, after_one, after_some}
pub use Rattle.nv_driver.specs.Geometry.{IsGeometry, geometry_fault}
pub use Rattle.nv_driver.specs.Keeping.{AreInOrder, HasRings, IsOwn, Keeps, OthersStay}
pub use Rattle.nv_driver.specs.Layout.{data_count, most_bytes, pages_for, pages_of, pages_of_command, pages_of_entry}
pub use Rattle.nv_driver.specs.Layout.{pair_of, pair_pages, pairs_of}
unfoldable pub use Rattle.nv_driver.specs.Layout.{completion_pages, set_pages, submission_pages}
pub use Rattle.nv_driver.specs.Linked.{IsLinked}
pub use Rattle.nv_driver.specs.QueuePair.{IsLaid, QueuePair, idle_bank, renewed_pair}
pub use Rattle.nv_driver.specs.Quiet.{IsQuiet, pair_value}
pub use Rattle.nv_driver.specs.Registers.{banks_of, idle_banks, mps_of}
pub use Rattle.nv_driver.specs.Request.{Asked, GoesBy, IsReadable, IsRequest, Request, padded, received_as, request_for}
pub use Rattle.nv_driver.specs.Request.{request_of, sent_for, transfer_for}
pub use Rattle.nv_driver.specs.Schedule.{AreApart, AreOthers, AreOutside, Bell, ChangesList, Collect, Delivers, Doing}
pub use Rattle.nv_driver.specs.Schedule.{Elsewhere, Event, EveryScheduleIsSerial, Follows, Happens, Holds, HoldsSent}
pub use Rattle.nv_driver.specs.Schedule.{IsAnswered, IsIdle, IsPrepared, LeavesOutstanding, MaySubmit, Numbered}
pub use Rattle.nv_driver.specs.Schedule.{PagesStay, Runs, Sent, Setting, StaysNamed, Submit, Tell, Turn, World, after}
pub use Rattle.nv_driver.specs.Schedule.{answer_awaited, answer_from, answer_to, answers_of_all, answers_to, awaited}
pub use Rattle.nv_driver.specs.Schedule.{bank_with, bytes_read, collect_ring, data_length, device_rings, entry}
pub use Rattle.nv_driver.specs.Schedule.{is_success, least, number, numbered, own_pages, places, pointed, received_from}
pub use Rattle.nv_driver.specs.Schedule.{slot, state_after_all, step_after, step_of, submit_ring}
pub use Rattle.nv_driver.specs.Sending.{GoesOver, SendsAll}
pub use Rattle.nv_driver.specs.Settled.{DriverValue, IsSettled, end_of}
pub use Rattle.nv_driver.specs.Submitting.{RequestPlace, place_in, sent_at}
pub use Rattle.nv_driver.specs.UnderWay.{AreSendable, Course, DoesNext, HasCollected, IsDue, IsHeld, IsOnWay, IsRunOf}
pub use Rattle.nv_driver.specs.UnderWay.{IsToReport, IsUnderWay, LiesInPages, Run, RunOn, TookNothing, Way, beginning}
pub use Rattle.nv_driver.specs.UnderWay.{cid_at, first_world, free_pages, held_pages, numbered_of, pages_of_all}
pub use Rattle.nv_driver.specs.UnderWay.{pair_after, requests_in, run_of, run_on, sent_in_window, setting, setting_of}
pub use Rattle.nv_driver.specs.UnderWay.{way, world_by, world_of}
pub use Rattle.nv_driver.specs.declared.batch.Batch.{Batch}
pub use Rattle.nv_driver.specs.declared.command_pages.CommandPages.{CommandPages}
pub use Rattle.nv_driver.specs.declared.geometry.Geometry.{Geometry}
pub use Rattle.nv_driver.specs.declared.queue_pair.QueuePair.{QueuePair as QueuePairFields}
pub use Rattle.nv_driver.specs.declared.requests.Requests.{Requests}
pub use Rattle.nv_driver.specs.inner.CommandPages.{with_pages}
pub use Rattle.nv_driver.specs.inner.Exchange.{IsLeft, KeepsBelow, KeepsOutside, Side, side}
pub use Rattle.nv_driver.specs.inner.Pace.{IsPaced, IsTold, IsToldByPace, IsToldInTime}
pub use Rattle.nv_driver.specs.inner.Registers.{with_queues}
pub use Rattle.nv_driver.specs.inner.Submitting.{CanCollect, HasFreeSlot, IsPlaceFor, IsSubmittedAt, pages_at}
pub use Rattle.nv_driver.specs.inner.Submitting.{request_as, request_place}
pub use Rattle.nv_driver.specs.inner.UnderWay.{AreReceived, HasAnswers, IsHeard, left_of}
pub use Rattle.nv_host.proofs.PageLaws.{page_size_bounds}
pub use Rattle.nv_host.specs.Bytes.{bytes_at, with_bytes}
pub use Rattle.nv_host.specs.PageSets.{IsLowest, IsOf, Pages, all_of, insert}
pub use Rattle.nv_host.specs.Pages.{HasPage, PagedBytes}
unfoldable pub use Rattle.nv_host.specs.Pages.{IsPageSize}
pub use Rattle.nv_layout.specs.Cqe.{CqeFits, bytes_of_cqe, cqe_of_bytes}
pub use Rattle.nv_layout.specs.Sqe.{SqeFits, bytes_of_sqe, sqe_of_bytes}
pub use Rattle.nv_layout.specs.Steps.{◌>>=◌}
pub use Rattle.nv_layout.specs.declared.cqe.Cqe.{Cqe}
pub use Rattle.nv_layout.specs.declared.cqe.Status.{Status}
pub use Rattle.nv_layout.specs.declared.sqe.Sqe.{Sqe}
pub use Rattle.nv_model.proofs.LimitLaws.{limit_bounds, refused_limit, step_limit}
pub use Rattle.nv_model.proofs.ResetLaws.{reset_first, reset_first_more}
pub use Rattle.nv_model.specs.Conditions.{greatest_limit, limit_of}
pub use Rattle.nv_model.specs.State.{State}
pub use Rattle.nv_model.specs.Step.{Step, cid_after, refused, reset, reset_if, reset_where, step_by, with_refusal}
pub use Rattle.nv_model.specs.WellFormed.{IsWellFormed}
pub use Rattle.nv_prp.proofs.BufferLaws.{buffer_distinct, rest_distinct}
pub use Rattle.nv_prp.proofs.PlaceLaws.{get_or-bytes_at, get_or-table, length-read_at, length-table, length-written_at}
pub use Rattle.nv_prp.proofs.PlaceLaws.{part_stays, read_written, table-same}
pub use Rattle.nv_prp.specs.Buffer.{IsApart, IsBuffer, IsFor, IsListPlace, IsOutside, KeepsList, KeepsOutsideList}
unfoldable pub use Rattle.nv_prp.specs.Buffer.{buffer_place, buffer_places}
pub use Rattle.nv_prp.specs.Place.{AreDistinct, table}
unfoldable pub use Rattle.nv_prp.specs.Place.{read_at, written_at}
pub use Rattle.nv_prp.specs.inner.Buffer.{ChangesOnly}
pub use Rattle.nv_queue.proofs.KeptLaws.{between_kept, distance_kept, first_kept, kept_below, kept_next, slot_kept}
pub use Rattle.nv_queue.proofs.KeptLaws.{slots_apart}
pub use Rattle.nv_queue.proofs.SlotLaws.{length-with_completion, length-with_submission, not_own, push_written}
pub use Rattle.nv_queue.proofs.SlotLaws.{put_written, slot_within}
pub use Rattle.nv_queue.proofs.TagLaws.{tag_below_here, tag_there, tags_after}
pub use Rattle.nv_queue.specs.Numbers.{IsSlotBetween, ahead, distance, first_in_slot, phase_of}
unfoldable pub use Rattle.nv_queue.specs.Numbers.{kept_number, next, slot_of}
pub use Rattle.nv_queue.specs.Rings.{CollectNumbers, PostNumbers, SubmitNumbers, collected_one, known_to, submitted_one}
pub use Rattle.nv_queue.specs.Rings.{told_all}
pub use Rattle.nv_queue.specs.Slots.{HoldsTags, IsAwaitedThere, awaited_completion, completion_at, posted_as}
pub use Rattle.nv_queue.specs.Slots.{submission_at, with_completion, with_submission}
pub use Rattle.nv_register.specs.Readiness.{is_enabled, is_ready}
pub use Rattle.nv_register.specs.RegisterBank.{can_start, new_bank, new_rings, with_cc, with_high, with_low}
pub use Rattle.nv_register.specs.RegisterBank.{with_register_at}
pub use Rattle.nv_register.specs.declared.register_bank.RegisterBank.{RegisterBank}
pub use Rattle.std.proofs.Common.{[], ℕ, ◌%◌, ◌&&◌, ◌*◌, ◌++◌, ◌+◌, ◌-◌, ◌/◌, ◌<◌, ◌==◌, ◌^◌, ◌||◌, ◌↔◌, ◌∙◌, ◌∷◌, ◌≡◌}
pub use Rattle.std.proofs.Common.{◌≢◌, ◌≤◌, ◌⊎◌, All, AllPairs, Bool, Err, IsSome, List, MatchOption, None, Ok, OnOk}
pub use Rattle.std.proofs.Common.{Option, Result, Some, add-one, ap, append-nil, append_assoc, arith, below_more, drop}
pub use Rattle.std.proofs.Common.{false, get_or, inl, inr, is_some, length, length-append, length-drop, length-take}
pub use Rattle.std.proofs.Common.{lit<, lit≤, map, min, nat_cmp, nat_eq, nat_le, nat_lt, not, refl, rules, subst, suc}
pub use Rattle.std.proofs.Common.{sym, take, true, zero}
pub use Rattle.std.proofs.Math.ListN.{length-set}
pub use Rattle.std.proofs.Math.Nat.{div-eq_of_lt, mod-eq_of_lt, mul-div_cancel, mul-le-mul, mul-le-mul_right}
pub use Rattle.std.proofs.Math.Nat.{mul-mod_left, zero-add}
pub use Rattle.std.proofs.Math.Seq.{drop-cons, drop-length, map-set_same, take-length}
pub use Rattle.std.proofs.lemmas.Bool.{both_ways, cases_eq, cases_lt, or_cases, or_from, or_parts, or_right}
pub use Rattle.std.proofs.lemmas.Bool.Decides.{nat_tests}
pub use Rattle.std.proofs.lemmas.Grind.{div_ceil_times, fold-append, same_number_lists}
pub use Rattle.std.proofs.lemmas.List.{drop-append-le, get_or-append-add, get_or-drop, get_or-map, get_or-set_other}
pub use Rattle.std.proofs.lemmas.List.{get_or-set_same, get_or-take, get_or_append_left, get_or_default, get_or_past}
pub use Rattle.std.proofs.lemmas.List.{get_or_push, length-map, length-replicate, map-append, map-set, map_push}
pub use Rattle.std.proofs.lemmas.List.{replicate_more, same_lists, set-get_or, set-set, take-append-le, take-map}
pub use Rattle.std.proofs.lemmas.List.{take-take, take_all, take_more, take_more_set}
pub use Rattle.std.proofs.lemmas.List.Elements.{All-append, All-push, All-set}
pub use Rattle.std.proofs.lemmas.List.Folds.{list_any-append, list_any_none}
pub use Rattle.std.proofs.lemmas.List.FromFn.{get_or-map-range_with_len, length-map-range_with_len}
pub use Rattle.std.proofs.lemmas.List.FromFn.{map-range_with_len_more}
pub use Rattle.std.proofs.lemmas.Nat.{div_below, mod_below}
pub use Rattle.std.specs.Int.{div_ceil}
pub use Rattle.std.specs.List.{fold, list_any}
pub use Rattle.std.specs.Prelude.{if◌then◌else◌, replicate, set, slice_index_or, slice_set}
