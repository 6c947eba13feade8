-- The words and the lemmas that several proofs share.
pub use Rattle.nv_bus.specs.Bus.{bank_at, IsBus}
pub use Rattle.nv_bus.specs.Call.{call_of, data_places, length_of}
pub use Rattle.nv_bus.specs.Entry.{call_in, completion_in, completion_of, completion_with, entry_in, exchange_in, Moves}
pub use Rattle.nv_bus.specs.Entry.{MovesBy, next_step, One, Scene, scene, step_unless, success, command_result_of}
pub use Rattle.nv_bus.specs.Shown.{AreShown}
pub use Rattle.nv_bus.specs.Turn.{BankTurn, ready_bank, RingsTurn, Site, site, Taken, Takes, TakesCount, TurnBy}
pub use Rattle.nv_bus.specs.declared.exchange.Exchange.{Exchange}
pub use Rattle.nv_command.specs.Command.{bytes_to_host, transfer_by}
pub use Rattle.nv_command.specs.Reply.{data_of, FitsRecord, IsReplyTo, log_of, page_of}
pub use Rattle.nv_command.specs.declared.command.Command.{Command}
pub use Rattle.nv_command.specs.declared.refusal.Refusal.{Refusal}
pub use Rattle.nv_command.specs.declared.reply.Reply.{Reply}
pub use Rattle.nv_command.specs.declared.transfer.Transfer.{Transfer}
pub use Rattle.nv_controller.specs.Exchanges.{exchanges, exchanges_by}
pub use Rattle.nv_controller.specs.Machine.{bus_of, machine_written, MachineValue}
pub use Rattle.nv_layout.proofs.PartLaws.{length-part, part-part, part_past}
pub use Rattle.nv_layout.specs.Parts.{part}
pub use Rattle.nv_model.specs.State.{State}
pub use Rattle.nv_model.specs.Step.{reset, Step, step, step_by}
pub use Rattle.nv_model.specs.WellFormed.{IsWellFormed}
pub use Rattle.nv_prp.specs.Place.{places}
pub use Rattle.nv_register.specs.RegisterBank.{new_bank, stops_at}
pub use Rattle.nv_register.specs.declared.readiness.Readiness.TheVariants.{Ready}
pub use Rattle.nv_subsystem.proofs.AnswerLaws.{accepted_answer, refused_answer}
pub use Rattle.nv_subsystem.proofs.TaggedLaws.{limit_untagged, refusal_untagged, reply_untagged, reset_untagged}
pub use Rattle.nv_subsystem.proofs.TaggedLaws.{untagged_back, untagged_keeps}
pub use Rattle.nv_subsystem.specs.Tagged.{untagged, untagged_log}
pub use Rattle.std.proofs.lemmas.List.{get_or_default, length-map, length-replicate, nil_from_length, take_all}
pub use Rattle.std.specs.Prelude.{if◌then◌else◌, replicate}
