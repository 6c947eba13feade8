-- The words of proofs by hand.
pub use Rattle.core.proofs.alloc.Calls.{Goes-blank, handle_tells, token, α}
pub use Rattle.std.specs.Prelude.{None, Option, Some}
pub use Rattle.std_alloc.proofs.BoxSteps.Form.{args, B, box_ty, box_typed, Bx, D, owning, P, R, word, τ}
pub use Rattle.std_alloc.proofs.BoxSteps.Steps.{box_in, box_out}
pub use Rattle.std_alloc.specs.Box.Ownership.{box_owns}
pub use base.Fml.{flft, fsep, ftrue}
pub use base.Logic.{emp, ent, fst∗, id⊢, never, SProp}
pub use contract.BorrowLft.{◌⊑◌}
pub use contract.Monad.{fact, Fun}
pub use denote.Exit.{no, yes}
pub use denote.RattleType.{RattleType, Valss}
pub use denote.RawPtr.{block_ptr, in_a_block, null_ptr, Ptr, ptr_val, RawPtr}
pub use denote.Signature.{plain, type_at}
pub use denote.Steps.{heard, nothing, only}
pub use denote.Triple.Call.{calls_at, calls_at_last}
pub use denote.Triple.Clauses.{Clauses, Ended}
pub use denote.Triple.Spec.{triple_of}
pub use denote.Triple.Statement.{Contract, Triple}
pub use denote.Triple.Table.{entered}
pub use denote.Triple.Walked.{ends_at, Goes-dropped, needs, says, stay_dropped, Stays, walk_Meets, walk_of}
pub use lib.Dec.{lit<, T}
pub use mathlib.Core.List.{[], List, ◌++◌, ◌∷◌}
pub use mathlib.Core.Path.{ap, refl, subst, sym, ◌∙◌, ◌≡◌}
pub use mir.MapTy.{inst_fn}
pub use mir.Syntax.{a_type, Args, assign, Body, copy, dcons, Dict, dnil, Fn, place, return, rv_opd, seq}
pub use mir.Val.{has_ty, of_list, Val, vcons, vnil, vnull, vptr, vstruct, WT}
pub use prog.Memory.{Memory}
pub use prog.Routine.{Routine}
pub use prog.Wp.{Tables, WpFn}
pub use seplogic.Ra.Ura.{Ura}
pub use sound.WpLaws.{fm_of, WpFn-mono}
pub use types.ByLocal.{alloc_all, env, free_all, get, get_in, lands_as, lands_last, look_at, pass_all, sets}
pub use types.Logic.{Logic, sem}
pub use types.Part.{agg, sub, whole}
pub use types.Run.{and_then, blocks, enter, exec, first, fld, lit, no_more, of_opd, returns, stop}
