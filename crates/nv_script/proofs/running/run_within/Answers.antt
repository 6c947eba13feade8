use Rattle.nv_script.proofs.Words.{BusValue, all_enabled, ap, inl, run_state}
use Rattle.nv_script.proofs.RunLaws.{fresh_well, is_run, is_run_with}
use Rattle.nv_script.proofs.running.run_within.Goals as goal

pub returns-in-Ok-clause-run : goal.returns-in-Ok-clause-run
returns-in-Ok-clause-run g c =
    let r = c.requires in
    is_run_with _ _ _ _ _ _ _ _ _ (fresh_well _ _ r.fresh_script r.some_read r.fresh_out r.fresh_messages) _ _ _
    c.in-Ok.ensures.fault c.in-Ok.ensures.state r.bus.banks c.in-Ok.ensures.up c.in-Ok.ensures.driver
    c.run_session.ensures.runs (all_enabled _ _ c.run_session.ensures.linked)

pub returns-in-Err-clause-run : goal.returns-in-Err-clause-run
returns-in-Err-clause-run g c =
    let r = c.requires in
    let same = ap (λ (b : BusValue). run_state b (g.R.Source.state c.args.script.now) (g.O.Sink.state c.args.out.now)
    (g.M.Sink.state c.args.messages.now)) (ap g.B.Bus.meaning c.in-Err.ensures.untouched) in
    is_run _ _ _ _ _ _ _ _ _ (fresh_well _ _ r.fresh_script r.some_read r.fresh_out r.fresh_messages)
    (inl (c.in-Err.ensures.fault, c.in-Err.ensures.untouched, same))
