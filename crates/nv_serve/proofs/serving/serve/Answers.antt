use Rattle.std.proofs.Common.{inl, inr, length, refl, subst}
use Rattle.nv_driver.specs.BringingUp.{Still}
use Rattle.nv_driver.specs.Geometry.{geometry_fault}
use Rattle.nv_driver.specs.Layout.{pages_of_entry}
use Rattle.nv_driver.proofs.LinkedLaws.{without, without_fault}
use Rattle.nv_serve.specs.Handling.{DoesAll, Handles, calls}
use Rattle.nv_serve.specs.Served.{IsServed, streams}
use Rattle.nv_serve.proofs.ServedLaws.{begun_is, end_is, served_by}
use Rattle.nv_serve.proofs.serving.serve.Goals as goal

pub returns-in-Ok-clause-serves : goal.returns-in-Ok-clause-serves
returns-in-Ok-clause-serves g c =
    let e = c.in-Ok.ensures.brought in
    let up = c.in-Ok.ensures.steps in
    let all = calls g.B.Bus.meaning g.B.Bus.was_written (Still g.B.Bus.was_read) g.B.Zeroing.was_zeroed
    g.B.Ringing.was_rung g.B.Bus.was_turned in
    let many = length (g.B.Bus.meaning c.args.bus.now).banks in
    let did = Handles all c.args.geometry many c.args.bus.now c.serve_all.new.bus in
    let begins =
    begun_is (g.B.Bus.meaning c.args.bus.now) (g.B.Bus.meaning c.bring_up_for_entries.new.bus) c.args.geometry
    (pages_of_entry c.args.geometry.page_size) e.state e.driver in
    inr (
      without_fault c.args.geometry c.in-Ok.driver e.geometry,
      (
        c.serve_all.result,
        refl,
        subst (λ p. IsServed p did c.serve_all.result (g.B.Bus.meaning c.serve_all.new.bus).state
            (streams (g.R.Source.state c.args.source.now) (g.O.Sink.state c.args.out.now))
            (streams (g.R.Source.state c.serve_all.new.source) (g.O.Sink.state c.serve_all.new.out))) begins
            (served_by did (λ requests answers done. (
              c.bring_up_for_entries.new.bus,
              c.serve_all.new.driver,
              up.0,
              up.1,
              up.2,
              subst (λ d. DoesAll all d requests answers c.bring_up_for_entries.new.bus c.serve_all.new.driver
                  c.serve_all.new.bus) e.driver done,
            )) c.serve_all.ensures.served),
      ),
    )

pub returns-clause-serves : goal.returns-clause-serves
returns-clause-serves g c =
    let error = c.in-Err-bring_up_for_entries.error in
    let e = c.in-Err-bring_up_for_entries.ensures.brought in
    let why = without c.args.geometry error e.geometry e.ready in
    let here = streams (g.R.Source.state c.args.source.now) (g.O.Sink.state c.args.out.now) in
    inl (
      end_is (geometry_fault c.args.geometry) error c.from.result why c.from.ensures,
      c.in-Err-bring_up_for_entries.ensures.steps,
      e.untouched,
      refl {a = here},
    )
