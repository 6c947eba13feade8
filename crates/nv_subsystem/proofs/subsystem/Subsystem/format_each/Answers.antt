use Rattle.std.proofs.Common.{◌∙◌, ap, sym, arith}
use Rattle.std.proofs.Math.ListN.{drop_of_length-le}
use Rattle.nv_model.proofs.FormatLaws.{formatted_each}
use Rattle.nv_subsystem.proofs.Words.{fold, Namespaces, State, with_format}
use Rattle.nv_subsystem.proofs.subsystem.Subsystem.format_each.Goals as goal

pub returns : goal.returns
returns c =
    let format = with_format c.args.lbaf c.args.mset in
    let with_namespaces = λ (m : Namespaces). record c.args.self.now { namespaces = m } in
    let namespaces = c.loop-nsid.self.namespaces in
    let done = ap (fold format namespaces)
    (drop_of_length-le c.args.nsids.now (omega (arith, c.loop-nsid.auto.nsid-index-end))) in
    c.loop-nsid.invariant.1
    ∙ ap with_namespaces (sym done ∙ ap (λ (s : State). s.namespaces) c.loop-nsid.invariant.0
    ∙ formatted_each c.args.lbaf c.args.mset c.args.nsids.now c.args.self.now.namespaces)
