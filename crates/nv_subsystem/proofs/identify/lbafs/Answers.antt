use Rattle.std.proofs.Common.{◌≡◌, ◌∙◌, ◌-◌, ◌++◌, ap, arith, map, length, set}
use Rattle.nv_subsystem.proofs.Words.{lbaf_of, no_lbaf, replicate, take_all}
use Rattle.nv_subsystem.proofs.Filling.{filled}
use Rattle.nv_subsystem.proofs.identify.lbafs.Goals as goal

pub loop-i-preserved : goal.loop-i-preserved
loop-i-preserved c =
    ap (set c.loop-i.lbafs c.loop-i.i) c.lbaf.ensures
    ∙ filled lbaf_of c.args.formats.now c.loop-i.i 16 _ no_lbaf c.loop-i.lbafs c.loop-i-test.true
    (omega arith) c.loop-i.invariant

pub returns : goal.returns
returns c =
    let fs = c.args.formats.now in
    let same : c.loop-i.i ≡ length fs = omega arith in
    c.loop-i.invariant
    ∙ ap (λ t. map lbaf_of t ++ replicate (16 - c.loop-i.i) no_lbaf) (take_all c.loop-i.i fs c.loop-i-test.false)
    ∙ ap (λ n. map lbaf_of fs ++ replicate (16 - n) no_lbaf) same
