use Rattle.std.proofs.Common.{◌∙◌, arith}
use Rattle.nv_prp.proofs.Words.{err_from_is_err_and, nat_tests}
use Rattle.nv_prp.proofs.ListLaws.{chain, fault_found, next_inside, turn_behind, turn_here}
use Rattle.nv_prp.proofs.walker.naming_qword.Goals as goal

pub load_page_address-requires : goal.load_page_address-requires
load_page_address-requires g c = next_inside _ _ _ c.requires.list c.requires.comes (omega (arith, c.requires.pages))

pub returns-in_err-second-clause-fault : goal.returns-in_err-second-clause-fault
returns-in_err-second-clause-fault g c =
    let p = err_from_is_err_and c.from_residual.result c.from_residual.ensures.1 in
    let link =
    chain _ _ _ c.requires.comes (omega (arith, c.if-chains_before.ensures, c.requires.room))
    (omega (arith, c.if-chains_before.ensures, c.requires.room, c.requires.pages)) in
    rw (p.1, p.2)
    (fault_found _ _ c.args.page c.args.page c.requires.list (omega (arith, c.requires.pages))
    (grind (arith, nat_tests)) (link.fault ∙ c.in_err-second.ensures.fault))

pub returns-then-chains_before-clause-turn : goal.returns-then-chains_before-clause-turn
returns-then-chains_before-clause-turn g c =
    turn_behind _ _ _ c.in_ok-second.second c.requires.list c.requires.comes
    (omega (arith, c.if-chains_before.ensures, c.requires.room))
    (omega (
      arith,
      c.if-chains_before.ensures,
      c.requires.room,
      c.requires.pages,
    )) c.in_ok-second.ensures.value c.in_ok-second.ensures.fault

pub returns-clause-turn : goal.returns-clause-turn
returns-clause-turn g c = turn_here _ _ _ c.requires.list c.requires.comes (omega (arith, c.requires.pages))
    (λ e. omega (arith, c.if-chains_before.ensures, c.requires.room, c.requires.pages))
