use Rattle.nv_driver.proofs.Words.{◌≡◌, Cqe, IsSlotBetween, refl, subst, sym}
use Rattle.std.specs.Prelude.{IfSome, OnSome, Option, Some}
use Rattle.nv_driver.proofs.SubmittingLaws.{pairs_same}
use Rattle.nv_driver.proofs.queue_pair.QueuePair.next_completion.Goals as goal

is_awaited : {found : Option Cqe} {q c : Cqe} → found ≡ Some q → IfSome found (λ x. x ≡ c) → q ≡ c
is_awaited {c = c} some value = subst (λ (o : Option Cqe). IfSome o (λ x. x ≡ c)) some value

in_some : {X : Type 0} {P : Type 0} (o : Option X) (x : X) → o ≡ Some x → OnSome o P → P
in_some {P = P} o x is all = subst (λ q. OnSome q P) is all

pub unwrap-completion-requires : goal.unwrap-completion-requires
unwrap-completion-requires g c = c.poll.ensures.awaited.1 c.requires.awaited

pub freed-requires : goal.freed-requires
freed-requires g c =
    let ring = c.args.self.now.submission in
    subst (λ (q : Cqe). IsSlotBetween ring.depth ring.known ring.submitted q.sq_head)
    (sym (is_awaited c.unwrap-completion.ensures c.poll.ensures.value)) c.requires.freed

pub returns-clause-value : goal.returns-clause-value
returns-clause-value g c = is_awaited c.unwrap-completion.ensures c.poll.ensures.value

pub returns-clause-pair : goal.returns-clause-pair
returns-clause-pair g c =
    pairs_same c.freed.ensures (in_some _ _ c.unwrap-completion.ensures c.poll.ensures.collected) refl
