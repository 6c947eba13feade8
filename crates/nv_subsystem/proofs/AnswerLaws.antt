-- What an answer, and what is told of it, say of the refusal and the reply.
use Rattle.std.proofs.Common.{◌≡◌, ℕ, Option, Some, None, Ok, Err, refl}
use Rattle.nv_command.specs.Reply.{dword0_of}
use Rattle.nv_subsystem.specs.Answer.{dword0_in}
use Rattle.nv_subsystem.proofs.Words.{answer_by, Refusal, Reply}

-- a command that is answered by a reply isn't refused
pub accepted_answer : (o : Option Refusal) (r x : Reply) → answer_by o r ≡ Ok x → (o ≡ None) × (r ≡ x)
accepted_answer None r x e = (refl, cc)
accepted_answer (Some y) r x e = absurd (cc e)

-- a command that is answered by a refusal is refused by it
pub refused_answer : (o : Option Refusal) (r : Reply) (x : Refusal) → answer_by o r ≡ Err x → o ≡ Some x
refused_answer None r x e = absurd (cc e)
refused_answer (Some y) r x e = cc

-- a command of which a number is told isn't refused, and the number is dword 0 of its reply
pub accepted_told : (o : Option Refusal) (r : Reply) (n : ℕ) → dword0_in (answer_by o r) ≡ Ok n
    → (o ≡ None) × (n ≡ dword0_of r)
accepted_told None r n e = (refl, cc)
accepted_told (Some x) r n e = absurd (cc e)

-- a command of which a refusal is told is refused by it
pub refused_told : (o : Option Refusal) (r : Reply) (x : Refusal) → dword0_in (answer_by o r) ≡ Err x
    → o ≡ Some x
refused_told None r x e = absurd (cc e)
refused_told (Some y) r x e = cc
