-- What clap's contract says about the program.
use Rattle.std.proofs.Common.{◌≡◌, ◌⊎◌, ◌∙◌, ap, refl, sym, inl, inr, true, false, List, [], Ok, Err}
use Rattle.clap.proofs.WalkLemmas.{both}
use Rattle.clap.specs.Words.{App, IsAmong, Row, Text, fault_of, is_simple, is_simple_and_free, matches_of}
use Rattle.clap.specs.declared.error.kind.ErrorKind.{ErrorKind}
use Rattle.clap.specs.declared.error.kind.ErrorKind.TheVariants as kind
use Rattle.nv_line.proofs.ClapRules.{with_fault, without_fault}
use Rattle.nv_arguments.specs.ClapRule.{clap_rows, is_taken, program, rows_of_words}
use Rattle.nv_arguments.specs.declared.fault.ArgumentsFault.TheVariants as fault

-- the program's application is simple, and no argument of it has a rule on another
pub is_simple_as : (a : App) → a ≡ program → is_simple_and_free a ≡ true
is_simple_as a e = ap is_simple_and_free e

-- the program's application is simple
pub matches_as : (a : App) → a ≡ program → is_simple a ≡ true
matches_as a e = (both _ _ (is_simple_as a e)).0

-- if clap finds no fault in the words, their rows are what it finds
taken_rows : (ws : List Text) → is_taken ws ≡ true → rows_of_words ws ≡ Ok (clap_rows ws)
taken_rows ws h = rw h refl

-- if clap finds a fault in the words, they are refused
refused_rows : (ws : List Text) → is_taken ws ≡ false → rows_of_words ws ≡ Err fault.Refused
refused_rows ws h = rw h refl

-- what clap finds without a fault in the program's words are the rows of the words
pub taken : (ws : List Text) (a : App) (rows : List Row) → a ≡ program
    → fault_of a ws ≡ [] → rows ≡ matches_of a ws → rows_of_words ws ≡ Ok rows
unfolding is_taken clap_rows
taken ws a rows e f r =
    let found = without_fault program a ws rows e f r in
    taken_rows ws found.0 ∙ ap Ok (sym found.1)

-- an error of clap other than lack of memory means that the words are refused
pub refused : (ws : List Text) (a : App) (k : ErrorKind) → a ≡ program
    → (k ≡ kind.OutOfMemory) ⊎ IsAmong k (fault_of a ws) → (k ≡ kind.OutOfMemory → ⊥)
    → rows_of_words ws ≡ Err fault.Refused
unfolding is_taken
refused ws a k e (inl m) n = absurd (n m)
refused ws a k e (inr among) n = refused_rows ws (with_fault program a ws k e among)
