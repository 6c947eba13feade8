-- What clap's contract says about each command.
use Rattle.std.proofs.Common.{◌≡◌, ◌⊎◌, ◌∙◌, ap, ap₂, refl, subst, sym, inl, inr, rules, true, false, Bool, List}
use Rattle.std.proofs.Common.{[], ◌∷◌, ◌++◌, All, Ok, Err, drop, if◌then◌else◌}
use Rattle.std.proofs.lemmas.List.Elements.{All-push}
use Rattle.clap.proofs.WalkLemmas.{both}
use Rattle.clap.specs.Faults.{built_fault}
use Rattle.clap.specs.Simple.{names_of}
use Rattle.clap.specs.Walk.{is_empty, nothing_held, rows_after}
use Rattle.clap.specs.declared.builder.command.Command.{Command}
use Rattle.clap.specs.Words.{App, BuildsOrBreaks, IsAmong, Kinds, Row, Text, app_of, built, fault_of, is_broken}
use Rattle.clap.specs.Words.{is_buildable, is_simple, is_simple_and_free, matches_of}
use Rattle.clap.specs.declared.error.kind.ErrorKind.{ErrorKind}
use Rattle.clap.specs.declared.error.kind.ErrorKind.TheVariants as kind
use Rattle.nv_line.specs.ClapRule.{IsAppOf, IsMade, app_for, clap_rows, is_taken, rows_of_words}
use Rattle.nv_line.specs.declared.clap_rule.MadeCommand.{MadeCommand}
use Rattle.nv_line.specs.declared.fault.LineFault.TheVariants as fault
use Rattle.nv_line.specs.declared.verb.Verb.{Verb}
use Rattle.nv_line.specs.declared.verb.Verb.TheVariants.{Of}
use Rattle.nv_line.specs.declared.verb.DeviceVerb.TheVariants.{IdCtrl}

-- an application that clap builds at its first use, and uses unchanged at each later one
record IsReusable (p : App) : Type 0 where
  simple : is_simple_and_free p ≡ true
  still : is_simple_and_free (built p) ≡ true
  once : (built p).top.is_built ≡ true
  words : (built p).top.no_binary_name ≡ p.top.no_binary_name

-- each command's application is reusable, by computation
each_is_reusable : (v : Verb) → IsReusable (app_for v)
each_is_reusable (Of IdCtrl) = record { simple = refl; still = refl; once = refl; words = refl }
each_is_reusable v = record { simple = refl; still = refl; once = refl; words = refl }

-- an application that gives the same answers as p
pub record AnswersAs (p a : App) : Type 0 where
  pub simple : is_simple_and_free a ≡ true
  pub faults : (ws : List Text) → fault_of a ws ≡ fault_of p ws
  pub matches : (ws : List Text) → matches_of a ws ≡ matches_of p ws
  pub built_as : built a ≡ built p

-- an application that is simple, without a rule of one argument on another, gives the same answers as itself
answers_itself : (p : App) → is_simple_and_free p ≡ true → AnswersAs p p
answers_itself p simple = record {
  simple = simple;
  faults = λ ws. refl;
  matches = λ ws. refl;
  built_as = refl;
}

-- an application that is built changes no more when it is built again
built_again : (p : App) → (built p).top.is_built ≡ true → built (built p) ≡ built p
built_again p h = rw h refl

-- a reusable application gives the same answers when it is built
answers_built : (p : App) → IsReusable p → AnswersAs p (built p)
answers_built p reusable =
    let again = built_again p reusable.once in
    let words = λ (ws : List Text). ap (λ (n : Bool). if n then ws else drop 1 ws) reusable.words in
    record {
      simple = reusable.still;
      faults = λ ws. ap₂ (λ (a : App) (w : List Text). built_fault a nothing_held w) again (words ws);
      matches = λ ws. ap₂ (λ (a : App) (w : List Text). rows_after a.top.rules (names_of a) w) again (words ws);
      built_as = again;
    }

-- every application of a command word gives the same answers as the word's own
pub answers_as : (v : Verb) (a : App) → IsAppOf v a → AnswersAs (app_for v) a
answers_as v a (inl e) =
    subst (AnswersAs (app_for v)) (sym e) (answers_itself (app_for v) (each_is_reusable v).simple)
answers_as v a (inr e) = subst (AnswersAs (app_for v)) (sym e) (answers_built (app_for v) (each_is_reusable v))

-- every application of a command word is simple, and no argument of it has a rule on another
pub simple_as : (v : Verb) (a : App) → IsAppOf v a → is_simple_and_free a ≡ true
simple_as v a e = (answers_as v a e).simple

-- every application of a command word is simple
pub matches_as : (v : Verb) (a : App) → IsAppOf v a → is_simple a ≡ true
matches_as v a e = (both _ _ (simple_as v a e)).0

-- every application of a command word can be built
buildable_as : (v : Verb) (a : App) → IsAppOf v a → is_buildable a ≡ true
buildable_as v a e = (both _ _ (matches_as v a e)).0

-- a command whose application is its word's keeps it when it is built, unless it breaks
pub stays_made : (v : Verb) (old new : Command) → IsAppOf v (app_of old) → BuildsOrBreaks old new
    → (is_broken new ≡ true) ⊎ IsAppOf v (app_of new)
stays_made v old new e (inl broken) = inl broken
stays_made v old new e (inr (builds, keeps, inl same)) = inr (subst (IsAppOf v) (sym same) e)
stays_made v old new e (inr (builds, keeps, inr grows)) =
    inr (inr (grows (buildable_as v (app_of old) e) ∙ (answers_as v (app_of old) e).built_as))

-- a list of no kinds of error is empty
none_taken : (ks : Kinds) → ks ≡ [] → is_empty ks ≡ true
none_taken ks e = ap (λ (x : Kinds). is_empty x) e

-- a list with a kind of error isn't empty
among_taken : (k : ErrorKind) (ks : Kinds) → IsAmong k ks → is_empty ks ≡ false
among_taken k [] h = absurd h
among_taken k (x ∷ xs) h = search rules

-- words in which an application finds no fault have none for an equal one, which finds the same rows
pub without_fault : (p a : App) (ws : List Text) (rows : List Row) → a ≡ p → fault_of a ws ≡ []
    → rows ≡ matches_of a ws → (is_empty (fault_of p ws) ≡ true) × (rows ≡ matches_of p ws)
without_fault p a ws rows e f r = (
  none_taken _ (ap (λ (x : App). fault_of x ws) (sym e) ∙ f),
  r ∙ ap (λ (x : App). matches_of x ws) e,
)

-- words in which an application finds a fault have one for an equal application
pub with_fault : (p a : App) (ws : List Text) (k : ErrorKind) → a ≡ p → IsAmong k (fault_of a ws)
    → is_empty (fault_of p ws) ≡ false
with_fault p a ws k e among = ap (λ (x : App). is_empty (fault_of x ws)) (sym e) ∙ among_taken k _ among

-- if clap finds no fault in the words, their rows are what it finds
taken_rows : (v : Verb) (ws : List Text) → is_taken v ws ≡ true → rows_of_words v ws ≡ Ok (clap_rows v ws)
taken_rows v ws h = rw h refl

-- if clap finds a fault in the words, that is a usage error
refused_rows : (v : Verb) (ws : List Text) → is_taken v ws ≡ false → rows_of_words v ws ≡ Err fault.Usage
refused_rows v ws h = rw h refl

-- what an application of a command word finds without a fault are the rows of the words
pub taken : (v : Verb) (ws : List Text) (a : App) (rows : List Row) → IsAppOf v a
    → fault_of a ws ≡ [] → rows ≡ matches_of a ws → rows_of_words v ws ≡ Ok rows
unfolding is_taken clap_rows
taken v ws a rows e f r =
    let same = answers_as v a e in
    let found = without_fault (app_for v) (app_for v) ws rows refl (sym (same.faults ws) ∙ f)
    (r ∙ same.matches ws) in
    taken_rows v ws found.0 ∙ ap Ok (sym found.1)

-- an error of such an application other than lack of memory is a usage error
pub refused : (v : Verb) (ws : List Text) (a : App) (k : ErrorKind) → IsAppOf v a
    → (k ≡ kind.OutOfMemory) ⊎ IsAmong k (fault_of a ws) → (k ≡ kind.OutOfMemory → ⊥)
    → rows_of_words v ws ≡ Err fault.Usage
unfolding is_taken
refused v ws a k e (inl m) n = absurd (n m)
refused v ws a k e (inr among) n =
    let is_fault = subst (IsAmong k) ((answers_as v a e).faults ws) among in
    refused_rows v ws (with_fault (app_for v) (app_for v) ws k refl is_fault)

-- commands that were made, and one more that was made, are all made
pub made_more : (xs : List MadeCommand) (x : MadeCommand) → All IsMade xs → IsMade x → All IsMade (xs ++ x ∷ [])
made_more xs x h m = All-push IsMade xs x h m
