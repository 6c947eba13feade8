use Rattle.std.proofs.Common.{◌≡◌, ◌∙◌, ◌<◌, ℕ, List, All, Bor, ap, arith, get_or, inl, inr, length, map, slice_set}
use Rattle.std.proofs.Common.{subst, sym, true}
use Rattle.std.proofs.lemmas.List.{get_or-map, length-map}
use Rattle.std.proofs.lemmas.List.Elements.{All-get_or, All-set}
use Rattle.clap.specs.Words.{BuildsOrBreaks, is_broken}
use Rattle.clap.specs.declared.builder.command.Command.{Command}
use Rattle.nv_line.specs.ClapRule.{IsMade, rows_of_words}
use Rattle.nv_line.specs.declared.verb.Verb.{Verb}
use Rattle.nv_line.specs.declared.clap_rule.MadeCommand.{MadeCommand}
use Rattle.nv_line.proofs.ClapRules.{matches_as, refused, simple_as, stays_made, taken}
use Rattle.nv_line.proofs.clap_rule.MadeCommands.matches.Goals as goal

-- the index of a command word is that of one of the commands
inside : (items : List MadeCommand) (verbs : List Verb) (n : ℕ) → map (λ (x : MadeCommand). x.verb) items ≡ verbs
    → n < length verbs → n < length items
inside items verbs n e h = omega (arith, h, ap (λ vs. length vs) e, length-map {B = Verb} items)

-- and the command there is made
made_there : (items : List MadeCommand) (n : ℕ) (x : MadeCommand) → n < length items → x ≡ get_or items n x
    → All IsMade items → IsMade x
made_there items n x h e all = subst IsMade (sym e) (All-get_or IsMade items n x h all)

-- and is that of the word
verb_there : (items : List MadeCommand) (verbs : List Verb) (n : ℕ) (x : MadeCommand) (verb : Verb)
    → map (λ (y : MadeCommand). y.verb) items ≡ verbs → n < length items → x ≡ get_or items n x
    → get_or verbs n verb ≡ verb → x.verb ≡ verb
verb_there items verbs n x verb e h is found =
    ap (λ (y : MadeCommand). y.verb) is
    ∙ sym (get_or-map (λ (y : MadeCommand). y.verb) items n x verb h)
    ∙ ap (λ vs. get_or vs n verb) e ∙ found

-- after its use all commands are still made
all_made : (items : List MadeCommand) (verbs : List Verb) (n : ℕ) (x : MadeCommand) (new : Command)
    → map (λ (y : MadeCommand). y.verb) items ≡ verbs → n < length verbs → x ≡ get_or items n x
    → (is_broken x.command ≡ true → is_broken new ≡ true) → BuildsOrBreaks x.command new
    → All IsMade items → All IsMade (slice_set items n (record { verb = x.verb; command = new }))
all_made items verbs n x new e h is stays after all =
    All-set IsMade items n (record { verb = x.verb; command = new })
    (elim (made_there items n x (inside items verbs n e h) is all) [
      | inl broken ↦ inl (stays broken)
      | inr made ↦ stays_made x.verb x.command new made after
    ]) all

pub invariant_of-self : goal.invariant_of-self
invariant_of-self c =
    let s = c.try_get_matches_from_mut.ensures in
    all_made c.self.inside.made.items _ c.in_ok-index.index c.index_mut.result.now c.try_get_matches_from_mut.new.self
    c.self.view_is c.in_ok-index.ensures.index c.index_mut.ensures.value s.stays s.after c.self.invariant

pub returns-in-Ok : goal.returns-in-Ok
returns-in-Ok c =
    let items = c.self.inside.made.items in
    let x = c.index_mut.result.now in
    let within = inside items _ c.in_ok-index.index c.self.view_is c.in_ok-index.ensures.index in
    let verb = verb_there items _ c.in_ok-index.index x c.args.verb c.self.view_is within c.index_mut.ensures.value
    (c.in_ok-index.ensures.verb c.args.verb) in
    let s = c.in-Ok.ensures in
    let ws = map (λ (w : Bor (List ℕ)). w.now) c.args.words.now in
    ap (λ (v : Verb). rows_of_words v ws) (sym verb)
    ∙ elim (made_there items c.in_ok-index.index x within c.index_mut.ensures.value c.self.invariant) [
      | inl broken ↦ absurd (s.fails (s.stays broken))
      | inr made ↦ taken x.verb _ _ _ made (s.kinds (simple_as _ _ made)) (s.ok.2 (matches_as _ _ made)).0
    ]

pub invariant_of-self-in-OutOfMemory : goal.invariant_of-self-in-OutOfMemory
invariant_of-self-in-OutOfMemory c =
    let s = c.try_get_matches_from_mut.ensures in
    all_made c.self.inside.made.items _ c.in_ok-index.index c.index_mut.result.now c.try_get_matches_from_mut.new.self
    c.self.view_is c.in_ok-index.ensures.index c.index_mut.ensures.value s.stays s.after c.self.invariant

pub invariant_of-self-2 : goal.invariant_of-self-2
invariant_of-self-2 c =
    let s = c.try_get_matches_from_mut.ensures in
    all_made c.self.inside.made.items _ c.in_ok-index.index c.index_mut.result.now c.try_get_matches_from_mut.new.self
    c.self.view_is c.in_ok-index.ensures.index c.index_mut.ensures.value s.stays s.after c.self.invariant

pub returns : goal.returns
returns c =
    let items = c.self.inside.made.items in
    let x = c.index_mut.result.now in
    let within = inside items _ c.in_ok-index.index c.self.view_is c.in_ok-index.ensures.index in
    let verb = verb_there items _ c.in_ok-index.index x c.args.verb c.self.view_is within c.index_mut.ensures.value
    (c.in_ok-index.ensures.verb c.args.verb) in
    let s = c.in-Err.ensures in
    let k = c.kind.ensures in
    let ws = map (λ (w : Bor (List ℕ)). w.now) c.args.words.now in
    elim (made_there items c.in_ok-index.index x within c.index_mut.ensures.value c.self.invariant) [
      | inl broken ↦ absurd (c.in_default.not-OutOfMemory (k ∙ s.fails (s.stays broken)))
      | inr made ↦ inr (ap (λ (v : Verb). rows_of_words v ws) (sym verb)
          ∙ refused x.verb _ _ _ made (s.kinds (simple_as _ _ made)) (λ o. c.in_default.not-OutOfMemory (k ∙ o)))
    ]
