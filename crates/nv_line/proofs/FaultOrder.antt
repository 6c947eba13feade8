-- The order of a line's faults.
use Rattle.std.proofs.Common.{◌≡◌, ◌≤◌, ◌∙◌, ◌⊎◌, ℕ, ap, arith, refl, subst, sym, inl, inr, true, false, nat_lt}
use Rattle.std.proofs.Common.{length, List, Ok, Err, Result}
use Rattle.std.specs.Str.{IsUtf8, is_utf8}
use Rattle.std.proofs.lemmas.Bool.{false_from_ne_true}
use Rattle.std.proofs.lemmas.Str.{IsUtf8-from_is_utf8, is_utf8-from_IsUtf8}
use Rattle.clap.specs.Words.{Text}
use Rattle.std.specs.Option.{ok_or}
use Rattle.std.specs.Prelude.{None, Option, Some}
use Rattle.nv_line.specs.Line.{NeedsNoMemory, begun, reading, reading_from}
use Rattle.nv_line.specs.Verb.{verb_in}
use Rattle.nv_line.specs.declared.verb.Verb.{Verb}
use Rattle.nv_layout.specs.Steps.{◌>>=◌}
use Rattle.nv_layout.specs.UnlessMemory.{IsUnlessMemory}
use Rattle.nv_line.specs.Request.{request_of}
use Rattle.nv_line.specs.Word.{is_skipped, without_nvme, words_of}
use Rattle.nv_line.specs.declared.fault.LineFault.{LineFault}
use Rattle.nv_line.specs.declared.fault.LineFault.TheVariants as fault
use Rattle.nv_line.specs.declared.line.Line.{Line}
use Rattle.nv_line.specs.declared.line.Line.TheVariants as line
use Rattle.nv_line.specs.Word.{line_limit}
use Rattle.nv_line.specs.declared.request.Request.{Request}

-- what is found first of one that is UTF-8
abbrev pub found_by : Option Verb → Result (Option Verb) LineFault
found_by verb = ok_or verb fault.Usage >>= λ v. Ok (Some v)

-- what was found first, if it isn't a command, is what the line means
found : (text : Text) (controllers : ℕ) (first : Result (Option Verb) LineFault) → begun text ≡ first
    → reading text controllers ≡ (first >>= reading_from text controllers)
found text controllers first is = ap (λ r. r >>= reading_from text controllers) is

-- a line within the limit that isn't skipped and isn't UTF-8 has the fault NotText
pub no_text : (text : Text) (controllers : ℕ) → length text ≤ line_limit → is_skipped text ≡ false → (IsUtf8 text → ⊥)
    → reading text controllers ≡ Err fault.NotText
no_text text controllers short busy bad =
    let utf8 : is_utf8 text ≡ false = false_from_ne_true _ (λ t. bad (IsUtf8-from_is_utf8 text t)) in
    let long : nat_lt line_limit (length text) ≡ false = grind arith in
    found text controllers (Err fault.NotText) (rw (long, busy, utf8) refl)

-- the meaning of a line, by its request
abbrev pub said_by : Result Request LineFault → Result Line LineFault
said_by answer = answer >>= λ request. Ok (line.Request request)

-- such a line that is UTF-8
module _ (line text : Text) (o : Option Verb) (short : length line ≤ line_limit) (busy : is_skipped line ≡ false)
    (good : (text ≡ line) × IsUtf8 line) (is : o ≡ verb_in (without_nvme (words_of text))) where
  -- what is found first of it is the command of the text, or Usage
  some_text : begun line ≡ found_by o
  some_text =
      let utf8 : is_utf8 line ≡ true = is_utf8-from_IsUtf8 line good.1 in
      let long : nat_lt line_limit (length line) ≡ false = grind arith in
      let verb : verb_in (without_nvme (words_of line)) ≡ o =
      sym (is ∙ ap (λ t. verb_in (without_nvme (words_of t))) good.0) in
      rw (long, busy, utf8) (ap found_by verb)

  -- if it has no command, its fault is Usage
  pub no_command : (controllers : ℕ) → o ≡ None → reading line controllers ≡ Err fault.Usage
  no_command controllers none = found line controllers (Err fault.Usage) (some_text ∙ ap found_by none)

  -- if it has a command, it needs memory
  pub needs_memory : (verb : Verb) (P : Type 0) → o ≡ Some verb → NeedsNoMemory (begun line) → P
  needs_memory verb P command none = absurd (subst NeedsNoMemory (some_text ∙ ap found_by command) none)

  -- a result that is right for the request of its words is right for it
  pub answer_at : (controllers : ℕ) (verb : Verb) (words : List Text) (r : Result Line LineFault) → o ≡ Some verb
      → words ≡ without_nvme (words_of line)
      → IsUnlessMemory fault.Memory (λ l. l) r (said_by (request_of controllers verb words))
      → IsUnlessMemory fault.Memory (λ l. l) r (reading line controllers)
  answer_at controllers verb words r command same =
      subst (IsUnlessMemory fault.Memory (λ (l : Line). l) r)
      (ap (λ ws. said_by (request_of controllers verb ws)) same
      ∙ sym (found line controllers _ (some_text ∙ ap found_by command)))

-- lack of memory or the fault of a request is also what the line returns
pub handed_up : (answer : Result Request LineFault) (e : LineFault) → (e ≡ fault.Memory) ⊎ (answer ≡ Err e)
    → (e ≡ fault.Memory) ⊎ (said_by answer ≡ Err e)
handed_up answer e (inl m) = inl m
handed_up answer e (inr is) = inr (ap said_by is)
