-- The results for the bytes of a file.
use Rattle.std.proofs.Common.{◌≡◌, ◌⊎◌, ◌∙◌, ℕ, ◌+◌, ◌<◌, ◌≤◌, List, [], ◌++◌, length, take, drop}
use Rattle.std.proofs.Common.{ap, subst, sym, arith}
use Rattle.std.proofs.Common.{append-nil, inl, inr, length-append, length-take, refl, take-append-drop}
use Rattle.std.proofs.Common.{Option, None, Some, IfSome, Result, Ok, Err}
use Rattle.std.proofs.lemmas.List.{drop_all}
use Rattle.std.specs.Option.{option_map}
use Rattle.std.specs.Io.Take.{take_inner, take_limit, take_remaining}
use Rattle.std.specs.declared.io.ErrorKind.{ErrorKind}
use Rattle.std.specs.declared.io.traits.Take.{Take}
use Rattle.nv_file.specs.declared.error.SubsystemError.{SubsystemError}
use Rattle.nv_file.specs.declared.error.SubsystemError.TheVariants as error
use Rattle.nv_model.specs.State.{State}
use Rattle.nv_program.specs.Asked.{IsSubsystemOf, most_bytes}
use Rattle.nv_program.specs.Stops.{of_file}
use Rattle.nv_program.specs.declared.stop.Stop.TheVariants as stop
use Rattle.nv_subsystem.specs.FromFile.{subsystem}

-- ---- reading a file

-- these are the first bytes of a file, if its bytes are known, and all of them if they are fewer than `most`
abbrev pub AreFirst : ℕ → Option (List ℕ) → List ℕ → Type 0
AreFirst most chosen bytes =
    (rest : List ℕ) × IfSome chosen (λ known. known ≡ bytes ++ rest) × (length bytes < most → rest ≡ [])

-- the bytes that came when at most `most` were asked for are the first ones
first_came : (most : ℕ) (chosen : Option (List ℕ)) (start bytes : List ℕ) → start ≡ []
    → IfSome (option_map (take most) chosen) (λ came. bytes ≡ start ++ came) → AreFirst most chosen bytes
first_came most None start bytes none came = ([], tt, λ few. refl)
first_came most (Some all) start bytes none came =
    let is : bytes ≡ take most all = came ∙ ap (λ s. s ++ take most all) none in (
      drop most all,
      sym (take-append-drop most all) ∙ ap (λ x. x ++ drop most all) (sym is),
      λ few. drop_all most all (omega (arith, few, length-take most all, ap (λ (x : List ℕ). length x) is)),
    )

-- so are those that were read of a file to which a limit was set
pub first_read : {F : Type 0} (remaining : F → Option (List ℕ)) (file : F) (limited : Take F) (most : ℕ)
    (start bytes : List ℕ) → take_limit limited ≡ most → take_inner limited ≡ file → start ≡ []
    → IfSome (take_remaining remaining limited) (λ came. bytes ≡ start ++ came) → AreFirst most (remaining file) bytes
first_read {F} remaining file limited most start bytes limit inner none came =
    let P : List ℕ → Type 0 = λ xs. bytes ≡ start ++ xs in
    first_came most (remaining file) start bytes none
    (subst (λ (f : F). IfSome (option_map (take most) (remaining f)) P) inner
    (subst (λ (n : ℕ). IfSome (option_map (take n) (remaining (take_inner limited))) P) limit came))

-- ---- the result

module _ (had : List ℕ → Type 0) (failed : ErrorKind → Type 0) (bytes rest : List ℕ) (is : had (bytes ++ rest)) where
  -- a file of which more than most_bytes bytes came can't be read
  pub long_of : most_bytes < length bytes → IsSubsystemOf had failed (Err stop.Unreadable)
  long_of more = inl (bytes ++ rest, is, omega (arith, more, length-append bytes rest))

  module _ (end : length bytes < most_bytes + 1 → rest ≡ []) (few : length bytes ≤ most_bytes) where
    -- what holds of the bytes that came holds of the file
    whole : (P : List ℕ → Type 0) → P bytes → (file : List ℕ) × had file × (length file ≤ most_bytes) × P file
    whole P holds =
        let same : bytes ++ rest ≡ bytes = ap (λ r. bytes ++ r) (end (omega (arith, few))) ∙ append-nil bytes in
        (bytes ++ rest, is, subst (λ x. length x ≤ most_bytes) (sym same) few, subst P (sym same) holds)

    -- the subsystem of the bytes that came is that of the file
    pub given_of : (s : State) → subsystem bytes ≡ Ok s → IsSubsystemOf had failed (Ok s)
    given_of s gives = whole (λ x. subsystem x ≡ Ok s) gives

    -- so is a refusal of these bytes, unless memory ran out
    pub refused_of : (e : SubsystemError) → (e ≡ error.Memory) ⊎ (subsystem bytes ≡ Err e)
        → IsSubsystemOf had failed (Err (of_file e))
    refused_of e (inl memory) = subst (λ x. IsSubsystemOf had failed (Err (of_file x))) (sym memory) tt
    refused_of error.Memory (inr gives) = tt
    refused_of e (inr gives) = whole (λ x. subsystem x ≡ Err e) gives
