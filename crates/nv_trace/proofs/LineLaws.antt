-- Lines that get longer.
use Rattle.std.proofs.Common.{◌≡◌, ◌∙◌, ℕ, ◌+◌, ◌-◌, ◌<◌, ◌≤◌, List, [], ◌∷◌, ◌++◌, append_assoc, append-nil}
use Rattle.std.proofs.Common.{ap, arith, drop, length, min, refl, set, subst, suc, sym, take, zero}
use Rattle.std.proofs.Common.{◌≢◌, Bool, codes, false, true}
use Rattle.std.proofs.Math.Seq.{take-append-add}
use Rattle.std.proofs.lemmas.List.{length-take, length-take-le, same_lists, set_split, places, take_all}
use Rattle.std.proofs.lemmas.Slice.{take-put_mid}
use Rattle.std.specs.List.{FoldsTo, concat}
use Rattle.std.specs.Prelude.{◌==◌, if◌then◌else◌}
use Rattle.nv_trace.specs.Lines.{field_text, hex}
use borrow.Rule.Slice.PartMut.{put_mid}

-- the first n + k elements of n elements and others after them are the n elements and k of the others
first_of : (xs ys : List ℕ) (n k : ℕ) → n ≤ length xs → take (n + k) (take n xs ++ ys) ≡ take n xs ++ take k ys
first_of xs ys n k inside =
    ap (λ m. take (m + k) (take n xs ++ ys)) (sym (length-take-le n xs inside)) ∙ take-append-add (take n xs) ys k

-- the first n + 1 elements with x written at n are the first n elements and x
pub ends : (xs : List ℕ) (n x : ℕ) → n < length xs → take (n + 1) (set xs n x) ≡ take n xs ++ x ∷ []
ends xs n x inside =
    ap (λ zs. take (n + 1) zs) (set_split xs n x inside) ∙ first_of xs (x ∷ drop (suc n) xs) n 1 (omega arith)

-- as many elements as a list has, up to k, are its first k elements
take_least : (ys : List ℕ) (k : ℕ) → take (min (length ys) k) ys ≡ take k ys
take_least ys k = same_lists _ _ (simp (length-take) (omega arith)) (λ i d h. grind (arith, places))

-- a line with the first k bytes of a text written at n is the line and the text, cut to 319 bytes
pub longer : (xs ys : List ℕ) (n k : ℕ) → n ≤ 319 → length xs ≡ 320 → k ≡ min (length ys) (319 - n)
    → take (n + k) (put_mid n (n + k - n) xs (take k ys)) ≡ take 319 (take n xs ++ ys)
longer xs ys n k few long is =
    let size : length (take k ys) ≡ k = length-take-le k ys (omega arith) in
    take-put_mid n (n + k - n) xs (take k ys) (n + k) (omega arith) (omega arith)
    ∙ ap (λ zs. take n xs ++ zs) (ap (λ m. take m ys) is ∙ take_least ys (319 - n))
    ∙ sym (first_of xs ys n (319 - n) (omega arith))
    ∙ ap (λ m. take m (take n xs ++ ys)) {y = 319} (omega arith)

-- ---- a text in several parts

-- cutting before a text is added, and after it, is cutting after it
first_of_both : (n : ℕ) (xs ys : List ℕ) → take n (take n xs ++ ys) ≡ take n (xs ++ ys)
first_of_both zero xs ys = refl
first_of_both (suc n) [] ys = refl
first_of_both (suc n) (x ∷ xs) ys = ap (λ l. x ∷ l) (first_of_both n xs ys)

-- what a line is after one more part
abbrev pub Took : ℕ → List ℕ → List ℕ → List ℕ → Type 0
Took n line part longer = longer ≡ take n (line ++ part)

-- a cut line to which each of several parts was added is the line and all parts, cut to n bytes
all_parts : (n : ℕ) (line : List ℕ) (parts : List (List ℕ)) (last : List ℕ)
    → FoldsTo (Took n) (take n line) parts last → last ≡ take n (line ++ concat parts)
all_parts n line [] last same = sym same ∙ ap (λ l. take n l) (sym (append-nil line))
all_parts n line (part ∷ parts) last h =
    let is : h.0 ≡ take n (line ++ part) = h.1 ∙ first_of_both n line part in
    all_parts n (line ++ part) parts last (subst (λ l. FoldsTo (Took n) l parts last) is h.2)
    ∙ ap (λ l. take n l) (append_assoc line part (concat parts))

-- several parts as one text
abbrev pub joined : List (List ℕ) → List ℕ
joined [] = []
joined (part ∷ []) = part
joined (part ∷ other ∷ parts) = part ++ joined (other ∷ parts)

joined_all : (parts : List (List ℕ)) → concat parts ≡ joined parts
joined_all [] = refl
joined_all (part ∷ []) = append-nil part
joined_all (part ∷ other ∷ parts) = ap (λ l. part ++ l) (joined_all (other ∷ parts))

-- each of several parts was added to a line, which is cut to n bytes
pub record Added (n : ℕ) (line : List ℕ) (parts : List (List ℕ)) (last : List ℕ) : Type 0 where
  pub each : FoldsTo (Took n) line parts last

-- nothing was added
pub as_was : {n : ℕ} {line : List ℕ} → Added n line [] line
as_was = record { each = refl }

-- one part was added, and then others
pub added : {n : ℕ} {line part last : List ℕ} {parts : List (List ℕ)} (mid : List ℕ) → mid ≡ take n (line ++ part)
    → Added n mid parts last → Added n line (part ∷ parts) last
added mid one others = record { each = (mid, one, others.each) }

-- a line to which several parts were added is the line and all parts, cut to n bytes
pub more_parts : (n : ℕ) (line part : List ℕ) (parts : List (List ℕ)) (last : List ℕ)
    → Added n line (part ∷ parts) last → last ≡ take n (line ++ joined (part ∷ parts))
more_parts n line part parts last all =
    all_parts n (line ++ part) parts last (subst (λ l. FoldsTo (Took n) l parts last) all.each.1 all.each.2)
    ∙ ap (λ l. take n l) (append_assoc line part (concat parts))
    ∙ ap (λ l. take n (line ++ l)) (joined_all (part ∷ parts))

-- the same of a line that was empty
pub whole_line : (n : ℕ) (line part : List ℕ) (parts : List (List ℕ)) (last : List ℕ) → line ≡ []
    → Added n line (part ∷ parts) last → last ≡ take n (joined (part ∷ parts))
whole_line n line part parts last none all =
    more_parts n line part parts last all ∙ ap (λ l. take n (l ++ joined (part ∷ parts))) none

-- a line to which an equal text, number or field is added
pub said : (line : List ℕ) {text text' : List ℕ} → text ≡ text' → take 319 (line ++ text) ≡ take 319 (line ++ text')
said line same = ap (λ l. take 319 (line ++ l)) same

pub hexed : (line : List ℕ) {n n' : ℕ} → n ≡ n' → take 319 (line ++ hex n) ≡ take 319 (line ++ hex n')
hexed line same = ap (λ n. take 319 (line ++ hex n)) same

pub fielded : (line name : List ℕ) {n n' : ℕ} → n ≡ n'
    → take 319 (line ++ field_text name n) ≡ take 319 (line ++ field_text name n')
fielded line name same = ap (λ n. take 319 (line ++ field_text name n)) same

-- a line that was cut has at most n bytes
pub cut_short : (n : ℕ) (text line : List ℕ) → line ≡ take n text → length line ≤ n
cut_short n text line is = omega (arith, ap length is, length-take n text)

-- ---- fields

field_by : (b : Bool) (xs ys : List ℕ) (t : Bool) → b ≡ t → (if b then xs else ys) ≡ (if t then xs else ys)
field_by b xs ys t is = ap (λ x. if x then xs else ys) is

-- a field that is 0 is left out
pub no_field : (line name : List ℕ) (value : ℕ) → length line ≤ 319 → value ≡ 0
    → line ≡ take 319 (line ++ field_text name value)
no_field line name value short none =
    sym (take_all 319 line short) ∙ ap (λ l. take 319 l) (sym (append-nil line))
    ∙ ap (λ l. take 319 (line ++ l))
    (sym (field_by (value == 0) [] (codes " " ++ (name ++ (codes "=0x" ++ hex value))) true (grind (arith, none))))

-- any other field has its name and its value
pub a_field : (name : List ℕ) (value : ℕ) → value ≢ 0
    → codes " " ++ (name ++ (codes "=0x" ++ hex value)) ≡ field_text name value
a_field name value some =
    sym (field_by (value == 0) [] (codes " " ++ (name ++ (codes "=0x" ++ hex value))) false (grind (arith, some)))
