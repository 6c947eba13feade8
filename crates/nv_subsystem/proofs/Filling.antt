-- A list of copies of one element that is filled from its beginning.
use Rattle.std.proofs.Common.{◌≡◌, ℕ, suc, ◌+◌, ◌-◌, ◌<◌, ◌∙◌, sym, ap, refl, arith, List, [], ◌∷◌, ◌++◌, length, map}
use Rattle.std.proofs.Common.{take, set, get_or}
use Rattle.nv_subsystem.proofs.Words.{length-map, length-take-le, map-append, replicate, take_more}

-- the first copy after the elements is replaced by one more element
put_first : {Y : Type 0} (ys : List Y) (n : ℕ) (z y : Y)
    → set (ys ++ replicate (suc n) z) (length ys) y ≡ (ys ++ y ∷ []) ++ replicate n z
put_first [] n z y = refl
put_first (x ∷ ys) n z y = ap (λ t. x ∷ t) (put_first ys n z y)

-- after the next element was written, the list has one more mapped element before the copies
pub filled : {X Y : Type 0} (f : X → Y) (xs : List X) (i n : ℕ) (d : X) (z : Y) (ys : List Y)
    → i < length xs → i < n → ys ≡ map f (take i xs) ++ replicate (n - i) z
    → set ys i (f (get_or xs i d)) ≡ map f (take (i + 1) xs) ++ replicate (n - (i + 1)) z
filled f xs i n d z ys h k e =
    let front = map f (take i xs) in
    let len : length front ≡ i = length-map (take i xs) f ∙ length-take-le i xs (omega arith) in
    let room : n - i ≡ suc (n - (i + 1)) = omega arith in
    let more : map f (take (i + 1) xs) ≡ front ++ f (get_or xs i d) ∷ [] =
    ap (map f) (take_more xs i d h) ∙ map-append f (take i xs) (get_or xs i d ∷ []) in
    ap (λ t. set t i (f (get_or xs i d))) (e ∙ ap (λ m. front ++ replicate m z) room)
    ∙ ap (λ m. set (front ++ replicate (suc (n - (i + 1))) z) m (f (get_or xs i d))) (sym len)
    ∙ put_first front (n - (i + 1)) z (f (get_or xs i d))
    ∙ ap (λ t. t ++ replicate (n - (i + 1)) z) (sym more)
