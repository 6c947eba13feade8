-- The rest of a text after a prefix, and the device of a path by that rest.
use Rattle.std.proofs.Common.{◌≡◌, ◌∙◌, ◌++◌, ℕ, ap, refl, sym, take, drop, length, true, false, List, Option}
use Rattle.std.proofs.Common.{Some, None, option_and_then, option_map, Bor, MatchOption}
use Rattle.std.proofs.Common.{◌<◌, arith, codes, nat_lt}
use Rattle.std.specs.List.{after_first, before_first, position_or_len}
use Rattle.std.proofs.lemmas.Bool.{false_from_ne_true}
use Rattle.std.specs.Str.{bytes_eq}
use Rattle.std.specs.Str.Pattern.{FindsTextPrefix, StripsPrefix}
use Rattle.std.proofs.lemmas.Slice.Eq.{bytes_eq-Decides}
use Rattle.std.proofs.lemmas.List.{take-append-drop}
use Rattle.std.proofs.Math.Seq.{take-append_seam}
use Rattle.nv_line.specs.Device.{address_of, controller_index, device_of, is_n, namespace_address, nsid_of, strip}
use Rattle.nv_line.specs.declared.device.Device.{Device}

-- what stripping a prefix from a text returns is strip of the two
pub strip_is : (p s : List ℕ) (r : Option (Bor (List ℕ)))
    → MatchOption r (FindsTextPrefix p s None) (λ x. StripsPrefix (FindsTextPrefix p) s x.now)
    → option_map (λ x. x.now) r ≡ strip p s
unfolding strip
strip_is p s None h =
    let other : bytes_eq (take (length p) s) p ≡ false =
    false_from_ne_true _ (λ yes. h (drop (length p) s) (sym (take-append-drop (length p) s)
    ∙ ap (λ t. t ++ drop (length p) s) ((bytes_eq-Decides (take (length p) s) p).0 yes))) in
    rw other refl
strip_is p s (Some x) (k, found, is, len) =
    let front : take (length p) s ≡ p = ap (take (length p)) found.1 ∙ take-append_seam p (drop k s) in
    let same : bytes_eq (take (length p) s) p ≡ true = (bytes_eq-Decides (take (length p) s) p).1 front in
    rw same (ap Some (is ∙ ap (λ n. drop n s) found.0))

-- ---- the device of a path

-- how the path of a device begins
abbrev pub stem : List ℕ
stem = codes "/dev/nvme"

-- a path names a device by its rest after the stem, and none if it doesn't begin with the stem
pub device_at : (controllers : ℕ) (text : List ℕ) (address r : Option (Bor (List ℕ)))
    → MatchOption r (FindsTextPrefix stem text None) (λ x. StripsPrefix (FindsTextPrefix stem) text x.now)
    → r ≡ address
    → option_and_then (address_of controllers) (option_map (λ x. x.now) address) ≡ device_of controllers text
device_at controllers text address r h e = ap (option_and_then (address_of controllers))
    (ap (option_map (λ x. x.now)) (sym e) ∙ strip_is stem text r h)

-- an address with the letter n is controller X before it and NSID Y after it
pub with_n : (controllers : ℕ) (address x y : List ℕ)
    → (x ≡ before_first is_n address) × (y ≡ after_first is_n address)
    × (position_or_len is_n address < length address)
    → option_and_then (namespace_address y) (controller_index controllers x) ≡ address_of controllers address
with_n controllers address x y split =
    let some : nat_lt (position_or_len is_n address) (length address) ≡ true = grind (arith, split.2) in
    rw (split.0, split.1, some) refl

-- an address without the letter n is controller X
pub without_n : (controllers : ℕ) (address : List ℕ) → position_or_len is_n address ≡ length address
    → option_map (λ (x : ℕ). record { controller = x; nsid = None }) (controller_index controllers address)
    ≡ address_of controllers address
without_n controllers address h =
    let none : nat_lt (position_or_len is_n address) (length address) ≡ false = grind (arith, h) in
    rw none refl

-- the device of a controller
abbrev pub at_controller : Option ℕ → ℕ → Device
at_controller nsid controller = record { controller = controller; nsid = nsid }

-- an address with an NSID is the namespace with that NSID of the controller
pub named : (y : List ℕ) (controller n : ℕ) (nsid : Option ℕ) → nsid ≡ Some n → nsid_of y ≡ Some n
    → Some (at_controller nsid controller) ≡ namespace_address y controller
named y controller n nsid e is =
    ap (λ (o : Option ℕ). Some (at_controller o controller)) e
    ∙ ap (option_map (λ (m : ℕ). at_controller (Some m) controller)) (sym is)

-- an address whose NSID isn't one is no namespace
pub no_name : (y : List ℕ) (controller : Option ℕ) → nsid_of y ≡ None
    → None ≡ option_and_then (namespace_address y) controller
no_name y None e = refl
no_name y (Some controller) e = ap (option_map (λ (m : ℕ). at_controller (Some m) controller)) (sym e)
