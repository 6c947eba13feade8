-- Whatever is accepted is shown.
use Rattle.std.specs.Prelude.{◌≡◌, ℕ, List, None, Ok, IsSome, flat_map, length, map}
use Rattle.std.specs.List.{range_with_len}
use Rattle.nv_bits.specs.Above.{above}
use Rattle.nv_line.specs.declared.request.Query.{Query}
use Rattle.nv_line.specs.declared.request.Query.TheVariants as query
use Rattle.nv_model.specs.Conditions.{active_nsids}
use Rattle.nv_model.specs.State.{State}
use Rattle.nv_print.specs.declared.device.ListedDevice.{ListedDevice}
use Rattle.nv_script.specs.Orders.{orders_of}
use Rattle.nv_script.specs.Outcomes.{outcome_of}
use Rattle.nv_script.specs.Shown.{listing_of, no_listing, shown_of}

-- a query shows something if none of its orders is refused
abbrev pub IsShown : State → List ℕ → Query → Type 0
IsShown s next_cids q =
    let o = outcome_of s next_cids (orders_of s q) in
    o.refusal ≡ None → IsSome (shown_of (orders_of s q) q o.replies)

-- the two numbers of a controller's namespace
abbrev pub device_numbers : ListedDevice → ℕ × ℕ
device_numbers d = (d.controller, d.nsid)

-- the namespaces that are attached to a controller
abbrev pub attached_numbers : State → ℕ → List (ℕ × ℕ)
attached_numbers s c = map (λ n. (c, n)) (above 0 (active_nsids s c))

-- `list` shows the namespaces of each controller in order, if none of its orders is refused
abbrev pub IsListed : State → List ℕ → Type 0
IsListed s next_cids =
    let o = outcome_of s next_cids (orders_of s query.List) in
    o.refusal ≡ None
    → map device_numbers (listing_of no_listing (orders_of s query.List) (map Ok o.replies)).devices
    ≡ flat_map (attached_numbers s) (range_with_len 0 (length s.controllers))

-- in every state
pub record EachIsShown : Type 0 where
  pub queries : (s : State) (next_cids : List ℕ) (q : Query) → IsShown s next_cids q
  pub namespaces : (s : State) (next_cids : List ℕ) → IsListed s next_cids
