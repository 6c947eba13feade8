-- The numbers of a list that are greater than a given one.
use Rattle.std.specs.Prelude.{ℕ, List, nat_lt}
use Rattle.std.specs.List.{filter}

-- the numbers of a list that are greater than n, in the order of the list
abbrev pub above : ℕ → List ℕ → List ℕ
above n ns = filter (λ q. nat_lt n q) ns
