-- The pages of a command: how many it has, that its data and its list fit there, and what a controller reads of its
-- entry.
use Rattle.nv_driver.proofs.Words.{[], ℕ, ◌*◌, ◌+◌, ◌<◌, ◌>>=◌, ◌^◌, ◌∙◌, ◌∷◌, ◌≡◌, ◌≤◌, All, AreDistinct, Asked, Call}
use Rattle.nv_driver.proofs.Words.{CommandPages, Err, Geometry, HasPage, HasRoom, HoldsSent, IsFor, IsGeometry, IsOf}
use Rattle.nv_driver.proofs.Words.{IsPageSize, IsPlaceFor, IsRequest, KeepsList, LiesInPages, List, NoData, Ok, Pages}
use Rattle.nv_driver.proofs.Words.{Result, Run, Sent, Setting, Sqe, StatusCode, StaysNamed, Transfer, all_pages, ap}
use Rattle.nv_driver.proofs.Words.{arith, buffer_place, buffer_places, call_of, cases_lt, command_of, data_count}
use Rattle.nv_driver.proofs.Words.{data_length, data_places, div_ceil, div_ceil_times, drop, entry, get_or}
use Rattle.nv_driver.proofs.Words.{greatest_limit, inl, inr, length, length-drop, length-take, length_of, moves_of}
use Rattle.nv_driver.proofs.Words.{mul-le-mul_right, own_pages, page_size_bounds, pages_for, pages_of_entry, place_in}
use Rattle.nv_driver.proofs.Words.{places, places_of, pointed, refl, sent_from, subst, suc, sym, table-same}
use Rattle.nv_driver.proofs.Words.{transfer_of, within}
use Rattle.nv_prp.specs.Transfer.{IsLegal, PrpTransfer, place_of, transfer, transfer_places}
use Rattle.nv_bus.proofs.CallLaws.{legal_places, no_places}
use Rattle.std.specs.Prelude.{slice_index}
use Rattle.nv_driver.proofs.DataLaws.{nothing}
use Rattle.nv_driver.proofs.RegionLaws.{length-places}

-- ---- how many pages a command has

-- how many pages this number of bytes lies in
pub enough_of : (greatest from len size pages : ℕ) → IsPageSize size → from < size → len ≤ greatest
    → pages ≡ div_ceil (from + len) size
    → (from + len ≤ pages * size) × (pages + 2 ≤ pages_for greatest size)
enough_of greatest from len size pages is low most same =
    let some : 0 < size = omega (arith, page_size_bounds size is) in
    let all = div_ceil_times (from + len) size some in
    let least = div_ceil_times greatest size some in
    (rw same all.0, few (div_ceil greatest size) least.0 (rw same all.1))
  where
    few : (m : ℕ) → greatest ≤ m * size → pages * size < from + len + size → pages + 2 ≤ m + 3
    few m whole less =
        elim (cases_lt pages (m + 2)) [
          | inl l ↦ omega arith
          | inr g ↦ absurd (omega (arith, mul-le-mul_right size g))
        ]

-- an entry has at most 259 pages
pub entry_pages_few : (size : ℕ) → IsPageSize size → pages_of_entry size ≤ 259
entry_pages_few size is =
    let bounds = page_size_bounds size is in
    let whole = (div_ceil_times 1048576 size (omega (arith, bounds))).1 in grind (arith, bounds, whole)

-- the data fits in its pages, which with those of a list are no more than the pages for `most` bytes
pub data_fits : (g : Geometry) (len most : ℕ) → IsGeometry g → len ≤ most
    → (g.offset + len ≤ data_count g len * g.page_size) × (data_count g len + 2 ≤ pages_for most g.page_size)
data_fits g len most is few =
    enough_of most g.offset len g.page_size (data_count g len) is.page_size is.offset.1 few refl

-- the data of a request and two pages for a list
pub few_of_entry : (g : Geometry) (len : ℕ) → IsGeometry g → len ≤ greatest_limit → data_count g len + 2 ≤ 259
few_of_entry g len is few =
    omega (arith, (data_fits g len greatest_limit is few).1, entry_pages_few g.page_size is.page_size)

-- ---- the data pointer of a command

-- a transfer whose entries are for a buffer has the places of the buffer, also without data
named : (t : PrpTransfer) (pages : List ℕ) (from : ℕ) → (0 < t.len → IsFor t pages from)
    → transfer_places t ≡ buffer_places t.page_size pages from t.len
unfolding buffer_places transfer_places
named t pages from is =
    table-same t.len (place_of t) (buffer_place t.page_size pages from)
    (λ i below. (is (omega arith)).places i below)

-- the data pointer names the places of the data, and is legal if there is data
abbrev Names : ℕ → Sent → List ℕ → Type 0
Names page_size x mem =
    (0 < data_length x → IsLegal (pointed page_size x mem))
    × (transfer_places (pointed page_size x mem) ≡ places page_size x)

-- the data pointer of a command that stays named names its data
names_in : (page_size : ℕ) (x : Sent) (mem : List ℕ) → StaysNamed page_size x mem → Names page_size x mem
names_in page_size x mem stays =
    let is = λ (some : 0 < data_length x).
    stays some mem (record { len = refl; in_first = λ many. refl; in_second = λ many. refl }) in
    (λ some. (is some).legal, named (pointed page_size x mem) x.pages x.offset is)

-- in a later memory that keeps the list
pub stays_in : (page_size : ℕ) (x : Sent) (mem later : List ℕ)
    → KeepsList (pointed page_size x mem) x.first x.second later
    → StaysNamed page_size x mem → StaysNamed page_size x later
stays_in page_size x mem later keep stays some last next =
    stays some last (record {
      len = next.len ∙ keep.len;
      in_first = λ many. next.in_first many ∙ keep.in_first many;
      in_second = λ many. next.in_second many ∙ keep.in_second many;
    })

-- ---- what is read of the entry

-- a call with its data at these places, or the status of the first rule that was broken
abbrev pub call_at : List ℕ → Asked → Result Call StatusCode
call_at at (Ok k) = Ok (record { command = k; places = at })
call_at at (Err code) = Err code

-- the places of an entry's data are these, if the transfer has as many places and names them if it has data
places_by : (m : Transfer) (page_size : ℕ) (mem : List ℕ) (e : Sqe) (at : List ℕ) → HasRoom m
    → length at ≡ length_of m
    → (0 < length_of m → places_of (transfer page_size mem e.prp1 e.prp2 (length_of m)) ≡ Ok at)
    → data_places page_size mem e m ≡ Ok at
places_by NoData page_size mem e at is size found =
    no_places page_size mem e NoData at refl (nothing at size)
places_by m page_size mem e at is size found = found is.0

-- the rules after those that come before the data pointer
abbrev call_with : ℕ → List ℕ → Sqe → Transfer → Result Call StatusCode
call_with page_size mem e m = do
  places ← data_places page_size mem e m
  command ← command_of e (sent_from m mem places)
  Ok (record { command = command; places = places })

-- the rules that come before the data pointer can be tested first
in_order : (r : Result Transfer StatusCode) (limit page_size : ℕ) (mem : List ℕ) (e : Sqe)
    → (r >>= (λ asked. within limit asked >>= call_with page_size mem e))
    ≡ ((r >>= within limit) >>= call_with page_size mem e)
in_order (Ok asked) limit page_size mem e = refl
in_order (Err code) limit page_size mem e = refl

-- what is asked for, with places, is the call with these places
call_ends : (found : Asked) (at : List ℕ)
    → (found >>= (λ command. Ok (record { command = command; places = at }))) ≡ call_at at found
call_ends (Ok k) at = refl
call_ends (Err code) at = refl

-- the call of an entry is what it asks for with its data at these places
call_by : (r : Result Transfer StatusCode) (e : Sqe) (at sends : List ℕ) (page_size : ℕ) (mem : List ℕ) (asked : Asked)
    → ((m : Transfer) → r ≡ Ok m
    → (data_places page_size mem e m ≡ Ok at) × (sent_from m mem at ≡ sends))
    → (r >>= (λ m. command_of e sends)) ≡ asked
    → (r >>= call_with page_size mem e) ≡ call_at at asked
call_by (Ok m) e at sends page_size mem asked lies is =
    let h = lies m refl in
    ap (λ (p : Result (List ℕ) StatusCode). p >>= (λ places. command_of e (sent_from m mem places)
    >>= (λ command. Ok (record { command = command; places = places })))) h.0
    ∙ ap (λ xs. command_of e xs >>= (λ command. Ok (record { command = command; places = at }))) h.1
    ∙ ap (λ (q : Asked). q >>= (λ command. Ok (record { command = command; places = at }))) is
    ∙ call_ends asked at
call_by (Err code) e at sends page_size mem asked lies is = ap (call_at at) is

-- The data pointer of the entry names the places of the request's data.
pub entry_places : (t : Setting) (x : Sent) (mem : List ℕ) → IsRequest t.limit x.request → StaysNamed t.page_size x mem
    → data_places t.page_size mem (entry x) x.request.transfer ≡ Ok (places t.page_size x)
entry_places t x mem can stays =
    let at = places t.page_size x in
    let names = names_in t.page_size x mem stays in
    places_by x.request.transfer t.page_size mem (entry x) at can.room (length-places t.page_size x)
    (λ some. legal_places (pointed t.page_size x mem) at (names.0 some) (sym names.1))

-- The entry asks for what the request says, with its data in its pages.
pub entry_call : (t : Setting) (x : Sent) (mem : List ℕ) → IsRequest t.limit x.request → x.cid < 2 ^ 16
    → StaysNamed t.page_size x mem → HoldsSent t.page_size x mem
    → call_of t.page_size t.limit mem (entry x) ≡ call_at (places t.page_size x) x.request.asked
entry_call t x mem can cid stays holds =
    let at = places t.page_size x in
    in_order (transfer_of (entry x)) t.limit t.page_size mem (entry x)
    ∙ call_by (moves_of t.limit (entry x)) (entry x) at x.request.sends t.page_size mem x.request.asked
    (λ m is. let same : x.request.transfer ≡ m = can.transfer x.cid x.prp1 x.prp2 m cid is in
    rw (← same) (entry_places t x mem can stays, holds))
    (can.asked x.cid x.prp1 x.prp2 cid)

-- pages that stand for those of a slot outside the window
abbrev pub no_pages : CommandPages
no_pages = record { numbers = []; count = 0 }

-- how many pages a command has
pub all_count : (o : CommandPages) → o.count ≤ length o.numbers → length (all_pages o) ≡ o.count
all_count o few = let h = length-take o.count o.numbers in omega (arith, h, few)

-- the first two, and the rest
pub first_two : (pages : List ℕ) → 2 ≤ length pages
    → slice_index pages 0 ∷ slice_index pages 1 ∷ drop 2 pages ≡ pages
first_two (a ∷ b ∷ rest) h = refl
first_two pages h = absurd (omega arith)

-- the pages of a command that was sent
pub own_is : {r : Run} {n : ℕ} {x : Sent} (k : LiesInPages r n x) → own_pages x ≡ k.pages
own_is k = ap own_pages k.sent ∙ first_two k.pages (omega (arith, k.many))

-- data and a list fit in pages of a set that lies in the memory
pub place_of_set : (g : Geometry) (s : Pages) (pages bytes : List ℕ) (page_size len : ℕ) → IsGeometry g
    → page_size ≡ g.page_size → (s.first + s.count) * g.page_size ≤ length bytes
    → All (λ p. IsOf s.first s.count p) pages → AreDistinct pages → length pages ≡ data_count g len + 2
    → IsPlaceFor bytes page_size (place_in g pages) len
place_of_set g s pages bytes page_size len is page inside own distinct many =
    let two = sym (first_two pages (omega (arith, many))) in
    let all : All (λ p. HasPage bytes g.page_size p) pages =
    λ i d h. let most : get_or pages i d + 1 ≤ s.first + s.count = omega (arith, (own i d h).1) in
    omega (arith, mul-le-mul_right g.page_size most) in
    let has = subst (All (λ p. HasPage bytes g.page_size p)) two all in
    let few : length (drop 2 pages) ≡ data_count g len = omega (arith, length-drop 2 pages, many) in
    rw page (record {
      is_size = is.page_size;
      buffer = record {
        below = is.offset.1;
        aligned = is.offset.0;
        enough = rw few (data_fits g len len is (omega arith)).0;
        inside = λ i d h. has (suc (suc i)) d (omega arith);
      };
      list = record {
        below = is.list_offset.1;
        aligned = is.list_offset.0;
        has_first = has 0 0 (omega arith);
        has_second = has 1 0 (omega arith);
      };
      distinct = subst AreDistinct two distinct;
    })
