-- The pages of a command, as `build` requires them.
use Rattle.nv_driver.proofs.Words.{ℕ, ◌%◌, ◌*◌, ◌+◌, ◌-◌, ◌/◌, ◌<◌, ◌^◌, ◌∙◌, ◌≡◌, ◌≤◌, AreDistinct, AreOutside}
use Rattle.nv_driver.proofs.Words.{ChangesList, CollectNumbers, Geometry, IsBuffer, IsListPlace, IsPageSize, IsPrepared}
use Rattle.nv_driver.proofs.Words.{IsSubmittedAt, KeepsOutsideList, List, Ok, OnOk, Pages, QueuePairFields, Request}
use Rattle.nv_driver.proofs.Words.{RequestPlace, Result, Sent, StaysNamed, SubmitNumbers, ap, arith, bytes_at}
use Rattle.nv_driver.proofs.Words.{bytes_from_host, cases_lt, data_length, div_ceil, div_ceil_times, get_or, inl, inr}
use Rattle.nv_driver.proofs.Words.{length, length-written_at, mod_below, mul-le-mul_right, own_pages, page_size_bounds}
use Rattle.nv_driver.proofs.Words.{pages_at, places, pointed, refl, rest_distinct, sent_from, subst, sym, written_at}
use Rattle.nv_prp.specs.Transfer.{data_pages, most_bytes, room}
use Rattle.nv_prp.proofs.PageLaws.{at_most_257}
use Rattle.nv_prp.proofs.WriteLaws.{lies_at, pages_kept}
use Rattle.nv_driver.proofs.DataLaws.{ArePlaces, sent_back}
use Rattle.nv_driver.proofs.RegionLaws.{buffer_data, data_keeps, written_list}
use Rattle.nv_driver.proofs.PointerLaws.{stays_in}

-- a place in a memory is one in a later memory of the same size
pub buffer_later : {old new pages : List ℕ} {size size' from len : ℕ} → length new ≡ length old → size' ≡ size
    → IsBuffer old size pages from len → IsBuffer new size' pages from len
buffer_later same page is = rw page (record {
  below = is.below;
  aligned = is.aligned;
  enough = is.enough;
  inside = λ i d h. let has = is.inside i d h in omega (arith, has, same);
})

-- a transfer in more than two pages has data
pub some_of : (size at len : ℕ) → 0 < size → 2 < div_ceil (at % size + len) size → 0 < len
some_of size at len some many =
    elim (cases_lt 0 len) [
      | inl l ↦ l
      | inr g ↦
          let whole = div_ceil_times (at % size + len) size some in
          absurd (omega (arith, mul-le-mul_right size many, whole, mod_below at size some, g))
    ]

-- a list that is built at its place is the command's
pub changes_list : (page_size : ℕ) (x : Sent) (old new : List ℕ) → 0 < page_size
    → (data_pages (pointed page_size x new) ≤ 2 → new ≡ old)
    → (0 < data_length x → 2 < data_pages (pointed page_size x new) → x.prp2
    ≡ x.first * page_size + x.list_offset)
    → (0 < data_length x → 2 < data_pages (pointed page_size x new)
    → KeepsOutsideList (room (pointed page_size x new)) x.prp2
    (x.second * page_size) (data_pages (pointed page_size x new)) old new)
    → ChangesList page_size x old new
changes_list page_size x old new some no_list at kept = (
  no_list,
  λ many.
      let data_too = some_of page_size x.prp1 (data_length x) some many in
      rw (← at data_too many) (kept data_too many),
)

-- bytes outside the pages of a prepared command don't change
pub others_kept : (page_size : ℕ) (x : Sent) (old new : List ℕ) → IsPageSize page_size
    → IsBuffer old page_size x.pages x.offset (data_length x)
    → IsListPlace old page_size x.first x.second x.list_offset → AreDistinct (own_pages x)
    → IsPrepared page_size x old new → (from n : ℕ) → AreOutside page_size x from n
    → bytes_at new from n ≡ bytes_at old from n
others_kept page_size x old new is buffer place distinct prepared from n outside =
    let some : 0 < page_size = omega (arith, page_size_bounds page_size is) in
    let t = pointed page_size x prepared.listed in
    let start = x.first * page_size + x.list_offset in
    let space = (page_size - start % page_size) / 8 in
    ap (λ q. bytes_at q from n) prepared.written
    ∙ data_keeps page_size x prepared.listed x.request.sends from n some buffer.enough outside
    ∙ elim (cases_lt 2 (data_pages t)) [
      | inl many ↦
          pages_kept page_size space start x.first x.second (data_pages t) old prepared.listed
          (lies_at old page_size x.first x.second x.list_offset start space is place
          (distinct 0 1 0 (omega arith) (omega arith)) refl refl)
          (at_most_257 (x.prp1 % page_size) (data_length x) page_size is (mod_below x.prp1 page_size some)
          prepared.few)
          (prepared.list.1 many) from n (outside 0 0 (omega arith)) (outside 1 0 (omega arith))
      | inr few ↦ ap (λ q. bytes_at q from n) (prepared.list.0 few)
    ]

-- after `build` and after the data of the host was written, the command is prepared
pub prepared_by : (page_size : ℕ) (x : Sent) (old built new : List ℕ) → IsPageSize page_size
    → length x.request.sends ≡ bytes_from_host x.request.transfer
    → IsBuffer old page_size x.pages x.offset (data_length x) → AreDistinct (own_pages x)
    → data_length x ≤ most_bytes → x.prp1 < 2 ^ 64 → x.prp2 < 2 ^ 64 → StaysNamed page_size x built
    → ChangesList page_size x old built → length built ≡ length old
    → new ≡ written_at built (places page_size x) x.request.sends
    → IsPrepared page_size x old new
prepared_by page_size x old built new is sends buffer distinct few first second stays list same put =
    let some : 0 < page_size = omega (arith, page_size_bounds page_size is) in
    let m = x.request.transfer in
    let at = places page_size x in
    let xs = x.request.sends in
    let size : length new ≡ length built =
    ap (λ (q : List ℕ). length q) put ∙ length-written_at built at xs in
    let theirs = subst (λ n. ArePlaces m n at) (sym same)
    (buffer_data page_size x old some buffer (rest_distinct x.first x.second x.pages distinct)) in
    record {
      listed = built;
      list = list;
      written = put;
      few = few;
      len = size ∙ same;
      prp1 = first;
      prp2 = second;
      sent = ap (λ q. sent_from m q at) put ∙ sent_back m built at xs theirs sends;
      stays = stays_in page_size x built new
          (rw put (written_list page_size x built xs some buffer.enough distinct)) stays;
    }

-- ---- what ends before all pages of a request is outside them

-- no page of a place comes before this one
abbrev pub AreFrom : ℕ → RequestPlace → Type 0
AreFrom first at = (i d : ℕ) → i < length (pages_at at) → first ≤ get_or (pages_at at) i d

-- bytes before the first page of a request are outside its pages
pub outside_before : (page_size first : ℕ) (x : Sent) (from n : ℕ)
    → ((i d : ℕ) → i < length (own_pages x) → first ≤ get_or (own_pages x) i d) → from + n ≤ first * page_size
    → AreOutside page_size x from n
outside_before page_size first x from n behind low i d h =
    inl (omega (arith, mul-le-mul_right page_size (behind i d h), low))

-- ---- the same parts

-- queue pairs of the same parts
abbrev pub pair_by : SubmitNumbers → CollectNumbers → ℕ → Geometry → Pages → QueuePairFields
pair_by a c n g p = record { submission = a; completion = c; next_cid = n; geometry = g; pages = p }

-- queue pairs of equal parts are equal
pub pairs_same : {a a' : SubmitNumbers} {c c' : CollectNumbers} {n n' : ℕ} {g : Geometry} {p : Pages} → a ≡ a'
    → c ≡ c' → n ≡ n' → pair_by a c n g p ≡ pair_by a' c' n' g p
pairs_same e f g = cc

-- what holds if a result is Ok holds for one that is
pub on_ok : {X E : Type 0} {P : Type 0} (r : Result X E) (x : X) → r ≡ Ok x → OnOk r P → P
on_ok {P = P} r x is all = subst (λ q. OnOk q P) is all

-- a submission is one under equal names too
pub submitted_as : {size size' : ℕ} {at at' : RequestPlace} {q q' : Request} {old new : QueuePairFields}
    {before after : List ℕ} {now end : ℕ} → size ≡ size' → at ≡ at' → q ≡ q'
    → IsSubmittedAt size at q old new before after now end → IsSubmittedAt size' at' q' old new before after now end
submitted_as e f g is = rw (← e, ← f, ← g) is
