-- An entry of a driver, over the queue pairs of its controllers and the pages after them.
use Rattle.nv_driver.proofs.Words.{ℕ, ◌*◌, ◌+◌, ◌-◌, ◌<◌, ◌∙◌, ◌≡◌, ◌≤◌, BusValue, DriverValue, Geometry, HasEntryPages}
use Rattle.nv_driver.proofs.Words.{IsLinked, List, PagedBytes, Pages, QueuePair, QueuePairFields, Sqe, SqeFits, ap}
use Rattle.nv_driver.proofs.Words.{arith, driver_with, end_of, get_or, length, length-map, length-map-range_with_len}
use Rattle.nv_driver.proofs.Words.{length-set, map, mul-le-mul_right, page_count, pages_behind, pages_of}
use Rattle.nv_driver.proofs.Words.{pages_of_entry, pair_of, pair_pages, pair_value, refl, slice_set, subst, sym}
use Rattle.nv_driver.proofs.ExchangeLaws.{CanPass}
use Rattle.nv_driver.proofs.AdminLaws.{HasPair, below, placed_at, ready_at, shape_at}
use Rattle.nv_driver.proofs.MemoryLaws.{pair_ends}

-- the pages behind those of a driver's controllers
module _ {g : Geometry} {mem : PagedBytes} {ls : List QueuePairFields} {more : Pages} {d : DriverValue} {c : ℕ}
    {l : QueuePairFields} (at : HasPair g mem ls more d c l) where
  -- the driver's value says which they are
  pub more_is : more ≡ pages_behind d.geometry (length d.pairs) d.pages
  more_is = at.is.more ∙ ap (λ n. pages_behind g n (page_count mem)) (sym (length-map ls pair_value))
      ∙ ap (λ (v : DriverValue). pages_behind v.geometry (length v.pairs) v.pages) at.value

  -- each queue pair ends before these pages
  pub ends_before : {s : Pages} → s ≡ more → (i : ℕ) (e : QueuePair) → i < length ls
      → end_of g.page_size (get_or (map pair_value ls) i e) ≤ s.first * l.geometry.page_size
  ends_before same i e h =
      rw (same, at.is.more, shape_at at)
      (omega (arith, ap (end_of g.page_size) (at.is.placed i e h), pair_ends g i (length ls) h))

  -- they have room for an entry
  pub can_pass : {s : Pages} → s ≡ more → HasEntryPages d → {b : BusValue} {e : Sqe} → IsLinked b d → SqeFits e
      → CanPass l.geometry b c l mem.page_size mem.bytes e s
  can_pass same room {b} {e} linked fits =
      let first_page = ap (λ (v : QueuePair). v.first_page) (placed_at at) in
      let pages = ap (λ (v : QueuePair). v.page_count) (placed_at at) in
      let has = rw (length-map ls pair_value) at (subst HasEntryPages (sym at.value) room) in
      let first = pages_of g (length ls) in
      let all : first + (page_count mem - first) ≡ page_count mem = omega (arith, has) in
      let whole : page_count mem * g.page_size ≡ length mem.bytes =
      ap (λ n. page_count mem * n) (sym at.is.page_size) ∙ at.is.whole in
      rw (same, at.is.more) (subst (λ q. CanPass q b c l mem.page_size mem.bytes e
      (pages_behind g (length ls) (page_count mem))) (sym (shape_at at)) (record {
        ready = ready_at at linked;
        fits = fits;
        free = refl;
        behind = omega (arith, first_page, pages, mul-le-mul_right (pair_pages g) (below at));
        inside = omega (arith, ap (λ n. n * g.page_size) all, whole);
        room = omega (arith, has);
      }))

-- the pages of an entry stay in the memory, whatever happens to a queue pair
pub room_stays : (d : DriverValue) (c : ℕ) (l : QueuePair) → HasEntryPages d
    → HasEntryPages (record d { pairs = slice_set d.pairs c l })
room_stays d c l room =
    subst (λ n. pages_of d.geometry n + pages_of_entry d.geometry.page_size ≤ d.pages)
    (sym (length-set d.pairs c l)) room

-- a driver that was brought up with the pages of an entry has them
pub has_pages : (g : Geometry) (n : ℕ) → HasEntryPages (driver_with g n (pages_of_entry g.page_size))
has_pages g n =
    rw (length-map-range_with_len (pair_of g) 0 n) (search arith)
