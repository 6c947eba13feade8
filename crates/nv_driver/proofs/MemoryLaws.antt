-- The memory of a new driver, with a queue pair for each controller.
use Rattle.nv_driver.proofs.Words.{[], ℕ, ◌*◌, ◌++◌, ◌+◌, ◌-◌, ◌<◌, ◌^◌, ◌∙◌, ◌∷◌, ◌≡◌, ◌≤◌, All, All-push, Geometry}
use Rattle.nv_driver.proofs.Words.{HoldsTags, IsDriver, IsGeometry, IsLaid, IsQuiet, IsSettled, KeepsBelow, List}
use Rattle.nv_driver.proofs.Words.{PagedBytes, Pages, QueuePair, QueuePairFields, all_of, ap, arith, below_more}
use Rattle.nv_driver.proofs.Words.{completion_pages, div_ceil_times, driver_value, driver_with, end_of, get_or-map}
use Rattle.nv_driver.proofs.Words.{get_or-map-range_with_len, inl, length, length-map, length-map-range_with_len}
use Rattle.nv_driver.proofs.Words.{length-replicate, map, map-append, map-range_with_len_more, mul-div_cancel}
use Rattle.nv_driver.proofs.Words.{mul-le-mul, mul-le-mul_right, page_count, page_size_bounds, pages_behind, pages_of}
use Rattle.nv_driver.proofs.Words.{pair_of, pair_pages, pair_value, pairs_of, refl, replicate, set_pages}
use Rattle.nv_driver.proofs.Words.{slice_index_or, submission_pages, subst, sym, zero-add}
use Rattle.nv_driver.proofs.AdminLaws.{slots_stay}

-- ---- the numbers of pages

-- at most 16 queue pairs of at most 0x180000 pages have at most 0x1800000 pages
pub pair_times : (i l : ℕ) → i ≤ 16 → l ≤ 0x180000 → i * l ≤ 0x1800000
pair_times i l h k = mul-le-mul h k

-- at most 2 ^ 25 pages of at most 2 ^ 16 bytes have at most 2 ^ 41 bytes
pub page_times : (n p : ℕ) → n ≤ 0x2000000 → p ≤ 0x10000 → n * p ≤ 0x20000000000
page_times n p h k = mul-le-mul h k

pub ruleset lay = (pair_times, page_times)

-- ---- the queue pairs

-- queue pairs without outstanding commands and one more are all without outstanding commands
pub quiet_more : (xs : List QueuePairFields) (x : QueuePairFields) → All IsQuiet xs → IsQuiet x
    → All IsQuiet (xs ++ x ∷ [])
quiet_more xs x h q = All-push IsQuiet xs x h q

-- the queue pairs of i controllers and of the next one are the queue pairs of i + 1 controllers
pub pairs_more : (xs : List QueuePairFields) (x : QueuePairFields) (g : Geometry) (i : ℕ)
    → map pair_value xs ≡ pairs_of g i
    → pair_value x ≡ pair_of g i → map pair_value (xs ++ x ∷ []) ≡ pairs_of g (i + 1)
pairs_more xs x g i h e =
    map-append pair_value xs (x ∷ [])
    ∙ (ap (λ ys. ys ++ pair_value x ∷ []) h
    ∙ (ap (λ y. pairs_of g i ++ y ∷ []) e ∙ sym (map-range_with_len_more (pair_of g) 0 i i (zero-add i))))

-- n bytes that begin at page x and fit in s pages end at page x + s or before
after : (x s p n : ℕ) → n ≤ s * p → x * p + n ≤ (x + s) * p
after x s p n h = omega arith

-- queue pair i ends before queue pair j
pub pair_ends : (g : Geometry) (i j : ℕ) → i < j → end_of g.page_size (pair_of g i) ≤ j * pair_pages g * g.page_size
pair_ends g i j h =
    let pages : i * pair_pages g + submission_pages g + completion_pages g + set_pages g ≤ j * pair_pages g =
    omega (arith, mul-le-mul_right (pair_pages g) h) in mul-le-mul_right g.page_size pages

-- queue pair i of n controllers belongs to controller i
pair_at : (g : Geometry) (n i : ℕ) (d : QueuePair) → i < n → slice_index_or (pairs_of g n) i d ≡ pair_of g i
pair_at g n i d h = get_or-map-range_with_len (pair_of g) 0 n i i d h (zero-add i)

-- queue pair i of a new driver has the value of controller i's queue pair
pub pair_is : (g : Geometry) (n i : ℕ) (ls : List QueuePairFields) (l : QueuePairFields)
    → map pair_value ls ≡ pairs_of g n → i < n → i < length ls
    → l ≡ slice_index_or ls i l → pair_value l ≡ pair_of g i
pair_is g n i ls l are h below here =
    ap pair_value here ∙ sym (get_or-map pair_value ls i l (pair_value l) below)
    ∙ rw are (pair_at g n i (pair_value l) h)

-- there are as many queue pairs as controllers
pub pair_count : (g : Geometry) (n : ℕ) (ls : List QueuePairFields) → map pair_value ls ≡ pairs_of g n → length ls ≡ n
pair_count g n ls are =
    sym (length-map ls pair_value) ∙ ap (λ (vs : List QueuePair). length vs) are
    ∙ length-map-range_with_len (pair_of g) 0 n

-- if all queue pairs lie in a memory, so does the queue pair of controller i
pub laid_in : (g : Geometry) (n i size : ℕ) → All (IsLaid g.page_size size) (pairs_of g n) → i < n
    → IsLaid g.page_size size (pair_of g i)
laid_in g n i size laid h =
    let many = length-map-range_with_len (pair_of g) 0 n in
    subst (IsLaid g.page_size size) (pair_at g n i (pair_of g i) h) (laid i (pair_of g i) (omega arith))

-- ---- zeroed completion rings

-- the completion rings of the queue pairs below stay zeroed when that of queue pair c is zeroed too
pub tags_more : (g : Geometry) (n c : ℕ) (old new : List ℕ) {v : QueuePair}
    → All (IsLaid g.page_size (length old)) (pairs_of g n) → c < n → v ≡ pair_of g c
    → KeepsBelow (length old) g.page_size v old new → HoldsTags new v.cq v.depth 0
    → ((k : ℕ) → k < c → HoldsTags old (pair_of g k).cq g.depth 0)
    → (k : ℕ) → k < c + 1 → HoldsTags new (pair_of g k).cq g.depth 0
tags_more g n c old new {v} laid h is keeps own tags =
    below_more (λ k. HoldsTags new (pair_of g k).cq g.depth 0) c
    (λ k l. slots_stay (length old) g.page_size old new (pair_of g c) (pair_of g k)
    (subst (λ q. KeepsBelow (length old) g.page_size q old new) is keeps)
    (laid_in g n k (length old) laid (omega arith)).inside
    (laid_in g n k (length old) laid (omega arith)) (laid_in g n c (length old) laid h)
    (inl (pair_ends g k c l)) (tags k l))
    (subst (λ (q : QueuePair). HoldsTags new q.cq q.depth 0) is own)

-- queue pairs whose completion rings have the tags before any completion are settled
pub settled_at_first : (g : Geometry) (n : ℕ) (bytes : List ℕ)
    → All (IsLaid g.page_size (length bytes)) (pairs_of g n)
    → ((k : ℕ) → k < n → HoldsTags bytes (pair_of g k).cq g.depth 0) → IsSettled g.page_size bytes (pairs_of g n)
settled_at_first g n bytes laid tags =
    let many : length (pairs_of g n) ≡ n = length-map-range_with_len (pair_of g) 0 n in
    record {
      laid = laid;
      tags = λ i d h. rw (pair_at g n i d (omega arith)) (tags i (omega arith));
      apart = λ i j d h k. rw (pair_at g n i d (omega arith), pair_at g n j d (omega arith)) (pair_ends g i j h);
    }

-- ---- a new driver

-- a driver of n controllers
pub record IsFirst (g : Geometry) (n more : ℕ) (mem : PagedBytes) (pairs : List QueuePairFields) (behind : Pages)
    : Type 0 where
  pub driver : IsDriver g mem pairs behind
  pub value : driver_value g mem pairs ≡ driver_with g n more

-- all pages from this one on
abbrev pub all_pages_from : (first count : ℕ) → Pages
all_pages_from first count =
    record { first = first; count = count; members = all_of first count }

-- a new memory with the pages of the queue pairs and others
module _ {g : Geometry} {n m pages : ℕ} {made : PagedBytes} (more : ℕ) (is : IsGeometry g) (same : m ≡ n)
    (many : pages ≡ pages_of g m + more)
    (zeros : made ≡ record { page_size = g.page_size; bytes = replicate (pages * g.page_size) 0 }) where
  -- the memory has as many bytes as its pages
  memory_size : length made.bytes ≡ pages * g.page_size
  memory_size = rw zeros (length-replicate (pages * g.page_size) 0)

  -- each queue pair lies in the new memory
  pub has_pairs : All (IsLaid g.page_size (length made.bytes)) (pairs_of g n)
  unfolding submission_pages completion_pages
  has_pairs i d h =
      let few : pages_of g n ≤ pages = omega (arith, many, ap (pages_of g) same) in
      let count = length-map-range_with_len (pair_of g) 0 n in
      let below : i < n = omega arith in
      let page = page_size_bounds g.page_size is.page_size in
      let deep = is.depth in
      let first = i * pair_pages g in
      rw (pair_at g n i d below) (record {
        deep = deep;
        number = omega arith;
        next_cid = omega arith;
        rings = after first (submission_pages g) g.page_size (64 * g.depth)
            (div_ceil_times (64 * g.depth) g.page_size (omega arith)).0;
        pages = after (first + submission_pages g) (completion_pages g) g.page_size (16 * g.depth)
            (div_ceil_times (16 * g.depth) g.page_size (omega arith)).0;
        inside = omega (arith, pair_ends g i n below, memory_size, mul-le-mul_right g.page_size few);
      })

  -- queue pairs that were laid out in such a memory belong to a new driver
  pub driver_at_first : {mem : PagedBytes} {pairs : List QueuePairFields} → pages < 2 ^ 32
      → mem.page_size ≡ made.page_size → length mem.bytes ≡ length made.bytes → All IsQuiet pairs
      → map pair_value pairs ≡ pairs_of g m → IsSettled g.page_size mem.bytes (pairs_of g n) → {behind : Pages}
      → behind ≡ all_pages_from (pages_of g m) more → IsFirst g n more mem pairs behind
  driver_at_first {mem} {pairs} few keeps_page keeps_size quiet pairs_are settled made_set =
      let page = keeps_page ∙ ap (λ (x : PagedBytes). x.page_size) zeros in
      let size = keeps_size ∙ memory_size in
      let bounds = page_size_bounds g.page_size is.page_size in
      let count : page_count mem ≡ pages = rw (size, page) (mul-div_cancel pages (omega arith)) in
      let each = pairs_are ∙ ap (pairs_of g) same in
      let long = pair_count g n pairs each in
      record {
        driver = record {
          geometry = is;
          page_size = page;
          whole = rw (count, page) (sym size);
          numbered = rw count few;
          quiet = quiet;
          placed = λ i d h. rw (each, pair_at g n i d (omega arith)) refl;
          settled = rw (page, each) settled;
          more = made_set ∙ ap (λ k. all_pages_from (pages_of g m) k)
              (let rest : more ≡ pages - pages_of g m = omega (arith, many) in rest)
              ∙ ap (λ k. pages_behind g k pages) (same ∙ sym long) ∙ ap (pages_behind g (length pairs)) (sym count);
        };
        value = rw (count, each, many, same) refl;
      }
