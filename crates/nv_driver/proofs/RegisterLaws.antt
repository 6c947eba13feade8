-- The registers of a controller while it is enabled.
use Rattle.nv_driver.proofs.Words.{ℕ, ◌%◌, ◌*◌, ◌+◌, ◌-◌, ◌/◌, ◌<◌, ◌^◌, ◌∙◌, ◌≡◌, ◌≤◌, BusValue, Geometry, IsGeometry}
use Rattle.nv_driver.proofs.Words.{IsPageSize, List, QueuePair, RegisterBank, ap, arith, bank_at, below_more, can_start}
use Rattle.nv_driver.proofs.Words.{enabled_in, false, get_or-map, get_or-map-range_with_len, get_or-set_other}
use Rattle.nv_driver.proofs.Words.{get_or-set_same, get_or_default, idle_bank, idle_banks, if◌then◌else◌, is_enabled}
use Rattle.nv_driver.proofs.Words.{length, length-map, length-map-range_with_len, map, mps_of, mul-mod_left, nat_tests}
use Rattle.nv_driver.proofs.Words.{new_bank, new_rings, pair_of, pair_pages, pairs_of, refl, reset_if, same_lists}
use Rattle.nv_driver.proofs.Words.{set-get_or, set-set, slice_index_or, state_written, submission_pages, suc, sym, true}
use Rattle.nv_driver.proofs.Words.{with_cc, with_high, with_low, with_queues, with_register_at, zero-add}
use Rattle.std.proofs.Common.{slice_set}
use Rattle.nv_layout.specs.Bits.{bits}
use Rattle.nv_register.specs.Dwords.{aqa_of_dword, cc_of_dword}
use Rattle.nv_register.specs.declared.register.Sizes.{Sizes}
use Rattle.nv_register.specs.declared.readiness.Readiness.TheVariants.{Failed, Off, Ready}

-- ---- writes of one controller, one after another

-- setting a controller's registers twice sets them to the second value
pub set_twice : (a b e : List RegisterBank) (c : ℕ) (p q : RegisterBank) → b ≡ slice_set a c p → e ≡ slice_set b c q
    → e ≡ slice_set a c q
set_twice a b e c p q is more = more ∙ ap (λ x. slice_set x c q) is ∙ set-set a c p q

-- they change to p and then to f p
pub then_own : (a b e : List RegisterBank) (c : ℕ) (p : RegisterBank) (f : RegisterBank → RegisterBank) → c < length a
    → b ≡ slice_set a c p
    → e ≡ slice_set b c (f (bank_at b c)) → e ≡ slice_set a c (f p)
then_own a b e c p f h is more =
    let at : bank_at b c ≡ p = ap (λ x. bank_at x c) is ∙ get_or-set_same a c p new_bank h in
    set_twice a b e c p (f (bank_at b c)) is more ∙ ap (λ q. slice_set a c (f q)) at

-- controller c is among the enabled ones if its register bank is enabled
pub enabled_at : (banks : List RegisterBank) (c : ℕ) → c < length banks
    → slice_index_or (enabled_in banks) c false ≡ is_enabled (bank_at banks c).readiness
enabled_at banks c h = get_or-map (λ (p : RegisterBank). is_enabled p.readiness) banks c new_bank false h

-- ---- the values that are written

-- the dword that is written to CC sets EN, the page size, and the sizes of the entries
pub cc_written : (m : ℕ) → m ≤ 4
    → cc_of_dword (0x00460001 + m * 128) ≡ record { en = true; sizes = record { mps = m; iosqes = 6; iocqes = 4 } }
cc_written (suc (suc (suc (suc (suc n))))) h = absurd (omega arith)
cc_written m h = refl

-- MPS of a page size gives back the page size, and is at most 4
pub page_size_of_mps : (size : ℕ) → IsPageSize size → (2 ^ (12 + mps_of size) ≡ size) × (mps_of size ≤ 4)
unfolding IsPageSize
page_size_of_mps size h = (grind (arith, nat_tests, h), grind (arith, nat_tests, h))

-- ---- the queues are set

-- the dword that is written to AQA sets the sizes of both queues
queues_read : (m : ℕ) → m ≤ 4095 → aqa_of_dword (m * 65536 + m) ≡ record { asqs = m; acqs = m }
queues_read m h =
    let first : bits 0 12 (m * 65536 + m) ≡ m = omega arith in
    let second : bits 16 12 (m * 65536 + m) ≡ m = omega arith in cc

-- setting both dwords of an address sets the address
address_read : (old address : ℕ) → with_high (with_low old (address % 2 ^ 32)) (address / 2 ^ 32) ≡ address
address_read old address = omega arith

-- after one more write, the controller has the registers after both writes
wrote : (a : List RegisterBank) {b e : List RegisterBank} {c : ℕ} (o v : ℕ) (p : RegisterBank) → c < length a
    → b ≡ slice_set a c p → e ≡ slice_set b c (with_register_at (bank_at b c) o v)
    → e ≡ slice_set a c (with_register_at p o v)
wrote a {b} {e} {c} o v p h = then_own a b e c p (λ q. with_register_at q o v) h

-- five writes set the queues of a controller that is off
pub queues_written : (a : List RegisterBank) {b d e f k : List RegisterBank} {c : ℕ} (x s1 s2 q1 q2 : ℕ) (l : QueuePair)
    → c < length a
    → (bank_at a c).readiness ≡ Off → l.depth ≤ 4096 → x ≡ (l.depth - 1) * 65536 + (l.depth - 1)
    → s1 ≡ l.sq % 2 ^ 32 → s2 ≡ l.sq / 2 ^ 32 → q1 ≡ l.cq % 2 ^ 32 → q2 ≡ l.cq / 2 ^ 32
    → b ≡ slice_set a c (with_register_at (bank_at a c) 0x24 x)
    → d ≡ slice_set b c (with_register_at (bank_at b c) 0x28 s1)
    → e ≡ slice_set d c (with_register_at (bank_at d c) 0x2c s2)
    → f ≡ slice_set e c (with_register_at (bank_at e c) 0x30 q1)
    → k ≡ slice_set f c (with_register_at (bank_at f c) 0x34 q2) → k ≡ slice_set a c (with_queues (bank_at a c) l)
queues_written a {c = c} x s1 s2 q1 q2 l h off deep is low high behind above first second third fourth fifth =
    let p = bank_at a c in
    wrote a 0x34 q2 _ h (wrote a 0x30 q1 _ h (wrote a 0x2c s2 _ h (wrote a 0x28 s1 _ h first second) third) fourth)
    fifth
    ∙ ap (slice_set a c) (rw (is, low, high, behind, above)
    (rw (off, queues_read (l.depth - 1) (omega arith), address_read p.asq l.sq, address_read p.acq l.cq) refl))

-- ---- EN is set

-- the address of a page is a multiple of the page size in CC
in_pages : (n p m : ℕ) → 2 ^ (12 + m) ≡ p → (n * p) % 2 ^ (12 + m) ≡ 0
in_pages n p m e = rw e (mul-mod_left n p)

-- a controller that is off, with these sizes and the queues of a queue pair
abbrev off_bank : Sizes → QueuePair → RegisterBank
off_bank sizes l = record {
  sizes = sizes;
  readiness = Off;
  aqa = record { asqs = l.depth - 1; acqs = l.depth - 1 };
  asq = l.sq;
  acq = l.cq;
}

-- setting EN of a controller that is off, with the queues of a queue pair, makes it ready with new rings
started_bank : (sizes : Sizes) (g : Geometry) (i x : ℕ) → IsGeometry g → x ≡ 0x00460001 + mps_of g.page_size * 128
    → with_register_at (off_bank sizes (pair_of g i)) 0x14 x
    ≡ idle_bank (mps_of g.page_size) g.page_size (pair_of g i)
started_bank sizes g i x is e =
    let m = mps_of g.page_size in
    let size = page_size_of_mps g.page_size is.page_size in
    let deep = is.depth in
    let at = in_pages (i * pair_pages g) g.page_size m size.0 in
    let behind = in_pages (i * pair_pages g + submission_pages g) g.page_size m size.0 in
    let back : g.depth - 1 + 1 ≡ g.depth = omega arith in
    let q = off_bank (record { mps = m; iosqes = 6; iocqes = 4 }) (pair_of g i) in
    let can : can_start q ≡ true = rw (at, behind) (grind (arith, nat_tests, size.1)) in
    ap (with_cc (off_bank sizes (pair_of g i))) (ap cc_of_dword e ∙ cc_written m size.1)
    ∙ ap (λ b. record q { readiness = if b then Ready (new_rings q) false else Failed }) can
    ∙ rw (size.0, back) refl

-- ---- EN is cleared, the queues are set, and EN is set

-- clearing EN turns the controller off
pub off_after : (p : RegisterBank) → (with_register_at p 0x14 0).readiness ≡ Off
off_after p = grind arith

-- that clears an EN that was 1, and a later write of CC doesn't
pub stopped : (b : BusValue) (c : ℕ) → c < length b.banks
    → state_written b c 0x14 0 ≡ reset_if (enabled_in b.banks) b.state c
stopped b c below = rw (enabled_at b.banks c below) (grind arith)

-- a write of CC to a controller that is off resets nothing
pub not_stopped : (b : BusValue) (c x : ℕ) → (bank_at b.banks c).readiness ≡ Off → state_written b c 0x14 x ≡ b.state
not_stopped b c x off = rw off refl

-- the queues of a controller that was enabled for this queue pair stay set
pub kept_queues : (a b : List RegisterBank) (c m p n s : ℕ) (l : QueuePair) → c < length a
    → b ≡ slice_set a c (with_register_at (bank_at a c) 0x14 0)
    → bank_at a c ≡ idle_bank m p (record l { number = n; next_cid = s })
    → b ≡ slice_set b c (with_queues (bank_at b c) l)
kept_queues a b c m p n s l below off is =
    let at : bank_at b c ≡ with_register_at (idle_bank m p (record l { number = n; next_cid = s })) 0x14 0 =
    ap (λ x. bank_at x c) off ∙ get_or-set_same a c _ new_bank below ∙ ap (λ q. with_register_at q 0x14 0) is in
    sym (set-get_or b c new_bank) ∙ ap (slice_set b c) (at ∙ sym (ap (λ q. with_queues q l) at))

module _ (a b d : List RegisterBank) (c : ℕ) (l : QueuePair) (below : c < length a)
    (off : b ≡ slice_set a c (with_register_at (bank_at a c) 0x14 0))
    (queues : d ≡ slice_set b c (with_queues (bank_at b c) l)) where
  -- after EN was cleared, controller c is off
  pub is_off : (bank_at b c).readiness ≡ Off
  is_off = ap (λ x. (bank_at x c).readiness) off
      ∙ ap (λ (p : RegisterBank). p.readiness) (get_or-set_same a c _ new_bank below) ∙ off_after (bank_at a c)

  -- the queues were set after EN was cleared
  set : d ≡ slice_set a c (with_queues (with_register_at (bank_at a c) 0x14 0) l)
  set = then_own a b d c (with_register_at (bank_at a c) 0x14 0) (λ p. with_queues p l) below off queues

  -- controller c is off with the queues of its queue pair
  pub has_queues : bank_at d c ≡ off_bank (bank_at d c).sizes l
  has_queues =
      let p = with_register_at (bank_at a c) 0x14 0 in
      let at : bank_at d c ≡ with_queues p l =
      ap (λ x. bank_at x c) set ∙ get_or-set_same a c (with_queues p l) new_bank below in
      at ∙ ap (λ r. record (with_queues p l) { readiness = r }) (off_after (bank_at a c))
      ∙ ap (λ (q : RegisterBank). off_bank q.sizes l) (sym at)

  module _ (g : Geometry) (x : ℕ) (is : IsGeometry g) (its : l ≡ pair_of g c)
      (value : x ≡ 0x00460001 + mps_of g.page_size * 128) where
    -- setting EN makes controller c ready with new rings
    pub started : with_register_at (bank_at d c) 0x14 x ≡ idle_bank (mps_of g.page_size) g.page_size (pair_of g c)
    started = ap (λ q. with_register_at q 0x14 x) has_queues
        ∙ ap (λ v. with_register_at (off_bank (bank_at d c).sizes v) 0x14 x) its
        ∙ started_bank (bank_at d c).sizes g c x is value

    -- the three steps leave controller c ready with new rings, and the other controllers as they were
    pub enabled_banks : (e : List RegisterBank) → e ≡ slice_set d c (with_register_at (bank_at d c) 0x14 x)
        → e ≡ slice_set a c (idle_bank (mps_of g.page_size) g.page_size (pair_of g c))
    enabled_banks e last = set_twice a d e c _ _ set (last ∙ ap (slice_set d c) started)

-- ---- all controllers

-- if the registers of the controllers below c are set, and those of c are set now, all up to c are
pub below_set : (a b : List RegisterBank) (c : ℕ) (f : ℕ → RegisterBank) → c < length a → b ≡ slice_set a c (f c)
    → ((k : ℕ) → k < c → bank_at a k ≡ f k) → (k : ℕ) → k < c + 1 → bank_at b k ≡ f k
below_set a b c f h is below =
    below_more (λ k. bank_at b k ≡ f k) c
    (λ k l. ap (λ x. bank_at x k) is ∙ get_or-set_other a c k (f c) new_bank (omega arith) ∙ below k l)
    (ap (λ x. bank_at x c) is ∙ get_or-set_same a c (f c) new_bank h)

-- the registers of the controllers above don't change
pub above_set : (a b o : List RegisterBank) (c : ℕ) (p : RegisterBank) → b ≡ slice_set a c p
    → ((k : ℕ) → c ≤ k → bank_at a k ≡ bank_at o k) → (k : ℕ) → c + 1 ≤ k → bank_at b k ≡ bank_at o k
above_set a b o c p is above k h =
    ap (λ x. bank_at x k) is ∙ get_or-set_other a c k p new_bank (omega arith) ∙ above k (omega arith)

-- if each controller is ready with new rings, all are
pub all_enabled : (banks : List RegisterBank) (n : ℕ) (g : Geometry) → length banks ≡ n
    → ((k : ℕ) → k < n → bank_at banks k ≡ idle_bank (mps_of g.page_size) g.page_size (pair_of g k))
    → banks ≡ idle_banks g.page_size (pairs_of g n)
all_enabled banks n g len each =
    let idle = idle_bank (mps_of g.page_size) g.page_size in
    let pairs : length (pairs_of g n) ≡ n = length-map-range_with_len (pair_of g) 0 n in
    same_lists banks (map idle (pairs_of g n))
    (len ∙ sym (length-map (pairs_of g n) idle ∙ pairs))
    (λ k d h. let below : k < n = omega arith in
    let inside : k < length (pairs_of g n) = omega arith in
    get_or_default banks k d new_bank h
    ∙ (each k below
    ∙ sym (get_or-map idle (pairs_of g n) k (pair_of g k) d inside
    ∙ ap idle (get_or-map-range_with_len (pair_of g) 0 n k k (pair_of g k) below (zero-add k)))))
