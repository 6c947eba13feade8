-- Commands and resets of a driver, over the queue pairs of its controllers.
use Rattle.nv_driver.proofs.Words.{ℕ, ◌*◌, ◌+◌, ◌-◌, ◌<◌, ◌∙◌, ◌≡◌, ◌≢◌, ◌≤◌, ◌⊎◌, All-set, BusValue, Cqe, DriverValue}
use Rattle.nv_driver.proofs.Words.{Geometry, GoesOver, HoldsTags, IsApart, IsDriver, IsLaid, IsLeft, IsLinked, IsPlaced}
use Rattle.nv_driver.proofs.Words.{IsQuiet, IsReady, IsSettled, KeepsBelow, List, PagedBytes, Pages, QueuePair}
use Rattle.nv_driver.proofs.Words.{QueuePairFields, Side, World, after_command, after_commands, ap, arith, bank_at}
use Rattle.nv_driver.proofs.Words.{banks_of, cases_eq, cases_lt, cqe_of_bytes, driver_value, end_of, get_or, get_or-map}
use Rattle.nv_driver.proofs.Words.{get_or-set_other, get_or-set_same, get_or_default, idle_bank, inl, inr, kept_number}
use Rattle.nv_driver.proofs.Words.{length, length-map, length-set, map, map-set, mps_of, mul-le-mul_right, new_bank}
use Rattle.nv_driver.proofs.Words.{next, no_pair, page_count, pages_behind, pages_of_command, pair_at, pair_value, refl}
use Rattle.nv_driver.proofs.Words.{set_pages, side, slice_set, subst, sym}

-- ---- before the command

-- a driver, its value, and the queue pair of a controller
pub record HasPair (g : Geometry) (mem : PagedBytes) (ls : List QueuePairFields) (more : Pages) (d : DriverValue)
    (c : ℕ) (l : QueuePairFields) : Type 0 where
  pub is : IsDriver g mem ls more
  pub value : driver_value g mem ls ≡ d
  pub ctrl : c < length d.pairs
  pub here : l ≡ get_or ls c l

module _ {g : Geometry} {mem : PagedBytes} {ls : List QueuePairFields} {more : Pages} {d : DriverValue} {c : ℕ}
    {l : QueuePairFields} (h : HasPair g mem ls more d c l) where
  -- controller c has a queue pair among the driver's
  pub below : c < length ls
  below =
      let many = ap (λ (v : DriverValue). length v.pairs) h.value in
      let same = length-map ls pair_value in omega (arith, h.ctrl)

  -- queue pair c of the driver's value is the value of that queue pair
  pub at : pair_at (map pair_value ls) c ≡ pair_value l
  at = get_or-map pair_value ls c l no_pair below ∙ ap pair_value (sym h.here)

  -- so is that of the driver
  pub pair_is : pair_at d.pairs c ≡ pair_value l
  pair_is = ap (λ (v : DriverValue). pair_at v.pairs c) (sym h.value) ∙ at

  -- the driver and the queue pair agree on the command identifier that is due
  pub cid_is : (pair_at d.pairs c).next_cid ≡ l.next_cid
  cid_is = ap (λ (v : QueuePair). v.next_cid) pair_is

  -- its queue pair is where it was placed
  pub placed_at : IsPlaced g c (pair_value l)
  placed_at = subst (IsPlaced g c) at (h.is.placed c no_pair below)

  -- the geometry of the queue pair is the driver's
  pub shape_at : l.geometry ≡ g
  shape_at = ap (λ (v : QueuePair). v.geometry) placed_at

  -- what went over the queue pair went over the driver's
  pub goes_over : {bytes : List ℕ} {last : World} (goes : Geometry → QueuePairFields → List ℕ → World → Type 0)
      → IsQuiet l → goes l.geometry l bytes last → GoesOver d c (goes d.geometry)
  goes_over {bytes} {last} goes quiet steps = record {
    pair = l;
    bytes = bytes;
    last = last;
    quiet = quiet;
    own = sym pair_is;
    steps = subst (λ q. goes q l bytes last) (shape_at ∙ ap (λ (v : DriverValue). v.geometry) h.value) steps;
  }

  -- what a call leaves by the queue pair's geometry is left by the driver's
  pub left_at : {end : ℕ} {next : QueuePair} {old new : Side} → IsLeft l.geometry c end next old new
      → IsLeft g c end next old new
  left_at {end} {next} {old} {new} left = subst (λ q. IsLeft q c end next old new) shape_at left

  -- the controller of a driver that is linked to the bus is ready, with no command outstanding
  pub ready_at : {b : BusValue} → IsLinked b d → IsReady g b c l mem.page_size mem.bytes
  ready_at {b} linked =
      let many = length-map ls pair_value in
      let low = below in
      let banks = linked.left ∙ ap banks_of (sym h.value) in
      let idle = idle_bank (mps_of g.page_size) g.page_size in
      record {
        geometry = h.is.geometry;
        shape = shape_at;
        page_size = h.is.page_size;
        depth = ap (λ (v : QueuePair). v.depth) placed_at;
        quiet = subst IsQuiet (sym h.here) (h.is.quiet c l below);
        laid = rw (h.is.page_size, at) at (h.is.settled.laid c no_pair (omega arith));
        tags = rw at at (h.is.settled.tags c no_pair (omega arith));
        controller = rw banks (simp length-map below);
        bus = linked.bus;
        bank = ap (λ p. bank_at p c) banks ∙ get_or-map idle (map pair_value ls) c no_pair new_bank (omega arith)
            ∙ ap idle at;
      }

  -- the controller is also ready by the geometry of the queue pair
  pub ready_by : {b : BusValue} → IsLinked b d → IsReady l.geometry b c l mem.page_size mem.bytes
  ready_by {b} linked = subst (λ q. IsReady q b c l mem.page_size mem.bytes) (sym shape_at) (ready_at linked)

  -- its pages are those of each command of the window
  pub room_by : l.pages.count ≡ l.geometry.window * pages_of_command l.geometry.page_size
  unfolding set_pages
  room_by = rw shape_at (ap (λ (v : QueuePair). v.page_count) placed_at)

  -- each queue pair ends within the memory
  pub ends_inside : (i : ℕ) (e : QueuePair) → i < length ls
      → end_of g.page_size (get_or (map pair_value ls) i e) ≤ length mem.bytes
  ends_inside i e low =
      let many = length-map ls pair_value in
      (rw h.is.page_size at (h.is.settled.laid i e (omega arith))).inside

-- ---- after the command

-- what holds for the other queue pairs, and for this one, holds for each
set_each : (P : ℕ → QueuePair → Type 0) (vs : List QueuePair) (c : ℕ) (v : QueuePair)
    → ((i : ℕ) (d : QueuePair) → i < length vs → i ≢ c → P i (get_or vs i d)) → P c v
    → (i : ℕ) (d : QueuePair) → i < length (slice_set vs c v) → P i (get_or (slice_set vs c v) i d)
set_each P vs c v others own i d below =
    let many = length-set vs c v in
    elim (cases_eq i c) [
      | inl same ↦ rw (same, get_or-set_same vs c v d (omega arith)) own
      | inr differ ↦ subst (P i) (sym (get_or-set_other vs c i v d differ)) (others i d (omega arith) differ)
    ]

-- the completion slots of another queue pair don't change
pub slots_stay : (end page_size : ℕ) (old new : List ℕ) (v u : QueuePair) → KeepsBelow end page_size v old new
    → end_of page_size u ≤ end → IsLaid page_size (length old) u → IsLaid page_size (length old) v
    → (end_of page_size u ≤ v.sq) ⊎ (end_of page_size v ≤ u.sq)
    → HoldsTags old u.cq u.depth u.number → HoldsTags new u.cq u.depth u.number
slots_stay end page_size old new v u keeps ends laid own apart tags s below =
    let slot = u.cq + 16 * s in
    let aside : IsApart v.sq (end_of page_size v - v.sq) slot 16 =
    grind (arith, apart, laid.pages, laid.rings, own.rings, own.pages) in
    let inside : u.first_page * page_size ≤ end_of page_size u = mul-le-mul_right page_size (omega arith) in
    let low : slot + 16 ≤ end = omega (arith, laid.pages, inside, ends) in
    ap (λ (q : Cqe). q.phase) (ap cqe_of_bytes (keeps slot 16 low aside)) ∙ tags s below

-- queue pairs stay settled if only one of them changes, and the bytes of the others don't
pub settled_after : (end page_size : ℕ) (old new : List ℕ) (vs : List QueuePair) (c : ℕ) (v u : QueuePair)
    → IsSettled page_size old vs → c < length vs
    → v ≡ get_or vs c v → length new ≡ length old → KeepsBelow end page_size v old new
    → ((i : ℕ) (d : QueuePair) → i < length vs → end_of page_size (get_or vs i d) ≤ end)
    → IsLaid page_size (length new) u
    → HoldsTags new u.cq u.depth u.number → u.sq ≡ v.sq → u.first_page ≡ v.first_page → u.page_count ≡ v.page_count
    → IsSettled page_size new (slice_set vs c u)
settled_after end page_size old new vs c v u s below here size keeps ends laid tags sq first count =
    let own = subst (IsLaid page_size (length old)) (sym here) (s.laid c v below) in
    record {
      laid = set_each (λ _ q. IsLaid page_size (length new) q) vs c u
          (λ i d h differ. rw size (s.laid i d h)) laid;
      tags = set_each (λ _ q. HoldsTags new q.cq q.depth q.number) vs c u
          (λ i d h differ. slots_stay end page_size old new v (get_or vs i d) keeps (ends i d h) (s.laid i d h) own
          (beside i d h differ) (s.tags i d h)) tags;
      apart = λ i j d before inside.
          let many = length-set vs c u in
          rw ((same_place i d (omega arith)).1, (same_place j d inside).0) (s.apart i j d before (omega arith));
    }
  where
    same_one : (d : QueuePair) → get_or vs c d ≡ v
    same_one d = get_or_default vs c d v below ∙ sym here

    beside : (i : ℕ) (d : QueuePair) → i < length vs → i ≢ c → (end_of page_size (get_or vs i d) ≤ v.sq)
        ⊎ (end_of page_size v ≤ (get_or vs i d).sq)
    beside i d h differ =
        elim (cases_lt i c) [
          | inl l ↦ inl (rw (same_one d) at (s.apart i c d l below))
          | inr g ↦ inr (rw (same_one d) at (s.apart c i d (omega (arith, differ)) h))
        ]

    same_place : (i : ℕ) (d : QueuePair) → i < length (slice_set vs c u)
        → ((get_or (slice_set vs c u) i d).sq ≡ (get_or vs i d).sq)
        × (end_of page_size (get_or (slice_set vs c u) i d) ≡ end_of page_size (get_or vs i d))
    same_place i d h =
        set_each (λ j q. (q.sq ≡ (get_or vs j d).sq) × (end_of page_size q ≡ end_of page_size (get_or vs j d))) vs c u
        (λ j e low differ. let is = get_or_default vs j e d low in
        (ap (λ (q : QueuePair). q.sq) is, ap (end_of page_size) is))
        (rw (same_one d) (sq, rw (first, count) refl)) i d h

-- what is left of a driver, of which a queue pair's number and next command identifier change
module _ {g : Geometry} {mem new : PagedBytes} {ls : List QueuePairFields} {more : Pages} {d : DriverValue}
    {b b' : BusValue} {c : ℕ} {l l' : QueuePairFields} {n next_cid end : ℕ} (h : HasPair g mem ls more d c l)
    (left : IsLeft g c end (record (pair_value l) { number = n; next_cid = next_cid })
    (side b l mem.page_size mem.bytes) (side b' l' new.page_size new.bytes)) where
  -- after a command of controller c, the driver is still one
  pub driver_after : ((i : ℕ) (e : QueuePair) → i < length ls
      → end_of g.page_size (get_or (map pair_value ls) i e) ≤ end) → IsDriver g new (slice_set ls c l') more
  driver_after ends =
      let many = length-map ls pair_value in
      let vs = map pair_value ls in
      let low = below h in
      let own : pair_value l ≡ get_or vs c (pair_value l) =
      sym (get_or-map pair_value ls c l (pair_value l) low ∙ ap pair_value (sym h.here)) in
      let change = map-set pair_value ls c l' in
      let page = left.page ∙ h.is.page_size in
      record {
        geometry = h.is.geometry;
        page_size = page;
        whole = rw (left.len, left.page) h.is.whole;
        numbered = rw (left.len, left.page) h.is.numbered;
        quiet = All-set IsQuiet ls c l' left.ready.quiet h.is.quiet;
        placed = λ i e inside.
            rw change (set_each (λ j v. IsPlaced g j v) vs c (pair_value l') (λ j q high differ. h.is.placed j q
            (omega arith)) (subst (IsPlaced g c) (sym left.pair)
            (ap (λ (q : QueuePair). record q { number = n; next_cid = next_cid }) (placed_at h))) i e
            (let longer = length-set ls c l' in let values = length-set vs c (pair_value l') in omega arith));
        more = h.is.more ∙ ap (λ n. pages_behind g n (page_count mem)) (sym (length-set ls c l'))
            ∙ rw (left.len, left.page) refl;
        settled = rw change (settled_after end new.page_size mem.bytes new.bytes vs c (pair_value l) (pair_value l')
            (rw (left.page) h.is.settled) (omega arith) own left.len (rw page left.others)
            (rw page (λ i e low. ends i e (omega arith))) (rw (left.ready.page_size) left.ready.laid) left.ready.tags
            (ap (λ (v : QueuePair). v.sq) left.pair) (ap (λ (v : QueuePair). v.first_page) left.pair)
            (ap (λ (v : QueuePair). v.page_count) left.pair));
      }

  -- after a command of controller c, the registers are linked to the driver
  pub linked_after : IsLinked b d → IsLinked b' (driver_value g new (slice_set ls c l'))
  linked_after linked =
      let idle = idle_bank (mps_of g.page_size) g.page_size in
      record {
        bus = left.ready.bus;
        left = left.banks ∙ rw (left.ready.bank, linked.left ∙ ap banks_of (sym h.value), map-set pair_value ls c l')
            (sym (map-set idle (map pair_value ls) c (pair_value l')));
      }

  -- the value of the driver, if this is what happens to the queue pair
  pub value_after : (f : QueuePair → QueuePair)
      → f (pair_value l) ≡ record (pair_value l) { number = n; next_cid = next_cid }
      → driver_value g new (slice_set ls c l') ≡ record d { pairs = slice_set d.pairs c (f (pair_at d.pairs c)) }
  value_after f by =
      rw (left.len, left.page, map-set pair_value ls c l', left.pair ∙ sym by ∙ ap f (sym (at h)))
      (ap (λ (v : DriverValue). record v { pairs = slice_set v.pairs c (f (pair_at v.pairs c)) }) h.value)

-- one command is a list of one command
pub after_first : (d : DriverValue) (c : ℕ) → after_commands d c 1 ≡ after_command d c
unfolding kept_number next
after_first d c = refl

-- there are as many values of queue pairs as queue pairs
pub pair_count : (ls : List QueuePairFields) → length ls ≡ length (map pair_value ls)
pair_count ls = sym (length-map ls pair_value)
