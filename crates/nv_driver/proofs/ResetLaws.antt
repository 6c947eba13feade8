-- The subsystem and the queue pairs when controllers are disabled and reset.
use Rattle.nv_driver.proofs.Words.{ℕ, ◌*◌, ◌+◌, ◌<◌, ◌∙◌, ◌≡◌, ◌≤◌, Bool, BusValue, Geometry, HoldsTags, IsBus, IsLaid}
use Rattle.nv_driver.proofs.Words.{IsLeft, IsPlaced, IsQuiet, IsReady, KeepsBelow, List, QueuePair, QueuePairFields}
use Rattle.nv_driver.proofs.Words.{RegisterBank, State, ap, arith, bank_at, bytes_at, enabled_in, get_or-set_same}
use Rattle.nv_driver.proofs.Words.{idle_bank, if◌then◌else◌, is_enabled, length, length-map, length-replicate}
use Rattle.nv_driver.proofs.Words.{length-set, mps_of, new_bank, pair_of, pair_value, refl, renewed_pair, replicate}
use Rattle.nv_driver.proofs.Words.{reset, reset_first, reset_first_more, reset_if, reset_where, side, slice_set, subst}
use Rattle.nv_driver.proofs.Words.{sym, with_bytes, with_queues, with_register_at}
use Rattle.nv_host.proofs.BytesLaws.{length-with_bytes}
use Rattle.nv_driver.proofs.RegionLaws.{written_keeps}
use Rattle.nv_driver.proofs.RegisterLaws.{enabled_at, kept_queues}

-- ---- a completion ring is zeroed

-- its bytes are zeros
abbrev pub zeros : QueuePairFields → List ℕ
zeros l = replicate (16 * l.completion.depth) 0

-- zeroing a completion ring keeps the length of the memory
pub zeroed_length : {page_size : ℕ} {l : QueuePairFields} (old new : List ℕ) → IsQuiet l
    → IsLaid page_size (length old) (pair_value l)
    → new ≡ with_bytes old l.completion.base (zeros l) → length new ≡ length old
zeroed_length {l = l} old new quiet laid zeroed =
    let many = length-replicate {A = ℕ} (16 * l.completion.depth) 0 in
    ap (λ (bs : List ℕ). length bs) zeroed ∙ length-with_bytes old l.completion.base (zeros l)
    (omega (arith, many, laid, quiet.depth))

-- zeroing a completion ring doesn't change bytes outside the queue pair
pub zeroed_others : {page_size : ℕ} {l : QueuePairFields} (old new : List ℕ) → IsQuiet l
    → IsLaid page_size (length old) (pair_value l)
    → new ≡ with_bytes old l.completion.base (zeros l) → (end : ℕ)
    → KeepsBelow end page_size (pair_value l) old new
zeroed_others {page_size} {l} old new quiet laid zeroed end from n low apart =
    let many = length-replicate {A = ℕ} (16 * l.completion.depth) 0 in
    let inside : l.completion.base + length (zeros l) ≤ (l.pages.first + l.pages.count) * page_size =
    omega (arith, many, laid, quiet.depth) in
    ap (λ bs. bytes_at bs from n) zeroed
    ∙ written_keeps old (zeros l) l.submission.base _ l.completion.base from n (omega (arith, laid))
    (omega (arith, inside, laid)) (omega (arith, inside, laid)) apart

-- ---- each enabled one

-- after the resets of the enabled ones of c controllers, one more reset gives those of c + 1 controllers
pub states_more : (a o : List RegisterBank) (s mid new : State) (c : ℕ) → c < length a → c < length o
    → bank_at a c ≡ bank_at o c
    → mid ≡ reset_first (enabled_in o) c s → new ≡ reset_if (enabled_in a) mid c
    → new ≡ reset_first (enabled_in o) (c + 1) s
states_more a o s mid new c h k same before is =
    let enabled = enabled_at a c h ∙ ap (λ (p : RegisterBank). is_enabled p.readiness) same ∙ sym (enabled_at o c k) in
    is ∙ ap (λ (on : Bool). if on then reset mid c else mid) enabled ∙ ap (λ t. reset_if (enabled_in o) t c) before
    ∙ sym (reset_first_more (enabled_in o) c s)

-- resets of the enabled ones of all controllers, one after another, are the resets of all enabled ones
pub states_all : (o : List RegisterBank) (s new : State) (c : ℕ) → c ≡ length o
    → new ≡ reset_first (enabled_in o) c s → new ≡ reset_where (enabled_in o) s
states_all o s new c all is =
    is ∙ ap (λ n. reset_first (enabled_in o) n s)
    (all ∙ sym (length-map o (λ (p : RegisterBank). is_enabled p.readiness)))

-- ---- a reset

-- a controller without outstanding commands is enabled, and its queues stay set while it is off
pub resets : {g : Geometry} {b : BusValue} {c : ℕ} {l : QueuePairFields} {now : ℕ} {bytes : List ℕ}
    → IsReady g b c l now bytes → reset_if (enabled_in b.banks) b.state c ≡ reset b.state c
resets {b = b} {c = c} r =
    rw (enabled_at b.banks c r.controller ∙ ap (λ (p : RegisterBank). is_enabled p.readiness) r.bank) refl

-- a controller that is reset keeps the queues of its queue pair
pub kept_again : {g : Geometry} {b : BusValue} {c : ℕ} {l : QueuePairFields} {now : ℕ} {bytes : List ℕ}
    → IsReady g b c l now bytes → IsPlaced g c (pair_value l) → (banks : List RegisterBank)
    → banks ≡ slice_set b.banks c (with_register_at (bank_at b.banks c) 0x14 0)
    → banks ≡ slice_set banks c (with_queues (bank_at banks c) (pair_of g c))
kept_again {g} {b} {c} {l} r placed banks off =
    let v = pair_value l in
    let m = mps_of g.page_size in
    kept_queues b.banks banks c m g.page_size v.number v.next_cid (pair_of g c) r.controller off
    (r.bank ∙ ap (idle_bank m g.page_size) placed)

-- what a reset leaves of a queue pair without outstanding commands
pub left_again : {g : Geometry} {b b' : BusValue} {c end : ℕ} {l l' : QueuePairFields} {now page : ℕ}
    {bytes mem : List ℕ} → IsReady g b c l now bytes
    → IsPlaced g c (pair_value l) → page ≡ now → IsQuiet l' → pair_value l' ≡ renewed_pair (pair_value l)
    → length mem ≡ length bytes → HoldsTags mem l.completion.base l.submission.depth 0
    → KeepsBelow end g.page_size (pair_value l) bytes mem → IsBus b'
    → b'.banks ≡ slice_set b.banks c (idle_bank (mps_of g.page_size) g.page_size (pair_of g c))
    → IsLeft g c end (renewed_pair (pair_value l)) (side b l now bytes) (side b' l' page mem)
left_again {g} {b} {b'} {c} {l = l} {mem = mem} r placed same quiet is size tags others bus banks =
    let laid = r.laid in
    let deep = laid.deep in
    let idle = idle_bank (mps_of g.page_size) g.page_size in
    let at = ap (λ x. bank_at x c) banks ∙ get_or-set_same b.banks c (idle (pair_of g c)) new_bank r.controller in
    record {
      ready = record {
        geometry = r.geometry;
        shape = ap (λ (v : QueuePair). v.geometry) is ∙ r.shape;
        page_size = same ∙ r.page_size;
        depth = ap (λ (v : QueuePair). v.depth) is ∙ r.depth;
        quiet = quiet;
        laid = rw is (omega (arith, laid, size));
        tags = subst (λ (v : QueuePair). HoldsTags mem v.cq v.depth v.number) (sym is) tags;
        controller = rw banks (simp length-set r.controller);
        bus = bus;
        bank = at ∙ sym (ap idle (is ∙ ap renewed_pair placed));
      };
      banks = banks ∙ sym (ap (slice_set b.banks c) at);
      pair = is;
      others = others;
      len = size;
      page = same;
    }
