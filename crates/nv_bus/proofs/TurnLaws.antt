-- How many entries a turn takes if the rings lie in the memory.
use Rattle.std.proofs.Common.{◌≡◌, ◌≢◌, ◌⊎◌, ◌∙◌, ℕ, zero, suc, ◌+◌, ◌-◌, ◌<◌, ◌≤◌, ◌==◌}
use Rattle.std.proofs.Common.{◌&&◌, not, nat_le, Bool, true, false, ap, refl, subst, sym, arith}
use Rattle.std.proofs.Common.{min, List, length, Result, Ok, Err}
use Rattle.std.proofs.lemmas.Bool.{cases_lt, false_from_ne_true}
use Rattle.std.proofs.lemmas.Bool.Decides.{nat_tests}
use Rattle.nv_host.proofs.BytesLaws.{length-with_bytes}
use Rattle.nv_layout.specs.Cqe.{bytes_of_cqe}
use Rattle.nv_layout.proofs.RecordLaws.{length-bytes_of_cqe}
use Rattle.nv_layout.specs.declared.cqe.Status.{Status}
use Rattle.nv_prp.proofs.PlaceLaws.{length-written_at}
use Rattle.nv_command.specs.Reply.{data_of}
use Rattle.nv_command.specs.declared.command.Command.{Command}
use Rattle.nv_command.specs.declared.reply.Reply.{Reply}
use Rattle.nv_command.specs.declared.status_code.StatusCode.{StatusCode}
use Rattle.nv_queue.specs.Numbers.{IsWithinRing, distance, next}
use Rattle.nv_queue.proofs.NumberLaws.{distance_after_next, distance_cases, distance_next, distance_none, slot_below}
use Rattle.nv_queue.proofs.NumberLaws.{within_more, within_taken}
use Rattle.nv_queue.specs.Rings.{fetched_one, posted_one}
use Rattle.nv_queue.specs.Slots.{completion_place, put_as, submission_place}
use Rattle.nv_register.specs.Readiness.{is_fatal}
use Rattle.nv_register.specs.declared.register_bank.RegisterBank.{RegisterBank}
use Rattle.nv_register.specs.declared.readiness.Readiness.{Readiness}
use Rattle.nv_register.specs.declared.readiness.Readiness.TheVariants.{Ready}
use Rattle.nv_register.specs.declared.rings.Rings.{Rings}
use Rattle.nv_bus.specs.Call.{Call}
use Rattle.nv_bus.specs.Entry.{Moves, MovesBy, Scene, call_in, completion_in, next_step}
use Rattle.nv_bus.specs.Entry.{scene}
use Rattle.nv_bus.specs.Turn.{BankTurn, RingsLie, RingsTurn, Site, Taken, Takes, TakesCount}
use Rattle.nv_bus.specs.Turn.{TurnBy, can_take, free_slots, reaches, ready_bank}
use Rattle.nv_bus.specs.Turn.{turn_count, waiting}

-- ---- one ring

-- after an entry was taken, one entry fewer is waiting
one_taken : (d k n : ℕ) → IsWithinRing d k n → k ≢ n → distance d n k ≡ distance d n (next d k) + 1
one_taken d k n is left =
    let less = distance_after_next d n k is.to is.from left in
    let some : distance d n k ≢ 0 = λ none. left (distance_none d n k is.to is.from none) in
    omega arith

-- after a completion was posted, one slot fewer is free
one_posted : (d k n : ℕ) → IsWithinRing d k n → distance d n k ≢ d - 1 → d - 1 - distance d n k
    ≡ d - 1 - distance d (next d n) k + 1
one_posted d k n is free =
    let deep = is.deep in
    let few = is.few in
    let more = distance_next d n k is.to is.from (omega arith) in
    omega arith

-- if two numbers of a ring are equal, none lies between them
no_distance : (d k n : ℕ) → IsWithinRing d k n → k ≡ n → distance d n k ≡ 0
no_distance d k n is e = grind (arith, distance_cases d n k is.to is.from)

-- ---- what the tests mean

-- if the test of a turn is true, both pairs of numbers differ
pub can_means : (a b c d : ℕ) → (not (a == b) && not (c == d)) ≡ true → (a ≢ b) × (c ≢ d)
can_means a b c d h = (λ e. grind (arith, nat_tests), λ e. grind (arith, nat_tests))

-- if both pairs of numbers differ, the test of a turn is true
can_by : (a b c d : ℕ) → a ≢ b → c ≢ d → (not (a == b) && not (c == d)) ≡ true
can_by a b c d h i = grind (arith, nat_tests)

-- with equal page sizes and both ends within the memory, the test of reaching is true
reaches_by : (p q a b size : ℕ) → p ≡ q → a ≤ size → b ≤ size
    → ((p == q) && (nat_le a size && nat_le b size)) ≡ true
reaches_by p q a b size e h i = grind (arith, nat_tests)

-- if the test of reaching is true, the second end lies within the memory
reaches_last : (p q a b size : ℕ) → ((p == q) && (nat_le a size && nat_le b size)) ≡ true → b ≤ size
reaches_last p q a b size h = grind (arith, nat_tests)

-- ---- both rings

-- rings that lie in the memory have both slots in it
pub lying_rings_reach : (r : Rings) (page_size size : ℕ) → RingsLie r page_size size
    → reaches r page_size size ≡ true
lying_rings_reach r page_size size is =
    let fetch = is.fetch in
    let post = is.post in
    let low = slot_below r.submission.depth r.submission.fetched fetch.from in
    let free = slot_below r.completion.depth r.completion.posted post.to in
    let submission = is.submission in
    let completion = is.completion in
    reaches_by _ _ _ _ size is.page (omega arith) (omega arith)

-- the rings after one entry
abbrev pub rings_one : Rings → Rings
rings_one r =
    record r { submission = fetched_one r.submission; completion = posted_one r.completion }

-- what this number of entries leaves of rings that lie in the memory
pub record RingsLess (count page_size size : ℕ) (old new : Rings) : Type 0 where
  pub lie : RingsLie new page_size size
  pub wait : waiting old ≡ waiting new + count
  pub free : free_slots old ≡ free_slots new + count

-- one entry that can be taken leaves rings that lie in the memory, one waiting entry fewer and one free slot fewer
pub rings_one_less : (r : Rings) (page_size size : ℕ) → RingsLie r page_size size
    → can_take r ≡ true
    → RingsLess 1 page_size size r (rings_one r)
rings_one_less r page_size size is can =
    let means = can_means _ _ _ _ can in
    record {
      lie = record {
        page = is.page;
        submission = is.submission;
        completion = is.completion;
        fetch = within_taken _ _ _ is.fetch means.0;
        post = within_more _ _ _ is.post means.1;
      };
      wait = one_taken _ _ _ is.fetch means.0;
      free = one_posted _ _ _ is.post means.1;
    }

-- if no entry can be taken, none is waiting or no slot is free
none_can : (r : Rings) (page_size size : ℕ) → RingsLie r page_size size → (can_take r ≡ true → ⊥)
    → (waiting r ≡ 0) ⊎ (free_slots r ≡ 0)
none_can r page_size size is cannot =
    grind (arith, nat_tests, no_distance r.submission.depth r.submission.fetched r.submission.rung is.fetch)

-- ---- the memory keeps its length

-- writing a reply's data, or nothing, keeps the length of the memory
pub length_moved : (k : Command) (places : List ℕ) (answer : Result Reply Status) (old new : List ℕ)
    → Moves k places answer old new → length new ≡ length old
length_moved k places (Ok reply) old new h =
    ap length h.2 ∙ length-written_at old places (data_of k h.0)
length_moved k places (Err status) old new h = ap length h

-- this also holds if the entry was refused
length_by : (found : Result Call StatusCode) (answer : Result Reply Status) (old new : List ℕ)
    → MovesBy found answer old new → length new ≡ length old
length_by (Ok call) answer old new h = length_moved call.command call.places answer old new h
length_by (Err code) answer old new h = ap length h

-- if the slots are reached, the slot of the next completion lies in the memory
reached_slot : (r : Rings) (page_size size : ℕ) → reaches r page_size size ≡ true
    → completion_place r.completion.base r.completion.depth r.completion.posted + 16 ≤ size
reached_slot r page_size size h =
    let taken = submission_place r.submission.base r.submission.depth r.submission.fetched + 64 in
    let slot = completion_place r.completion.base r.completion.depth r.completion.posted + 16 in
    reaches_last page_size r.page_size taken slot size h

-- taking an entry keeps the length of the memory
pub length_one : (page_size c : ℕ) (old new : Scene) → Takes page_size c old new → length new.bytes
    ≡ length old.bytes
length_one page_size c old new t =
    let ring = old.rings.completion in
    let moved = t.one.bytes.0 in
    let same : length moved ≡ length old.bytes =
    length_by (call_in c old) (next_step c old).answer old.bytes moved t.one.bytes.1 in
    let size = length-bytes_of_cqe (put_as ring (completion_in c old)) in
    let place = completion_place ring.base ring.depth ring.posted in
    let fits = reached_slot old.rings page_size (length old.bytes) t.reached in
    ap length t.one.bytes.2
    ∙ length-with_bytes moved place (bytes_of_cqe (put_as ring (completion_in c old)))
    (omega arith) ∙ same

-- ---- several entries

-- what this number of entries leaves of rings that lie in the memory, whose length doesn't change
pub record ScenesLess (count page_size : ℕ) (old new : Scene) : Type 0 where
  pub len : length new.bytes ≡ length old.bytes
  pub rings : RingsLess count page_size (length new.bytes) old.rings new.rings

-- one entry that is taken leaves rings that lie in the memory, one waiting entry fewer and one free slot fewer
one_less : (page_size c : ℕ) (old new : Scene) → RingsLie old.rings page_size (length old.bytes)
    → Takes page_size c old new → ScenesLess 1 page_size old new
one_less page_size c old new is t =
    let len = length_one page_size c old new t in
    let less = rings_one_less old.rings page_size (length old.bytes) is t.can in
    record {
      len = len;
      rings = subst (λ (r : Rings). RingsLess 1 page_size (length new.bytes) old.rings r)
          (sym t.one.rings)
          (subst (λ n. RingsLess 1 page_size n old.rings (rings_one old.rings)) (sym len) less);
    }

-- the same holds for several entries, with their number in place of one
pub taken_less : (count page_size c : ℕ) (old new : Scene)
    → RingsLie old.rings page_size (length old.bytes) → Taken count page_size c old new
    → ScenesLess count page_size old new
taken_less zero page_size c old new is same =
    subst (λ (x : Scene). ScenesLess 0 page_size old x) (sym same)
    (record { len = refl; rings = record { lie = is; wait = omega arith; free = omega arith } })
taken_less (suc k) page_size c old new is taken =
    let mid = taken.0 in
    let first = one_less page_size c old mid is taken.1 in
    let rest = taken_less k page_size c mid new first.rings.lie taken.2 in
    let one = first.rings in
    let more = rest.rings in
    record {
      len = rest.len ∙ first.len;
      rings = record { lie = more.lie; wait = omega arith; free = omega arith };
    }

-- ---- a turn

-- a number up to `most` that leaves v of w and g of f is the least of `most`, w and f, if it is less than `most` only
-- if v or g is 0
least : (most w f count v g : ℕ) → count ≤ most → w ≡ v + count → f ≡ g + count
    → (count < most → (v ≡ 0) ⊎ (g ≡ 0)) → count ≡ min most (min w f)
least most w f count v g few wait free stop = grind (arith, cases_lt count most)

-- if both rings lie in the memory, a turn takes the least of the entries that may be taken, the
-- entries that are waiting and the free slots, and it ends without a fatal status
pub turn_count_is : (page_size c most count : ℕ) (old new : Scene) (fatal : Bool)
    → RingsLie old.rings page_size (length old.bytes)
    → RingsTurn page_size c most count old new fatal → (count ≡ turn_count most old.rings)
    × (fatal ≡ false)
turn_count_is page_size c most count old new fatal is turn =
    let less = taken_less count page_size c old new is turn.entries in
    let reached = lying_rings_reach new.rings page_size (length new.bytes) less.rings.lie in
    let well : fatal ≡ true → ⊥ = λ e. let beyond = (turn.stop.2 e).2 in cc in
    let stop = λ (more : count < most). none_can new.rings page_size (length new.bytes)
    less.rings.lie (λ can. well (turn.stop.1 more can)) in (
      least most (waiting old.rings) (free_slots old.rings) count (waiting new.rings)
          (free_slots new.rings) turn.stop.0 less.rings.wait less.rings.free stop,
      false_from_ne_true fatal well,
    )

-- ---- the rings after a turn

-- the rings after this number of entries
unfoldable pub rings_after : ℕ → Rings → Rings
rings_after zero r = r
rings_after (suc k) r = rings_after k (rings_one r)

-- the rings after several entries are rings_after of the rings before them
pub taken_rings : (count page_size c : ℕ) (old new : Scene) → Taken count page_size c old new
    → new.rings ≡ rings_after count old.rings
unfolding rings_after
taken_rings zero page_size c old new same = ap (λ (x : Scene). x.rings) same
taken_rings (suc k) page_size c old new taken =
    taken_rings k page_size c taken.0 new taken.2 ∙ ap (rings_after k) taken.1.one.rings

-- what a turn leaves of a ready controller whose rings lie in the memory
pub record BankTakes (page_size most count : ℕ) (r : Rings) (old new : Site) : Type 0 where
  pub number : count ≡ turn_count most r
  pub bank : new.bank ≡ ready_bank old.bank (rings_after count r) false
  pub less : RingsLess count page_size (length new.bytes) r (rings_after count r)
  pub len : length new.bytes ≡ length old.bytes

-- a turn of a ready controller whose rings lie in the memory takes turn_count entries and leaves it ready
pub bank_takes : (page_size c most count : ℕ) (r : Rings) (old new : Site)
    → old.bank.readiness ≡ Ready r false
    → RingsLie r page_size (length old.bytes) → BankTurn page_size c most count old new
    → BankTakes page_size most count r old new
bank_takes page_size c most count r old new ready is turn =
    let own = subst (λ (x : Readiness). TurnBy x page_size c most count old new) ready turn in
    let last = own.0 in
    let first = scene old.state r old.bytes in
    let law = turn_count_is page_size c most count first last own.1 is own.2 in
    let less = taken_less count page_size c first last is own.2.entries in
    let rings = taken_rings count page_size c first last own.2.entries in
    let bytes : length new.bytes ≡ length last.bytes = ap (λ (s : Site). length s.bytes) own.3 in
    record {
      number = law.0;
      bank =
          ap (λ (s : Site). s.bank) own.3
          ∙ ap (ready_bank old.bank last.rings) law.1
          ∙ ap (λ (x : Rings). ready_bank old.bank x false) rings;
      less = subst (λ (x : Rings). RingsLess count page_size (length new.bytes) r x) rings
          (subst (λ n. RingsLess count page_size n r last.rings) (sym bytes) less.rings);
      len = bytes ∙ less.len;
    }

-- a turn of one controller takes the number of entries that TakesCount states
pub bank_turn_count : (page_size c most count : ℕ) (old new : Site)
    → BankTurn page_size c most count old new
    → TakesCount page_size (length old.bytes) most old.bank count new.bank
bank_turn_count page_size c most count old new turn r ready is =
    let takes = bank_takes page_size c most count r old new ready is turn in
    (takes.number, ap (λ (p : RegisterBank). is_fatal p.readiness) takes.bank)
