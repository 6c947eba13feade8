-- A list of commands while a controller executes it: what holds meanwhile, and submissions.
use Rattle.nv_driver.proofs.Words.{[], ℕ, ◌%◌, ◌*◌, ◌++◌, ◌+◌, ◌-◌, ◌<◌, ◌∙◌, ◌∷◌, ◌≡◌, ◌≢◌, ◌≤◌, All, AreApart}
use Rattle.nv_driver.proofs.Words.{AreInOrder, AreLowest, AreTaken, Batch, BusTurn, BusValue, CommandPages, Course}
use Rattle.nv_driver.proofs.Words.{FromHost, Geometry, HasCollected, HasFreeSlot, HasRoom, IsDue, IsHeld, IsOf}
use Rattle.nv_driver.proofs.Words.{IsRequest, IsRunOf, IsSubmittedAt, IsToldInTime, IsUnderWay, LiesInPages, List}
use Rattle.nv_driver.proofs.Words.{NoData, NumberSet, Pages, QueuePairFields, Request, Requests, Run, Sent, Submit}
use Rattle.nv_driver.proofs.Words.{TailWrite, ToHost, Transfer, World, Write, all_pages, ap, arith, both_ways, cid_at}
use Rattle.nv_driver.proofs.Words.{data_count, drop, drop-append-le, free_pages, get_or, get_or-drop, get_or-set_other}
use Rattle.nv_driver.proofs.Words.{get_or-set_same, greatest_limit, held_pages, len-all_of, length, length-append}
use Rattle.nv_driver.proofs.Words.{length-drop, length-set, length_of, limit_of, map_push, min, mod_below}
use Rattle.nv_driver.proofs.Words.{mul-le-mul_right, next, numbered, numbered_of, own_pages, pages_for, pages_of_all}
use Rattle.nv_driver.proofs.Words.{place_in, refl, requests_in, sent_at, sent_in_window, set, setting_of, slot, slot_of}
use Rattle.nv_driver.proofs.Words.{slots_apart, subst, sym, take, take_more, way, without, world_of}
use Rattle.nv_driver.proofs.BatchLaws.{length-from_cid, request_at}
use Rattle.nv_driver.proofs.PointerLaws.{all_count, data_fits, first_two, own_is, place_of_set}
use Rattle.nv_driver.proofs.PageSetLaws.{in_of, is_in, left_in}
use Rattle.nv_driver.proofs.WindowPageLaws.{few_pages, page_of_one, pages-append, taken_also, taken_len, without_also}
use Rattle.nv_driver.proofs.SubmitLaws.{each_more}
use Rattle.std.specs.FinMap as map_of
use Rattle.nv_driver.proofs.OnWayLaws as W

-- ---- the requests of a run

-- the request that was sent is request n of the run
pub request_is : {r : Run} {n : ℕ} {x : Sent} (k : LiesInPages r n x) → x.request ≡ get_or r.requests n x.request
request_is k = ap (λ (y : Sent). y.request) k.sent

-- a list of the run's requests has as many as the run
pub counted : {r : Run} {what : Requests} {n : ℕ} → IsRunOf r what
    → n ≡ length (requests_in (limit_of r.bus.state r.controller) what) → n ≡ length r.requests
counted of is = is ∙ ap (λ (qs : List Request). length qs) of.requests

-- data that a data pointer can have isn't longer than any limit
pub room_few : (m : Transfer) → HasRoom m → length_of m ≤ greatest_limit
room_few NoData has = omega arith
room_few (ToHost n) has = omega (arith, has.1)
room_few (FromHost n) has = omega (arith, has.1)

-- ---- what holds meanwhile

module _ {B : Type 0} {wrote : Write B} {rang : TailWrite B} {turned : BusTurn B} {start on : B} {r : Run}
    {bells turns : ℕ} {b : Batch} {bus : BusValue} {l : QueuePairFields} {now : ℕ} {bytes : List ℕ}
    {places : List CommandPages}
    (u : IsUnderWay wrote rang turned start r bells turns b bus on l now bytes places) where
  -- the schedule of the list
  abbrev pub world : World
  world = world_of (way r u.course bells turns b.told) bus bytes

  -- what is due is said of the numbers of the batch
  pub has_collected : turns ≡ b.collected → IsToldInTime r b → HasCollected r world
  has_collected all near = record { all = u.collected ∙ sym all; near = omega (arith, all, near) }

  -- if the batch has sent as many commands as the window has room for, so has the schedule
  pub is_full : b.sent ≡ min (b.collected + r.geometry.window) (length r.requests)
      → length u.course.sent ≡ sent_in_window r world
  is_full full =
      u.sent ∙ full ∙ ap (λ k. min (k + r.geometry.window) (length r.requests)) (sym u.collected)

  -- the counts of the list are in order
  pub counts : AreInOrder r.pair.submission.depth b.collected turns bells b.sent b.told
  counts = rw (u.collected, u.sent) at u.keeps.counts

  -- the pages of the outstanding commands
  abbrev pub held : List ℕ
  held = held_pages b.collected u.course.sent

  -- they lie in the memory
  pub still_inside : (l.pages.first + l.pages.count) * r.geometry.page_size ≤ length bytes
  still_inside = rw (u.left) (let laid = u.begun.laid in omega (arith, laid.inside, u.size))

  -- the next command identifier is that of the next request
  cid_is : l.next_cid ≡ cid_at r b.sent
  cid_is = ap (λ (q : QueuePairFields). q.next_cid) u.on_way.pair ∙ ap (cid_at r) u.sent

  -- a request that was sent has no more pages than the longest data has
  pub few_of : {n : ℕ} {x : Sent} (most : ℕ) → All (λ q. length_of q.transfer ≤ most) r.requests → LiesInPages r n x
      → n < b.sent → length (own_pages x) ≤ pages_for most r.geometry.page_size
  few_of {n} {x} most brief k below =
      let few : length_of x.request.transfer ≤ most =
      rw (request_is k) (brief n x.request (omega (arith, below, u.some))) in
      let own = ap (λ (ps : List ℕ). length ps) (own_is k) in
      omega (arith, own, k.many, (data_fits r.geometry (length_of x.request.transfer) most u.begun.geometry few).1)

  -- there are enough pages for one more request
  pub set_has : {what : Requests} (of : IsRunOf r what) → b.sent < b.collected + r.geometry.window
      → b.sent < length r.requests → pages_for of.most r.geometry.page_size ≤ map_of.len l.pages.members
  set_has of more below =
      let each = pages_for of.most r.geometry.page_size in
      let pages = r.pair.pages in
      let xs = drop b.collected u.course.sent in
      let all = ap (λ (m : NumberSet). map_of.len m) u.begun.quiet.free ∙ len-all_of pages.first pages.count in
      let rest = taken_len pages held u.taken in
      let now_has = ap (λ (p : Pages). map_of.len p.members) u.left in
      let few = few_pages each xs (λ n d h.
      subst (λ (x : Sent). length (own_pages x) ≤ each) (sym (get_or-drop b.collected u.course.sent n d))
      (let low : b.collected + n < b.sent = omega (arith, h, u.sent, length-drop b.collected u.course.sent) in
      few_of of.most of.brief (u.kept (b.collected + n) d low) low)) in
      let c = counts in
      let one_more : length xs + 1 ≤ min r.geometry.window (length r.requests) =
      omega (arith, length-drop b.collected u.course.sent, u.sent, more, below, c.collected, c.done, c.rung) in
      let times = mul-le-mul_right each one_more in
      omega (arith, all, rest, now_has, few, times, of.room)

  -- within the window, the submission ring has a free slot
  pub free_slot : b.sent < b.collected + r.geometry.window → HasFreeSlot l bytes
  free_slot more =
      W.free_slot u.on_way (omega (arith, more, u.sent, u.collected, u.begun.geometry.window.2, u.begun.depth))

  -- the tail after one more command is the slot of the next number
  pub tail_after : {n tail : ℕ} → b.sent ≡ n
      → tail ≡ slot_of l.submission.depth (next l.submission.depth l.submission.submitted)
      → tail ≡ slot (setting_of r) (n + 1)
  tail_after sent is = W.tail_after u.on_way is ∙ ap (λ i. slot (setting_of r) (i + 1)) (u.sent ∙ sent)

-- ---- a submission

-- commands that are fewer than sixteen apart have different slots in the window
two_places : (n m : ℕ) → n < m → m < n + 16 → n % 16 ≢ m % 16
unfolding slot_of
two_places n m l h = λ same. slots_apart 16 m n l h (sym same)

-- a request's pages were taken, and it was submitted there
pub record IsSentIn (g : Geometry) (q : Request) (o : CommandPages) (old new : QueuePairFields)
    (before after : List ℕ) (now end : ℕ) : Type 0 where
  pub many : o.count ≡ data_count g (length_of q.transfer) + 2
  pub long : o.count ≤ length o.numbers
  pub taken : AreTaken old.pages (all_pages o)
  pub lowest : AreLowest old.pages (all_pages o)
  pub one : IsSubmittedAt g.page_size (place_in g (all_pages o)) q
      (record old { pages = without old.pages (all_pages o) }) new before after now end

-- a request that is submitted while others are outstanding
module _ {B : Type 0} {wrote : Write B} {rang : TailWrite B} {turned : BusTurn B} {start on : B} {r : Run}
    {bells turns : ℕ} {b : Batch} {bus : BusValue} {l l' : QueuePairFields} {now : ℕ} {bytes mem : List ℕ}
    {places : List CommandPages} {q : Request} {o : CommandPages} {now' tail : ℕ}
    (u : IsUnderWay wrote rang turned start r bells turns b bus on l now bytes places)
    (more : b.sent < b.collected + r.geometry.window) (below : b.sent < length r.requests)
    (is : q ≡ get_or r.requests b.sent q) (sub : IsSentIn r.geometry q o l l' bytes mem now' tail) where
  -- the request as it was sent
  abbrev new_one : Sent
  new_one = sent_at (place_in r.geometry (all_pages o)) q l.next_cid sub.one.prp1 sub.one.prp2

  -- it has the pages that were taken
  own_new : own_pages new_one ≡ all_pages o
  own_new = first_two (all_pages o) (omega (arith, all_count o sub.long, sub.many))

  -- they were free
  taken_new : AreTaken (free_pages r b.collected u.course.sent) (own_pages new_one)
  taken_new = subst (AreTaken (free_pages r b.collected u.course.sent)) (sym own_new)
      (subst (λ s. AreTaken s (all_pages o)) u.left sub.taken)

  -- it was sent with its data in its pages
  kept_new : LiesInPages r b.sent new_one
  kept_new = record {
    pages = all_pages o;
    sent = cc (is, cid_is u);
    many = all_count o sub.long ∙ sub.many;
    points = record { list = λ m. sub.one.list; one = λ m. sub.one.one; none = sub.one.pointer };
  }

  -- the requests and the answers with this request and its submission
  abbrev course_more : Course
  course_more =
      record u.course { sent = u.course.sent ++ new_one ∷ []; events = Submit new_one ∷ u.course.events }

  -- it has no page of an outstanding command
  apart_new : (n : ℕ) (d : Sent) → length u.course.answers ≤ n → n < length u.course.sent
      → AreApart (get_or u.course.sent n d) new_one
  apart_new n d from below i e h j f low same =
      let xs = u.course.sent in
      let p = get_or (own_pages (get_or xs n d)) i e in
      let at : b.collected + (n - b.collected) ≡ n = omega (arith, from, u.collected) in
      let one = rw (ap (λ m. get_or xs m d) (sym at) ∙ sym (get_or-drop b.collected xs (n - b.collected) d)) at
      (in_of (own_pages (get_or xs n d)) i e p h refl) in
      let there = page_of_one (drop b.collected xs) (n - b.collected) d p
      (omega (arith, length-drop b.collected xs, from, below, u.collected)) one in
      both_ways (is_in (held u) p) (ap (is_in (held u)) same
      ∙ (left_in r.pair.pages (held u) _ (taken_new.had j f low)).1) there

  -- the pages of the outstanding commands then
  all_held : held_pages b.collected (u.course.sent ++ new_one ∷ []) ≡ held u ++ own_pages new_one
  all_held =
      let c = counts u in
      let xs = u.course.sent in
      ap pages_of_all (drop-append-le b.collected xs (new_one ∷ [])
      (omega (arith, c.collected, c.done, c.rung, u.sent)))
      ∙ pages-append (drop b.collected xs) new_one

  -- the window keeps the slots of the others, and has one more
  slots_more : {k : ℕ} → b.sent ≡ k → (n : ℕ) (p : CommandPages) (d : Sent) → b.sent + 1 ≤ n + 16 → n < b.sent + 1
      → IsHeld (get_or (set places (k % 16) o) (n % 16) p) (get_or (u.course.sent ++ new_one ∷ []) n d)
  slots_more {k} reached n p d from below =
      let qs = set places (k % 16) o in
      each_more (λ i y. IsHeld (get_or qs (i % 16) p) y) n u.course.sent new_one
      (λ i e above low. rw (get_or-set_other places (k % 16) (i % 16) o p
      (two_places i k (omega (arith, u.sent)) (omega (arith, above, from))))
      (u.slots i p e (omega (arith, above, from)) (omega (arith, u.sent))))
      (rw (ap (λ i. get_or qs (i % 16) p) (u.sent ∙ reached) ∙ get_or-set_same places (k % 16) o p
      (omega (arith, u.room, mod_below k 16 (omega arith)))) (record { few = sub.long; pages = sym own_new }))
      n d (omega arith) (omega (arith, below, u.sent, length-append u.course.sent (new_one ∷ [])))

  -- the list goes on with this request sent, by the number that a loop has reached
  pub submits : {k : ℕ} → b.sent ≡ k → turns ≡ b.collected → IsToldInTime r b
      → IsUnderWay wrote rang turned start r bells turns (record b { sent = b.sent + 1 }) bus on l' now' mem
      (set places (k % 16) o)
  submits {k} reached all near =
      let xs = u.course.sent in
      let more_sent = length-append xs (new_one ∷ []) in
      let due : IsDue r u.course.events (world u) (Submit new_one) = (
        has_collected u all near,
        omega (arith, u.sent, u.collected, more, below),
        record {
          kept = subst (λ n. LiesInPages r n new_one) (sym u.sent) kept_new;
          taken = subst (λ c. AreTaken (free_pages r c u.course.sent) (own_pages new_one)) (sym u.collected) taken_new;
          lowest = rw (u.collected, own_new, ← u.left) sub.lowest;
        },
      ) in
      record {
        course = course_more;
        on_way = W.submits_on u.on_way sub.one
            (subst (λ p. IsRequest (limit_of r.bus.state r.controller) p) (sym is) (u.can b.sent q below))
            (place_of_set r.geometry l.pages (all_pages o) bytes now (length_of q.transfer) u.begun.geometry
            u.page_size (still_inside u) sub.taken.own sub.taken.distinct (all_count o sub.long ∙ sub.many))
            (λ i d h. (taken_new.own i d h).0)
            (omega arith)
            (omega (arith, more, u.sent, u.collected, u.begun.geometry.window.2, u.begun.depth)) apart_new (due, refl);
        awake = λ h. h;
        can = u.can;
        controller = u.controller;
        has = record {
          window = omega (arith, more);
          some = omega (arith, below);
          sent = more_sent ∙ ap (λ n. n + 1) u.sent;
          requests = map_push numbered xs new_one ∙ ap (λ ys. ys ++ numbered new_one ∷ []) u.requests
              ∙ ap (λ y. take b.sent (numbered_of r) ++ y ∷ []) (ap numbered kept_new.sent
              ∙ sym (request_at r.pair.next_cid b.sent r.requests (numbered new_one) q u.begun.laid.next_cid below))
              ∙ sym (take_more (numbered_of r) b.sent (numbered new_one)
              (omega (arith, below, length-from_cid r.pair.next_cid r.requests)));
          kept = λ n d h. each_more (λ i y. LiesInPages r i y) 0 xs new_one
              (λ i e from low. u.kept i e (omega (arith, u.sent)))
              (subst (λ i. LiesInPages r i new_one) (sym u.sent) kept_new) n d (omega arith)
              (omega (arith, h, u.sent, more_sent));
          own = λ n d h. each_more (λ i y. All (λ p. IsOf r.pair.pages.first r.pair.pages.count p) (own_pages y)) 0 xs
              new_one (λ i e from low. u.own i e (omega (arith, u.sent))) taken_new.own n d (omega arith)
              (omega (arith, h, u.sent, more_sent));
          taken = rw all_held (taken_also r.pair.pages (held u) (own_pages new_one) u.taken taken_new);
        };
        collected = u.collected;
        left = ap (λ (p : QueuePairFields). p.pages) sub.one.pair ∙ ap (λ s. without s (all_pages o)) u.left
            ∙ without_also r.pair.pages (held u) (all_pages o)
            ∙ ap (λ ps. without r.pair.pages (held u ++ ps)) (sym own_new)
            ∙ ap (without r.pair.pages) (sym all_held);
        room = length-set places (k % 16) o ∙ u.room;
        slots = slots_more reached;
      }
