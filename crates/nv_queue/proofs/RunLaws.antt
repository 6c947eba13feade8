-- Every run over a completion ring is in order.
use Rattle.std.proofs.Common.{◌≡◌, ◌↔◌, ℕ, ◌+◌, ◌-◌, ◌*◌, ◌<◌, ◌≤◌, inl, inr, Bool, false, true, List, [], ◌∷◌, ◌++◌}
use Rattle.std.proofs.Common.{length, get_or, refl, sym, ap, subst, ◌∙◌, arith, append_assoc, length-append}
use Rattle.std.proofs.Math.Seq.{get_or-append_seam}
use Rattle.nv_queue.specs.Numbers.{IsDepth, kept_number}
use Rattle.nv_queue.specs.Slots.{HoldsPosted, IsAwaitedThere, awaited_completion, put_as, with_completion}
use Rattle.nv_queue.specs.Runs.{EveryRunIsInOrder, Event, Exchange, Happens, IsHeadTaken, IsInOrder, IsNew, Poll, Put}
use Rattle.nv_queue.specs.Runs.{Runs, Tell, with_head, with_polled, with_put, with_told}
use Rattle.nv_queue.proofs.Words.{cases_lt, Cqe, CqeFits, IsPostFull, length_push}
use Rattle.nv_queue.proofs.KeptLaws.{between_kept, distance_kept, first_kept, kept_next, kept_zero}
use Rattle.nv_queue.proofs.SlotLaws.{awaited_posted, awaited_stands, holds_one_more, length-with_completion}

-- a moment of a run: `rest` was not polled yet, and the device knows of `known`
record Moment : Type 0 where
  bytes : List ℕ
  posted : List Cqe
  polled : List Cqe
  rest : List Cqe
  known : ℕ
  untold : Bool

-- the memory and both sides of the ring at a moment of a run
abbrev exchange_of : ℕ → ℕ → Moment → Exchange
exchange_of base d m = record {
  bytes = m.bytes;
  device = record {
    base = base;
    depth = d;
    posted = kept_number d (length m.posted);
    told = kept_number d m.known;
  };
  host = record {
    base = base;
    depth = d;
    collected = kept_number d (length m.polled);
    told = kept_number d m.known;
    untold = m.untold;
  };
  posted = m.posted;
  polled = m.polled;
}

-- what holds at each moment
record KeepsExchange (base d : ℕ) (m : Moment) : Type 0 where
  deep : IsDepth d
  inside : base + 16 * d ≤ length m.bytes
  holds : HoldsPosted m.bytes base d m.posted
  prefix : m.polled ++ m.rest ≡ m.posted
  told : m.known ≤ length m.polled
  few : length m.posted < m.known + d

-- a moment at which everything holds has this exchange
abbrev IsReached : ℕ → ℕ → Exchange → Type 0
IsReached base d x = (m : Moment) × KeepsExchange base d m × (x ≡ exchange_of base d m)

-- at a moment at which everything holds
module _ (base d : ℕ) (m : Moment) (keeps : KeepsExchange base d m) where
  -- the completions that were polled and the ones that were not are all that were posted
  counted : length m.polled + length m.rest ≡ length m.posted
  counted = sym (length-append m.polled m.rest) ∙ ap length keeps.prefix

  -- ---- each event

  -- a moment has the exchange after a completion was put into a ring that isn't full
  after_put : (c : Cqe) → CqeFits c → ¬ IsPostFull (exchange_of base d m).device
      → IsReached base d (with_put (exchange_of base d m) c)
  after_put c fits free =
      let x = exchange_of base d m in
      let n = length m.posted in
      let deep = keeps.deep in
      let new = put_as x.device c in
      let more = length_push m.posted new in
      let same = length-with_completion m.bytes x.device c (omega arith) keeps.inside in
      let room : n + 1 < m.known + d =
      elim (cases_lt (n + 1) (m.known + d)) [
        | inl l ↦ l
        | inr g ↦
            let last : n ≡ m.known + (d - 1) = omega (arith, keeps.few) in
            absurd (free (distance_kept d n m.known (d - 1) (omega arith) last (omega arith)))
      ] in
      let y = with_put x c in
      let at : ℕ → Exchange = λ k. record y { device = record x.device { posted = k } } in (
        record m {
          bytes = with_completion m.bytes x.device c;
          posted = m.posted ++ new ∷ [];
          rest = m.rest ++ new ∷ [];
        },
        record {
          deep = deep;
          inside = omega (arith, same, keeps.inside);
          holds = holds_one_more m.bytes (with_completion m.bytes x.device c) x.device c deep.0 refl
              m.posted refl keeps.inside fits keeps.holds;
          prefix = sym (append_assoc m.polled m.rest (new ∷ [])) ∙ ap (λ l. l ++ new ∷ []) keeps.prefix;
          told = keeps.told;
          few = omega (arith, more, room);
        },
        ap at (kept_next d n ∙ ap (kept_number d) (sym more)),
      )

  -- the awaited completion is there if and only if one is left
  found : IsAwaitedThere m.bytes (exchange_of base d m).host ↔ (length m.polled < length m.posted)
  found =
      let count = counted in
      awaited_posted m.bytes (exchange_of base d m).host m.posted (length m.polled) keeps.deep.0 refl
      (omega arith) (omega (arith, keeps.few, keeps.told)) keeps.holds

  -- a moment has the exchange after the awaited completion was polled
  after_poll : (rest : List Cqe) → m.rest ≡ rest → IsAwaitedThere m.bytes (exchange_of base d m).host
      → IsReached base d (with_polled (exchange_of base d m))
  after_poll [] none there =
      let l = found.0 there in
      let count = counted in
      absurd (omega (arith, ap length none))
  after_poll (r ∷ left) first there =
      let x = exchange_of base d m in
      let k = length m.polled in
      let l = found.0 there in
      let c = awaited_completion m.bytes x.host in
      let more = length_push m.polled c in
      let prefix : m.polled ++ (r ∷ left) ≡ m.posted =
      ap (λ rest. m.polled ++ rest) (sym first) ∙ keeps.prefix in
      let near : length m.posted ≤ k + d = omega (arith, keeps.few, keeps.told) in
      let stands = awaited_stands m.bytes x.host m.posted k r keeps.deep.0 refl l near keeps.holds in
      let is : c ≡ r = stands ∙ (ap (λ xs. get_or xs k r) (sym prefix) ∙ get_or-append_seam m.polled r left r) in
      let y = with_polled x in
      let at : ℕ → Exchange = λ j. record y { host = record y.host { collected = j } } in (
        record m { polled = m.polled ++ c ∷ []; rest = left; untold = true },
        record {
          deep = keeps.deep;
          inside = keeps.inside;
          holds = keeps.holds;
          prefix = append_assoc m.polled (c ∷ []) left ∙ (ap (λ y. m.polled ++ (y ∷ left)) is ∙ prefix);
          told = omega (arith, more, keeps.told);
          few = keeps.few;
        },
        ap at (kept_next d k ∙ ap (kept_number d) (sym more)),
      )

  -- the head that the host writes lies between the numbers that the device knows
  head_taken : IsHeadTaken (exchange_of base d m)
  head_taken =
      let k = length m.polled in let n = length m.posted in
      let count = counted in
      between_kept d m.known (k - m.known) (n - m.known) k n (omega arith) (omega arith) (omega arith) (omega arith)

  -- a moment has the exchange after the host wrote its head to the doorbell
  after_tell : IsReached base d (with_told (with_head (exchange_of base d m)))
  after_tell =
      let x = exchange_of base d m in
      let k = length m.polled in
      let count = counted in
      let at : ℕ → Exchange = λ t. record (with_told x) { device = record x.device { told = t } } in (
        record m { known = k; untold = false },
        record {
          deep = keeps.deep;
          inside = keeps.inside;
          holds = keeps.holds;
          prefix = keeps.prefix;
          told = omega arith;
          few = omega arith;
        },
        ap at (first_kept d k m.known (k - m.known) (omega arith) (omega arith)),
      )

-- ---- a run

-- an exchange that is equal to one that some moment has is itself one
along : (base d : ℕ) (x y : Exchange) → y ≡ x → IsReached base d x → IsReached base d y
along base d x y e is = (is.0, is.1, e ∙ is.2)

-- a moment has the exchange after any event at a moment
moment_keeps : (base d : ℕ) (m : Moment) (event : Event) (y : Exchange) → KeepsExchange base d m
    → Happens event (exchange_of base d m) y → IsReached base d y
moment_keeps base d m (Put c) y keeps (fits, inl w) = (m, keeps, w.1)
moment_keeps base d m (Put c) y keeps (fits, inr w) = along base d _ y w.1 (after_put base d m keeps c fits w.0)
moment_keeps base d m Poll y keeps (inl w) = along base d _ y w.1 (after_poll base d m keeps m.rest refl w.0)
moment_keeps base d m Poll y keeps (inr w) = (m, keeps, w.1)
moment_keeps base d m Tell y keeps (inl w) = (m, keeps, w.1)
moment_keeps base d m Tell y keeps (inr (inl w)) = along base d _ y w.2 (after_tell base d m keeps)
moment_keeps base d m Tell y keeps (inr (inr w)) = absurd (w.1 (head_taken base d m keeps))

-- a moment has the exchange after any events, if a moment has the one before them
run_keeps : (base d : ℕ) (events : List Event) (x y : Exchange) → Runs events x y → IsReached base d x
    → IsReached base d y
run_keeps base d [] x y e is = along base d x y e is
run_keeps base d (event ∷ events) x y (z, first, others) is =
    let P : Exchange → Type 0 = λ u. Happens event u z in
    run_keeps base d events z y others (moment_keeps base d is.0 event z is.1 (subst P is.2 first))

-- a moment has the exchange of a new ring
new_is_reached : (base d : ℕ) (x : Exchange) → IsNew base d x → IsReached base d x
new_is_reached base d x new =
    let none : length x.posted ≡ 0 = ap length new.posted in
    let nothing : length x.polled ≡ 0 = ap length new.polled in
    let deep = new.deep in
    let m : Moment = record {
      bytes = x.bytes;
      posted = x.posted;
      polled = x.polled;
      rest = [];
      known = 0;
      untold = false;
    } in
    let y = exchange_of base d m in
    let device : x.device ≡ y.device = new.device ∙ rw (none, kept_zero d) in
    let host : x.host ≡ y.host = new.host ∙ rw (nothing, kept_zero d) in (
      m,
      record {
        deep = deep;
        inside = new.inside;
        holds = record {
          phases = λ n other l. absurd (omega arith);
          standing = λ n other l h. absurd (omega arith);
          blank = λ slot l h. new.blank slot h;
        };
        prefix = let e = new.posted in let f = new.polled in cc;
        told = omega arith;
        few = omega arith;
      },
      λ i. record x { device = device i; host = host i },
    )

-- every run over a new completion ring is in order
pub every_run : EveryRunIsInOrder
every_run base d events x y new runs =
    let (m, keeps, is) = run_keeps base d events x y runs (new_is_reached base d x new) in
    let P : Exchange → Type 0 = IsInOrder d in
    subst P (sym is) (record {
      prefix = (m.rest, keeps.prefix);
      found = found base d m keeps;
      few = omega (arith, keeps.few, keeps.told);
    })
