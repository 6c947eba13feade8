-- How one request after another forms the whole service.
use Rattle.std.proofs.Common.{◌≡◌, ◌∙◌, ℕ, ◌+◌, ◌≤◌, false, true, List, [], ◌∷◌, ◌++◌, ap, append-nil, arith}
use Rattle.std.proofs.Common.{length, refl, subst, sym, take}
use Rattle.std.specs.Prelude.{Option, None, Some, flat_map}
use Rattle.std.specs.Io.KnownBytes.{Appends, Consumes}
use Rattle.std.proofs.lemmas.Grind.{flat_map-append, fold-append}
use Rattle.std.proofs.lemmas.List.{length-append}
use Rattle.nv_stream.specs.Streams.{SinkState, SourceState, WritesAll}
use Rattle.nv_stream.proofs.Taking.{Appends-join, Appends-same, Consumes-join, Consumes-same}
use Rattle.nv_serve.specs.Answer.{Answer, bytes_of as answer_bytes}
use Rattle.nv_serve.specs.Header.{IsWhole, Request, bytes_of, header_of, most_data}
use Rattle.nv_serve.specs.Header.{sends_data, sent_by_kind, sent_length}
use Rattle.nv_serve.specs.declared.header.Header.{Header}
use Rattle.nv_serve.specs.declared.header.Kind.{Kind}
use Rattle.nv_serve.specs.declared.header.Kind.TheVariants.{Entry, Reset, List as ListKind, Unknown}
use Rattle.nv_serve.specs.Handling.{Calls, Does, DoesAll}
use Rattle.nv_serve.specs.inner.Handling.{IsHandled}
use Rattle.nv_serve.specs.inner.Reading.{IsReady, IsTaken, Reads, request}
use Rattle.nv_serve.specs.declared.reading.ReadRequest.TheVariants as got
use Rattle.nv_serve.specs.Served.{HasTaken, HasTakenPart, IsEnd, IsOpen, IsRest, IsServed, Streams, begun, end_without}
use Rattle.nv_serve.specs.Served.{texts}
use Rattle.nv_model.specs.State.{State}
use Rattle.nv_model.specs.Step.{reset_where}
use Rattle.nv_bus.specs.Bus.{BusValue, enabled_in}
use Rattle.nv_driver.specs.Driver.{driver_with}
use Rattle.nv_driver.specs.inner.Driver.{error_without}
use Rattle.nv_driver.specs.inner.Linked.{next_cids_of}
use Rattle.nv_driver.specs.Settled.{DriverValue}
use Rattle.nv_driver.specs.declared.error.DriverError.{DriverError}
use Rattle.nv_driver.specs.declared.error.DriverError.TheVariants as error
use Rattle.nv_driver.specs.declared.geometry.Geometry.{Geometry}
use Rattle.nv_driver.specs.declared.geometry_field.GeometryField.{GeometryField}
use Rattle.nv_driver.proofs.LinkedLaws.{first_cids}
use Rattle.nv_serve.specs.Serving.{AreAnswered, IsAnswer, Point, after_all, after_one, point}
use Rattle.nv_serve.specs.inner.Serving.{point_of}
use Rattle.nv_serve.specs.declared.ends.ServeEnd.{ServeEnd}
use Rattle.nv_serve.specs.declared.ends.ServeEnd.TheVariants as stop
use Rattle.nv_serve.specs.declared.ends.RequestsEnd.{RequestsEnd}

-- these requests were read, done and answered
pub record Stands {B : Type 0} (k : Calls B) (d now : DriverValue) (first mid : B) (old new : SourceState)
    (requests : List Request) (answers : List Answer) : Type 0 where
  pub answered : AreAnswered (point_of (k.meaning first) d) requests answers
  pub reached : point_of (k.meaning mid) now ≡ after_all (point_of (k.meaning first) d) requests
  pub was_read : Consumes old.to_come new.to_come (flat_map bytes_of requests)
  pub count : new.given ≡ old.given + length (flat_map bytes_of requests)
  pub done : DoesAll k d requests answers first now mid

-- before the first request, nothing was read or answered
pub stands_first : {B : Type 0} {k : Calls B} {d : DriverValue} {b : B} {source : SourceState}
    → Stands k d d b b source source [] []
stands_first {source = source} = record {
  answered = tt;
  reached = refl;
  was_read = Consumes-same source.to_come;
  count = omega arith;
  done = (refl, refl);
}

-- requests that were done and answered, and one more, are all done and answered
all_done : {B : Type 0} (k : Calls B) (p : Point) (d now next : DriverValue) (old mid new : B) (requests : List Request)
    (answers : List Answer) (r : Request) (a : Answer) → IsWhole r → IsAnswer (after_all p requests) r a
    → Does k now (header_of r.header) r.payload a mid next new
    → AreAnswered p requests answers → DoesAll k d requests answers old now mid
    → AreAnswered p (requests ++ r ∷ []) (answers ++ a ∷ [])
    × DoesAll k d (requests ++ r ∷ []) (answers ++ a ∷ []) old next new
all_done k p d now next old mid new [] [] r a whole is does are done =
    ((whole, is, tt), (next, new, rw (done.0, done.1) at does, (refl, refl)))
all_done k p d now next old mid new [] (b ∷ bs) r a whole is does are done = absurd are
all_done k p d now next old mid new (q ∷ qs) [] r a whole is does are done = absurd are
all_done k p d now next old mid new (q ∷ qs) (b ∷ bs) r a whole is does are done =
    let all = all_done k (after_one p q) done.0 now next done.1 mid new qs bs r a whole is does are.2 done.3 in
    ((are.0, are.1, all.0), (done.0, done.1, done.2, all.1))

-- the bytes of several requests and one more are the bytes of the requests and then the bytes of the one
reads_more : (requests : List Request) (r : Request)
    → flat_map bytes_of (requests ++ r ∷ []) ≡ flat_map bytes_of requests ++ bytes_of r
reads_more requests r = flat_map-append bytes_of requests (r ∷ [])
    ∙ ap (λ xs. flat_map bytes_of requests ++ xs) (append-nil (bytes_of r))

-- one more request that was read, and handled with its data, extends what was read, done and answered by it
pub stands_more : {B : Type 0} {k : Calls B} {d now next : DriverValue} {first mid last : B}
    {old from new : SourceState} {requests : List Request} {answers : List Answer} {h : Header} {bytes : List ℕ}
    {n : ℕ} (buf : List ℕ) (a : Answer) → Stands k d now first mid old from requests answers
    → IsTaken (got.Request h) from new bytes buf → n ≡ sent_length h
    → IsHandled k h (take n buf) a now mid next last
    → Stands k d next first last old new (requests ++ request bytes (take (sent_length h) buf) ∷ [])
    (answers ++ a ∷ [])
stands_more {k = k} {d} {now} {next} {first} {mid} {last} {old} {from} {new} {requests} {answers} {h} {bytes} buf a s t
    is handled =
    let p = point_of (k.meaning first) d in
    let r = request bytes (take (sent_length h) buf) in
    let all : IsHandled k (header_of bytes) r.payload a now mid next last = rw (← t.0) (rw is at handled) in
    let done = all_done k p d now next first mid last requests answers r a t.2
    (subst (λ q. IsAnswer q r a) s.reached all.answer) all.steps s.answered s.done in
    record {
      answered = done.0;
      reached = all.reached ∙ ap (λ q. after_one q r) s.reached ∙ sym (fold-append after_one p requests (r ∷ []));
      was_read = subst (Consumes old.to_come new.to_come) (sym (reads_more requests r))
          (Consumes-join old.to_come from.to_come new.to_come (flat_map bytes_of requests) (bytes_of r)
          s.was_read t.3.bytes);
      count = omega (
        arith,
        s.count,
        t.3.given,
        ap (λ (xs : List ℕ). length xs) (reads_more requests r),
        length-append (flat_map bytes_of requests) (bytes_of r),
      );
      done = done.1;
    }

-- a sink that hasn't failed has taken no answers at first
pub taken_first : {s : SinkState} → s.has_failed ≡ false → HasTaken s s []
taken_first {s} ready = record { taken = Appends-same s.taken; not_failed = ready }

-- after one more answer was written, the sink took it too
pub taken_more : {old mid new : SinkState} {answers : List Answer} (a : Answer) → HasTaken old mid answers
    → Appends mid.taken new.taken (answer_bytes a) → new.has_failed ≡ false → HasTaken old new (answers ++ a ∷ [])
taken_more {old} {mid} {new} {answers} a so_far wrote ready =
    let all : texts (answers ++ a ∷ []) ≡ texts answers ++ answer_bytes a =
    flat_map-append answer_bytes answers (a ∷ []) ∙ ap (λ xs. texts answers ++ xs) (append-nil (answer_bytes a)) in
    record {
      taken = subst (Appends old.taken new.taken) (sym all)
          (Appends-join old.taken mid.taken new.taken (texts answers) (answer_bytes a) so_far.taken wrote);
      not_failed = ready;
    }

-- if only a beginning of one more answer was written, the sink took a part of all answers
pub taken_part : {old mid new : SinkState} {answers : List Answer} (a : Answer) → HasTaken old mid answers
    → WritesAll false mid.taken new.taken (answer_bytes a) → new.has_failed ≡ true
    → HasTakenPart old new (answers ++ a ∷ [])
taken_part {old} {mid} {new} {answers} a so_far wrote failed = record {
  before = answers;
  last = a;
  part = wrote.0;
  said_are = refl;
  beginning = wrote.1;
  taken = Appends-join old.taken mid.taken new.taken (texts answers) wrote.0 so_far.taken wrote.2;
  failed = failed;
}

-- a complete request has at most 72 bytes and the greatest length of data
pub request_few : {r : Request} → IsWhole r → length (bytes_of r) ≤ 72 + most_data
request_few {r} whole =
    let few = sent_few (header_of r.header).kind (header_of r.header) in
    omega (arith, length-append r.header r.payload, whole.begun.header, whole.payload, whole.begun.small, few)
  where
    sent_few : (kind : Kind) (h : Header) → sent_by_kind kind h ≤ h.length
    sent_few Entry h = elim (sends_data h.entry) [ true ↦ search arith | false ↦ search arith ]
    sent_few Reset h = search arith
    sent_few ListKind h = search arith
    sent_few Unknown h = search arith

-- ---- the ends

-- reading an empty request leaves the source unchanged
pub nothing : (source : SourceState) → Reads (request [] []) source source
nothing source = record { bytes = Consumes-same source.to_come; given = omega arith }

-- a source from which more may be read is open
pub still_open : {source : SourceState} → IsReady source → IsOpen source
still_open ready = record { not_failed = ready.not_failed; not_ended = ready.not_ended }

module _ {B : Type 0} {k : Calls B} {d now : DriverValue} {first mid : B} {from : SourceState}
    {requests : List Request} {answers : List Answer} {before after : Streams} {end : RequestsEnd}
    (stands : Stands k d now first mid before.source from requests answers) where
  -- what was served and a rest with its answer are right for the end that was reached
  pub ends_at : (rest : Request) (last : List Answer) → Reads rest from after.source → IsRest rest last
      → IsEnd end rest requests (answers ++ last) before after
      → IsServed (point_of (k.meaning first) d) (λ requests answers. DoesAll k d requests answers first now mid) end
      (k.meaning mid).state before after
  ends_at rest last read rest_is end_is = record {
    requests = requests;
    answers = answers;
    rest = rest;
    last = last;
    done = stands.done;
    answered = stands.answered;
    reached = ap (λ (q : Point). q.subsystem) stands.reached;
    was_read = Consumes-join before.source.to_come from.to_come after.source.to_come (flat_map bytes_of requests)
        (bytes_of rest) stands.was_read read.bytes;
    count = omega (arith, stands.count, read.given, length-append (flat_map bytes_of requests) (bytes_of rest));
    rest_is = rest_is;
    end_is = end_is;
  }

  -- the same without a further answer
  pub ends_plain : {rest : Request} → Reads rest from after.source → IsRest rest []
      → IsEnd end rest requests answers before after
      → IsServed (point_of (k.meaning first) d) (λ requests answers. DoesAll k d requests answers first now mid) end
      (k.meaning mid).state before after
  ends_plain {rest} read rest_is end_is = ends_at rest [] read rest_is
      (subst (λ said. IsEnd end rest requests said before after) (sym (append-nil answers)) end_is)

-- what was served stays served if its calls are described otherwise
pub served_by : {p : Point} {did : List Request → List Answer → Type 0} {end : RequestsEnd} {s : State}
    {old new : Streams} (other : List Request → List Answer → Type 0)
    → ((requests : List Request) (answers : List Answer) → did requests answers → other requests answers)
    → IsServed p did end s old new → IsServed p other end s old new
served_by other follows h = record {
  requests = h.requests;
  answers = h.answers;
  rest = h.rest;
  last = h.last;
  done = follows h.requests h.answers h.done;
  answered = h.answered;
  reached = h.reached;
  was_read = h.was_read;
  count = h.count;
  rest_is = h.rest_is;
  end_is = h.end_is;
}

-- ---- with or without a driver

-- the subsystem and the next command identifiers of a new driver are what the first request finds
pub begun_is : (b now : BusValue) {d : DriverValue} (g : Geometry) (more : ℕ)
    → now.state ≡ reset_where (enabled_in b.banks) b.state → d ≡ driver_with g (length b.banks) more
    → point_of now d ≡ begun b
begun_is b now g more state value =
    let next_cids = ap next_cids_of value ∙ first_cids g (length b.banks) in λ i. point (state i) (next_cids i)

-- an end without a driver is the one for the first field of the geometry outside its limits, or for lack of memory
pub end_is : (fault : Option GeometryField) (e : DriverError) (end : ServeEnd) → e ≡ error_without fault
    → ((field : GeometryField) → e ≡ error.Geometry field → end ≡ stop.Geometry field)
    × (e ≡ error.Memory → end ≡ stop.Memory) × (e ≡ error.NoReady → end ≡ stop.NoReady)
    → end ≡ end_without fault
end_is (Some field) e end same gives = gives.0 field same
end_is None e end same gives = gives.1 same
