-- What one read after another leaves behind.
use Rattle.std.proofs.Common.{◌≡◌, ◌≢◌, ◌∙◌, ℕ, ◌+◌, ◌<◌, ◌≤◌, List, [], ◌∷◌, ◌++◌, ap, append-nil, arith, length}
use Rattle.std.proofs.Common.{refl, subst, sym, take}
use Rattle.std.proofs.Math.Seq.{take-append-add, take-length}
use Rattle.std.proofs.lemmas.List.{length-append, length-take-le, take-take}
use Rattle.std.proofs.lemmas.Slice.{take-put_mid}
use borrow.Rule.Slice.PartMut.{put_mid}
use Rattle.std.specs.Io.KnownBytes.{Consumes}
use Rattle.nv_stream.specs.Streams.{SourceState}
use Rattle.nv_stream.proofs.Taking.{Consumes-join}
use Rattle.nv_serve.specs.Header.{IsCutShort, header_of, sent_length}
use Rattle.nv_serve.specs.declared.header.Header.{Header}
use Rattle.nv_serve.specs.inner.Reading.{Fills, Reads, request}

-- the first a + n elements of a list whose middle was replaced are its first a and n of the new ones
take_part : (a k n : ℕ) (xs ys : List ℕ) → a ≤ length xs → n ≤ length ys
    → take (a + n) (put_mid a k xs ys) ≡ take a xs ++ take n ys
take_part a k n xs ys low few =
    sym (take-take (a + n) (a + length ys) (put_mid a k xs ys) (omega (arith, few)))
    ∙ ap (take (a + n)) (take-put_mid a k xs ys (a + length ys) refl low)
    ∙ ap (λ m. take (m + n) (take a xs ++ ys)) (sym (length-take-le a xs low))
    ∙ take-append-add (take a xs) ys n

-- if n bytes of a buffer were read and more are read after them, n + more bytes were read
pub fills_more : {n more : ℕ} {old mid new : SourceState} {buf : List ℕ} (k : ℕ) (part : List ℕ)
    → Fills n old mid buf → n ≤ length buf
    → more ≤ length part → Consumes mid.to_come new.to_come (take more part) → new.given ≡ mid.given + more
    → Fills (n + more) old new (put_mid n k buf part)
fills_more {n} {more} {old} {mid} {new} {buf} k part fills low few next given = record {
  bytes = subst (Consumes old.to_come new.to_come) (sym (take_part n k more buf part low few))
      (Consumes-join old.to_come mid.to_come new.to_come (take n buf) (take more part) fills.bytes next);
  given = omega (arith, given, fills.given);
}

-- a header of which only a part was read is a request cut short
pub header_cut : {n : ℕ} {old new : SourceState} {buf : List ℕ} → length buf ≡ 72 → n < length buf → Fills n old new buf
    → IsCutShort (request (take n buf) []) × Reads (request (take n buf) []) old new
header_cut {n} {old} {new} {buf} long part fills =
    let size = length-take-le n buf (omega (arith, part)) in
    let all = append-nil (take n buf) in (
      IsCutShort.in_header (omega (arith, size, long, part)) refl,
      record {
        bytes = subst (Consumes old.to_come new.to_come) (sym all) fills.bytes;
        given = omega (arith, fills.given, size, ap (λ (xs : List ℕ). length xs) all);
      },
    )

-- if a header and then n bytes of data were read, the request of both was read
pub reads_both : {n : ℕ} {old mid new : SourceState} {header buf : List ℕ} → Fills (length header) old mid header
    → Fills n mid new buf → n ≤ length buf → Reads (request header (take n buf)) old new
reads_both {n} {old} {mid} {new} {header} {buf} first fills few = record {
  bytes = Consumes-join old.to_come mid.to_come new.to_come header (take n buf)
      (subst (Consumes old.to_come mid.to_come) (take-length header) first.bytes) fills.bytes;
  given = omega (arith, first.given, fills.given, length-append header (take n buf), length-take-le n buf few);
}

-- a header whose data was read only in part is a request cut short
pub data_cut : {n len : ℕ} {header : List ℕ} {h : Header} (sent buf : List ℕ) → length header ≡ 72
    → h ≡ header_of header → h.length ≤ 1048576 → len ≡ sent_length h → len ≤ h.length → length sent ≡ 1048576
    → length buf ≡ length (take len sent) → n < length buf → IsCutShort (request header (take n buf))
data_cut {n} {len} {header} sent buf long said small is few room same part =
    let all = length-take-le len sent (omega (arith, few, small, room)) in
    IsCutShort.in_data (record { header = long; small = rw (← said) small })
    (rw (← said) (omega (arith, length-take-le n buf (omega (arith, part)), part, same, all, is)))

-- a list that begins with a byte isn't empty
pub not_empty : (xs ys : List ℕ) → 0 < length xs → xs ++ ys ≢ []
not_empty [] ys some same = absurd (omega arith)
not_empty (x ∷ xs) ys some same = absurd (cc)
