-- The data of replies.
use Rattle.std.proofs.Common.{◌≡◌, ◌∙◌, ℕ, ◌+◌, ◌<◌, ◌≤◌, Bool, true, false, ap, arith, drop, min, refl, sym, take}
use Rattle.std.proofs.Common.{List, [], ◌∷◌, length}
use Rattle.nv_command.specs.declared.reply.Reply.TheVariants as reply
use Rattle.std.specs.Bool.{MatchBool}
use Rattle.nv_layout.proofs.LogLaws.{length-bytes_of_smart, length-entries}
use Rattle.nv_prp.specs.Place.{written_at}
use Rattle.nv_command.specs.declared.command.Command.TheVariants.{GetLog}
use Rattle.nv_command.specs.declared.logs.LogQuery.{LogQuery}
use Rattle.nv_command.specs.declared.transfer.Transfer.TheVariants.{NoData, ToHost, FromHost}
use Rattle.nv_controller.proofs.Words.{bytes_to_host, Command, data_of, FitsRecord, length_of, log_of, page_of, part}
use Rattle.nv_controller.proofs.Words.{part_past, Reply, take_all, Transfer}

-- ---- pages

-- the command doesn't read a log
abbrev pub IsNoLog : Command → Type 0
IsNoLog k = (q : LogQuery) → k ≡ GetLog q → ⊥

-- the data of a reply to a command that reads no log is its page
pub page_data : (k : Command) (r : Reply) → IsNoLog k → data_of k r ≡ page_of r
page_data (GetLog q) r other = absurd (other q refl)
page_data k r other = refl

-- if the data is to the host, all of it is sent by the controller
pub all_sent : (m : Transfer) (n : ℕ) → m ≡ ToHost n → bytes_to_host m ≡ length_of m
all_sent m n is = ap bytes_to_host is ∙ sym (ap length_of is)

-- if the data isn't to the host, the controller sends no bytes
pub none_sent : (m : Transfer) → ((n : ℕ) → m ≡ ToHost n → ⊥) → bytes_to_host m ≡ 0
none_sent NoData other = refl
none_sent (ToHost n) other = absurd (other n refl)
none_sent (FromHost n) other = refl

-- if a page was made, each part of it that begins within it is a part of its bytes
pub whole_page : (has : Bool) (page bytes : List ℕ) (at n : ℕ) → MatchBool has (page ≡ bytes) (bytes ≡ [])
    → length page ≡ n → 0 < n → at + n ≤ length bytes → page ≡ take n (drop at bytes)
whole_page true page bytes at n is long some inside =
    let size = ap length is in
    let first : at ≡ 0 = omega (arith, size) in
    is ∙ sym (ap (λ k. take n (drop k bytes)) first ∙ take_all n bytes (omega (arith, size)))
whole_page false page bytes at n is long some inside = absurd (omega (arith, ap length is))

-- ---- logs

-- a log has at most 16,384 bytes
pub log_length : (r : Reply) → FitsRecord r → length (log_of r) ≤ 16384
log_length (reply.Errors es) fits = omega (arith, length-entries es, fits.count)
log_length (reply.Smart r) fits = omega (arith, length-bytes_of_smart r fits.sensor_count)
log_length r fits = omega arith

-- past the end of a log, all parts of the same length are equal
pub part_least : (bytes : List ℕ) (from at most n : ℕ) → length bytes ≤ most
    → part bytes (min from most + min at most) n ≡ part bytes (from + at) n
part_least bytes from at most n short =
    let same : min (min from most + min at most) (length bytes) ≡ min (from + at) (length bytes) = omega arith in
    sym (part_past bytes (min from most + min at most) n)
    ∙ ap (λ k. part bytes k n) same
    ∙ part_past bytes (from + at) n

-- ---- nothing

-- writing nothing to places changes nothing
pub nothing_written : (bytes at : List ℕ) → bytes ≡ written_at bytes at []
unfolding written_at
nothing_written bytes [] = refl
nothing_written bytes (p ∷ at) = refl
