-- The data of a command: none, a page from the host, or up to 16,384 bytes from the controller.
use Rattle.nv_driver.proofs.Words.{[], ℕ, ◌*◌, ◌++◌, ◌+◌, ◌<◌, ◌∙◌, ◌∷◌, ◌≡◌, ◌≤◌, AreDistinct, Command, CommandFits}
use Rattle.nv_driver.proofs.Words.{FromHost, GetLog, IsSendable, IsWhole, List, NoData, ToHost, Transfer, ap}
use Rattle.nv_driver.proofs.Words.{append-nil, arith, bytes_from_host, bytes_to_host, commands_travel, drop}
use Rattle.nv_driver.proofs.Words.{drop-append-le, get_or, host_data_of, length, length-drop, length_of, lit<, lit≤}
use Rattle.nv_driver.proofs.Words.{read_at, read_written, received_from, refl, sent_from, sym, take, take-append-le}
use Rattle.nv_driver.proofs.Words.{take_all, transfer_by, true, with_data, written_at}
use Rattle.nv_command.specs.LogPage.{log_asked}
use Rattle.nv_command.specs.declared.log_page.LogPage.{LogPage}
use Rattle.nv_command.specs.declared.log_page.LogPage.TheVariants.{ErrorInformation, Health}
use Rattle.nv_command.proofs.FormLaws.{a_page, at_most_a_page}

-- ---- by commands

-- there is no data, a page from the host, or up to 16,384 bytes from the controller
abbrev pub HasShape : Transfer → Type 0
HasShape NoData = Unit {0}
HasShape (ToHost n) = (0 < n) × (n ≤ 16384)
HasShape (FromHost n) = n ≡ 4096

-- the data of a log that is read whole has at most 16,384 bytes
log_shape : (page : LogPage) (offset dwords : ℕ) → IsWhole page offset dwords → HasShape (ToHost (4 * dwords))
log_shape ErrorInformation offset dwords whole =
    let e = whole.1 in (omega (arith, e.whole, e.some), omega (arith, e.whole, e.few))
log_shape Health offset dwords whole = (omega (arith, whole.1), omega (arith, whole.1))

-- data of at most a page has such a shape
by_page : (m : Transfer) → at_most_a_page m ≡ true → HasShape m
by_page NoData is = tt
by_page (ToHost n) is = let page = a_page n is in (omega (arith, page), omega (arith, page))
by_page (FromHost n) is = a_page n is

-- by its form there is at most a page, except for logs
pub shape : (k : Command) → IsSendable k → HasShape (transfer_by k)
shape (GetLog q) sends = log_shape (log_asked q.lid) q.offset q.dwords sends
shape k sends = by_page (transfer_by k) refl

-- ---- in general

-- data of such a shape has at most 16,384 bytes
pub most : (m : Transfer) → HasShape m → length_of m ≤ 16384
most NoData is = lit≤ tt
most (ToHost n) is = is.1
most (FromHost n) is = omega (arith, is)

-- ---- what the host sends

-- a list of length 0 is empty
pub nothing : (xs : List ℕ) → length xs ≡ 0 → xs ≡ []
nothing [] none = refl
nothing (x ∷ xs) none = absurd (omega (arith, none))

-- writing nothing to places changes nothing
pub written-nothing : (bytes at : List ℕ) → written_at bytes at [] ≡ bytes
unfolding written_at
written-nothing bytes [] = refl
written-nothing bytes (p ∷ at) = refl

-- writing data of length 0 to places changes nothing
pub none_written : (bytes at xs : List ℕ) → length xs ≡ 0 → bytes ≡ written_at bytes at xs
none_written bytes at xs none = sym (ap (written_at bytes at) (nothing xs none) ∙ written-nothing bytes at)

-- data of at most a page has at most 4,096 bytes from the host
few_from_host : (m : Transfer) → at_most_a_page m ≡ true → bytes_from_host m ≤ 4096
few_from_host (FromHost n) is = omega (arith, a_page n is)
few_from_host m is = lit≤ tt

-- every command has at most a page of data from the host
few_sent : (k : Command) → bytes_from_host (transfer_by k) ≤ 4096
few_sent (GetLog q) = lit≤ tt
few_sent k = few_from_host (transfer_by k) refl

-- the data from the host of a command whose fields fit has at most 4,096 bytes
pub few_data : (k : Command) → CommandFits k → length (host_data_of k) ≤ 4096
few_data k fits = omega (arith, (commands_travel k 0 fits (lit< tt)).sent, few_sent k)

-- it is written to the beginning of a page, whole or in parts
pub data_part : (k : Command) (page : List ℕ) (at n : ℕ) → at + n ≤ length (host_data_of k)
    → take n (drop at (with_data (host_data_of k) page)) ≡ take n (drop at (host_data_of k))
data_part k page at n inside =
    let xs = host_data_of k in
    let rest = drop (length xs) page in
    ap (take n) (drop-append-le at xs rest (omega arith))
    ∙ take-append-le n (drop at xs) rest (omega (arith, length-drop at xs))

-- the whole data from the host is a part of a page that begins with it
pub data_whole : (k : Command) (page : List ℕ) (at n : ℕ) → CommandFits k → length page ≡ n → n ≡ 4096
    → at + n ≤ length (host_data_of k) → with_data (host_data_of k) page ≡ take n (drop at (host_data_of k))
data_whole k page at n fits size whole inside =
    let xs = host_data_of k in
    let few = few_data k fits in
    let start : at ≡ 0 = omega arith in
    let rest = nothing (drop (length xs) page) (omega (arith, length-drop (length xs) page)) in
    ap (λ ys. xs ++ ys) rest ∙ append-nil xs ∙ sym (take_all n xs (omega arith))
    ∙ (λ i. take n (drop (sym start i) xs))

-- ---- what is sent and received

-- if the bytes that are read don't change, neither does what is sent or received
pub sent_same : (m : Transfer) (old new at : List ℕ) → read_at new at ≡ read_at old at
    → sent_from m new at ≡ sent_from m old at
sent_same (FromHost n) old new at same = same
sent_same m old new at same = refl

-- if the bytes that are read don't change, what is received doesn't
pub received_same : (m : Transfer) (old new at : List ℕ) → read_at new at ≡ read_at old at
    → received_from m new at ≡ received_from m old at
received_same (ToHost n) old new at same = same
received_same m old new at same = refl

-- distinct places in a memory of this size for the data of a transfer
pub record ArePlaces (m : Transfer) (memory : ℕ) (at : List ℕ) : Type 0 where
  pub size : length at ≡ length_of m
  pub inside : (k : ℕ) → k < length at → get_or at k 0 < memory
  pub distinct : AreDistinct at

-- what the host writes to the places of a transfer is what the controller reads there
pub sent_back : (m : Transfer) (bytes at xs : List ℕ) → ArePlaces m (length bytes) at
    → length xs ≡ bytes_from_host m → sent_from m (written_at bytes at xs) at ≡ xs
sent_back (FromHost n) bytes at xs p len = read_written bytes at xs (p.size ∙ sym len) p.inside p.distinct
sent_back m bytes at xs p len = sym (nothing xs len)

-- what the controller writes to the places of a transfer is received there
pub received_back : (m : Transfer) (bytes at xs : List ℕ) → ArePlaces m (length bytes) at
    → length xs ≡ bytes_to_host m → received_from m (written_at bytes at xs) at ≡ xs
received_back (ToHost n) bytes at xs p len = read_written bytes at xs (p.size ∙ sym len) p.inside p.distinct
received_back m bytes at xs p len = sym (nothing xs len)
