-- Commands and any entries with any data from the host are requests.
use Rattle.nv_driver.proofs.Words.{ℕ, ◌<◌, ◌>>=◌, ◌^◌, ◌∙◌, ◌≡◌, ◌≤◌, Asked, Attachment, Bool, Command, CommandFits}
use Rattle.nv_driver.proofs.Words.{Err, FromHost, GoesBy, HasRoom, IsRequest, IsSendable, List, NoData, Ok, Result, Sqe}
use Rattle.nv_driver.proofs.Words.{SqeFits, StatusCode, ToHost, Transfer, ap, arith, bytes_from_host, command_of}
use Rattle.nv_driver.proofs.Words.{commands_travel, greatest_limit, length_of, limit_bounds, limit_of, lit<, lit≤}
use Rattle.nv_driver.proofs.Words.{moves_of, refl, request_of, sent_for, subst, sym, transfer_by, transfer_for}
use Rattle.nv_driver.proofs.Words.{transfer_of, within}
use Rattle.nv_layout.specs.CtrlList.{ctrl_list_of_bytes}
use Rattle.nv_command.specs.Decoding.{command_with, decoded_as, decoded_of, opcode_of, transfer_in}
use Rattle.nv_command.specs.Management.{listed, page_of}
use Rattle.nv_command.specs.Form.{page_from_host}
use Rattle.nv_command.specs.declared.decoded.Decoded.{Decoded}
use Rattle.nv_command.specs.declared.decoded.Opcode.{Opcode}
use Rattle.nv_command.specs.declared.decoded.Opcode.TheVariants.{Identify}
use Rattle.nv_bus.proofs.CallLaws.{AskedIf, asked_of, has_room, namespace_in, within_few, within_limit}
use Rattle.nv_driver.specs.Request.{EveryCommandIsRequest, EveryEntryIsRequest, entry_as, moved_by}
use Rattle.nv_driver.proofs.PaddingLaws.{length-padded}
use Rattle.nv_driver.proofs.DataLaws.{HasShape, most, shape}
use Rattle.nv_command.specs.declared.decoded.Decoded.TheVariants as decoded

-- ---- commands

-- data of a command's shape has a length that a data pointer can have
shape_room : (m : Transfer) → HasShape m → HasRoom m
shape_room NoData is = tt
shape_room (ToHost n) is = (is.0, omega (arith, is.1))
shape_room (FromHost n) is = (omega (arith, is), omega (arith, is))

-- it is one for each controller, whose limit is at least four pages
pub is_request : (limit : ℕ) (k : Command) → 16384 ≤ limit → CommandFits k → IsSendable k
    → IsRequest limit (request_of k)
is_request limit k enough fits sends =
    let m = transfer_by k in
    let zero_id = commands_travel k 0 fits (lit< tt) in
    let few = most m (shape k sends) in
    let moves : (cid p q : ℕ) → cid < 65536 → moves_of limit (entry_as (request_of k) cid p q) ≡ Ok m =
    λ cid p q low. ap (λ (r : Result Transfer StatusCode). r >>= within limit)
    ((commands_travel k cid fits low).transfer p q) ∙ within_few limit m (omega arith) in
    record {
      fits = zero_id.fits;
      room = shape_room m (shape k sends);
      transfer = λ cid p q n low is. cc (moves cid p q low);
      asked = λ cid p q low. let e = entry_as (request_of k) cid p q in
          ap (λ (r : Result Transfer StatusCode). r >>= (λ _. command_of e (request_of k).sends)) (moves cid p q low)
          ∙ (commands_travel k cid fits low).command p q;
      sends = zero_id.sent;
      command = (refl, zero_id.fits.nsid);
    }

-- every command that `admin` takes is a request
pub every_command : EveryCommandIsRequest
every_command s c k well below fits sends =
    is_request (limit_of s c) k (limit_bounds s c well below).0 fits sends

-- ---- what is asked for doesn't depend on the command identifier and the data pointer

-- an entry with another command identifier and another data pointer
abbrev elsewhere : Sqe → (cid prp1 prp2 : ℕ) → Sqe
elsewhere e cid prp1 prp2 = record e { cid = cid; prp1 = prp1; prp2 = prp2 }

-- what an entry asks for doesn't depend on its command identifier and its data pointer
same_decoding : (r : Result Opcode StatusCode) (e : Sqe) (cid p q : ℕ)
    → (r >>= (λ o. decoded_as o (elsewhere e cid p q))) ≡ (r >>= (λ o. decoded_as o e))
same_decoding (Ok Identify) e cid p q = refl
same_decoding r e cid p q = refl

-- the data transfer of what an entry asks for, within a limit
abbrev moves_as : ℕ → Result Decoded StatusCode → Result Transfer StatusCode
moves_as limit r = (r >>= (λ asked. Ok (transfer_in asked))) >>= within limit

-- ---- the data of a command is transferred as that of its entry

-- a command that is made from a page is transferred as a page from the host
page_then : (r : Result (List ℕ) StatusCode) (f : List ℕ → Asked) → ((page : List ℕ) → GoesBy (f page) page_from_host)
    → GoesBy (r >>= f) page_from_host
page_then (Ok page) f each = each page
page_then (Err code) f each = tt

-- an attachment or a detachment is transferred as a page from the host
list_goes : (detach : Bool) (n : ℕ) → n < 2 ^ 32 → (page : List ℕ) (r : Result (List ℕ) StatusCode)
    → GoesBy (r >>= (λ ids. Ok (Attachment n detach ids))) page_from_host
list_goes detach n low page (Ok ids) = (refl, low)
list_goes detach n low page (Err code) = tt

-- a command with its data is transferred as what the entry asks for
goes_with : (asked : Decoded) (bytes : List ℕ) → namespace_in asked < 2 ^ 32
    → GoesBy (command_with asked bytes) (transfer_in asked)
goes_with (decoded.Whole k) bytes low = (refl, low)
goes_with decoded.Create bytes low = page_then (page_of bytes) _ (λ page. (refl, lit< tt))
goes_with (decoded.Attachment n detach) bytes low =
    page_then (page_of bytes) _ (λ page. list_goes detach n low page (listed (ctrl_list_of_bytes page)))

-- a command with its data is transferred as its entry, if nothing refuses the entry
goes_of : (n : ℕ) (r : Result Decoded StatusCode) (bytes : List ℕ) (m : Transfer) → n < 2 ^ 32 → AskedIf n r
    → (r >>= (λ asked. Ok (transfer_in asked))) ≡ Ok m → GoesBy (r >>= (λ asked. command_with asked bytes)) m
goes_of n (Ok asked) bytes m low h is =
    let same : transfer_in asked ≡ m = cc in
    subst (GoesBy (command_with asked bytes)) same (goes_with asked bytes (omega (arith, h.1)))
goes_of n (Err code) bytes m low h is = tt

-- ---- within a limit

-- what is accepted within a limit is a transfer that is no longer than the limit
is_let : (r : Result Transfer StatusCode) (limit : ℕ) (m : Transfer) → (r >>= within limit) ≡ Ok m
    → (r ≡ Ok m) × (length_of m ≤ limit)
is_let (Ok asked) limit m is = let h = within_limit limit asked m is in (ap Ok (sym h.0), h.1)
is_let (Err code) limit m is = absurd (cc)

-- a transfer that one limit accepts is accepted by the greatest one
let_through : (limit : ℕ) (e : Sqe) (m : Transfer) → limit ≤ greatest_limit → moves_of limit e ≡ Ok m
    → moves_of greatest_limit e ≡ Ok m
let_through limit e m low is =
    let h = is_let (transfer_of e) limit m is in
    ap (λ (r : Result Transfer StatusCode). r >>= within greatest_limit) h.0
    ∙ within_few greatest_limit m (omega (arith, h.1))

-- the transfer of any entry has a length that a data pointer can have
room_of : (r : Result Transfer StatusCode) (e : Sqe) → moves_of greatest_limit e ≡ r → HasRoom (moved_by r)
room_of (Ok m) e is =
    let h = is_let (transfer_of e) greatest_limit m is in
    has_room greatest_limit e m m (lit≤ tt) h.0 (within_few greatest_limit m h.1)
room_of (Err code) e is = tt

-- a command within a limit is transferred as the data of its entry
goes_by : (r : Result Transfer StatusCode) (limit : ℕ) (e : Sqe) (bytes : List ℕ) → limit ≤ greatest_limit → SqeFits e
    → moves_of limit e ≡ r → GoesBy (r >>= (λ m. command_of e bytes)) (transfer_for e)
goes_by (Ok m) limit e bytes low fits is =
    let h = is_let (transfer_of e) limit m is in
    subst (GoesBy (command_of e bytes)) (sym (ap moved_by (let_through limit e m low is)))
    (goes_of e.nsid (decoded_of e) bytes m fits.nsid (asked_of e) h.0)
goes_by (Err code) limit e bytes low fits is = tt

-- any entry with any bytes of the host is a request
pub every_entry : EveryEntryIsRequest
every_entry limit e bytes low fits =
    let sends = sent_for (transfer_for e) bytes in
    record {
      fits = fits;
      room = room_of (moves_of greatest_limit e) e refl;
      transfer = λ cid p q m small is.
          ap moved_by (let_through limit e m low
          (sym (ap (moves_as limit) (same_decoding (opcode_of e) e cid p q)) ∙ is));
      asked = λ cid p q small. ap (λ (r : Result Decoded StatusCode). moves_as limit r
          >>= (λ m. r >>= (λ asked. command_with asked sends))) (same_decoding (opcode_of e) e cid p q);
      sends = length-padded (bytes_from_host (transfer_for e)) bytes;
      command = goes_by (moves_of limit e) limit e sends low fits refl;
    }
