-- What holds after each event of a schedule.
use Rattle.std.proofs.Common.{◌≡◌, ℕ, ◌+◌, ◌*◌, ◌^◌, ◌<◌, ◌≤◌, List, get_or, length, take}
use Rattle.nv_host.specs.Bytes.{bytes_at}
use Rattle.nv_host.specs.Pages.{IsPageSize}
use Rattle.nv_prp.specs.Buffer.{IsApart}
use Rattle.nv_prp.specs.Place.{AreDistinct}
use Rattle.nv_queue.specs.Numbers.{IsDepth}
use Rattle.nv_queue.specs.Slots.{HoldsTags, submission_at}
use Rattle.nv_model.specs.Conditions.{limit_of}
use Rattle.nv_model.specs.State.{State}
use Rattle.nv_model.specs.WellFormed.{IsWellFormed}
use Rattle.nv_driver.specs.Request.{IsRequest}
use Rattle.nv_driver.specs.Schedule.{AreApart, AreOthers, AreOutside, Holds, HoldsSent, IsCollected}
use Rattle.nv_driver.specs.Schedule.{Sent, Setting, StaysNamed, World, after}
use Rattle.nv_driver.specs.Schedule.{data_length, device_rings, entry, number, own_pages, places}
use Rattle.nv_driver.specs.Schedule.{bank_with, slot}

-- the rings lie in a memory of this size and don't overlap
pub record HasRings (t : Setting) (size : ℕ) : Type 0 where
  pub page_size : IsPageSize t.page_size
  pub deep : IsDepth t.depth
  pub rings : IsApart t.sq (64 * t.depth) t.cq (16 * t.depth)
  pub submissions : t.sq + 64 * t.depth ≤ size
  pub completions : t.cq + 16 * t.depth ≤ size

-- a command whose data and list are in pages of its own, in the memory
pub record IsOwn (t : Setting) (size : ℕ) (x : Sent) : Type 0 where
  pub can : IsRequest t.limit x.request
  pub cid : x.cid < 2 ^ 16
  pub enough : x.offset + data_length x ≤ length x.pages * t.page_size
  pub inside : (k : ℕ) → k < data_length x → get_or (places t.page_size x) k 0 < size
  pub distinct : AreDistinct (places t.page_size x)
  pub pages : AreDistinct (own_pages x)
  pub submissions : AreOutside t.page_size x t.sq (64 * t.depth)
  pub completions : AreOutside t.page_size x t.cq (16 * t.depth)

-- k, d, r and m commands were collected, executed, rung for and sent, and the head doorbell was rung for h of them
pub record AreInOrder (depth k d r m h : ℕ) : Type 0 where
  pub told : h ≤ k
  pub collected : k ≤ d
  pub done : d ≤ r
  pub rung : r ≤ m
  pub few : m < k + depth
  pub free : d < h + depth

-- what holds for commands of controller c from a well-formed subsystem s on
pub record Keeps (t : Setting) (s : State) (w : World) : Type 0 where
  pub placed : HasRings t (length w.mem)
  pub counts : AreInOrder t.depth (length w.answers) w.done w.rung (length w.sent) w.told
  pub bank : w.bank ≡ bank_with t (device_rings t w.rung w.done w.told)
  pub state : w.state ≡ after t.controller s (take w.done w.sent)
  pub well_formed : IsWellFormed w.state
  pub controller : t.controller < length w.state.controllers
  pub limit : limit_of w.state t.controller ≡ t.limit
  pub own : (n : ℕ) (d : Sent) → length w.answers ≤ n → n < length w.sent
      → IsOwn t (length w.mem) (get_or w.sent n d)
  pub apart : (n m : ℕ) (d : Sent) → length w.answers ≤ n → n < m → m < length w.sent
      → AreApart (get_or w.sent n d) (get_or w.sent m d)
  pub named : (n : ℕ) (d : Sent) → length w.answers ≤ n → n < length w.sent
      → StaysNamed t.page_size (get_or w.sent n d) w.mem
  pub waiting : (n : ℕ) (d : Sent) → w.done ≤ n → n < length w.sent
      → submission_at w.mem t.sq (slot t n) ≡ entry (get_or w.sent n d)
  pub to_send : (n : ℕ) (d : Sent) → w.done ≤ n → n < length w.sent
      → HoldsSent t.page_size (get_or w.sent n d) w.mem
  pub held : (n : ℕ) (d : Sent) → length w.answers ≤ n → n < w.done
      → Holds t s w n (get_or w.sent n d)
  pub tags : HoldsTags w.mem t.cq t.depth (number t w.done)
  pub answers : (n : ℕ) → n < length w.answers → IsCollected t s w n

-- compared with the old memory, bytes have not changed that are in no ring and in no page of a
-- command from the first of these on
pub record OthersStay (t : Setting) (first : ℕ) (old : List ℕ) (w : World) : Type 0 where
  pub since : first ≤ length w.answers
  pub same : (from n : ℕ) → AreOthers t first w.sent from n → bytes_at w.mem from n
      ≡ bytes_at old from n
