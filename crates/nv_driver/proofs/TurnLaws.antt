-- What doesn't change in a turn.
use Rattle.nv_driver.proofs.Words.{[], ℕ, ◌+◌, ◌<◌, ◌∙◌, ◌≡◌, ActiveList, AreOthers, BankTurn, Happens, Keeps, RingsLie}
use Rattle.nv_driver.proofs.Words.{Scene, Sent, Setting, Site, State, Taken, Turn, World, ap, arith, bank_with}
use Rattle.nv_driver.proofs.Words.{bytes_at, device_rings, least, length, ready_bank, refl, request_of, scene, site}
use Rattle.nv_driver.proofs.Words.{subst, suc, sym, turn_count, turn_count_is, zero}
use Rattle.nv_driver.proofs.CountLaws.{number_above, number_below}
use Rattle.nv_driver.proofs.EntryLaws.{can_go, entry_keeps, entry_others, is_done, now, world_after}

-- a placeholder for a command
abbrev pub no_command : Sent
no_command = record {
  request = request_of (ActiveList 0);
  cid = 0;
  pages = [];
  offset = 0;
  first = 0;
  second = 0;
  list_offset = 0;
  prp1 = 0;
  prp2 = 0;
}

-- the schedule when this number of entries was executed, after others
abbrev world_done : Setting → World → ℕ → Scene → World
world_done t w n y = record w {
  mem = y.bytes;
  state = y.state;
  bank = bank_with t (device_rings t w.rung n w.told);
  done = n;
}

-- the schedule after this number of entries
abbrev pub world_with : Setting → World → ℕ → Scene → World
world_with t w count y = world_done t w (w.done + count) y

-- the schedule holds, the scene has its rings, and other bytes don't change
pub record Reaches (t : Setting) (s : State) (w : World) (count : ℕ) (y : Scene) : Type 0 where
  pub keeps : Keeps t s (world_with t w count y)
  pub rings : y.rings ≡ device_rings t w.rung (w.done + count) w.told
  pub others : (from n : ℕ) → AreOthers t (length w.answers) w.sent from n
      → bytes_at y.bytes from n ≡ bytes_at w.mem from n

-- entries, one after another, keep what holds for the schedule
pub taken_keep : (t : Setting) (s : State) (count : ℕ) (w : World) (y : Scene) → Keeps t s w
    → Taken count t.page_size t.controller (scene w.state (now t w) w.mem) y → Reaches t s w count y
taken_keep t s zero w y k taken =
    let zero_more : w.done ≡ w.done + 0 = omega arith in
    subst (Reaches t s w 0) (sym taken) (record {
      keeps = rw (← zero_more, ← k.bank) k;
      rings = ap (λ n. device_rings t w.rung n w.told) zero_more;
      others = λ from n apart. refl;
    })
taken_keep t s (suc count) w y k taken =
    let mid = taken.0 in
    let c = k.counts in
    let go = can_go t s w k taken.1.can in
    let first = is_done t s w mid no_command k (omega (arith, go.0, c.rung)) taken.1.one in
    let r = taken_keep t s count (world_after t w mid) y (entry_keeps t s w mid no_command k taken.1)
    (subst (λ r. Taken count t.page_size t.controller (scene mid.state r mid.bytes) y) first.rings taken.2) in
    let sum : w.done + 1 + count ≡ w.done + suc count = omega arith in
    record {
      keeps = subst (λ n. Keeps t s (world_done t w n y)) sum r.keeps;
      rings = r.rings ∙ ap (λ n. device_rings t w.rung n w.told) sum;
      others = λ from n apart. r.others from n apart ∙ entry_others t s w mid no_command k taken.1 from n apart;
    }

-- the rings of a schedule lie in the memory
rings_lie : (t : Setting) (s : State) (w : World) → Keeps t s w → RingsLie (now t w) t.page_size (length w.mem)
rings_lie t s w k =
    let p = k.placed in
    let c = k.counts in
    let deep = p.deep in
    let some : 0 < t.depth = omega (arith, deep.0) in
    let wait = number_above t w.done w.rung some c.done (omega (arith, c.rung, c.few, c.collected)) in
    let held = number_above t w.told w.done some (omega (arith, c.told, c.collected)) (omega (arith, c.free)) in
    omega (arith, p, c, wait, held, number_below t w.done some, number_below t w.rung some, number_below t w.told some)

-- a turn of a schedule, and how many entries it takes
pub record IsTurn (t : Setting) (s : State) (w : World) (most count : ℕ) (z : Site) : Type 0 where
  pub last : Scene
  pub reached : Reaches t s w count last
  pub left : z ≡ site last.state (bank_with t last.rings) last.bytes
  pub number : count ≡ turn_count most (now t w)

-- a turn of the schedule's controller is a turn of the schedule
pub is_turn : (t : Setting) (s : State) (w : World) (most count : ℕ) (z : Site) → Keeps t s w
    → BankTurn t.page_size t.controller most count (site w.state w.bank w.mem) z → IsTurn t s w most count z
is_turn t s w most count z k by_bank =
    let turn = subst (λ p. BankTurn t.page_size t.controller most count (site w.state p w.mem) z) k.bank by_bank in
    let last = turn.0 in
    let counted = turn_count_is t.page_size t.controller most count (scene w.state (now t w) w.mem)
    last turn.1 (rings_lie t s w k) turn.2 in
    record {
      last = last;
      reached = taken_keep t s count w last k turn.2.entries;
      left = turn.3 ∙ ap (λ b. site last.state (ready_bank (bank_with t (now t w)) last.rings b) last.bytes) counted.1;
      number = counted.0;
    }

-- a turn keeps what holds for the schedule
pub turn_keeps : (t : Setting) (s : State) (most : ℕ) (w w' : World) → Keeps t s w
    → Happens t (Turn most) w w' → Keeps t s w'
turn_keeps t s most w w' k happens =
    let count = happens.0 in
    let r = is_turn t s w most count (site w'.state w'.bank w'.mem) k happens.1 in
    let last = r.last in
    subst (Keeps t s) (sym (happens.2 ∙ ap (λ (z : Site). record w
    { mem = z.bytes; state = z.state; bank = z.bank; done = w.done + count }) r.left
    ∙ ap (λ rings. record (world_with t w count last) { bank = bank_with t rings }) r.reached.rings))
    r.reached.keeps

-- a turn doesn't change bytes in no ring and in no page of an outstanding command
pub turn_leaves : (t : Setting) (s : State) (most : ℕ) (w w' : World) → Keeps t s w → Happens t (Turn most) w w'
    → (from n : ℕ) → AreOthers t (length w.answers) w.sent from n → bytes_at w'.mem from n ≡ bytes_at w.mem from n
turn_leaves t s most w w' k happens from n apart =
    let r = is_turn t s w most happens.0 (site w'.state w'.bank w'.mem) k happens.1 in
    ap (λ (z : Site). bytes_at z.bytes from n) r.left ∙ r.reached.others from n apart

-- the turn takes as many entries as the counts say
pub turn_takes : (t : Setting) (s : State) (most : ℕ) (w w' : World) → Keeps t s w
    → Happens t (Turn most) w w' → w'.done ≡ w.done + least t w most
turn_takes t s most w w' k happens =
    let r = is_turn t s w most happens.0 (site w'.state w'.bank w'.mem) k happens.1 in
    let c = k.counts in
    let some : 0 < t.depth = let deep = k.placed.deep in omega (arith, deep.0) in
    let wait = number_above t w.done w.rung some c.done (omega (arith, c.rung, c.few, c.collected)) in
    let held = number_above t w.told w.done some (omega (arith, c.told, c.collected)) (omega (arith, c.free)) in
    ap (λ (v : World). v.done) happens.2 ∙ ap (λ n. w.done + n) (rw (wait, held) at r.number)
