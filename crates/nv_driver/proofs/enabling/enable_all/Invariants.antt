use Rattle.nv_driver.proofs.Words.{ℕ, ◌<◌, ◌≡◌, ◌≤◌, All, EnablesFirst, HoldsTags, IsBus, IsLaid, bank_at, enabled_in}
use Rattle.nv_driver.proofs.Words.{idle_bank, length, mps_of, pair_of, pairs_of, reset_first}
use Rattle.nv_driver.proofs.enabling.enable_all.Given as goal

-- the controllers below are enabled with zeroed completion rings, and the others have not changed
abbrev pub invariant-loop-ctrl : goal.invariant-loop-ctrl
invariant-loop-ctrl g l = record {
  bus : g.B.AnyBus.is_lawful → IsBus (g.B.AnyBus.meaning l.bus);
  state : g.B.AnyBus.is_lawful → (g.B.AnyBus.meaning l.bus).state
      ≡ reset_first (enabled_in (g.B.AnyBus.meaning l.fn.bus).banks) l.ctrl (g.B.AnyBus.meaning l.fn.bus).state;
  len : g.B.AnyBus.is_lawful → length (g.B.AnyBus.meaning l.bus).banks ≡ length (g.B.AnyBus.meaning l.fn.bus).banks;
  below : g.B.AnyBus.is_lawful → (k : ℕ) → k < l.ctrl → bank_at (g.B.AnyBus.meaning l.bus).banks k
      ≡ idle_bank (mps_of l.geometry.page_size) l.geometry.page_size (pair_of l.geometry k);
  above : g.B.AnyBus.is_lawful → (k : ℕ) → l.ctrl ≤ k → bank_at (g.B.AnyBus.meaning l.bus).banks k
      ≡ bank_at (g.B.AnyBus.meaning l.fn.bus).banks k;
  tags : (k : ℕ) → k < l.ctrl → HoldsTags (g.M.PagedMemory.bytes l.mem) (pair_of l.geometry k).cq l.geometry.depth 0;
  laid : All (IsLaid l.geometry.page_size (length (g.M.PagedMemory.bytes l.mem)))
      (pairs_of l.geometry (length (g.B.AnyBus.meaning l.fn.bus).banks));
  size : length (g.M.PagedMemory.bytes l.mem) ≡ length (g.M.PagedMemory.bytes l.fn.mem);
  steps : EnablesFirst g.B.AnyBus.was_written g.B.AnyBus.was_read g.B.Zeroing.was_zeroed l.geometry l.ctrl
      l.fn.bus (g.M.PagedMemory.bytes l.fn.mem) l.bus (g.M.PagedMemory.bytes l.mem);
  page : g.M.PagedMemory.page_len l.mem ≡ g.M.PagedMemory.page_len l.fn.mem;
}
