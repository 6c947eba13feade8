-- The words and the lemmas that several proofs share.
pub use Rattle.nv_host.proofs.BytesLaws.{bytes_at-bytes_at, bytes_at-with_after, bytes_at-with_before}
pub use Rattle.nv_host.proofs.BytesLaws.{bytes_at-with_same, length-with_bytes, length_with_bytes}
pub use Rattle.nv_layout.specs.Cqe.{bytes_of_cqe, CqeFits}
pub use Rattle.nv_layout.specs.declared.cqe.Cqe.{Cqe}
pub use Rattle.nv_queue.specs.Rings.{CollectNumbers, IsCollectRing, IsPostFull, PostNumbers, SubmitNumbers}
pub use Rattle.std.proofs.lemmas.Bool.{cases_eq, cases_lt}
pub use Rattle.std.proofs.lemmas.Grind.{common_steps}
pub use Rattle.std.proofs.lemmas.List.{length-replicate, length_push}
pub use Rattle.std.proofs.lemmas.Nat.{div-mul-add, mod-mul-add, mod_below}
