use Rattle.std.proofs.Common.{◌∙◌, ◌++◌, ◌∷◌, [], ◌+◌, ◌≡◌, ap, arith, get_or, length-set, map, refl, subst, sym, take}
use Rattle.std.proofs.lemmas.Grind.{take-set_at}
use Rattle.std.proofs.lemmas.List.{get_or-take, length-take-le, map-append, take_more}
use Rattle.nv_layout.specs.ErrorEntryBytes.{without_phase}
use Rattle.nv_command.specs.Logs.{entry_received}
use Rattle.nv_command.proofs.RoomLaws.{entries_read}
use Rattle.nv_command.proofs.reply_room.read_entries.Goals as goal

pub loop-index-preserved : goal.loop-index-preserved
loop-index-preserved c =
    let now = c.loop-index.invariant in
    let index = c.loop-index.index in
    let chunks = c.args.chunks.now in
    let count = c.written_count-count.result in
    let entry = without_phase c.get.result in
    let size = length-take-le count chunks c.written_count-count.ensures.within in
    record {
      size = length-set c.loop-index.out index entry ∙ now.size;
      written = take-set_at c.loop-index.out index (index + 1) entry refl (omega (arith, size))
          ∙ (λ i. now.written i ++ without_phase (c.get.ensures i) ∷ [])
          ∙ ap (λ b. map entry_received (take index chunks) ++ entry_received b ∷ [])
          (get_or-take count chunks index [] (omega (arith, size)))
          ∙ sym (map-append entry_received (take index chunks) (get_or chunks index [] ∷ []))
          ∙ ap (map entry_received) (sym (take_more chunks index [] (omega (arith, size))));
    }

pub returns-clause-read : goal.returns-clause-read
returns-clause-read c =
    let chunks = c.args.chunks.now in
    let count = c.written_count-count.result in
    let size = length-take-le count chunks c.written_count-count.ensures.within in
    let all : c.loop-index.index ≡ count = omega (arith, size) in
    entries_read chunks count c.loop-index.out
    (subst (λ n. take n c.loop-index.out ≡ map entry_received (take n chunks)) all c.loop-index.invariant.written)
    c.written_count-count.ensures.others
