use Rattle.std.proofs.Common.{◌∙◌, ◌++◌, ◌∷◌, [], ◌+◌, arith, length-set, refl, sym}
use Rattle.std.proofs.lemmas.Grind.{take-set_at}
use Rattle.std.proofs.lemmas.List.{take_more}
use Rattle.nv_layout.specs.ErrorEntry.{no_entry}
use Rattle.nv_command.proofs.reply_room.keep_entries.Goals as goal

pub loop-index-preserved : goal.loop-index-preserved
loop-index-preserved c =
    let now = c.loop-index.invariant in
    let index = c.loop-index.index in
    record {
      size = length-set c.loop-index.out index c.get.result ∙ now.size;
      written = take-set_at c.loop-index.out index (index + 1) c.get.result refl (omega arith)
          ∙ (λ i. now.written i ++ c.get.ensures i ∷ [])
          ∙ sym (take_more c.args.entries.now index no_entry (omega arith));
    }
