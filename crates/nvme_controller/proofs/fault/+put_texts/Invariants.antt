use Rattle.std.specs.Prelude.{length}
use Rattle.nvme_controller.proofs.fault.+put_texts.Given as goal

abbrev pub decreases-put_texts : goal.decreases-put_texts
decreases-put_texts l = length l.texts.now
