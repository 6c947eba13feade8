use Rattle.std.proofs.lemmas.Bool.{ne_eqb}
use Rattle.nv_blocks.proofs.PlaceLaws.{faulty_places}
use Rattle.nv_blocks.proofs.execute.find_data.Goals as goal

pub returns-in-Err-clause-found : goal.returns-in-Err-clause-found
returns-in-Err-clause-found g c =
    faulty_places _ _ _ _ _ _ (ne_eqb c.args.len 0 c.if-len-eq0.false) c.in-Err.ensures.fault c.prp_refusal.ensures
