-- The Identify data of a controller fits its record.
use Rattle.std.proofs.lemmas.Grind.{common_steps}
use Rattle.std.proofs.Common.{rules, ◌≡◌, ℕ, ◌<◌, ◌^◌, refl, arith, lit<, List, length, Option, Some, None}
use Rattle.nv_layout.specs.IdCtrl.{IdCtrlFits, id_ctrl_of_bytes}
use Rattle.nv_layout.specs.Parts.{number_at, text_at}
use Rattle.nv_model.specs.IdentifyController.{cmic_of, fna_of, id_ctrl_of, no_controller, padded}
use Rattle.nv_model.proofs.Words.{Controller, IsController, IsWellFormed}
use Rattle.nv_model.proofs.Words.{nat_le, option_map_or, State}
use Rattle.nv_model.proofs.ChoiceLaws.{chosen_fits}

-- a padded text has the size that was asked for
length-padded : (size padding : ℕ) (text : List ℕ) → length (padded size padding text) ≡ size
length-padded size padding text = grind (arith, common_steps)

-- the Identify data of a controller that doesn't exist fits its record
no_controller_fits : IdCtrlFits no_controller
unfolding id_ctrl_of_bytes number_at text_at
no_controller_fits = search (rules, arith)

-- the Identify data of a controller of a well-formed subsystem, or of none, fits its record
pub id_ctrl_fits : (s : State) → IsWellFormed s → (o : Option Controller)
    → ((x : Controller) → o ≡ Some x → IsController s.namespaces x)
    → IdCtrlFits (option_map_or (id_ctrl_of s) o no_controller)
id_ctrl_fits s w None is = no_controller_fits
id_ctrl_fits s w (Some x) is =
    let id = (is x refl).identity in
    let n = id.numbers in
    let cmic : cmic_of s < 2 ^ 8 =
    chosen_fits (λ n. n < 2 ^ 8) (nat_le 2 (length s.controllers)) 2 0 (lit< tt) (lit< tt) in
    let fna : fna_of x < 2 ^ 8 =
    chosen_fits (λ n. n < 2 ^ 8) x.identity.crypto_erase 4 0 (lit< tt) (lit< tt) in
    search (rules, arith, length-padded, cmic, fna, n, id.cntlid, w.keys.tnvmcap, w.keys.nn)
