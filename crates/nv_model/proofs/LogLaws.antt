-- Each refusal of a Get Log Page has a status, and the logs fit their records.
use Rattle.std.proofs.lemmas.Bool.Decides.{nat_tests}
use Rattle.std.proofs.Common.{rules, ◌≡◌, ℕ, zero, suc, ◌^◌, ◌<◌, refl, arith, lit<, List, [], ◌∷◌, ◌++◌}
use Rattle.std.proofs.Common.{get_or, Option, Some, None}
use Rattle.nv_layout.proofs.LogLaws.{no_entry_fits}
use Rattle.nv_layout.proofs.PartLaws.{all_below}
use Rattle.nv_layout.specs.Smart.{SmartFits}
use Rattle.nv_command.specs.declared.logs.LogQuery.{LogQuery}
use Rattle.nv_model.specs.declared.smart_base.SmartBase.{SmartBase}
use Rattle.nv_model.proofs.Words.{All, AllByRecursion, Controller, ErrorEntry, ErrorEntryFits, errors_of, health_of}
use Rattle.nv_model.proofs.Words.{is_refusal-refusal_by, IsController, IsEntryList, IsSmart, length-append}
use Rattle.nv_model.proofs.Words.{length-replicate, log_rows, Namespaces, no_entry, no_health, option_map_or, replicate}
use Rattle.nv_model.proofs.Words.{smart_of, State, zero_smart}
use Rattle.nv_model.proofs.ManagementLaws.{AllRefuse}

-- each row of a Get Log Page has a refusal
pub log_rows_fit : (s : State) (c : ℕ) (q : LogQuery) → AllRefuse (log_rows s c q)
log_rows_fit s c q = search (rules, is_refusal-refusal_by)

-- entries that fit their records and entries without an error after them all fit
entries_fit : (es : List ErrorEntry) (n : ℕ) → All ErrorEntryFits es
    → AllByRecursion ErrorEntryFits (es ++ replicate n no_entry)
entries_fit [] zero all = tt
entries_fit [] (suc n) all = (no_entry_fits, entries_fit [] n all)
entries_fit (e ∷ es) n all = (
  all 0 e (omega arith),
  entries_fit es n (λ k d l. let later : ErrorEntryFits (get_or es k d) =
      all (suc k) d (omega arith) in later),
)

-- each number of a health log fits its bits
health_fits : (base : SmartBase) (refusals : ℕ) → IsSmart base → refusals < 2 ^ 64
    → SmartFits (health_of base refusals)
health_fits base refusals s few = search (rules, all_below)

-- a health log about which the file says nothing is in range
zero_is_smart : IsSmart zero_smart
zero_is_smart = search rules

module _ (ns : Namespaces) where
  -- the error log of a controller, or of none, fits its record
  pub errors_fit : (o : Option Controller) → ((x : Controller) → o ≡ Some x → IsController ns x)
      → IsEntryList (option_map_or errors_of o (no_entry ∷ []))
  errors_fit o h = grind (arith, nat_tests, length-append, replicate, no_entry, length-replicate, entries_fit)

  -- the health log of a controller, or of none, fits its record
  pub smart_fits : (o : Option Controller) → ((x : Controller) → o ≡ Some x → IsController ns x)
      → SmartFits (option_map_or smart_of o no_health)
  smart_fits None is = health_fits zero_smart 0 zero_is_smart (lit< tt)
  smart_fits (Some x) is =
      let c = is x refl in
      health_fits x.smart x.refusals c.smart (omega (arith, c.refusals))
