-- How opening a file follows from reading it.
use Rattle.std.proofs.Common.{◌≡◌, ◌∙◌, ap, inl, inr, refl, sym, subst, ℕ, List, [], length}
use Rattle.std.specs.Prelude.{pos, Option, Some, Result, Ok}
use Rattle.nv_controller.specs.Machine.{MachineValue}
use Rattle.nv_file.specs.FaultText.{fault_text}
use Rattle.nv_file.specs.declared.error.SubsystemError.{SubsystemError}
use Rattle.nv_file.specs.declared.error.SubsystemError.TheVariants as fault
use Rattle.nv_model.specs.State.{State}
use Rattle.nvme_controller.specs.Calls.{Opens, machine_of, number_of}
use Rattle.nvme_controller.specs.FaultText.{Tells, c_text}
use Rattle.nvme_controller.specs.inner.FaultText.{IsFaultOf}

-- ---- a machine

-- opening a file that holds a subsystem leaves a machine with it and returns 0
pub opened : (file : Result State SubsystemError) (s : State) (m : Option MachineValue) → file ≡ Ok s
    → Opens file (pos 0) m (Some (machine_of s))
opened file s m is = subst (λ f. Opens f (pos 0) m (Some (machine_of s))) (sym is) (inr (refl, refl))

-- a file that holds a subsystem has an empty text for its fault
pub no_text : (file : Result State SubsystemError) (s : State) (bytes : List ℕ) → file ≡ Ok s
    → bytes ≡ c_text (length bytes) [] → Tells file (pos 0) bytes
no_text file s bytes is empty = subst (λ f. Tells f (pos 0) bytes) (sym is) (inr (refl, empty))

-- ---- a fault

-- lack of memory may be the fault of any file
pub no_memory : (file : Result State SubsystemError) (e : SubsystemError) → e ≡ fault.Memory → IsFaultOf file e
no_memory file e is = inl is

pub ruleset opens = (opened, no_text, no_memory)

-- opening a file with a fault returns the fault's number and leaves what was held
pub fault_opens : (file : Result State SubsystemError) (e : SubsystemError) (m : Option MachineValue) → IsFaultOf file e
    → Opens file (number_of e) m m
fault_opens file e m (inl is) = subst (λ f. Opens file (number_of f) m m) (sym is) (inl (refl, refl))
fault_opens file e m (inr is) = subst (λ f. Opens f (number_of e) m m) (sym is) (inr (refl, refl))

-- a text that is cut to the length before is cut to the length after, if they are equal
same_length : (e : SubsystemError) (old new : List ℕ) → length new ≡ length old
    → new ≡ c_text (length old) (fault_text e) → new ≡ c_text (length new) (fault_text e)
same_length e old new same is = is ∙ ap (λ n. c_text n (fault_text e)) (sym same)

-- a fault of a file has the text of the fault
pub fault_told : (file : Result State SubsystemError) (e : SubsystemError) (old new : List ℕ) → IsFaultOf file e
    → length new ≡ length old → new ≡ c_text (length old) (fault_text e) → Tells file (number_of e) new
fault_told file e old new (inl is) same text =
    inl (ap number_of is, same_length e old new same text ∙ ap (λ f. c_text (length new) (fault_text f)) is)
fault_told file e old new (inr is) same text =
    subst (λ f. Tells f (number_of e) new) (sym is) (inr (refl, same_length e old new same text))

pub ruleset faults = (fault_opens, fault_told)
