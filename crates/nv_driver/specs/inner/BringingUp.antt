-- A controller that doesn't become ready.
use Rattle.std.specs.Prelude.{ℕ, Bool}
use Rattle.nv_driver.specs.BringingUp.{Read, ReadsOther, Write}

-- CC is written, and CSTS is read 16 times, each time with another RDY than this
abbrev pub GivesUp : {B : Type 0} → Write B → Read B → ℕ → ℕ → Bool → B → B → Type 0
GivesUp wrote read c cc ready old new =
    (first : _) × wrote old c 0x14 cc first × ReadsOther read c ready 16 first new

-- the last calls were those of a controller that didn't become ready
abbrev pub EndsUnready : {B : Type 0} → Write B → Read B → B → Type 0
EndsUnready wrote read new =
    (old : _) × (c : ℕ) × (cc : ℕ) × (ready : Bool) × GivesUp wrote read c cc ready old new
