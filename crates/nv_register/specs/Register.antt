-- Which dword of the registers is at which offset. The doorbell stride is four bytes.
use Rattle.std.specs.Prelude.{ℕ, ◌==◌, List, [], ◌∷◌, Option, Some, None, if◌then◌else◌}
use Rattle.nv_register.specs.declared.register.Register.{Register}
use Rattle.nv_register.specs.declared.register.Register.TheVariants.{CapLow, CapHigh, Vs, Cc, Csts}
use Rattle.nv_register.specs.declared.register.Register.TheVariants.{Aqa, AsqLow, AsqHigh, AcqLow}
use Rattle.nv_register.specs.declared.register.Register.TheVariants.{AcqHigh, TailDoorbell}
use Rattle.nv_register.specs.declared.register.Register.TheVariants.{HeadDoorbell}

-- the offset of each register
abbrev pub offsets : List (ℕ × Register)
offsets =
    (0x00, CapLow) ∷ (0x04, CapHigh) ∷ (0x08, Vs) ∷ (0x14, Cc) ∷ (0x1c, Csts) ∷ (0x24, Aqa)
    ∷ (0x28, AsqLow) ∷ (0x2c, AsqHigh) ∷ (0x30, AcqLow) ∷ (0x34, AcqHigh)
    ∷ (0x1000, TailDoorbell) ∷ (0x1004, HeadDoorbell) ∷ []

-- the register at an offset among these rows
abbrev pub register_among : List (ℕ × Register) → ℕ → Option Register
register_among [] offset = None
register_among (row ∷ rows) offset =
    if offset == row.0 then Some row.1 else register_among rows offset

-- the register that begins at an offset, if one does
abbrev pub register_at : ℕ → Option Register
register_at offset = register_among offsets offset
