-- What a program in C holds of a machine.
use Rattle.std.specs.Prelude.{Option, Some, None}
use base.Fml.{Fml, ftrue}
use denote.RawPtr.{Ptr}
use Rattle.std.specs.Box.Ownership.{box_owns}
use Rattle.std.specs.Global.{Global}
use Rattle.std_heap.specs.contracts.GlobalAllocator.TheImpl.{ghosts}
use Rattle.nv_controller.specs.Machine.{MachineValue}
use Rattle.nv_controller.specs.contracts.machine.Machine.{the_row}

-- the machine at a pointer, with the right to free its memory, or nothing
abbrev pub holds : Global → Ptr → Option MachineValue → Fml
holds alloc at None = ftrue
holds alloc at (Some m) = box_owns (ghosts.dealloc_token alloc) the_row at m
