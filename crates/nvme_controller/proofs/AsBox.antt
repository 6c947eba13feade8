-- A handle, and a box taken apart, own what a box of a machine owns.
use mir.Syntax.{impl, tnil, dnil}
use mathlib.Core.List.{[]}
use denote.Signature.{Slot, plain}
use Rattle.std_alloc.proofs.BoxSteps.Form.{Bx}
use Rattle.std_heap.specs.contracts.Global as Heap
use Rattle.std_heap.specs.contracts.GlobalAllocator.TheImpl.{ghosts, dict}
use Rattle.std_heap.proofs.Global.TheLaws as heap
use Rattle.nv_controller.specs.contracts.machine.Machine as Machine
use Rattle.nv_controller.proofs.machine.Machine.TheLaws as machine
use Rattle.nvme_controller.specs.contracts.parts.Parts as Parts
use Rattle.nvme_controller.specs.contracts.handle.Handle as Handle

-- a box with a machine in it
abbrev pub E : Bx
E = record { row = Machine.the_row; laws = machine.the_row_laws; al = record { row = Heap.the_row; laws = heap.the_row_laws; g = ghosts; d = dict; drops = impl [] tnil dnil } }

-- the parts of such a box as a parameter
abbrev pub FromParts : Slot 0
FromParts = plain (λ _. Parts.the_row Machine.the_row Heap.the_row ghosts)

-- a handle as a parameter
abbrev pub FromHandle : Slot 0
FromHandle = plain (λ _. Handle.the_row)
