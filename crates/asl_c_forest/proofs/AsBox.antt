-- A slot with a forest or a queue, and its parts, own what a box at the same types owns.
use mir.Syntax.{impl, tnil, dnil}
use mathlib.Core.List.{[]}
use denote.Signature.{Slot, plain}
use Rattle.std.proofs.BoxSteps.Form.{Bx}
use Rattle.std.specs.contracts.alloc.Global as Heap
use Rattle.std.specs.contracts.impls.GlobalAllocator.TheImpl.{ghosts, dict}
use Rattle.std.proofs.alloc.Global.TheLaws as heap
use Rattle.asl_lock_forest.specs.contracts.forest.Forest as Forest
use Rattle.asl_lock_forest.proofs.forest.Forest.TheLaws as forest
use Rattle.asl_c_memory.specs.contracts.open_box.OpenBox as OpenBox
use Rattle.asl_c_forest.specs.contracts.forest_slot.Slot as Held
use Rattle.asl_c_forest.specs.contracts.desk.Desk as Desk
use Rattle.asl_c_forest.proofs.desk.Desk.TheLaws as desk
use Rattle.asl_c_forest.specs.contracts.queue_slot.QueueSlot as Queued

abbrev pub E : Bx
E = record { row = Forest.the_row; laws = forest.the_row_laws; al = record { row = Heap.the_row; laws = heap.the_row_laws; g = ghosts; d = dict; drops = impl [] tnil dnil } }

abbrev pub FromParts : Slot 0
FromParts = plain (λ _. OpenBox.the_row Forest.the_row Heap.the_row ghosts)

abbrev pub FromSlot : Slot 0
FromSlot = plain (λ _. Held.the_row)

abbrev pub FromHeap : Slot 0
FromHeap = plain (λ _. Heap.the_row)

abbrev pub Q : Bx
Q = record { row = Desk.the_row; laws = desk.the_row_laws; al = record { row = Heap.the_row; laws = heap.the_row_laws; g = ghosts; d = dict; drops = impl [] tnil dnil } }

abbrev pub FromDeskParts : Slot 0
FromDeskParts = plain (λ _. OpenBox.the_row Desk.the_row Heap.the_row ghosts)

abbrev pub FromQueueSlot : Slot 0
FromQueueSlot = plain (λ _. Queued.the_row)
