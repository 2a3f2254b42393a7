-- A slot with a program, and its parts, own what a box at the same types owns.
use mir.Syntax.{impl, tnil, dnil}
use mathlib.Core.List.{[]}
use denote.Signature.{Slot, plain}
use Rattle.std.proofs.BoxSteps.Form.{Bx}
use Rattle.std.specs.contracts.alloc.Global as Heap
use Rattle.std.specs.contracts.impls.GlobalAllocator.TheImpl.{ghosts, dict}
use Rattle.std.proofs.alloc.Global.TheLaws as heap
use Rattle.asl_c_programs.specs.contracts.opened.Opened as Opened
use Rattle.asl_c_programs.proofs.opened.Opened.TheLaws as opened
use Rattle.asl_c_memory.specs.contracts.open_box.OpenBox as OpenBox
use Rattle.asl_c_programs.specs.contracts.program_slot.Slot as Held

abbrev pub E : Bx
E = record { row = Opened.the_row; laws = opened.the_row_laws; al = record { row = Heap.the_row; laws = heap.the_row_laws; g = ghosts; d = dict; drops = impl [] tnil dnil } }

abbrev pub FromParts : Slot 0
FromParts = plain (λ _. OpenBox.the_row Opened.the_row Heap.the_row ghosts)

abbrev pub FromSlot : Slot 0
FromSlot = plain (λ _. Held.the_row)

abbrev pub FromHeap : Slot 0
FromHeap = plain (λ _. Heap.the_row)
