-- What a slot owns: a box of a program, or nothing.
use Rattle.std.specs.Prelude.{Bool, true, false, [], None}
use base.Fml.{Fml, ftrue}
use base.Stored.{Coded}
use denote.RawPtr.{Ptr}
use Rattle.std.specs.Box.Ownership.{box_owns}
use Rattle.std.specs.declared.alloc.Global.{Global}
use Rattle.std.specs.contracts.impls.GlobalAllocator.TheImpl.{ghosts}
use Rattle.asl_c_programs.specs.contracts.opened.Opened.{the_row}

-- what contracts see of the program in a slot's box: the values by which they see an `Opened`
abbrev pub Kept : Type 0
Kept = (the_row).Denot

-- how these values are coded, which a slot's ghost field needs: as the row of `Opened` says
abbrev pub coded_kept : Coded Kept
coded_kept = (the_row).coded

-- what a slot says of a program while it owns none: nothing that counts
abbrev pub no_program : Kept
no_program = record {
  program = record { version = 0; classes = 0; globals = []; functions = []; start = 0; code = []; lists = [] };
  facts = None;
}

-- a box of a program, if it owns one
abbrev pub slot_owns : Bool → Global → Ptr → Kept → Fml
slot_owns true alloc p program = box_owns (ghosts.dealloc_token alloc) the_row p program
slot_owns false alloc p program = ftrue
