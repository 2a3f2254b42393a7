use Rattle.std.proofs.Common.{inl, inr, refl}
use Rattle.asl_assembler.specs.Words.{lines_of}
use Rattle.asl_diagnose_text.proofs.Instructed.{instruction_found, instruction_missing, row_there}
use Rattle.asl_diagnose_text.proofs.assembly_places.instruction_place.Goals as goal

pub row_front-requires : goal.row_front-requires
row_front-requires c =
    let h = instruction_found (lines_of c.args.text.now) c.args.pc c.in-Some.number c.in-Some.ensures in
    let k = row_there (lines_of c.args.text.now) c.args.pc c.in-Some.number h in
    record { some = k.0; there = k.1 }

pub returns-in-Some : goal.returns-in-Some
returns-in-Some c =
    inl (c.in-Some.number, instruction_found (lines_of c.args.text.now) c.args.pc c.in-Some.number c.in-Some.ensures, c.row_front.ensures)

pub returns-in-None : goal.returns-in-None
returns-in-None c =
    inr (instruction_missing (lines_of c.args.text.now) c.args.pc c.in-None.ensures, refl)
