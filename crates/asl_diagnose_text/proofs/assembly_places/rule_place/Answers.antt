use Rattle.std.proofs.Common.{inl, inr, refl, arith}
use Rattle.asl_assembler.specs.Words.{lines_of}
use Rattle.asl_diagnose_text.proofs.Breaking.{line_found, line_there, none_breaks}
use Rattle.asl_diagnose_text.proofs.assembly_places.rule_place.Goals as goal

pub row_front-requires : goal.row_front-requires
row_front-requires c =
    let h = line_found (lines_of c.args.text.now) c.args.cause c.in-Some.broken c.in-Some-breaking_row.number c.in-Some-breaking_row.ensures in
    let k = line_there (lines_of c.args.text.now) c.args.cause c.in-Some-breaking_row.number h in
    record { some = k.0; there = k.1 }

pub returns-in-Some-breaking_row : goal.returns-in-Some-breaking_row
returns-in-Some-breaking_row c =
    inl (c.in-Some-breaking_row.number, line_found (lines_of c.args.text.now) c.args.cause c.in-Some.broken c.in-Some-breaking_row.number c.in-Some-breaking_row.ensures, c.row_front.ensures)

pub row_front-requires-in-Some-breaking_row-2 : goal.row_front-requires-in-Some-breaking_row-2
row_front-requires-in-Some-breaking_row-2 c =
    let h = line_found (lines_of c.args.text.now) c.args.cause 1 c.in-Some-breaking_row-2.row c.in-Some-breaking_row-2.ensures in
    let k = line_there (lines_of c.args.text.now) c.args.cause c.in-Some-breaking_row-2.row h in
    record { some = k.0; there = k.1 }

pub returns-in-Some-breaking_row-2 : goal.returns-in-Some-breaking_row-2
returns-in-Some-breaking_row-2 c =
    inl (c.in-Some-breaking_row-2.row, line_found (lines_of c.args.text.now) c.args.cause 1 c.in-Some-breaking_row-2.row c.in-Some-breaking_row-2.ensures, c.row_front-in-Some-breaking_row-2.ensures)

pub returns-in-None : goal.returns-in-None
returns-in-None c =
    inr (none_breaks (lines_of c.args.text.now) c.args.cause 1 (omega arith) c.in-None.ensures, refl)
