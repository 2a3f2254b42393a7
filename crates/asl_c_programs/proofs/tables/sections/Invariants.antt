-- the sections so far
use Rattle.std.proofs.Common.{◌≡◌}
use Rattle.asl_lower.specs.OpenSections.{sections_before}
use Rattle.asl_c_programs.proofs.tables.sections.Given as goal

abbrev pub invariant-loop-instr : goal.invariant-loop-instr
invariant-loop-instr l = l.count ≡ sections_before l.code l.instr-index
