-- what is made so far
use Rattle.std.proofs.Common.{[]}
use Rattle.asl_class_text.proofs.Made.{Flat}
use Rattle.asl_warnings.specs.Texts.{section_line}
use Rattle.asl_warnings.proofs.lacking.lines_of.Given as goal

abbrev pub invariant-loop-area : goal.invariant-loop-area
invariant-loop-area l = Flat (section_line l.facts l.function) l.sections l.area-index [] l.lines.items
