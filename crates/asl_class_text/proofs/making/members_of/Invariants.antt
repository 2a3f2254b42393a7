use Rattle.std.proofs.Common.{[]}
use Rattle.asl_class_text.specs.Classes.{one_of}
use Rattle.asl_class_text.proofs.Made.{Made}
use Rattle.asl_class_text.proofs.making.members_of.Given as goal

abbrev pub invariant-loop-member : goal.invariant-loop-member
invariant-loop-member l = Made (one_of l.class) l.classes l.member [] l.members.items
