-- what is owed elsewhere so far
use Rattle.std.proofs.Common.{take}
use Rattle.asl_class_reasons.specs.Draft.{IsElsewhere}
use Rattle.asl_class_reasons.proofs.parting.owed_elsewhere.Given as goal

abbrev pub invariant-loop-one : goal.invariant-loop-one
invariant-loop-one l = IsElsewhere (take l.one-index l.owed) l.pc l.elsewhere.items
