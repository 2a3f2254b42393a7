-- none so far
use Rattle.asl_class_text.specs.Made.{AreNone}
use Rattle.asl_class_text.proofs.grounds.is_told.Given as goal

abbrev pub invariant-loop-ground : goal.invariant-loop-ground
invariant-loop-ground l = AreNone l.grounds l.ground-index l.one l.other
