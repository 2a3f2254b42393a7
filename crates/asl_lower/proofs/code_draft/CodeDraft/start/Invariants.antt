-- the length of the bodies so far
use Rattle.std.proofs.Common.{◌≡◌}
use Rattle.asl_lower.specs.OpenSections.{start_of}
use Rattle.asl_lower.proofs.code_draft.CodeDraft.start.Given as goal

abbrev pub invariant-loop-function : goal.invariant-loop-function
invariant-loop-function l = l.start ≡ start_of l.self.functions.items l.function-index
