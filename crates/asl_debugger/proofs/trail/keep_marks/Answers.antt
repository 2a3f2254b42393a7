use Rattle.std.proofs.Common.{◌≤◌, rules}
use Rattle.std.proofs.lemmas.Fn.{All-from_retain}
use Rattle.asl_debugger.specs.declared.trail.Mark.{Mark}
use Rattle.asl_debugger.proofs.trail.keep_marks.Goals as goal

pub returns-clause-within : goal.returns-clause-within
returns-clause-within c = All-from_retain _ (λ (m : Mark). (c.args.start ≤ m.position) × (m.position ≤ c.args.end)) _ (λ x b f' k. search rules) _ _ c.retain.ensures.filtered
