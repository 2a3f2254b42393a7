use Rattle.std.proofs.Common.{◌≡◌, ◌==◌, ◌∙◌, ℕ, List, not, ap, rules}
use Rattle.std.specs.Prelude.{filter}
use Rattle.std.proofs.lemmas.Fn.{filter_same}
use Rattle.asl_debugger.specs.Breaks.{has_break}
use Rattle.asl_debugger.proofs.Places.{without_place}
use Rattle.asl_debugger.proofs.breakpoints.clear_break.Goals as goal

pub returns-clause-rest : goal.returns-clause-rest
returns-clause-rest c = filter_same _ _ _ (λ x b f' k. search rules) _ _ c.retain.ensures.filtered

pub returns-clause-has : goal.returns-clause-has
returns-clause-has c place =
    let rest : c.retain.new.self.items ≡ filter (λ (p : ℕ). not (p == c.args.pc)) c.args.breakpoints.now.items = filter_same _ _ _ (λ x b f' k. search rules) _ _ c.retain.ensures.filtered in
    ap (λ (xs : List ℕ). has_break xs place) rest ∙ without_place c.args.pc place c.args.breakpoints.now.items
