use Rattle.std.proofs.Common.{◌≡◌, ◌≤◌, ◌++◌, ◌-◌, ℕ, List, length, drop, string_bytes, subst, sym, arith}
use Rattle.std.proofs.lemmas.List.{length-drop, take_all}
use Rattle.asl_explain.specs.declared.explained_value.Step.{Step}
use Rattle.asl_explain.specs.Told.{left_line, lines_from}
use Rattle.asl_explain.specs.Telling.{Tells, given}
use Rattle.asl_explain.proofs.Piecing.{tells_then, words_then}
use Rattle.asl_explain.proofs.text.Teller.push_ends.Goals as goal

pub returns : goal.returns
returns c =
    let f = (given c.args.self.now).facts in
    let steps = c.args.steps.now in
    let last = length steps - 16 in
    let left : last - 16 ≡ length steps - 32 = omega arith in
    let between = subst (λ (n : ℕ). string_bytes c.push_left_steps.new.text ≡ string_bytes c.push_steps.new.text ++ left_line n) left c.in_ok-push_left_steps.ensures in
    let long : length (drop last steps) ≤ length steps - last = subst (λ (n : ℕ). n ≤ length steps - last) (sym (length-drop last steps)) (omega arith) in
    let back = subst (λ (ss : List Step). Tells (lines_from f steps last ss) (string_bytes c.push_left_steps.new.text) (string_bytes c.push_steps-2.new.text))
    (take_all (length steps - last) (drop last steps) long) c.in_ok-push_steps-2.ensures in
    tells_then _ _ _ _ _ c.in_ok-push_steps.ensures (words_then _ _ _ _ _ between back)
