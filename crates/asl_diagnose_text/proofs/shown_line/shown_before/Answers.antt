use Rattle.std.proofs.Common.{◌≡◌, ℕ, List, ◌∙◌, ap, drop, take, length, max, rules}
use Rattle.std.proofs.lemmas.List.{length-take-le}
use Rattle.asl_diagnose_text.proofs.shown_line.shown_before.Goals as goal

pub split_at-requires-2 : goal.split_at-requires-2
split_at-requires-2 c =
    let whole : length (take c.args.at c.args.text.now) ≡ c.args.at = length-take-le c.args.at c.args.text.now c.requires in
    let within = c.line_start.ensures.within in
    search rules

pub returns : goal.returns
returns c = record {
  line = c.line_start.result;
  starts = c.line_start.ensures;
  is = c.split_at-2.ensures.back ∙ ap (λ (l : List ℕ). drop c.max-start.result l) c.split_at.ensures.front ∙ ap (λ (n : ℕ). drop n (take c.args.at c.args.text.now)) (c.max-start.ensures ∙ ap (λ (n : ℕ). max c.line_start.result n) c.saturating_sub.ensures);
}
