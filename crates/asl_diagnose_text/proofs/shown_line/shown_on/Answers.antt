use Rattle.std.proofs.Common.{ℕ, List, ◌∙◌, ap, take, min, arith}
use Rattle.asl_diagnose_text.specs.Shown.{line_len}
use Rattle.asl_diagnose_text.proofs.shown_line.shown_on.Goals as goal

pub split_at-requires-2 : goal.split_at-requires-2
split_at-requires-2 c =
    let least = c.min.ensures in
    let within = c.rest_len.ensures.bound in
    omega (arith, least, within)

pub returns : goal.returns
returns c =
    let rest = c.split_at.result.1.now in
    c.split_at-2.ensures.front ∙ ap (λ (n : ℕ). take n rest) (c.min.ensures ∙ ap (λ (n : ℕ). min n c.args.room) c.rest_len.ensures.len)
    ∙ ap (λ (r : List ℕ). take (min (line_len r) c.args.room) r) c.split_at.ensures.back
