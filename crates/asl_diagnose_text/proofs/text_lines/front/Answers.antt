use Rattle.std.proofs.Common.{ℕ, List, length, arith, ap, length-drop}
use Rattle.std.proofs.lemmas.List.Sums.{prefix_len-le-length}
use Rattle.asl_assembler.specs.Words.{is_separator}
use Rattle.asl_diagnose_text.proofs.text_lines.front.Goals as goal

pub overflow_add-result : goal.overflow_add-result
overflow_add-result c =
    omega (arith, c.gap_len.ensures, prefix_len-le-length is_separator c.split_at.result.1.now, ap (λ (x : List ℕ). length x) c.split_at.ensures.back, length-drop c.args.start c.args.text.now)
