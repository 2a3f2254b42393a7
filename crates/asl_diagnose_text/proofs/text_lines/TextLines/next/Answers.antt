use Rattle.std.proofs.Common.{ℕ, ◌<◌, ◌∙◌, ap, sym, take, drop, length, arith}
use Rattle.std.proofs.lemmas.Bool.{eqb-false}
use Rattle.std.proofs.lemmas.List.Sums.{prefix_len-le-length}
use Rattle.asl_assembler.specs.Reading.{is_line_byte}
use Rattle.asl_diagnose_text.proofs.Rowed.{row_is, row_less}
use Rattle.asl_diagnose_text.proofs.text_lines.TextLines.next.Goals as goal

pub split_at-requires : goal.split_at-requires
split_at-requires c = omega (arith, prefix_len-le-length is_line_byte c.args.self.now.rest.now)

pub returns : goal.returns
returns c =
    let text = c.args.self.now.rest.now in
    let some : 0 < length text = omega (arith, eqb-false (length text) 0 (sym c.is_empty.ensures ∙ c.if-is_empty.false)) in
    let front = c.split_at.ensures.front ∙ ap (λ (n : ℕ). take n text) c.line_len.ensures in
    let back = c.split_at.ensures.back ∙ ap (λ (n : ℕ). drop n text) c.line_len.ensures in
    (row_is text c.split_at.result.0.now c.split_at.result.1.now _ some front back c.after_first-self.ensures, row_less text c.split_at.result.1.now _ _ some back c.after_first-self.ensures)
