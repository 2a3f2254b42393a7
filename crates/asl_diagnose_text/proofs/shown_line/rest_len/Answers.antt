use Rattle.std.proofs.Common.{◌≡◌, ◌+◌, ℕ, false, drop, ap, sym, ◌∙◌, arith}
use Rattle.asl_diagnose_text.specs.Shown.{ends_line, line_len}
use Rattle.asl_diagnose_text.proofs.LineEnds.{past_byte}
use Rattle.asl_diagnose_text.proofs.shown_line.rest_len.Goals as goal

pub loop-at-preserved : goal.loop-at-preserved
loop-at-preserved c =
    let text = c.args.text.now in
    let at = c.loop-at.at in
    let goes : ends_line (drop at text) ≡ false = ap ends_line (sym c.split_at.ensures.back) ∙ sym c.ends_line.ensures ∙ c.if-ends_line.false in
    let one = past_byte text at c.loop-at-test.true goes in
    let before : line_len text ≡ at + line_len (drop at text) = c.loop-at.invariant in
    omega (arith, one, before)
