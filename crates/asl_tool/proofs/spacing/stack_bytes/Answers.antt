use Rattle.std.proofs.Common.{◌≡◌, ◌+◌, ◌*◌, ap, sym, ◌∙◌, if◌then◌else◌}
use Rattle.std.specs.List.{list_any}
use Rattle.asl_tool.specs.Spacing.{is_call, most_registers}
use Rattle.asl_tool.proofs.spacing.stack_bytes.Goals as goal
use Rattle.asl_tool.proofs.spacing.stack_bytes.Goals.{then-has_call, else-has_call}

frames : (c : goal.After-from-2) → c.if-has_call.frames ≡ (if list_any is_call c.args.program.now.code then 256 else 1)
frames c =
    let calls = c.has_call.ensures ∙ ap (list_any is_call) c.code.ensures.code in
    elim c.if-has_call.branch [
      | then-has_call w ↦ w.frames-is ∙ sym (ap (λ b. if b then 256 else 1) (sym calls ∙ w.if-has_call.true))
      | else-has_call w ↦ w.frames-is ∙ sym (ap (λ b. if b then 256 else 1) (sym calls ∙ w.if-has_call.false))
    ]

pub returns-clause-bytes : goal.returns-clause-bytes
returns-clause-bytes c =
    ap (λ n. n * c.if-has_call.frames * (64 + c.from-2.result * 8)) c.from.ensures
    ∙ ap (λ n. c.args.threads * n * (64 + c.from-2.result * 8)) (frames c)
    ∙ ap (λ n. c.args.threads * (if list_any is_call c.args.program.now.code then 256 else 1) * (64 + n * 8))
    (c.from-2.ensures ∙ c.most_registers-registers.ensures ∙ ap most_registers c.functions.ensures.functions)
