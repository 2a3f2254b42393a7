use Rattle.std.proofs.Common.{◌∙◌, ◌∷◌, [], ℕ, refl, ap, arith}
use Rattle.asl_diagnose_text.specs.Shown.{below}
use Rattle.asl_diagnose_text.proofs.Adding.{one_added, all_added}
use Rattle.asl_diagnose_text.proofs.bytes.push_blanks.Goals as goal

pub loop-byte-init : goal.loop-byte-init
loop-byte-init c = refl

pub loop-byte-preserved : goal.loop-byte-preserved
loop-byte-preserved c =
    one_added below _ _ 0 _ _ _ _ _ (omega arith) refl (c.in_ok-push.ensures.ascii c.below.ensures.ascii ∙ ap (λ (x : ℕ). x ∷ []) c.below.ensures.below) c.in_ok-push.ensures.bytes c.loop-byte.invariant

pub returns : goal.returns
returns c = all_added below _ _ _ _ (omega arith) c.loop-byte.invariant
