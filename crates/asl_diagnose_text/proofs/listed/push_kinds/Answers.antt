use Rattle.std.proofs.Common.{refl, sym}
use Rattle.asl_diagnose_text.specs.Listed.{kinds_text}
use Rattle.asl_diagnose_text.proofs.Adding.{left_more, left_none}
use Rattle.asl_diagnose_text.proofs.listed.push_kinds.Goals as goal

pub loop-kind-preserved : goal.loop-kind-preserved
loop-kind-preserved c =
    left_more kinds_text c.args.kinds.now c.loop-kind.kind-index _ _ _ _ _ _ c.loop-kind-test.true refl c.in_ok-push_kind.ensures (λ ys. refl) c.loop-kind.invariant

pub returns : goal.returns
returns c = left_none kinds_text c.args.kinds.now c.loop-kind.kind-index _ _ c.loop-kind-test.false refl c.loop-kind.invariant
