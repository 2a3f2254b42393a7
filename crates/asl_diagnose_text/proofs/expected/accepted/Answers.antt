use Rattle.std.proofs.Common.{◌∙◌, true, false, ap, sym, arith}
use Rattle.std.proofs.lemmas.List.{append-nil}
use Rattle.asl_grammar.specs.Token.{Token}
use Rattle.asl_diagnose_text.specs.WalkView.{walk_place, is_accepted}
use Rattle.asl_diagnose_text.specs.declared.kind.TheConstants.{ALL_KINDS}
use Rattle.asl_diagnose_text.proofs.Accepted.{goes_on, grown, lists_at_end}
use Rattle.asl_diagnose_text.proofs.KindsOnce.{listed_once}
use Rattle.asl_diagnose_text.proofs.expected.accepted.Goals as goal
use Rattle.asl_diagnose_text.proofs.expected.accepted.Goals.{then-accepts+in_ok-push, else-accepts}

pub loop-kind-preserved : goal.loop-kind-preserved
loop-kind-preserved c =
    let p = walk_place c.args.walk.now in
    elim c.if-accepts.branch [
      | then-accepts+in_ok-push w ↦ grown (goes_on p) ALL_KINDS c.loop-kind.kind-index _ c.loop-kind.kinds.items c.if-accepts.kinds.items true (omega arith)
          (ap (λ (t : Token). is_accepted p t) (sym c.sample.ensures) ∙ sym w.if-accepts.ensures) c.loop-kind.invariant
          (ap (λ v. v.items) w.kinds-is ∙ w.in_ok-push.ensures.items)
      | else-accepts w ↦ grown (goes_on p) ALL_KINDS c.loop-kind.kind-index _ c.loop-kind.kinds.items c.if-accepts.kinds.items false (omega arith)
          (ap (λ (t : Token). is_accepted p t) (sym c.sample.ensures) ∙ sym w.if-accepts.ensures) c.loop-kind.invariant
          (ap (λ v. v.items) w.kinds-is ∙ sym (append-nil c.loop-kind.kinds.items))
    ]

pub returns-clause-listed : goal.returns-clause-listed
returns-clause-listed c =
    lists_at_end (walk_place c.args.walk.now) c.loop-kind.kinds.items c.loop-kind.kind-index c.loop-kind-test.false c.loop-kind.invariant

pub returns-clause-once : goal.returns-clause-once
returns-clause-once c =
    listed_once (walk_place c.args.walk.now) c.loop-kind.kinds.items c.loop-kind.kind-index c.loop-kind-test.false c.loop-kind.invariant
