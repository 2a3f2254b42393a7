use Rattle.std.proofs.Common.{◌≡◌, ℕ, true, false, sym, ap, ◌∙◌, subst, arith}
use Rattle.std.specs.Prelude.{sum_by}
use Rattle.std.proofs.lemmas.Option.{slice_get_within}
use Rattle.asl_class_reasons.specs.declared.search.Search.{Search}
use Rattle.asl_class_reasons.specs.Chains.{unseen, IsEven}
use Rattle.asl_class_reasons.proofs.Chaining.{one_even}
use Rattle.asl_class_reasons.proofs.search.Search.follow_all.Goals as goal
use Rattle.asl_class_reasons.proofs.search.Search.follow_all.Goals.{then-branch, else-branch}

pub loop-index-preserved : goal.loop-index-preserved
loop-index-preserved c =
    let i = c.loop-index.invariant in
    let e = c.in_ok-follow.ensures in
    let left : Search → ℕ = λ t. sum_by unseen t.at.items in
    record {
      search = e.search;
      from = e.from ∙ i.from;
      lower = elim c.if-branch.branch [
        | then-branch w ↦ (let less = e.less w.if-branch.true in let le = i.lower in omega arith)
        | else-branch w ↦ (let same = ap left (e.same w.if-branch.false) in let le = i.lower in omega arith)
      ];
      less = λ t. elim c.if-branch.branch [
        | then-branch w ↦ (let less = e.less w.if-branch.true in let le = i.lower in omega arith)
        | else-branch w ↦ (let same = ap left (e.same w.if-branch.false) in let less = i.less (sym w.more-is ∙ t) in omega arith)
      ];
      even = λ t. elim c.if-branch.branch [
        | then-branch w ↦ (λ n s lt at. absurd (let no : true ≡ false = sym w.more-is ∙ t in cc))
        | else-branch w ↦ (
            let same = e.same w.if-branch.false in
            one_even c.follow.new.self c.args.steps.now c.loop-index.index
            (λ n s low at. subst (λ (x : Search). IsEven x s) (sym same) (i.even (sym w.more-is ∙ t) n s low at))
            (λ s at. subst (λ (x : Search). IsEven x s) (sym same) (e.even w.if-branch.false s at)))
      ];
    }

pub returns-clause-closed : goal.returns-clause-closed
returns-clause-closed c = λ e. record { each = λ n s at. (let low = slice_get_within c.args.steps.now n s at in c.loop-index.invariant.even e n s (omega arith) at) }
