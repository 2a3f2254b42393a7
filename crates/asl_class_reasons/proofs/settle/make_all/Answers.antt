use Rattle.std.proofs.Common.{◌≡◌, true, false, sym, ◌∙◌, subst, arith}
use Rattle.std.proofs.lemmas.Option.{slice_get_within}
use Rattle.asl_class_reasons.specs.declared.draft.Draft.{Draft}
use Rattle.asl_class_reasons.specs.Draft.{Holds, drafted}
use Rattle.asl_class_reasons.proofs.Labels.{grown_on}
use Rattle.asl_class_reasons.proofs.Making.{one_of, one_holds}
use Rattle.asl_class_reasons.proofs.settle.make_all.Goals as goal
use Rattle.asl_class_reasons.proofs.settle.make_all.Goals.{then-branch, else-branch}

pub loop-one-preserved : goal.loop-one-preserved
loop-one-preserved c =
    let i = c.loop-one.invariant in
    let e = c.in_ok-make.ensures in
    record {
      grown = grown_on c.args.draft.now c.loop-one.draft c.make.new.self i.grown e.grown;
      founded = λ p f a. e.founded p (i.founded p f a) (one_of p c.args.owed.now a c.loop-one.one-index _ c.loop-one-test.true);
      lower = λ t. elim c.if-branch.branch [
        | then-branch w ↦ (let less = e.lower w.if-branch.true in let le = i.grown.lower in omega arith)
        | else-branch w ↦ (let less = i.lower (sym w.more-is ∙ t) in let g = e.grown in let le = g.lower in omega arith)
      ];
      holds = λ p f a t. elim c.if-branch.branch [
        | then-branch w ↦ (λ n o lt at. absurd (let no : true ≡ false = sym w.more-is ∙ t in cc))
        | else-branch w ↦ (
            let same = e.same w.if-branch.false in
            one_holds (drafted p c.make.new.self) c.args.owed.now c.loop-one.one-index _
            (λ n o low at. subst (λ (s : Draft). Holds (drafted p s) o.flow) (sym same) (i.holds p f a (sym w.more-is ∙ t) n o low at))
            (e.holds p (i.founded p f a) (one_of p c.args.owed.now a c.loop-one.one-index _ c.loop-one-test.true) w.if-branch.false))
      ];
    }

pub returns-clause-holds : goal.returns-clause-holds
returns-clause-holds c = λ l f of e n o at. (let low = slice_get_within c.args.owed.now n o at in c.loop-one.invariant.holds l f of e n o (omega arith) at)
