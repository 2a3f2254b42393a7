use Rattle.std.proofs.Common.{ℕ, Option, subst}
use Rattle.asl_points_to.specs.Draft.{IsForcedMerge, IsMerged}
use Rattle.asl_points_to.proofs.Keeping.{merged_on, forced_on}
use Rattle.asl_points_to.proofs.class_draft.ClassDraft.unify.Goals as goal

pub loop-next-preserved : goal.loop-next-preserved
loop-next-preserved c =
    let i = c.loop-next.invariant in
    let s = c.loop-next.self in
    let n = c.merge-next-in-Some.ensures in
    let Merged : Option (ℕ × ℕ) → Type 0 = λ next. IsMerged c.args.self.now s c.args.left c.args.right next in
    record {
      draft = n.draft;
      merged = merged_on c.args.self.now s c.merge-next-in-Some.new.self c.args.left c.args.right c.in-Some.left c.in-Some.right c.merge-next-in-Some.result (subst Merged c.in-Some.is i.merged) n.merged;
      forced = λ classes f e. (
          let g = i.forced classes f e in
          let Forced : Option (ℕ × ℕ) → Type 0 = λ next. IsForcedMerge classes s next in
          n.forced classes g.draft (forced_on classes s c.in-Some.left c.in-Some.right (subst Forced c.in-Some.is g)));
    }
