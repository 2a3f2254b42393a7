use Rattle.std.proofs.Common.{rules, ◌≡◌, ◌≤◌, ◌<◌, ◌++◌, ◌∷◌, [], ⊎_elim, Some, slice_get, true≢false, sym, ap, ◌∙◌, subst, arith}
use Rattle.std.specs.Option.{is_some}
use Rattle.std.proofs.Math.Nat.{eq-or-lt_of_le}
use Rattle.asl_code.specs.declared.instr.Instr.TheVariants.{New}
use Rattle.asl_explain.specs.Endings.{Has}
use Rattle.asl_explain.proofs.Dropping.{has_more, has_last}
use Rattle.asl_explain.proofs.ended.news_of.Goals.{then-is_some+in_ok-push, else-is_some}
use Rattle.asl_explain.proofs.ended.news_of.Goals as goal

pub loop-pc-preserved : goal.loop-pc-preserved
loop-pc-preserved c q to below made =
    let pc = c.loop-pc.pc in
    let old = c.loop-pc.news.items in
    elim c.if-is_some.branch [
      | then-is_some+in_ok-push w ↦
          let is : c.if-is_some.news.items ≡ old ++ pc ∷ [] = search rules in
          subst (Has q) (sym is)
          (⊎_elim (λ (same : q ≡ pc). subst (λ n. Has n (old ++ pc ∷ [])) (sym same) (has_last old pc)) (λ (less : q < pc). has_more old pc q (c.loop-pc.invariant q to less made)) (eq-or-lt_of_le (omega (arith, below))))
      | else-is_some w ↦
          let is : c.if-is_some.news.items ≡ old = search rules in
          subst (Has q) (sym is)
          (⊎_elim (λ (same : q ≡ pc).
          let told : c.made_at.result ≡ Some to = c.made_at.ensures.all to made.cells made.site (subst (λ n. slice_get c.args.analysis.now.lowering.code n ≡ Some (New to made.cells made.site)) same made.stands) in
          absurd (true≢false (sym (c.is_some.ensures ∙ ap is_some told) ∙ w.if-is_some.false))) (λ (less : q < pc). c.loop-pc.invariant q to less made) (eq-or-lt_of_le (omega (arith, below))))
    ]

pub returns : goal.returns
returns c pc to made = c.loop-pc.invariant pc to (let ahead = made.ahead in let all : c.args.section.release ≤ c.loop-pc.pc = search rules in omega (arith, ahead, all)) made
