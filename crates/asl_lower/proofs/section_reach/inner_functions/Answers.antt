use Rattle.std.proofs.Common.{◌≡◌, ℕ, inl, inr, length, sym, subst, arith}
use Rattle.asl_lower.specs.LegalLowering.{lowered_of}
use Rattle.asl_lower.specs.Reach.{Inside, IsMarked, IsCalled}
use Rattle.asl_lower.proofs.Marks.{none_marked}
use Rattle.asl_lower.proofs.Reaching.{inner_from_reached, inner_marked}
use Rattle.asl_lower.proofs.section_reach.inner_functions.Goals as goal

pub returns : goal.returns
returns c f =
    let l = lowered_of c.args.draft.now in
    let all : c.len.result ≡ length l.code = omega (arith, c.len.ensures, c.args.draft.now.out.code.ok.0) in
    let first : (g : ℕ) → IsMarked c.mark_callees.new.marks g → IsCalled l Inside 0 (length l.code) g = λ g h.
    (let P : ℕ → Type 0 = λ n. IsCalled l Inside 0 n g in
    subst P all (elim (c.mark_callees.ensures.only g h) [ inl old ↦ absurd (none_marked 256 g old) | inr k ↦ k ])) in
    let called : (g : ℕ) → IsCalled l Inside 0 (length l.code) g → IsMarked c.follow_calls.new.marks g = λ g k.
    (let P : ℕ → Type 0 = λ n. IsCalled l Inside 0 n g in
    c.follow_calls.ensures.kept g (c.mark_callees.ensures.called g (subst P (sym all) k))) in (
      λ h. inner_from_reached l c.mark_callees.new.marks first f (c.follow_calls.ensures.only f h),
      inner_marked l c.follow_calls.new.marks called c.follow_calls.ensures.followed f,
    )
