use Rattle.std.proofs.Common.{◌≡◌, ◌+◌, ℕ, Some, slice_get, true≢false, sym, subst}
use Rattle.asl_explain.proofs.Dropping.{dropped, made_dropped, needed_of, needs_of}
use Rattle.asl_explain.proofs.ended.ends_at.Goals as goal

pub returns-in_default : goal.returns-in_default
returns-in_default c = (
  λ e. absurd (true≢false (sym e)),
  λ d. absurd (c.in_default.not-Some d.to (c.made_inside.ensures.all d.to (made_dropped c.args.analysis.now c.args.at.number c.args.at.section c.requires.there c.args.pc c.args.lock.now d))),
)

pub returns-then-is_on : goal.returns-then-is_on
returns-then-is_on c =
    let a = c.args.analysis.now in
    let at = c.args.at in
    let p = c.requires.placed.0 in
    let by = c.needs.ensures p c.requires.placed.1 in (
      λ n. dropped a at.number at.section c.requires.there c.args.pc c.in-Some.to c.args.lock.now c.in-Some.ensures.made (c.is_on.ensures.0 c.if-is_on.true)
          (needed_of a at.number at.section c.requires.there c.requires.analysed at.place c.args.which p c.args.lock.now c.requires.placed.1 c.requires.placed.2 c.requires.placed.3 c.args.pc
          (subst (λ (q : ℕ). (k : ℕ) × (slice_get p.needs k ≡ Some (q + 1, c.args.which))) c.from.ensures (by.0 n))),
      λ d. by.1 (subst (λ (q : ℕ). (k : ℕ) × (slice_get p.needs k ≡ Some (q + 1, c.args.which))) (sym c.from.ensures)
          (needs_of a at.number at.section c.requires.there c.requires.analysed at.place c.args.which p c.args.lock.now c.requires.placed.1 c.requires.placed.2 c.requires.placed.3 c.args.pc d.needed)),
    )
