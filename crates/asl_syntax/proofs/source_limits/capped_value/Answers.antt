use Rattle.std.proofs.Common.{◌≡◌, ◌+◌, ◌-◌, ◌*◌, min, get_or, sym, ap, ◌∙◌, arith}
use Rattle.std.proofs.lemmas.List.{at_drop_all}
use Rattle.asl_grammar.specs.Lex.{value_from}
use Rattle.asl_syntax.proofs.Numbers.{capped_more}
use Rattle.asl_syntax.proofs.source_limits.capped_value.Goals as goal

pub loop-d-preserved : goal.loop-d-preserved
loop-d-preserved c =
    let ds = c.args.digits.now in
    let i = c.loop-d.d-index in
    let e : min c.saturating_add-value.result 4294967295 ≡ min (c.loop-d.value * 10 + (get_or ds i 0 - 48)) 4294967295 = omega (arith, c.saturating_mul.ensures, c.saturating_add-value.ensures, c.saturating_sub.ensures, c.from.ensures) in (
      capped_more ds i c.loop-d.value c.saturating_add-value.result 4294967295 (omega arith) e ∙ c.loop-d.invariant.0,
      omega (arith, c.saturating_add-value.ensures),
    )

pub returns : goal.returns
returns c =
    let e = at_drop_all (value_from c.loop-d.value) c.args.digits.now c.loop-d.d-index (omega arith) in
    let f : min c.loop-d.value 4294967295 ≡ c.loop-d.value = omega arith in
    sym f ∙ sym (ap (λ n. min n 4294967295) e) ∙ c.loop-d.invariant.0
