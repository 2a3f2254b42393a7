use Rattle.std.proofs.Common.{◌∙◌, Some, ap, sym}
use Rattle.asl_code.specs.declared.lock.Lock.{Lock}
use Rattle.asl_emitter.proofs.Behind.{expr_is, no_classes}
use Rattle.asl_emitter.proofs.absorb.begins_with_expr.Goals as goal

pub returns-in-Some : goal.returns-in-Some
returns-in-Some c t =
    let is = expr_is c.in-Some.first.now (sym c.is_expr.ensures ∙ t) in
    no_classes c.args.given.now is.0 is.1 c.requires (sym c.in-Some.ensures.value ∙ ap (λ (l : Lock). Some l) is.2)
