use Rattle.std.proofs.Common.{List, length, sym, subst}
use Rattle.asl_code.specs.declared.lock.Lock.{Lock}
use Rattle.asl_emitter.specs.BuiltImage.{AreFitted}
use Rattle.asl_explain.proofs.Short.{fitted_at}
use Rattle.asl_explain.proofs.lists_by_length.lists_at.Goals as goal

pub returns-then-is_same-clause-lists : goal.returns-then-is_same-clause-lists
returns-then-is_same-clause-lists c =
    let a = c.args.analysis.now in
    let same = c.is_same.ensures c.if-is_same.true in
    fitted_at a c.args.k_limit c.in_ok-same_lists.field-0 c.requires.analysed same.0 same.1
    (subst (λ (lists : List (List Lock)). AreFitted a.lowering a.classes a.flow (length a.lowering.sections) lists) (sym c.in_ok-same_lists.ensures) c.requires.own)
