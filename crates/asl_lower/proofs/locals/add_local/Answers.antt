use Rattle.std.proofs.Common.{◌≡◌, ℕ, List, [], ◌∷◌, ◌++◌, length, arith, sym, ap, ◌∙◌}
use Rattle.std.proofs.lemmas.Grind.{common_steps}
use Rattle.asl_lower.specs.NamesView.{names_of}
use Rattle.asl_lower.proofs.Numbering.{kept_name, new_name, new_length, pushed_names}
use Rattle.asl_lower.proofs.locals.add_local.Goals as goal

pub returns-then-number_of-len-clause-ok : goal.returns-then-number_of-len-clause-ok
returns-then-number_of-len-clause-ok c =
    kept_name c.args.locals.now.items c.as_slice.result.now c.args.name.now c.number_of.result c.len.result c.as_slice.ensures.value c.number_of.ensures.number c.len.ensures.value c.if-number_of-len.true

pub returns-then-is_full-clause-many : goal.returns-then-is_full-clause-many
returns-then-is_full-clause-many c =
    let e = new_name c.args.locals.now.items c.as_slice.result.now c.args.name.now c.number_of.result c.len.result c.as_slice.ensures.value c.number_of.ensures.number c.len.ensures.value c.if-number_of-len.false in
    let full : length c.args.locals.now.items ≡ 64 = grind (arith, common_steps) in
    omega (arith, new_length c.args.locals.now.items c.args.name.now e)

pub returns-clause-ok : goal.returns-clause-ok
returns-clause-ok c =
    let e = new_name c.args.locals.now.items c.as_slice.result.now c.args.name.now c.number_of.result c.len.result c.as_slice.ensures.value c.number_of.ensures.number c.len.ensures.value c.if-number_of-len.false in
    pushed_names c.args.locals.now.items _ c.as_slice-2.result c.push.ensures.items ∙ ap (λ (x : List ℕ). names_of c.args.locals.now.items ++ x ∷ []) c.as_slice-2.ensures.bytes ∙ sym e
