use Rattle.std.proofs.Common.{◌≡◌, ◌+◌, ◌++◌, ◌∷◌, [], List, Some, length, slice_get, get_or, refl, ap, sym, ◌∙◌, subst, arith}
use Rattle.std.proofs.lemmas.Option.{slice_get-get_or}
use Rattle.asl_code.specs.declared.lock.Lock.{Lock}
use Rattle.asl_lower.specs.declared.section.Section.{Section}
use Rattle.asl_emitter.specs.BuiltImage.{AreFitted}
use Rattle.asl_emitter.proofs.Making.{fitted_more, list_fitted}
use Rattle.asl_emitter.proofs.inferred_image.lists.Goals as goal

pub overflow_cast-number : goal.overflow_cast-number
overflow_cast-number c =
    let few = c.sections-section-items.ensures.kept.layout.limits.few_sections in
    let same = ap (length {A = Section}) c.sections-section-items.ensures.sections in
    let lt = c.loop-number-test.true in
    omega (arith, few, same, lt)

pub loop-number-preserved : goal.loop-number-preserved
loop-number-preserved c =
    let l = c.args.lowering.now in
    let k = c.args.classes.now in
    let n = c.loop-number.number in
    let section : Section = get_or c.sections-section-items.result.now c.loop-number.number (record { function = 0; acquire = 0; release = 0 }) in
    let there : slice_get l.sections n ≡ Some section =
    ap (λ (ss : List Section). slice_get ss c.loop-number.number) (sym c.sections-section-items.ensures.sections)
    ∙ slice_get-get_or c.sections-section-items.result.now c.loop-number.number (record { function = 0; acquire = 0; release = 0 }) c.loop-number-test.true in
    let fits = list_fitted k section.function c.args.flow.now n section.acquire c.from-entry.result c.in_ok-needed.needed.items c.in_ok-needed.needed.items c.in_ok-list.list.items refl c.in_ok-needed.ensures.locks c.from-entry.ensures c.in_ok-list.ensures in
    let more = fitted_more l k c.args.flow.now n c.loop-number.lists.items section c.in_ok-list.list.items c.loop-number.invariant there fits in
    let now : c.push.new.self.items ≡ c.loop-number.lists.items ++ c.in_ok-list.list.items ∷ [] = c.in_ok-push.ensures.items ∙ ap (λ (xs : List Lock). c.loop-number.lists.items ++ xs ∷ []) c.from_vec.ensures in
    subst (λ (xs : List (List Lock)). AreFitted l k c.args.flow.now (n + 1) xs) (sym now) more
