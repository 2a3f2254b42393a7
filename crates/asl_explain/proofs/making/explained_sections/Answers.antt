use Rattle.std.proofs.Common.{◌≡◌, List, Some, length, slice_get, get_or, ap, sym, ◌∙◌, subst, refl, arith}
use Rattle.std.proofs.lemmas.Option.{slice_get-get_or, slice_get_read}
use Rattle.asl_lower.specs.declared.section.Section.{Section}
use Rattle.asl_explain.specs.declared.explained_value.Listed.{Listed}
use Rattle.asl_explain.specs.Analysed.{read, AreSections}
use Rattle.asl_explain.proofs.Needing.{sections_more}
use Rattle.asl_explain.proofs.making.explained_sections.Goals as goal

pub overflow_cast-number : goal.overflow_cast-number
overflow_cast-number c =
    let few = c.sections-section-items.ensures.kept.layout.limits.few_sections in
    let same = ap (length {A = Section}) c.sections-section-items.ensures.sections in
    let lt = c.loop-number-test.true in
    omega (arith, few, same, lt)

pub loop-number-preserved : goal.loop-number-preserved
loop-number-preserved c =
    let l = c.args.analysis.now.lowering in
    let n = c.loop-number.number in
    let s : Section = get_or c.sections-section-items.result.now n (record { function = 0; acquire = 0; release = 0 }) in
    let there : slice_get l.sections n ≡ Some s =
    ap (λ (ss : List Section). slice_get ss n) (sym c.sections-section-items.ensures.sections)
    ∙ slice_get-get_or c.sections-section-items.result.now n (record { function = 0; acquire = 0; release = 0 }) c.loop-number-test.true in
    let many = ap (length {A = Section}) c.sections-section-items.ensures.sections in
    let lt = c.loop-number-test.true in
    let req = c.requires.count in
    let at = slice_get_read c.args.lists.now (length c.args.lists.now) n c.index-lists-number.result refl (omega (arith, many, lt, req)) c.index-lists-number.is in
    record {
      sections = sections_more (read c.args.analysis.now) c.args.lists.now n s c.as_slice-list.result.now c.loop-number.sections.items c.push.new.self.items c.in_ok-explained_section.field-0 c.in_ok-push.ensures.items there
          (at ∙ ap Some (sym c.as_slice-list.ensures)) c.loop-number.invariant.sections c.in_ok-explained_section.ensures.listed;
      known = c.in_ok-explained_section.ensures.known;
    }

pub returns-clause-sections : goal.returns-clause-sections
returns-clause-sections c =
    let x = read c.args.analysis.now in
    let l = c.args.analysis.now.lowering in
    let many = ap (length {A = Section}) c.sections-section-items.ensures.sections in
    let past = c.loop-number-test.false in
    let within = c.loop-number.auto.number-end in
    let end : c.loop-number.number ≡ length l.sections = omega (arith, many, past, within) in
    subst (λ (ss : List (List Listed)). AreSections x c.args.lists.now (length l.sections) ss) (sym c.from_vec.ensures)
    (subst (λ n. AreSections x c.args.lists.now n c.loop-number.sections.items) end c.loop-number.invariant.sections)
