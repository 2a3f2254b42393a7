use Rattle.std.proofs.Common.{◌≡◌, List, Some, length, slice_get, get_or, string_bytes, refl, ap, sym, ◌∙◌, subst, arith}
use Rattle.std.proofs.lemmas.Option.{slice_get-get_or, slice_get_read}
use Rattle.asl_lower.specs.declared.section.Section.{Section}
use Rattle.asl_explain.specs.Analysed.{read}
use Rattle.asl_explain.specs.Telling.{TellsSections, given}
use Rattle.asl_explain.proofs.Sectionwise.{tells_no_section, tells_section_more}
use Rattle.asl_explain.proofs.explained_text.text_of.Goals as goal

pub loop-number-init : goal.loop-number-init
loop-number-init c =
    let g = given c.args.teller.now in
    record {
      tells = tells_no_section (read c.args.analysis.now) c.args.lists.now g _ c.new-text.ensures.bytes;
      known = c.new-known.ensures (read c.args.analysis.now);
    }

pub overflow_cast-number : goal.overflow_cast-number
overflow_cast-number c =
    let few = c.sections-section-items.ensures.kept.layout.limits.few_sections in
    let same = ap (length {A = Section}) c.sections-section-items.ensures.sections in
    let lt = c.loop-number-test.true in
    omega (arith, few, same, lt)

pub push_explained-requires-clause-there : goal.push_explained-requires-clause-there
push_explained-requires-clause-there c =
    let n = c.loop-number.number in
    ap (λ (ss : List Section). slice_get ss n) (sym c.sections-section-items.ensures.sections)
    ∙ slice_get-get_or c.sections-section-items.result.now n (record { function = 0; acquire = 0; release = 0 }) c.loop-number-test.true

pub loop-number-preserved : goal.loop-number-preserved
loop-number-preserved c =
    let l = c.args.analysis.now.lowering in
    let g = given c.args.teller.now in
    let n = c.loop-number.number in
    let s : Section = get_or c.sections-section-items.result.now n (record { function = 0; acquire = 0; release = 0 }) in
    let there : slice_get l.sections n ≡ Some s =
    ap (λ (ss : List Section). slice_get ss n) (sym c.sections-section-items.ensures.sections)
    ∙ slice_get-get_or c.sections-section-items.result.now n (record { function = 0; acquire = 0; release = 0 }) c.loop-number-test.true in
    let many = ap (length {A = Section}) c.sections-section-items.ensures.sections in
    let lt = c.loop-number-test.true in
    let req = c.requires.count in
    let at = slice_get_read c.args.lists.now (length c.args.lists.now) n c.index-lists-number.result refl (omega (arith, many, lt, req)) c.index-lists-number.is in
    record {
      tells = tells_section_more (read c.args.analysis.now) c.args.lists.now g n s c.as_slice-list.result.now (string_bytes c.loop-number.text) (string_bytes c.push_explained.new.text) there (at ∙ ap Some (sym c.as_slice-list.ensures))
          c.loop-number.invariant.tells c.in_ok-push_explained.ensures.tells;
      known = c.in_ok-push_explained.ensures.known;
    }

pub returns : goal.returns
returns c =
    let x = read c.args.analysis.now in
    let l = c.args.analysis.now.lowering in
    let g = given c.args.teller.now in
    let many = ap (length {A = Section}) c.sections-section-items.ensures.sections in
    let past = c.loop-number-test.false in
    let within = c.loop-number.auto.number-end in
    let end : c.loop-number.number ≡ length l.sections = omega (arith, many, past, within) in
    subst (λ n. TellsSections x c.args.lists.now g n (string_bytes c.loop-number.text)) end c.loop-number.invariant.tells
