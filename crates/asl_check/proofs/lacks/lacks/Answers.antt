use Rattle.std.proofs.Common.{◌≡◌, ◌+◌, ◌++◌, suc, List, Some, length, map, slice_get, get_or, refl, ap, sym, ◌∙◌, subst, arith}
use Rattle.std.proofs.lemmas.Option.{slice_get-get_or, slice_get_read}
use Rattle.asl_code.specs.declared.lock.Lock.{Lock}
use Rattle.asl_lower.specs.declared.section.Section.{Section}
use Rattle.asl_lower.specs.Regions.{Inside}
use Rattle.asl_backward_flow.specs.Needed.{IsTold}
use Rattle.asl_check.specs.declared.fault.CheckFault.{CheckFault}
use Rattle.asl_check.specs.declared.fault.CheckFault.TheVariants.{Uncovered, Unguarded}
use Rattle.asl_check.specs.Checked.{reads_of}
use Rattle.asl_check.specs.KnownLists.{AreBare, AreBareNeeds, AreLacksBelow}
use Rattle.asl_check.proofs.AllLacks.{needs_more, reads_more, all_below}
use Rattle.asl_check.proofs.lacks.lacks.Goals as goal

pub overflow_cast-number : goal.overflow_cast-number
overflow_cast-number c =
    let few = c.sections-section-items.ensures.kept.layout.limits.few_sections in
    let same = ap (length {A = Section}) c.sections-section-items.ensures.sections in
    let lt = c.loop-number-test.true in
    omega (arith, few, same, lt)

pub overflow_cast-number-in-loop-number : goal.overflow_cast-number-in-loop-number
overflow_cast-number-in-loop-number c =
    let few = c.sections-section-items.ensures.kept.layout.limits.few_sections in
    let same = ap (length {A = Section}) c.sections-section-items.ensures.sections in
    let lt = c.loop-number-test.true in
    omega (arith, few, same, lt)

pub overflow_cast-place : goal.overflow_cast-place
overflow_cast-place c =
    let few = c.sections-section-items-2.ensures.kept.layout.limits.few_sections in
    let same = ap (length {A = Section}) c.sections-section-items-2.ensures.sections in
    let lt = c.loop-place-test.true in
    omega (arith, few, same, lt)

pub loop-number-preserved : goal.loop-number-preserved
loop-number-preserved c =
    let l = c.args.lowering.now in
    let k = c.args.classes.now in
    let n = c.loop-number.number in
    let s : Section = get_or c.sections-section-items.result.now n (record { function = 0; acquire = 0; release = 0 }) in
    let there : slice_get l.sections n ≡ Some s =
    ap (λ (ss : List Section). slice_get ss n) (sym c.sections-section-items.ensures.sections)
    ∙ slice_get-get_or c.sections-section-items.result.now n (record { function = 0; acquire = 0; release = 0 }) c.loop-number-test.true in
    let many = ap (length {A = Section}) c.sections-section-items.ensures.sections in
    let lt = c.loop-number-test.true in
    let req = c.requires in
    let listed : List Lock = c.index-lists-number.result in
    let at : slice_get c.args.lists.now n ≡ Some listed = slice_get_read c.args.lists.now (length c.args.lists.now) n listed refl (omega (arith, many, lt, req)) c.index-lists-number.is in
    let bare : List Lock = c.in_ok-bare.bare.keys in
    let next : s.acquire + 1 ≡ suc s.acquire = omega arith in
    let needs : AreBareNeeds k s.function listed (λ a. IsTold c.args.flow.now (Inside n) (suc s.acquire) a) bare =
    subst (λ q. AreBareNeeds k s.function listed (λ a. IsTold c.args.flow.now (Inside n) q a) bare) next
    (subst (λ (xs : List Lock). AreBareNeeds k s.function xs (λ a. IsTold c.args.flow.now (Inside n) (s.acquire + 1) a) bare) c.as_slice-list.ensures c.in_ok-bare.ensures) in
    let more = needs_more l k (λ r pc a. IsTold c.args.flow.now r pc a) c.args.lists.now n s listed bare there at c.loop-number.faults.items needs c.loop-number.invariant in
    let now : c.add_uncovered.new.faults.items ≡ c.loop-number.faults.items ++ map (λ (a : Lock). Uncovered n a) bare =
    c.in_ok-add_uncovered.ensures ∙ ap (λ (xs : List Lock). c.loop-number.faults.items ++ map (λ (a : Lock). Uncovered n a) xs) c.as_slice.ensures.keys in
    subst (λ (fs : List CheckFault). AreLacksBelow l k (λ r pc a. IsTold c.args.flow.now r pc a) c.args.lists.now (n + 1) 0 fs) (sym now) more

pub loop-place-preserved : goal.loop-place-preserved
loop-place-preserved c =
    let l = c.args.lowering.now in
    let k = c.args.classes.now in
    let n = c.loop-place.place in
    let s : Section = get_or c.sections-section-items-2.result.now n (record { function = 0; acquire = 0; release = 0 }) in
    let there : slice_get l.sections n ≡ Some s =
    ap (λ (ss : List Section). slice_get ss n) (sym c.sections-section-items-2.ensures.sections)
    ∙ slice_get-get_or c.sections-section-items-2.result.now n (record { function = 0; acquire = 0; release = 0 }) c.loop-place-test.true in
    let many = ap (length {A = Section}) c.sections-section-items-2.ensures.sections in
    let lt = c.loop-place-test.true in
    let req = c.requires in
    let listed : List Lock = c.index-lists-place.result in
    let at : slice_get c.args.lists.now n ≡ Some listed = slice_get_read c.args.lists.now (length c.args.lists.now) n listed refl (omega (arith, many, lt, req)) c.index-lists-place.is in
    let bare : List Lock = c.in_ok-bare-2.bare.keys in
    let reads : AreBare k s.function listed (reads_of listed) bare =
    subst (λ (xs : List Lock). AreBare k s.function xs (reads_of xs) bare) c.as_slice-list-in-loop-place.ensures c.in_ok-bare-2.ensures in
    let more = reads_more l k (λ r pc a. IsTold c.args.flow.now r pc a) c.args.lists.now n s listed bare there at (length l.sections) c.loop-place.faults.items reads c.loop-place.invariant in
    let now : c.add_unguarded.new.faults.items ≡ c.loop-place.faults.items ++ map (λ (a : Lock). Unguarded n a) bare =
    c.in_ok-add_unguarded.ensures ∙ ap (λ (xs : List Lock). c.loop-place.faults.items ++ map (λ (a : Lock). Unguarded n a) xs) c.as_slice-in-loop-place.ensures.keys in
    subst (λ (fs : List CheckFault). AreLacksBelow l k (λ r pc a. IsTold c.args.flow.now r pc a) c.args.lists.now (length l.sections) (n + 1) fs) (sym now) more

pub returns : goal.returns
returns c =
    let l = c.args.lowering.now in
    let k = c.args.classes.now in
    let n = c.loop-place.place in
    let many = ap (length {A = Section}) c.sections-section-items-2.ensures.sections in
    let past = c.loop-place-test.false in
    let end = c.loop-place.auto.place-end in
    let whole : n ≡ length l.sections = omega (arith, many, past, end) in
    all_below l k (λ r pc a. IsTold c.args.flow.now r pc a) c.args.lists.now c.loop-place.faults.items
    (subst (λ m. AreLacksBelow l k (λ r pc a. IsTold c.args.flow.now r pc a) c.args.lists.now (length l.sections) m c.loop-place.faults.items) whole c.loop-place.invariant)
