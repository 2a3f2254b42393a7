use Rattle.std.proofs.Common.{List, sym, subst}
use Rattle.asl_lower.specs.Lowered.{Lowered}
use Rattle.asl_class_reasons.specs.declared.flow.Owed.{Owed}
use Rattle.asl_class_reasons.specs.Without.{without}
use Rattle.asl_class_reasons.specs.Draft.{AreOf, IsElsewhere, IsOwedAll, IsSettled}
use Rattle.asl_class_reasons.proofs.LeftOut.{IsTold, elsewhere_of, like_without, owed_without, told_apart, told_together, told_classes}
use Rattle.asl_class_reasons.proofs.parting.parts.Goals as goal

pub settled-requires : goal.settled-requires
settled-requires c =
    let l = c.args.lowering.now in
    let w : IsElsewhere c.in_ok-owed.owed.items c.args.pc c.in_ok-elsewhere.elsewhere.items = subst (λ (xs : List Owed). IsElsewhere xs c.args.pc c.in_ok-elsewhere.elsewhere.items) c.deref.ensures.value c.in_ok-elsewhere.ensures in
    subst (λ (xs : List Owed). AreOf l xs) (sym c.deref-2.ensures.value) (elsewhere_of l c.in_ok-owed.owed.items c.in_ok-elsewhere.elsewhere.items c.args.pc c.in_ok-owed.ensures.each w)

pub returns-clause-classes : goal.returns-clause-classes
returns-clause-classes c =
    let l = c.args.lowering.now in
    let k : Lowered = without l c.args.pc in
    let w : IsElsewhere c.in_ok-owed.owed.items c.args.pc c.in_ok-elsewhere.elsewhere.items = subst (λ (xs : List Owed). IsElsewhere xs c.args.pc c.in_ok-elsewhere.elsewhere.items) c.deref.ensures.value c.in_ok-elsewhere.ensures in
    let owed = owed_without l c.args.pc c.in_ok-owed.owed.items c.in_ok-elsewhere.elsewhere.items c.in_ok-draft.ensures.kept.layout c.in_ok-owed.ensures w in
    let h : IsSettled k c.in_ok-draft.draft = c.in_ok-draft.ensures.settled k (like_without l c.args.pc) (subst (λ (xs : List Owed). IsOwedAll k xs) (sym c.deref-2.ensures.value) owed) in
    let t : IsTold c.in_ok-draft.draft c.args.m c.args.n c.are_apart.result = record { apart = c.are_apart.ensures.apart; one = c.are_apart.ensures.one } in
    told_classes k c.in_ok-draft.draft c.args.m c.args.n c.are_apart.result h t

pub returns-clause-apart : goal.returns-clause-apart
returns-clause-apart c =
    let l = c.args.lowering.now in
    let k : Lowered = without l c.args.pc in
    let w : IsElsewhere c.in_ok-owed.owed.items c.args.pc c.in_ok-elsewhere.elsewhere.items = subst (λ (xs : List Owed). IsElsewhere xs c.args.pc c.in_ok-elsewhere.elsewhere.items) c.deref.ensures.value c.in_ok-elsewhere.ensures in
    let owed = owed_without l c.args.pc c.in_ok-owed.owed.items c.in_ok-elsewhere.elsewhere.items c.in_ok-draft.ensures.kept.layout c.in_ok-owed.ensures w in
    let h : IsSettled k c.in_ok-draft.draft = c.in_ok-draft.ensures.settled k (like_without l c.args.pc) (subst (λ (xs : List Owed). IsOwedAll k xs) (sym c.deref-2.ensures.value) owed) in
    let t : IsTold c.in_ok-draft.draft c.args.m c.args.n c.are_apart.result = record { apart = c.are_apart.ensures.apart; one = c.are_apart.ensures.one } in
    told_apart k c.in_ok-draft.draft c.args.m c.args.n c.are_apart.result h t

pub returns-clause-together : goal.returns-clause-together
returns-clause-together c =
    let l = c.args.lowering.now in
    let k : Lowered = without l c.args.pc in
    let w : IsElsewhere c.in_ok-owed.owed.items c.args.pc c.in_ok-elsewhere.elsewhere.items = subst (λ (xs : List Owed). IsElsewhere xs c.args.pc c.in_ok-elsewhere.elsewhere.items) c.deref.ensures.value c.in_ok-elsewhere.ensures in
    let owed = owed_without l c.args.pc c.in_ok-owed.owed.items c.in_ok-elsewhere.elsewhere.items c.in_ok-draft.ensures.kept.layout c.in_ok-owed.ensures w in
    let h : IsSettled k c.in_ok-draft.draft = c.in_ok-draft.ensures.settled k (like_without l c.args.pc) (subst (λ (xs : List Owed). IsOwedAll k xs) (sym c.deref-2.ensures.value) owed) in
    let t : IsTold c.in_ok-draft.draft c.args.m c.args.n c.are_apart.result = record { apart = c.are_apart.ensures.apart; one = c.are_apart.ensures.one } in
    told_together k c.in_ok-draft.draft c.args.m c.args.n c.are_apart.result h t
