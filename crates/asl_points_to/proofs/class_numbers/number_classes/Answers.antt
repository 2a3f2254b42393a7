use Rattle.std.proofs.Common.{◌≡◌, ℕ, ◌+◌, ◌<◌, ◌++◌, ◌∷◌, [], List, Vec, Global, length, get_or, sym, ap, ◌∙◌, subst, arith}
use Rattle.std.proofs.lemmas.List.{length_push, get_or_read}
use Rattle.asl_points_to.proofs.Numbering.{NumberedTo, one_new, one_old, all_numbered}
use Rattle.asl_points_to.proofs.class_numbers.number_classes.Goals as goal
use Rattle.asl_points_to.proofs.class_numbers.number_classes.Goals.{then-first-member+in_ok-push+in_ok-push-2, else-first-member+in_ok-push-3}

pub loop-member-preserved : goal.loop-member-preserved
loop-member-preserved c =
    let sets = c.args.sets.now in
    let i = c.loop-member.invariant in
    let member : ℕ = c.loop-member.member in
    let f = c.first-first.ensures in
    let first : c.first-first.result ≡ get_or sets member 0 = f.value ∙ ap (λ (xs : List ℕ). get_or xs member 0) i.same in
    elim c.if-first-member.branch [
      | then-first-member+in_ok-push+in_ok-push-2 w ↦ (
          let of : c.if-first-member.of.items ≡ c.loop-member.of.items ++ length c.loop-member.firsts.items ∷ [] =
          ap (λ (v : Vec ℕ Global). v.items) w.of-is ∙ w.in_ok-push.ensures.items ∙ ap (λ (k : ℕ). c.loop-member.of.items ++ k ∷ []) i.next in
          let firsts : c.if-first-member.firsts.items ≡ c.loop-member.firsts.items ++ member ∷ [] =
          ap (λ (v : Vec ℕ Global). v.items) w.firsts-is ∙ w.in_ok-push-2.ensures.items in
          let long = length_push c.loop-member.firsts.items member in
          let P : List ℕ → Type 0 = λ xs. NumberedTo sets xs c.if-first-member.firsts.items (member + 1) in
          let Q : List ℕ → Type 0 = λ xs. NumberedTo sets (c.loop-member.of.items ++ length c.loop-member.firsts.items ∷ []) xs (member + 1) in
          record {
            numbers = subst P (sym of) (subst Q (sym firsts) (one_new sets c.loop-member.of.items c.loop-member.firsts.items member i.numbers (sym first ∙ w.if-first-member.true)));
            next = w.next-is ∙ omega (arith, long, i.next, ap (λ (xs : List ℕ). length xs) firsts);
            few = omega (arith, long, i.few, ap (λ (xs : List ℕ). length xs) firsts);
            same = f.same ∙ i.same;
          })
      | else-first-member+in_ok-push-3 w ↦ (
          let x : ℕ = w.index.result.now in
          let of : c.if-first-member.of.items ≡ c.loop-member.of.items ++ x ∷ [] =
          ap (λ (v : Vec ℕ Global). v.items) w.of-is ∙ w.in_ok-push-3.ensures.items in
          let firsts : c.if-first-member.firsts.items ≡ c.loop-member.firsts.items = ap (λ (v : Vec ℕ Global). v.items) w.firsts-is in
          let less : c.first-first.result < member = (let low = f.low in let ne = w.if-first-member.false in omega arith) in
          let P : List ℕ → Type 0 = λ xs. NumberedTo sets xs c.if-first-member.firsts.items (member + 1) in
          let Q : List ℕ → Type 0 = λ xs. NumberedTo sets (c.loop-member.of.items ++ x ∷ []) xs (member + 1) in
          let own : get_or sets c.first-first.result 0 ≡ c.first-first.result = ap (λ (xs : List ℕ). get_or xs c.first-first.result 0) (sym i.same) ∙ f.own in
          let read = get_or_read c.loop-member.of.items c.first-first.result x (omega (arith, i.numbers.len)) w.index.ensures 0 in
          record {
            numbers = subst P (sym of) (subst Q (sym firsts) (one_old sets c.loop-member.of.items c.loop-member.firsts.items member c.first-first.result x i.numbers first less own read));
            next = w.next-is ∙ i.next ∙ sym (ap (λ (xs : List ℕ). length xs) firsts);
            few = omega (arith, i.few, ap (λ (xs : List ℕ). length xs) firsts);
            same = f.same ∙ i.same;
          })
    ]

pub returns-clause-numbers : goal.returns-clause-numbers
returns-clause-numbers c =
    all_numbered c.args.sets.now c.loop-member.of.items c.loop-member.firsts.items c.loop-member.member (omega (arith, c.requires, c.loop-member.auto.member-end, c.loop-member-test.false)) c.loop-member.invariant.numbers
