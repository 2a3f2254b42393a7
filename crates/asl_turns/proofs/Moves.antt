-- Each step keeps the rule of the shared word.
use Rattle.std.proofs.Common.{◌≡◌, ℕ, suc, ◌+◌, ◌-◌, ◌%◌, ◌<◌, ◌≤◌, List, [], ◌∷◌, ◌++◌, set, sym, refl, ap, subst, ◌∙◌, inl, inr, ⊎_elim, cond, nat_eq, slice_index, slice_set, arith}
use Rattle.std.specs.Prelude.{min, Bool, if◌then◌else◌}
use Rattle.std.proofs.Math.Nat.{mod-eq_of_lt}
use Rattle.std.proofs.lemmas.Bool.Decides.{nat_tests, leb_tells}
use Rattle.std.proofs.lemmas.List.Sums.{sum_by_push}
use mathlib.Core.Option.{some, none}
use lib.ListN.{get_elem?}
use Rattle.atomic_table.specs.Table.{Me, step, Act, keeps, Valid, Allows, Splits, Joins, carried_after}
use Rattle.atomic_table.proofs.Lists.{at_set, at_snoc, set_again, set_else}
use Rattle.asl_turns.specs.declared.rule.Hand.{Hand}
use Rattle.asl_turns.specs.Turn.{times, once_below}
use Rattle.asl_turns.specs.Rule.{hand, passes, nothing_left, IsOf, IsBalanced, IsTicketed, after_draw, Drawn, Looked, one_pass_less, one_pass, together}
use Rattle.asl_turns.proofs.Totals.{total_set, at_most_total, total_le, times_push, times_append}

abbrev pub seat_times : ℕ → Hand → ℕ
seat_times number v = times number v.tickets

abbrev pub seat_spent : Hand → ℕ
seat_spent v = v.spent

-- a hand with a pass is of the limit
pub of_limit : (limit word : ℕ) (hands : List Hand) → IsBalanced limit word hands → (k : ℕ) (v : Hand) → get_elem? hands k ≡ some v → 0 < v.left → v.limit ≡ limit
of_limit limit word hands b k v here left =
    ⊎_elim (λ h. h.1) (λ h. let e : v.left ≡ 0 = ap (λ (w : Hand). w.left) h in absurd (omega arith)) (b.of k v here)

-- all hands are of the limit, also after one has changed
of_set : (limit : ℕ) (hands : List Hand) (k : ℕ) (w : Hand) → IsOf limit w → ((j : ℕ) (v : Hand) → get_elem? hands j ≡ some v → IsOf limit v)
    → (j : ℕ) (v : Hand) → get_elem? (set hands k w) j ≡ some v → IsOf limit v
of_set limit hands k w is all j v at =
    ⊎_elim (λ t. subst (IsOf limit) t.1 is) (λ t. all j v t.1) (at_set hands k j w v at)

of_push : (limit : ℕ) (hands : List Hand) (w : Hand) → IsOf limit w → ((j : ℕ) (v : Hand) → get_elem? hands j ≡ some v → IsOf limit v)
    → (j : ℕ) (v : Hand) → get_elem? (hands ++ w ∷ []) j ≡ some v → IsOf limit v
of_push limit hands w is all j v at =
    ⊎_elim (λ t. all j v t) (λ t. subst (IsOf limit) t is) (at_snoc hands w v j at)

-- the number that is found is the next one below the lesser of word and limit
once_more : (number word limit : ℕ) → word < limit → once_below number (min (suc word) limit) ≡ once_below number (min word limit) + cond (nat_eq word number) 1 0
once_more number word limit h = grind (arith, nat_tests)

once_still : (number word limit : ℕ) → limit ≤ word → once_below number (min (suc word) limit) ≡ once_below number (min word limit)
once_still number word limit h = grind (arith, nat_tests)

ticket_drawn : (limit word : ℕ) (hands : List Hand) (k : ℕ) (v : Hand) → IsBalanced limit word hands → get_elem? hands k ≡ some v → v.limit ≡ limit → 0 < v.left
    → word < limit → IsBalanced limit (suc word) (set hands k (hand v.limit v.left v.spent (v.tickets ++ word ∷ [])))
ticket_drawn limit word hands k v b here is left below =
    let new : Hand = hand v.limit v.left v.spent (v.tickets ++ word ∷ []) in
    record {
      of = of_set limit hands k new (inl (omega arith, is)) b.of;
      drawn = λ number. omega (arith, total_set (seat_times number) hands k v new here, times_push number v.tickets word, once_more number word limit below, b.drawn number);
      all = omega (arith, total_set passes hands k v new here, b.all);
      over = omega (arith, total_set seat_spent hands k v new here, b.over);
    }

pass_spent : (limit word : ℕ) (hands : List Hand) (k : ℕ) (v : Hand) → IsBalanced limit word hands → get_elem? hands k ≡ some v → v.limit ≡ limit → 0 < v.left
    → limit ≤ word → IsBalanced limit (suc word) (set hands k (hand v.limit (v.left - 1) (v.spent + 1) v.tickets))
pass_spent limit word hands k v b here is left above =
    let new : Hand = hand v.limit (v.left - 1) (v.spent + 1) v.tickets in
    record {
      of = of_set limit hands k new (inl (omega arith, is)) b.of;
      drawn = λ number. omega (arith, total_set (seat_times number) hands k v new here, once_still number word limit above, b.drawn number);
      all = omega (arith, total_set passes hands k v new here, b.all);
      over = omega (arith, total_set seat_spent hands k v new here, b.over);
    }

draw_kept : (limit word : ℕ) (hands : List Hand) (k : ℕ) (v : Hand) → IsBalanced limit word hands → get_elem? hands k ≡ some v → v.limit ≡ limit → 0 < v.left
    → IsBalanced limit (suc word) (set hands k (after_draw word v))
draw_kept limit word hands k v b here is left =
    let P : Bool → Type 0 = λ test. IsBalanced limit (suc word) (set hands k (if test then hand v.limit v.left v.spent (v.tickets ++ word ∷ []) else hand v.limit (v.left - 1) (v.spent + 1) v.tickets)) in
    ⊎_elim
    (λ t. subst P (sym t.0) (ticket_drawn limit word hands k v b here is left (let below = t.1 in omega arith)))
    (λ t. subst P (sym t.0) (pass_spent limit word hands k v b here is left (let above = t.1 in omega arith)))
    (leb_tells (suc word) v.limit)

-- the word never wraps: it is over the limit by the passes that are spent
word_most : (limit word : ℕ) (hands : List Hand) → IsBalanced limit word hands → word ≤ limit + 64
word_most limit word hands b =
    omega (arith, total_le passes seat_spent (λ v. omega arith) hands, b.all, b.over)

-- a draw with a pass left
pub draws : (key slots id : ℕ) (me : Me (Unit {0}) Hand) → 0 < me.0.left
    → Allows (IsTicketed key) slots id me 0 (λ n. (n + 1) % 18446744073709551616) (Drawn (step slots 0 1 0 none) me)
draws key slots id me left s holds homes here fits =
    let word : ℕ = holds.1.0 in
    let is = of_limit key word s.views holds.1.2 id me.0 here left in
    let most = word_most key word s.views holds.1.2 in
    let key_most = holds.0 in
    let next : (word + 1) % 18446744073709551616 ≡ suc word = mod-eq_of_lt (omega arith) ∙ omega arith in
    let P : List ℕ → Type 0 = λ ws.
    (w : Hand) × (a : Act (Unit {0})) × Valid s.homes me.1 a
    × ((key ≤ 16777216) × ((n : ℕ) × (slice_set ws 0 ((slice_index ws 0 + 1) % 18446744073709551616) ≡ n ∷ []) × IsBalanced key n (slice_set s.views id w)))
    × Drawn (step slots 0 1 0 none) me (slice_index ws 0) (w, carried_after me.1 a) in
    subst P (sym holds.1.1) (after_draw word me.0, keeps, tt, (holds.0, (suc word, ap (λ n. n ∷ []) next, draw_kept key word s.views id me.0 holds.1.2 here is left)), refl)

-- a look: a hand has no more than all passes
pub looks : (key slots id : ℕ) (me : Me (Unit {0}) Hand) → Allows (IsTicketed key) slots id me 0 (λ n. n) (Looked (step slots 0 0 0 none) me)
looks key slots id me s holds homes here fits =
    let word : ℕ = holds.1.0 in
    let b = holds.1.2 in
    let most = at_most_total passes s.views id me.0 here in
    let all = b.all in
    let P : List ℕ → Type 0 = λ ws.
    (w : Hand) × (a : Act (Unit {0})) × Valid s.homes me.1 a
    × ((key ≤ 16777216) × ((n : ℕ) × (slice_set ws 0 (slice_index ws 0) ≡ n ∷ []) × IsBalanced key n (slice_set s.views id w)))
    × Looked (step slots 0 0 0 none) me (slice_index ws 0) (w, carried_after me.1 a) in
    subst P (sym holds.1.1) (me.0, keeps, tt, (holds.0, (word, refl, subst (IsBalanced key word) (sym (set_again s.views id me.0 here)) b)), (refl, omega arith))

-- a split of a hand with two passes left
pub splits : (key id : ℕ) (v : Hand) → 1 < v.left → Splits (IsTicketed key) id v (one_pass_less v) (one_pass v)
splits key id v left s holds here =
    let word : ℕ = holds.1.0 in
    let b = holds.1.2 in
    let is = of_limit key word s.views b id v here (omega arith) in
    let hands : List Hand = set s.views id (one_pass_less v) in (
      holds.0,
      (
        word,
        holds.1.1,
        record {
          of = of_push key hands (one_pass v) (inl (omega arith, is)) (of_set key s.views id (one_pass_less v) (inl (omega arith, is)) b.of);
          drawn = λ number. omega (arith, sum_by_push (seat_times number) hands (one_pass v), total_set (seat_times number) s.views id v (one_pass_less v) here, b.drawn number);
          all = omega (arith, sum_by_push passes hands (one_pass v), total_set passes s.views id v (one_pass_less v) here, b.all);
          over = omega (arith, sum_by_push seat_spent hands (one_pass v), total_set seat_spent s.views id v (one_pass_less v) here, b.over);
        },
      ),
    )

together_of : (key : ℕ) (v w : Hand) → IsOf key v → IsOf key w → v.limit ≡ key → IsOf key (together v w)
together_of key v w one other is =
    ⊎_elim
    (λ (p : (0 < passes v) × (v.limit ≡ key)). let q = p.0 in inl (omega arith, is))
    (λ (nothing : v ≡ nothing_left).
    ⊎_elim
    (λ (p : (0 < passes w) × (w.limit ≡ key)). let q = p.0 in inl (omega arith, is))
    (λ (none : w ≡ nothing_left). inr (λ i. together (nothing i) (none i)))
    other)
    one

-- a join of two hands of the limit
pub joins : (key id other : ℕ) (v w : Hand) → v.limit ≡ key → Joins (IsTicketed key) id v other w (together v w) nothing_left
joins key id other v w is s holds here differ there =
    let word : ℕ = holds.1.0 in
    let b = holds.1.2 in
    let hands : List Hand = set s.views id (together v w) in
    let old : get_elem? s.views other ≡ some w = sym (set_else s.views id other (together v w) differ) ∙ there in (
      holds.0,
      (
        word,
        holds.1.1,
        record {
          of = of_set key hands other nothing_left (inr refl) (of_set key s.views id (together v w) (together_of key v w (b.of id v here) (b.of other w old) is) b.of);
          drawn = λ number. omega (arith, total_set (seat_times number) hands other w nothing_left there, total_set (seat_times number) s.views id v (together v w) here, times_append number v.tickets w.tickets, b.drawn number);
          all = omega (arith, total_set passes hands other w nothing_left there, total_set passes s.views id v (together v w) here, b.all);
          over = omega (arith, total_set seat_spent hands other w nothing_left there, total_set seat_spent s.views id v (together v w) here, b.over);
        },
      ),
    )
