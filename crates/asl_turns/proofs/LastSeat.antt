-- What the last seat knows at the end.
use Rattle.std.proofs.Common.{◌≡◌, ℕ, ◌+◌, ◌<◌, ◌≤◌, List, [], ◌∷◌, sym, ap, subst, ◌∙◌, ⊎_elim, arith}
use Rattle.std.specs.Prelude.{min, sum_by}
use mathlib.Core.Option.{some, some-injective}
use lib.ListN.{get_elem?}
use Rattle.atomic_table.specs.Table.{Seen, Final}
use Rattle.atomic_table.specs.Seated.{TableId}
use Rattle.asl_turns.specs.declared.rule.Hand.{Hand}
use Rattle.asl_turns.specs.Turn.{Turn, turn, times, once_below}
use Rattle.asl_turns.specs.Rule.{passes, nothing_left, IsOf, IsBalanced, IsTicketed}
use Rattle.asl_turns.proofs.Totals.{total_alone}
use Rattle.asl_turns.proofs.Moves.{seat_times, seat_spent}

-- a hand without a pass has nothing
bare : (limit : ℕ) (w : Hand) → IsOf limit w → passes w ≡ 0 → w ≡ nothing_left
bare limit w is none =
    ⊎_elim (λ (p : (0 < passes w) × (w.limit ≡ limit)). let some = p.0 in absurd (omega arith)) (λ (p : w ≡ nothing_left). p) is

-- the tickets are the numbers below the lesser of word and limit; where a pass is spent, the word has reached the limit
pub record IsWhole (limit word : ℕ) (v : Hand) : Type 0 where
  pub tickets : (number : ℕ) → times number v.tickets ≡ once_below number (min word limit)
  pub spent : 0 < v.spent → limit ≤ word

whole : (limit word : ℕ) (hands : List Hand) (k : ℕ) (v : Hand) → IsBalanced limit word hands → get_elem? hands k ≡ some v → passes v ≡ 64 → IsWhole limit word v
whole limit word hands k v b here all =
    let everything : passes v ≡ sum_by passes hands = all ∙ sym b.all in
    let gone : (j : ℕ) (w : Hand) → get_elem? hands j ≡ some w → passes w ≡ 0 → w ≡ nothing_left = λ j w at none. bare limit w (b.of j w at) none in
    record {
      tickets = λ number. total_alone passes (seat_times number) hands k v here (λ j w at none. ap (seat_times number) (gone j w at none)) everything ∙ b.drawn number;
      spent = λ some.
          let over : v.spent ≡ sum_by seat_spent hands = total_alone passes seat_spent hands k v here (λ j w at none. ap seat_spent (gone j w at none)) everything in
          omega (arith, b.over);
    }

pub ended : (limit word id : ℕ) (v : Hand) (words : List ℕ) (slots : List (Unit {0})) → Final (Seen (IsTicketed limit) id v) words slots → get_elem? words 0 ≡ some word → passes v ≡ 64 → IsWhole limit word v
ended limit word id v words slots final found all =
    let s = final.0 in
    let kept = final.1.0 in
    let same : kept.1.0 ∷ [] ≡ words = sym kept.1.1 ∙ final.2 in
    let P : List ℕ → Type 0 = λ ws. get_elem? ws 0 ≡ some word in
    let is : kept.1.0 ≡ word = some-injective kept.1.0 word (subst P (sym same) found) in
    whole limit word s.views id v (subst (λ n. IsBalanced limit n s.views) is kept.1.2) final.1.1 all

-- what a seat that has all passes knows of the number of tickets
pub record KnowsCount (limit result : ℕ) (s : Turn) : Type 0 where
  pub tickets : (number : ℕ) → times number s.tickets ≡ once_below number result
  pub spent : 0 < s.spent → result ≡ limit

pub finished : (key limit word result id : ℕ) → key ≡ limit → (t : TableId) (v : Hand) (s : Turn) (words : List ℕ) (slots : List (Unit {0})) → turn t v.limit v.left v.spent v.tickets ≡ s
    → s.left + s.spent ≡ 64 → Final (Seen (IsTicketed key) id v) words slots → get_elem? words 0 ≡ some word → result ≡ min word limit → KnowsCount limit result s
finished key limit word result id same t v s words slots view all final found is =
    let left : v.left ≡ s.left = ap (λ (u : Turn). u.left) view in
    let spent : v.spent ≡ s.spent = ap (λ (u : Turn). u.spent) view in
    let tickets : v.tickets ≡ s.tickets = ap (λ (u : Turn). u.tickets) view in
    let end = subst (λ n. IsWhole n word v) same (ended key word id v words slots final found (omega arith)) in
    record {
      tickets = λ number. ap (times number) (sym tickets) ∙ end.tickets number ∙ ap (once_below number) (sym is);
      spent = λ some. let over = end.spent (omega arith) in omega arith;
    }
