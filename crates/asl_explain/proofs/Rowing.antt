-- The rows of a table, as a loop finds them.
use Rattle.std.proofs.Common.{◌≡◌, ◌+◌, ◌<◌, ◌≤◌, ℕ, zero, suc, List, [], ◌∷◌, ◌++◌, ◌-◌, length, get_or, slice_get, codes, Some, add-one, append_assoc, append-nil, refl, sym, ap, ◌∙◌, subst, ⊎_elim, arith}
use Rattle.std.proofs.Math.Nat.{eq-or-lt_of_le}
use Rattle.std.proofs.lemmas.Option.{slice_get-get_or, slice_get_within}
use Rattle.asl_class_text.specs.declared.facts.Facts.{Facts}
use Rattle.asl_class_text.specs.Texts.{padded}
use Rattle.asl_explain.specs.declared.explained_value.Lists.{Lists}
use Rattle.asl_explain.specs.declared.explained_value.Lists.TheVariants.{Inferred, TooManyLocks}
use Rattle.asl_explain.specs.Told.{Given, IsRow, AreRows, section_in, region_words, locks_words, list_words, range_words, own_words, row_words}
use Rattle.asl_explain.specs.TellingLists.{ListAt, Of, None, list_at, RowsSoFar}

same_Some : {A : Type 0} (x y : A) → Some x ≡ Some y → x ≡ y
same_Some x y e = cc

-- what a row tells of a list
words_at : Facts → ℕ → ListAt → List ℕ
words_at f function (Of list) = locks_words f function list
words_at f function (None r) = codes "TooManyLocks(" ++ (region_words r ++ codes ")")

words_are : (f : Facts) (section : ℕ) (l : Lists) → list_words f section l ≡ words_at f (section_in f section).function (list_at section l)
unfolding words_at
words_are f section (Inferred lists) = refl
words_are f section (TooManyLocks r) = refl

module _ (g : Given) (section : ℕ) where
  alike : (first last : ℕ) (a b : Lists) → list_at section a ≡ list_at section b → row_words g section first last a ≡ row_words g section first last b
  alike first last a b e =
      ap (λ (l : List ℕ). codes "  k " ++ (padded 7 (range_words first last) ++ (l ++ own_words g.k_limit first last))) (words_are g.facts section a ∙ ap (words_at g.facts (section_in g.facts section).function) e ∙ sym (words_are g.facts section b))

  pub rows_none : (text : List ℕ) → RowsSoFar g section 0 0 text text
  rows_none text = record {
    more = [];
    added = sym (append-nil text);
    order = omega arith;
    rows = λ ends rest h. (ends, h);
    same = λ k lists others low high. absurd (omega (arith, high));
    whole = λ past. refl;
  }

  pub rows_same : (first at : ℕ) (lists others : Lists) (old now : List ℕ) → slice_get g.by_length at ≡ Some lists → slice_get g.by_length (at + 1) ≡ Some others → list_at section lists ≡ list_at section others → RowsSoFar g section first at old now → RowsSoFar g section first (at + 1) old now
  rows_same first at lists others old now here next is t = record {
    more = t.more;
    added = t.added;
    order = let o = t.order in omega (arith, o);
    rows = t.rows;
    same = λ k l o low high a b. ⊎_elim
        (λ (e : k ≡ at).
        let one : Some l ≡ Some lists = sym a ∙ ap (λ n. slice_get g.by_length n) e ∙ here in
        let two : Some o ≡ Some others = sym b ∙ ap (λ n. slice_get g.by_length n) (ap suc e ∙ sym (add-one at)) ∙ next in
        ap (list_at section) (same_Some l lists one) ∙ is ∙ ap (list_at section) (sym (same_Some o others two)))
        (λ (below : k < at). t.same k l o low below a b)
        (eq-or-lt_of_le {n = k} {m = at} (omega (arith, high)));
    whole = λ past. let w : at + 1 < length g.by_length = slice_get_within g.by_length (at + 1) others next in absurd (omega (arith, past, w));
  }

  -- lists from one length to another are alike
  all_alike : (d first at k : ℕ) (a b : Lists) (old now : List ℕ) → d + k ≡ at → first ≤ k → slice_get g.by_length k ≡ Some a → slice_get g.by_length at ≡ Some b → RowsSoFar g section first at old now → list_at section a ≡ list_at section b
  all_alike zero first at k a b old now here low at_k at_at t =
      let e : k ≡ at = omega (arith, here) in
      ap (list_at section) (same_Some a b (sym at_k ∙ ap (λ n. slice_get g.by_length n) e ∙ at_at))
  all_alike (suc d) first at k a b old now here low at_k at_at t =
      let within : at < length g.by_length = slice_get_within g.by_length at b at_at in
      let more : suc k < length g.by_length = omega (arith, here, within) in
      let next : slice_get g.by_length (suc k) ≡ Some (get_or g.by_length (suc k) b) = slice_get-get_or g.by_length (suc k) b more in
      t.same k a (get_or g.by_length (suc k) b) low (omega (arith, here)) at_k next
      ∙ all_alike d first at (suc k) (get_or g.by_length (suc k) b) b old now (omega (arith, here)) (omega (arith, low)) next at_at t

  pub rows_row : (first at : ℕ) (lists : Lists) (old now new : List ℕ) → slice_get g.by_length at ≡ Some lists → new ≡ now ++ row_words g section first at lists → RowsSoFar g section first at old now → RowsSoFar g section (at + 1) (at + 1) old new
  rows_row first at lists old now new here grows t = record {
    more = t.more ++ row_words g section first at lists;
    added = grows ∙ ap (λ (l : List ℕ). l ++ row_words g section first at lists) t.added ∙ append_assoc old t.more (row_words g section first at lists);
    order = omega arith;
    rows = λ ends rest h.
        let row : IsRow g section first at (row_words g section first at lists) = record {
          order = t.order;
          tells = λ k l low high a. alike first at lists l (sym (all_alike (at - k) first at k l lists old now (omega (arith, high)) low a here t));
        } in
        let whole = t.rows (at ∷ ends) (row_words g section first at lists ++ rest) (row_words g section first at lists, rest, row, refl, subst (λ n. AreRows g section n ends rest) (add-one at) h) in
        (whole.0, subst (AreRows g section 0 whole.0) (sym (append_assoc t.more (row_words g section first at lists) rest)) whole.1);
    same = λ k l o low high a b. absurd (omega (arith, low, high));
    whole = λ past. refl;
  }

  pub rows_all : (first at : ℕ) (old now : List ℕ) → at ≡ length g.by_length → RowsSoFar g section first at old now → (more : List ℕ) × (now ≡ old ++ more) × ((ends : List ℕ) × AreRows g section 0 ends more)
  rows_all first at old now end t =
      let past : length g.by_length ≤ at = omega (arith, end) in
      let whole = t.rows [] [] (t.whole past ∙ end, refl) in
      (t.more, t.added, (whole.0, subst (AreRows g section 0 whole.0) (append-nil t.more) whole.1))
