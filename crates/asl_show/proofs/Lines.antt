-- The lines of a view, as loops write them: those so far, and then those that are left.
use Rattle.std.proofs.Common.{◌≡◌, ℕ, zero, suc, ◌+◌, ◌-◌, ◌<◌, ◌≤◌, List, [], ◌++◌, refl, sym, ap, ap₂, ◌∙◌, append_assoc, append-nil, add-one, arith}
use Rattle.asl_show.specs.Lines.{lines_from}

-- the lines of the numbers that are left
abbrev left : (ℕ → List ℕ) → ℕ → ℕ → List ℕ
left line n end = lines_from line n (end - n)

-- the text so far, and then the lines that are left, are the first text and all lines
pub record Written (line : ℕ → List ℕ) (n end : ℕ) (first text : List ℕ) : Type 0 where
  pub all : text ++ lines_from line n (end - n) ≡ first ++ lines_from line 0 end

left_step : (line : ℕ → List ℕ) (n end : ℕ) → n < end → left line n end ≡ line n ++ left line (n + 1) end
unfolding lines_from
left_step line n end lt =
    let gap : end - n ≡ suc (end - (n + 1)) = omega (arith, lt) in
    ap (lines_from line n) gap ∙ rw add-one refl

pub none_written : (line : ℕ → List ℕ) (end : ℕ) (first : List ℕ) → Written line 0 end first first
none_written line end first =
    let whole : end - 0 ≡ end = omega arith in
    record { all = ap (λ (k : ℕ). first ++ lines_from line 0 k) whole }

pub more_written : (line : ℕ → List ℕ) (n end : ℕ) (first old new : List ℕ) → n < end → new ≡ old ++ line n → Written line n end first old → Written line (n + 1) end first new
more_written line n end first old new lt grows w = record {
  all = ap (λ (l : List ℕ). l ++ left line (n + 1) end) grows
      ∙ append_assoc old (line n) (left line (n + 1) end)
      ∙ ap (λ (l : List ℕ). old ++ l) (sym (left_step line n end lt))
      ∙ w.all;
}

pub all_written : (line : ℕ → List ℕ) (n end : ℕ) (first text : List ℕ) → end ≤ n → Written line n end first text → text ≡ first ++ lines_from line 0 end
unfolding lines_from
all_written line n end first text le w =
    let none : end - n ≡ 0 = omega (arith, le) in
    sym (append-nil text) ∙ ap (λ (k : ℕ). text ++ lines_from line n k) (sym none) ∙ w.all

-- the same, where the end is this count
pub all_counted : (line : ℕ → List ℕ) (n end count : ℕ) (first text : List ℕ) → end ≡ count → end ≤ n → Written line n end first text → text ≡ first ++ lines_from line 0 count
all_counted line n end count first text same le w = all_written line n end first text le w ∙ ap (λ (k : ℕ). first ++ lines_from line 0 k) same

-- where each number has no line, there is no text
pub no_lines : (line : ℕ → List ℕ) (first count : ℕ) → ((n : ℕ) → line n ≡ []) → lines_from line first count ≡ []
unfolding lines_from
no_lines line first zero none = refl
no_lines line first (suc count) none = ap (λ (l : List ℕ). l ++ lines_from line (suc first) count) (none first) ∙ no_lines line (suc first) count none

-- lines that are none can be passed over
lines_passed : (line : ℕ → List ℕ) (first gap rest : ℕ) → ((k : ℕ) → first ≤ k → k < first + gap → line k ≡ []) → lines_from line first (gap + rest) ≡ lines_from line (first + gap) rest
unfolding lines_from
lines_passed line first zero rest none =
    let here : zero + rest ≡ rest = omega arith in
    let same : first ≡ first + zero = omega arith in
    ap₂ (λ (n k : ℕ). lines_from line n k) same here
lines_passed line first (suc gap) rest none =
    let one : suc gap + rest ≡ suc (gap + rest) = omega arith in
    let next : suc first + gap ≡ first + suc gap = omega arith in
    ap (lines_from line first) one
    ∙ ap (λ (l : List ℕ). l ++ lines_from line (suc first) (gap + rest)) (none first (omega arith) (omega arith))
    ∙ lines_passed line (suc first) gap rest (λ k low high. none k (omega (arith, low)) (omega (arith, high)))
    ∙ ap (λ (n : ℕ). lines_from line n rest) next

pub passed_written : (line : ℕ → List ℕ) (n next end : ℕ) (first text : List ℕ) → n ≤ next → next ≤ end → ((k : ℕ) → n ≤ k → k < next → line k ≡ [])
    → Written line n end first text → Written line next end first text
passed_written line n next end first text low high none w =
    let gap : next - n + (end - next) ≡ end - n = omega (arith, low, high) in
    let there : n + (next - n) ≡ next = omega (arith, low) in
    record {
      all = ap (λ (m : ℕ). text ++ lines_from line m (end - next)) (sym there)
          ∙ ap (λ (l : List ℕ). text ++ l) (sym (lines_passed line n (next - n) (end - next) (λ k from to. none k from (omega (arith, there, to)))))
          ∙ ap (λ (m : ℕ). text ++ lines_from line n m) gap
          ∙ w.all;
    }
