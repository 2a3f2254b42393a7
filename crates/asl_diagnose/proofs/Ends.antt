-- Where the last token before a place ends.
use Rattle.std.proofs.Common.{◌≡◌, ◌<◌, ◌≤◌, ◌⊎◌, ◌-◌, ℕ, true, false, List, length, min, sym, ◌∙◌, inl, inr, arith}
use Rattle.std.specs.Prelude.{slice_index}
use Rattle.asl_grammar.specs.Lex.{is_blank}
use Rattle.asl_diagnose_text.specs.Position.{IsEndBefore}

-- there is no later end
not_later : (text : List ℕ) (at m n : ℕ) → IsEndBefore text at m → IsEndBefore text at n → m < n → ⊥
not_later text at m n p q lt =
    elim q.last [
      | inl e ↦ omega (arith, e, lt)
      | inr full ↦
          let within = q.within in
          let blank : is_blank (slice_index text (n - 1)) ≡ true = p.blanks (n - 1) (omega (arith, lt)) (omega (arith, lt, within)) in
          (let bad : true ≡ false = sym blank ∙ full in cc)
    ]

apart : (m n : ℕ) → (m ≡ n) ⊎ ((m < n) ⊎ (n < m))
apart m n = grind arith

pub one_end : (text : List ℕ) (at m n : ℕ) → IsEndBefore text at m → IsEndBefore text at n → m ≡ n
one_end text at m n p q =
    elim (apart m n) [
      | inl e ↦ e
      | inr d ↦ elim d [ inl lt ↦ absurd (not_later text at m n p q lt) | inr gt ↦ absurd (not_later text at n m q p gt) ]
    ]
