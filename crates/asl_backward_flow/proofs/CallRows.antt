-- The calls of each function, and the regions that have each call, as rows.
use Rattle.std.proofs.Common.{◌≡◌, ⊎_elim, ℕ, ◌+◌, ◌<◌, ◌≤◌, List, [], ◌∷◌, ◌++◌, Some, length, slice_get, slice_set, get_or, ap, sym, subst, ◌∙◌, arith}
use Rattle.std.proofs.lemmas.Option.{get_or_from_slice_get, slice_get-get_or, slice_get_within}
use Rattle.asl_code.specs.declared.instr.Instr.{Instr}
use Rattle.asl_code.specs.declared.instr.Instr.TheVariants as instr
use Rattle.asl_lower.specs.Lowered.{Lowered}
use Rattle.asl_lower.specs.LegalLowering.{IsLegalLowering}
use Rattle.asl_backward_flow.specs.declared.span.Span.{Span}
use Rattle.asl_backward_flow.specs.Found.{IsAt, list_at}
use Rattle.asl_backward_flow.specs.Graph.{HasRows, HasSome, HasCall, IsCall}
use Rattle.asl_backward_flow.proofs.Sets.{some_same, at_front, at_last}
use Rattle.asl_backward_flow.proofs.SpanLaws.{below_or_at}
use Rattle.asl_backward_flow.proofs.Rows.{rows_skip, rows_more, some_begin, some_more, some_end}

abbrev callee_of : Instr → ℕ
callee_of (instr.Call to first g) = g
callee_of i = 0

-- a call adds its pc to the row of its callee
pub called_more : (l : Lowered) (code : List Instr) → code ≡ l.code → (pc : ℕ) → pc < length code → (d : Instr) (to first g number : ℕ) → number ≡ g → get_or code pc d ≡ instr.Call to first g
    → (rows new : List (List ℕ)) → new ≡ slice_set rows number (list_at rows number ++ pc ∷ []) → number < length rows → HasRows rows (IsCall l) pc → HasRows new (IsCall l) (pc + 1)
called_more l code same pc lt d to first g number is at rows new made there has =
    let here : slice_get l.code pc ≡ Some (instr.Call to first g) = ap (λ c. slice_get c pc) (sym same) ∙ slice_get-get_or code pc d lt ∙ ap Some at in
    subst (λ r. HasRows r (IsCall l) (pc + 1)) (sym made)
    (rows_more rows (IsCall l) pc number there has
    (subst (λ n. IsCall l n pc) (sym is) (to, first, here))
    (λ n (c : IsCall l n pc). number_is n c here))
  where
    number_is : (n : ℕ) → IsCall l n pc → slice_get l.code pc ≡ Some (instr.Call to first g) → n ≡ number
    number_is n c here = ap callee_of (some_same (sym c.2 ∙ here)) ∙ sym is

pub not_called : (l : Lowered) (code : List Instr) → code ≡ l.code → (pc : ℕ) → (d : Instr) → ((to first g : ℕ) → get_or code pc d ≡ instr.Call to first g → ⊥)
    → (rows : List (List ℕ)) → HasRows rows (IsCall l) pc → HasRows rows (IsCall l) (pc + 1)
not_called l code same pc d not rows has =
    rows_skip rows (IsCall l) pc has (λ n c. not c.0 c.1 n (get_or_from_slice_get code pc (instr.Call c.0 c.1 n) d (ap (λ x. slice_get x pc) same ∙ c.2)))

pub callee_there : (l : Lowered) → IsLegalLowering l → (code : List Instr) → code ≡ l.code → (pc : ℕ) → pc < length code → (d : Instr) (to first g : ℕ) → get_or code pc d ≡ instr.Call to first g → g < length l.functions
callee_there l kept code same pc lt d to first g at =
    let layout = kept.layout in
    let here : slice_get l.code pc ≡ Some (instr.Call to first g) = ap (λ c. slice_get c pc) (sym same) ∙ slice_get-get_or code pc d lt ∙ ap Some at in
    let body = layout.parted.owned pc (subst (λ c. pc < length c) same lt) in
    let has = layout.operands pc _ body.function (instr.Call to first g) body body.in_table here in
    slice_get_within l.functions g has.1.0.function has.1.0.in_table

-- a function is called at the pc
abbrev pub IsCalled : Lowered → ℕ → Type 0
IsCalled l pc = (callee : ℕ) × IsCall l callee pc

pub called_at : (l : Lowered) (code : List Instr) → code ≡ l.code → (pc k : ℕ) → k ≡ pc → pc < length code → (d : Instr) (to first g : ℕ) → get_or code k d ≡ instr.Call to first g → IsCalled l pc
called_at l code same pc k is lt d to first g at =
    (g, (to, first, ap (λ c. slice_get c pc) (sym same) ∙ slice_get-get_or code pc d lt ∙ ap Some (ap (λ n. get_or code n d) (sym is) ∙ at)))

pub not_called_at : (l : Lowered) (code : List Instr) → code ≡ l.code → (pc k : ℕ) → k ≡ pc → (d : Instr) → ((to first g : ℕ) → get_or code k d ≡ instr.Call to first g → ⊥) → ¬ IsCalled l pc
not_called_at l code same pc k is d not c =
    not c.1.0 c.1.1 c.0 (ap (λ n. get_or code n d) is ∙ get_or_from_slice_get code pc (instr.Call c.1.0 c.1.1 c.0) d (ap (λ x. slice_get x pc) same ∙ c.1.2))

-- the rows have the regions below one, and that one at its calls below a pc
abbrev pub HasRange : List (List ℕ) → Lowered → List Span → ℕ → Span → ℕ → Type 0
HasRange rows l spans part span pc =
    (added : List ℕ) × HasSome rows (HasCall l spans) part added × ((n : ℕ) → span.first ≤ n → n < pc → IsCalled l n → IsAt added n)

module _ (l : Lowered) (spans : List Span) (part : ℕ) (span : Span) where
  pub range_begin : (rows : List (List ℕ)) → HasRows rows (HasCall l spans) part → HasRange rows l spans part span span.first
  range_begin rows has = ([], some_begin rows (HasCall l spans) part has, λ n ge lt c. absurd (omega (arith, ge, lt)))

  pub range_more : (rows new : List (List ℕ)) (pc number : ℕ) → slice_get spans part ≡ Some span → IsCalled l pc → number ≡ pc → span.first ≤ pc → pc < span.end → number < length rows
      → new ≡ slice_set rows number (list_at rows number ++ part ∷ []) → HasRange rows l spans part span pc → HasRange new l spans part span (pc + 1)
  range_more rows new pc number at call same first end there made has = (
    has.0 ++ number ∷ [],
    some_more rows new (HasCall l spans) part number has.0 there ((span, at, omega (arith, same, first), omega (arith, same, end)), subst (IsCalled l) (sym same) call) made has.1,
    λ n ge lt c. ⊎_elim
        (λ below. let old = has.2 n ge below c in (old.0, at_front has.0 (number ∷ []) old.0 n old.1))
        (λ (e : n ≡ pc). (length has.0, at_last has.0 number ∙ ap Some (same ∙ sym e)))
        (below_or_at n pc lt),
  )

  pub range_skip : (rows : List (List ℕ)) (pc : ℕ) → ¬ IsCalled l pc → HasRange rows l spans part span pc → HasRange rows l spans part span (pc + 1)
  range_skip rows pc not has = (
    has.0,
    has.1,
    λ n ge lt c. ⊎_elim (λ below. has.2 n ge below c) (λ (e : n ≡ pc). absurd (not (subst (IsCalled l) e c))) (below_or_at n pc lt),
  )

  pub range_end : (rows : List (List ℕ)) (pc : ℕ) → slice_get spans part ≡ Some span → span.end ≤ pc → HasRange rows l spans part span pc → HasRows rows (HasCall l spans) (part + 1)
  range_end rows pc at end has =
      some_end rows (HasCall l spans) part has.0 has.1
      (λ n r.
      let same : r.0.0 ≡ span = some_same (sym r.0.1 ∙ at) in
      let ge : span.first ≤ n = subst (λ (s : Span). s.first ≤ n) same r.0.2 in
      let lt : n < span.end = subst (λ (s : Span). n < s.end) same r.0.3 in
      has.2 n ge (omega (arith, lt, end)) r.1)
