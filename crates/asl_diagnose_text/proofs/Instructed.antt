-- Lines of an assembly text: how many there are, and which of them has the instruction of a number.
use Rattle.std.proofs.Common.{◌≡◌, ℕ, suc, ◌+◌, ◌-◌, ◌<◌, ◌≤◌, Bool, true, false, cond, if◌then◌else◌, inl, inr, List, [], ◌∷◌, ◌++◌, length, Option, Some, None, refl, sym, ap, ◌∙◌, arith, length-append}
use Rattle.std.specs.Prelude.{◌==◌}
use Rattle.std.proofs.lemmas.Bool.{cases_Bool, eqb-true, eqb-false}
use Rattle.std.proofs.lemmas.List.Recursion.{is_count_by}
use Rattle.asl_assembler.specs.Words.{lines_of, with_first}
use Rattle.asl_assembler.specs.Text.{IsBadLine}
use Rattle.asl_diagnose_text.specs.Position.{is_feed, line_behind}
use Rattle.asl_diagnose_text.specs.Instructions.{is_instruction, instructions_in, IsInstructionLine}
use Rattle.asl_diagnose_text.specs.TextLines.{row_of}

-- ---- there are no more lines than line feeds, and one

abbrev feeds : List ℕ → ℕ
feeds [] = 0
feeds (b ∷ bs) = cond (is_feed b) (1 + feeds bs) (feeds bs)

few_if : (c : Bool) (ls : List (List ℕ)) (b n : ℕ) → length ls ≤ suc n → length (if c then [] ∷ ls else with_first b ls) ≤ suc (cond c (1 + n) n)
few_if true ls b n h = omega arith
few_if false [] b n h = omega arith
few_if false (l ∷ ls) b n h = omega arith

few : (text : List ℕ) → length (lines_of text) ≤ suc (feeds text)
few [] = omega arith
few (b ∷ bs) =
    few_if (b == 10) (lines_of bs) b (feeds bs) (few bs)

feeds_counted : (text : List ℕ) → suc (feeds text) ≡ line_behind text
feeds_counted text =
    ap suc (is_count_by feeds is_feed refl (λ b bs. refl) text)

pub lines_few : (text : List ℕ) → length (lines_of text) ≤ line_behind text
lines_few text = omega (arith, few text, feeds_counted text)

-- a wrong line that is not there is after the last one
pub too_early : (text : List ℕ) (number : ℕ) → IsBadLine (lines_of text) number → (0 < number → line_behind text < number) → number ≡ length (lines_of text) + 1
too_early text number h late =
    elim h.here [
      | inl k ↦ absurd (let a = k.0 in let b = late h.counted in omega (arith, lines_few text))
      | inr k ↦ k.0
    ]

pub none_missing : (text : List ℕ) (number : ℕ) → 0 < number → number ≤ length (lines_of text) → (0 < number → line_behind text < number) → ⊥
none_missing text number some there late = let b = late some in omega (arith, lines_few text)

-- ---- the line of an instruction

record IsRow (lines : List (List ℕ)) (pc first number : ℕ) : Type 0 where
  before : List (List ℕ)
  here : List ℕ
  behind : List (List ℕ)
  split : lines ≡ before ++ here ∷ behind
  number_is : first + length before ≡ number
  instruction : is_instruction here ≡ true
  counted : instructions_in before ≡ pc

abbrev chosen : Bool → Bool → ℕ → ℕ → List (List ℕ) → Option ℕ
chosen b z pc first ls =
    if b then (if z then Some first else row_of (pc - 1) (suc first) ls) else row_of pc (suc first) ls

counted_one_more : (b : Bool) (n : ℕ) → b ≡ true → (if b then suc n else n) ≡ suc n
counted_one_more true n e = refl
counted_one_more false n e = absurd cc

counted_past : (b : Bool) (n : ℕ) → b ≡ false → (if b then suc n else n) ≡ n
counted_past true n e = absurd cc
counted_past false n e = refl

row_found : (pc first number : ℕ) (ls : List (List ℕ)) → row_of pc first ls ≡ Some number → IsRow ls pc first number
row_found pc first number [] e = absurd cc
row_found pc first number (l ∷ ls) e =
    elim (cases_Bool (is_instruction l)) [
      | inl h ↦
          let f : chosen true (pc == 0) pc first ls ≡ Some number = sym (ap (λ (b : Bool). chosen b (pc == 0) pc first ls) h) ∙ e in
          elim (cases_Bool (pc == 0)) [
            | inl z ↦
                let g : Some first ≡ Some number = sym (ap (λ (b : Bool). chosen true b pc first ls) z) ∙ f in
                let same : first ≡ number = cc in
                record {
                  before = [];
                  here = l;
                  behind = ls;
                  split = refl;
                  number_is = omega arith;
                  instruction = h;
                  counted = sym (eqb-true pc 0 z);
                }
            | inr z ↦
                let g : row_of (pc - 1) (suc first) ls ≡ Some number = sym (ap (λ (b : Bool). chosen true b pc first ls) z) ∙ f in
                let k = row_found (pc - 1) (suc first) number ls g in
                record {
                  before = l ∷ k.before;
                  here = k.here;
                  behind = k.behind;
                  split = ap (λ (ms : List (List ℕ)). l ∷ ms) k.split;
                  number_is = omega (arith, k.number_is);
                  instruction = k.instruction;
                  counted = omega (arith, counted_one_more (is_instruction l) (instructions_in k.before) h, k.counted, eqb-false pc 0 z);
                }
          ]
      | inr h ↦
          let g : row_of pc (suc first) ls ≡ Some number = sym (ap (λ (b : Bool). chosen b (pc == 0) pc first ls) h) ∙ e in
          let k = row_found pc (suc first) number ls g in
          record {
            before = l ∷ k.before;
            here = k.here;
            behind = k.behind;
            split = ap (λ (ms : List (List ℕ)). l ∷ ms) k.split;
            number_is = omega (arith, k.number_is);
            instruction = k.instruction;
            counted = counted_past (is_instruction l) (instructions_in k.before) h ∙ k.counted;
          }
    ]

row_missing : (pc first : ℕ) (ls : List (List ℕ)) → row_of pc first ls ≡ None → instructions_in ls ≤ pc
row_missing pc first [] e = omega arith
row_missing pc first (l ∷ ls) e =
    elim (cases_Bool (is_instruction l)) [
      | inl h ↦
          let f : chosen true (pc == 0) pc first ls ≡ None = sym (ap (λ (b : Bool). chosen b (pc == 0) pc first ls) h) ∙ e in
          elim (cases_Bool (pc == 0)) [
            | inl z ↦ let g : Some first ≡ None = sym (ap (λ (b : Bool). chosen true b pc first ls) z) ∙ f in absurd cc
            | inr z ↦
                let g : row_of (pc - 1) (suc first) ls ≡ None = sym (ap (λ (b : Bool). chosen true b pc first ls) z) ∙ f in
                omega (arith, counted_one_more (is_instruction l) (instructions_in ls) h, row_missing (pc - 1) (suc first) ls g, eqb-false pc 0 z)
          ]
      | inr h ↦
          let g : row_of pc (suc first) ls ≡ None = sym (ap (λ (b : Bool). chosen b (pc == 0) pc first ls) h) ∙ e in
          omega (arith, counted_past (is_instruction l) (instructions_in ls) h, row_missing pc (suc first) ls g)
    ]

pub instruction_found : (lines : List (List ℕ)) (pc number : ℕ) → Some number ≡ row_of pc 1 lines → IsInstructionLine lines pc number
instruction_found lines pc number e =
    let k = row_found pc 1 number lines (sym e) in
    record {
      before = k.before;
      here = k.here;
      behind = k.behind;
      split = k.split;
      placed = omega (arith, k.number_is);
      instruction = k.instruction;
      counted = k.counted;
    }

pub instruction_missing : (lines : List (List ℕ)) (pc : ℕ) → None ≡ row_of pc 1 lines → instructions_in lines ≤ pc
instruction_missing lines pc e = row_missing pc 1 lines (sym e)

pub row_there : (lines : List (List ℕ)) (pc number : ℕ) → IsInstructionLine lines pc number → (0 < number) × (number ≤ length lines)
row_there lines pc number h =
    let n = h.placed in
    (omega arith, omega (arith, ap (λ (ls : List (List ℕ)). length ls) h.split, length-append h.before (h.here ∷ h.behind)))
