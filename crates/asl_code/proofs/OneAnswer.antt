-- The verifier has one answer: a fault is known by its line and its place, and the first line that applies is found.
use Rattle.std.proofs.Common.{◌≡◌, ℕ, ◌+◌, ◌<◌, ◌≤◌, ◌⊎◌, ◌==◌, if◌then◌else◌, Bool, true, false, not, Option, Some, None, refl, ap, sym, ◌∙◌, inl, inr, arith, lit<}
use Rattle.std.proofs.lemmas.Bool.{both_ways, cases_lt, cases_order}
use Rattle.asl_code.specs.Rules.{IsLowestFailing}
use Rattle.asl_code.specs.Verified.{keeps_limits, has_tables, has_entry, has_ranges, has_ends, has_target, has_registers, has_operands, has_list_bases, fails_at, applies, line_of, place_of, ComesFirst, IsAnswer, IsVerified}
use Rattle.asl_code.proofs.Scanning.{first_failing}
use Rattle.asl_code.proofs.Told.{lowest_from_scan}
use Rattle.asl_code.specs.Bodies.{Body}
use Rattle.asl_code.specs.declared.instr.Instr.{Instr}
use Rattle.asl_code.specs.declared.image.Image.{Image}
use Rattle.asl_code.specs.declared.fault.VerifyFault.{VerifyFault}
use Rattle.asl_code.specs.declared.fault.VerifyFault.TheVariants.{Limit, Table, NoEntry, FunctionRange, FallsOut, Target, Register, Operand, ListBase}

-- the fault of a line at a place
abbrev fault_at : ℕ → ℕ → VerifyFault
fault_at line place =
    if line == 1 then Limit
    else (if line == 2 then Table
    else (if line == 3 then NoEntry
    else (if line == 4 then FunctionRange
    else (if line == 5 then FallsOut
    else (if line == 6 then Target place
    else (if line == 7 then Register place
    else (if line == 8 then Operand place
    else ListBase place)))))))

-- a fault is that of its line at its place
fault_back : (f : VerifyFault) → fault_at (line_of f) (place_of f) ≡ f
fault_back Limit = refl
fault_back Table = refl
fault_back NoEntry = refl
fault_back FunctionRange = refl
fault_back FallsOut = refl
fault_back (Target pc) = refl
fault_back (Register pc) = refl
fault_back (Operand pc) = refl
fault_back (ListBase pc) = refl

-- two faults that come before each other are of one line and one place
same_line : (f g : VerifyFault) → ComesFirst f g → ComesFirst g f → (line_of f ≡ line_of g) × (place_of f ≡ place_of g)
same_line f g (inl less) (inl more) = absurd (omega arith)
same_line f g (inl less) (inr at) = absurd (omega (arith, at.0))
same_line f g (inr at) (inl more) = absurd (omega (arith, at.0))
same_line f g (inr at) (inr back) = (at.0, omega (arith, at.1, back.1))

-- an image has one answer at the most
pub one_answer : (i : Image) (f g : VerifyFault) → IsAnswer i f → IsAnswer i g → f ≡ g
one_answer i f g a b =
    let same = same_line f g (a.least g b.holds) (b.least f a.holds) in
    sym (fault_back f) ∙ ap (λ line. fault_at line (place_of f)) same.0 ∙ ap (fault_at (line_of g)) same.1 ∙ fault_back g

-- a verified image has none
pub no_answer : (i : Image) (f : VerifyFault) → IsVerified i → IsAnswer i f → ⊥
no_answer i f v a = both_ways _ (v f) a.holds

-- ---- each image has an answer, or is verified

-- no fault of an earlier line applies
abbrev NoneBefore : Image → ℕ → Type 0
NoneBefore i line = (f : VerifyFault) → line_of f < line → applies i f ≡ false

abbrev IsJudged : Image → Type 0
IsJudged i = IsVerified i ⊎ ((f : VerifyFault) × IsAnswer i f)

line_above : (f : VerifyFault) → 0 < line_of f
line_above Limit = lit< tt
line_above Table = lit< tt
line_above NoEntry = lit< tt
line_above FunctionRange = lit< tt
line_above FallsOut = lit< tt
line_above (Target pc) = lit< tt
line_above (Register pc) = lit< tt
line_above (Operand pc) = lit< tt
line_above (ListBase pc) = lit< tt

line_below : (f : VerifyFault) → line_of f < 10
line_below Limit = lit< tt
line_below Table = lit< tt
line_below NoEntry = lit< tt
line_below FunctionRange = lit< tt
line_below FallsOut = lit< tt
line_below (Target pc) = lit< tt
line_below (Register pc) = lit< tt
line_below (Operand pc) = lit< tt
line_below (ListBase pc) = lit< tt

-- a fault of this line is the one at its place
in_line : (i : Image) (line : ℕ) (f : VerifyFault) → line_of f ≡ line → applies i f ≡ applies i (fault_at line (place_of f))
in_line i line f same = ap (applies i) (sym (fault_back f) ∙ ap (λ l. fault_at l (place_of f)) same)

-- the line does not apply, so none up to it does
none_here : (i : Image) (line : ℕ) → NoneBefore i line → ((pc : ℕ) → applies i (fault_at line pc) ≡ false) → NoneBefore i (line + 1)
none_here i line before here f lt =
    elim (cases_lt (line_of f) line) [
      | inl earlier ↦ before f earlier
      | inr late ↦ let same : line_of f ≡ line = omega arith in in_line i line f same ∙ here (place_of f)
    ]

-- the line applies at this place and at no lower one, and no earlier line does
first_here : (i : Image) (line : ℕ) (f : VerifyFault) → line_of f ≡ line → applies i f ≡ true → NoneBefore i line → ((pc : ℕ) → applies i (fault_at line pc) ≡ true → place_of f ≤ pc) → IsAnswer i f
first_here i line f at holds before low = record {
  holds = holds;
  least = λ g also.
      elim (cases_order (line_of g) line) [
        | inl same ↦ inr (at ∙ sym same, low (place_of g) (sym (in_line i line g same) ∙ also))
        | inr (inl earlier) ↦ absurd (both_ways _ (before g earlier) also)
        | inr (inr later) ↦ inl (omega arith)
      ];
}

-- a line that names no place
by_test : (i : Image) (line : ℕ) (f : VerifyFault) (passed : Bool) → line_of f ≡ line → place_of f ≡ 0 → applies i f ≡ not passed → ((pc : ℕ) → applies i (fault_at line pc) ≡ not passed) → NoneBefore i line
    → (passed ≡ true → NoneBefore i (line + 1) → IsJudged i) → IsJudged i
by_test i line f true at zero_is is all before rest = rest refl (none_here i line before all)
by_test i line f false at zero_is is all before rest = inr (f, first_here i line f at is before (λ pc also. omega arith))

-- a line that names the lowest place
by_place : (i : Image) (line : ℕ) (f : ℕ → VerifyFault) (passes : Body → Instr → Bool) (o : Option ℕ) → ((pc : ℕ) → line_of (f pc) ≡ line) → ((pc : ℕ) → place_of (f pc) ≡ pc)
    → ((pc : ℕ) → fault_at line pc ≡ f pc) → ((pc : ℕ) → applies i (f pc) ≡ fails_at passes i pc) → NoneBefore i line → IsLowestFailing passes i o → (NoneBefore i (line + 1) → IsJudged i) → IsJudged i
by_place i line f passes None at place here is before low rest = rest (none_here i line before (λ pc. ap (applies i) (here pc) ∙ is pc ∙ low pc))
by_place i line f passes (Some pc) at place here is before low rest =
    inr (
      f pc,
      first_here i line (f pc) (at pc) (is pc ∙ low.0) before (λ other also.
          let le : pc ≤ other = low.1 other (sym (is other) ∙ ap (applies i) (sym (here other)) ∙ also) in
          omega (arith, place pc)),
    )

-- the lowest place that fails, where the bodies are the code
abbrev found : (Body → Instr → Bool) → Image → Option ℕ
found passes i = first_failing passes 0 i.functions i.code

in_places : (i : Image) → has_ranges i ≡ true → NoneBefore i 6 → IsJudged i
in_places i ranges before =
    by_place i 6 Target (has_target i) (found (has_target i) i) (λ pc. refl) (λ pc. refl) (λ pc. refl) (λ pc. refl) before (lowest_from_scan (has_target i) i _ ranges refl)
    (λ none_6. by_place i 7 Register (λ b. has_registers i b.function) (found (λ b. has_registers i b.function) i) (λ pc. refl) (λ pc. refl) (λ pc. refl) (λ pc. refl) none_6 (lowest_from_scan (λ b. has_registers i b.function) i _ ranges refl)
    (λ none_7. by_place i 8 Operand (λ b. has_operands i) (found (λ b. has_operands i) i) (λ pc. refl) (λ pc. refl) (λ pc. refl) (λ pc. refl) none_7 (lowest_from_scan (λ b. has_operands i) i _ ranges refl)
    (λ none_8. by_place i 9 ListBase (λ b. has_list_bases i b.function) (found (λ b. has_list_bases i b.function) i) (λ pc. refl) (λ pc. refl) (λ pc. refl) (λ pc. refl) none_8 (lowest_from_scan (λ b. has_list_bases i b.function) i _ ranges refl)
    (λ none_9. inl (λ f. none_9 f (line_below f))))))

-- what breaks a limit has that for an answer, whatever else it breaks
pub limit_answer : (i : Image) → keeps_limits i ≡ false → IsAnswer i Limit
limit_answer i over = first_here i 1 Limit refl (ap not over) (λ f lt. absurd (omega (arith, line_above f))) (λ pc also. omega arith)

-- an image is verified, or has an answer
pub some_answer : (i : Image) → IsVerified i ⊎ ((f : VerifyFault) × IsAnswer i f)
some_answer i =
    by_test i 1 Limit (keeps_limits i) refl refl refl (λ pc. refl) (λ f lt. absurd (omega (arith, line_above f)))
    (λ limits none_1. by_test i 2 Table (has_tables i) refl refl refl (λ pc. refl) none_1
    (λ tables none_2. by_test i 3 NoEntry (has_entry i) refl refl refl (λ pc. refl) none_2
    (λ entry none_3. by_test i 4 FunctionRange (has_ranges i) refl refl refl (λ pc. refl) none_3
    (λ ranges none_4. by_test i 5 FallsOut (has_ends i) refl refl refl (λ pc. refl) none_4
    (λ ends none_5. in_places i ranges none_5)))))
