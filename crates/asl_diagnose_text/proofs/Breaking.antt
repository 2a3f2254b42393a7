-- Lines of an assembly text that may break a rule: the first from a number on.
use Rattle.std.proofs.Common.{◌≡◌, ℕ, suc, ◌+◌, ◌<◌, ◌≤◌, Bool, true, false, if◌then◌else◌, inl, inr, List, [], ◌∷◌, ◌++◌, length, Option, Some, None, All, refl, sym, ap, ◌∙◌, arith, length-append}
use Rattle.std.specs.Prelude.{◌&&◌, nat_le}
use Rattle.std.proofs.lemmas.Bool.{cases_Bool}
use Rattle.std.proofs.lemmas.List.Elements.{All-cons}
use Rattle.asl_code.specs.declared.fault.VerifyFault.{VerifyFault}
use Rattle.asl_diagnose_text.specs.Instructions.{breaks, IsBreakingLine, IsUnbroken}
use Rattle.asl_diagnose_text.specs.TextLines.{breaking_from}

record IsFound (lines : List (List ℕ)) (cause : VerifyFault) (first number : ℕ) : Type 0 where
  before : List (List ℕ)
  here : List ℕ
  behind : List (List ℕ)
  split : lines ≡ before ++ here ∷ behind
  number_is : first + length before ≡ number
  named : breaks cause here ≡ true

both : (a b : Bool) → (a && b) ≡ true → b ≡ true
both true b h = h
both false b h = absurd cc

found : (cause : VerifyFault) (from first number : ℕ) (ls : List (List ℕ)) → breaking_from cause from first ls ≡ Some number → IsFound ls cause first number
found cause from first number [] e = absurd cc
found cause from first number (l ∷ ls) e =
    elim (cases_Bool (nat_le from first && breaks cause l)) [
      | inl h ↦
          let f : Some first ≡ Some number = sym (ap (λ (b : Bool). if b then Some first else breaking_from cause from (suc first) ls) h) ∙ e in
          let same : first ≡ number = cc in
          record { before = []; here = l; behind = ls; split = refl; number_is = omega (arith, same); named = both (nat_le from first) (breaks cause l) h }
      | inr h ↦
          let f : breaking_from cause from (suc first) ls ≡ Some number = sym (ap (λ (b : Bool). if b then Some first else breaking_from cause from (suc first) ls) h) ∙ e in
          let k = found cause from (suc first) number ls f in
          record {
            before = l ∷ k.before;
            here = k.here;
            behind = k.behind;
            split = ap (λ (ms : List (List ℕ)). l ∷ ms) k.split;
            number_is = omega (arith, k.number_is);
            named = k.named;
          }
    ]

pub line_found : (lines : List (List ℕ)) (cause : VerifyFault) (from number : ℕ) → Some number ≡ breaking_from cause from 1 lines → IsBreakingLine lines cause number
line_found lines cause from number e =
    let k = found cause from 1 number lines (sym e) in
    record { before = k.before; here = k.here; behind = k.behind; split = k.split; placed = omega (arith, k.number_is); named = k.named }

pub line_there : (lines : List (List ℕ)) (cause : VerifyFault) (number : ℕ) → IsBreakingLine lines cause number → (0 < number) × (number ≤ length lines)
line_there lines cause number h =
    let n = h.placed in
    (omega arith, omega (arith, ap (λ (ls : List (List ℕ)). length ls) h.split, length-append h.before (h.here ∷ h.behind)))

not_both : (a b : Bool) → a ≡ true → (a && b) ≡ false → b ≡ false
not_both true b y h = h
not_both false b y h = absurd cc

none_from : (cause : VerifyFault) (from first : ℕ) (ls : List (List ℕ)) → from ≤ first → breaking_from cause from first ls ≡ None → All (λ (line : List ℕ). breaks cause line ≡ false) ls
none_from cause from first [] le e = λ k d lt. absurd (omega (arith, lt))
none_from cause from first (l ∷ ls) le e =
    elim (cases_Bool (nat_le from first && breaks cause l)) [
      | inl h ↦
          let f : Some first ≡ None = sym (ap (λ (b : Bool). if b then Some first else breaking_from cause from (suc first) ls) h) ∙ e in
          absurd cc
      | inr h ↦
          let f : breaking_from cause from (suc first) ls ≡ None = sym (ap (λ (b : Bool). if b then Some first else breaking_from cause from (suc first) ls) h) ∙ e in
          All-cons (λ (line : List ℕ). breaks cause line ≡ false) l ls (not_both (nat_le from first) (breaks cause l) (grind (arith, le)) h) (none_from cause from (suc first) ls (omega (arith, le)) f)
    ]

pub none_breaks : (lines : List (List ℕ)) (cause : VerifyFault) (from : ℕ) → from ≤ 1 → None ≡ breaking_from cause from 1 lines → IsUnbroken lines cause
none_breaks lines cause from le e = none_from cause from 1 lines le (sym e)
