-- The bits of a word are those of no other value's.
use Rattle.std.proofs.Common.{◌≡◌, ℕ, ◌==◌, ◌&&◌, Bool, true, false, refl, sym, ap, ◌∙◌, eqb-true, eq-eqb}
use Rattle.std.proofs.lemmas.Bool.Decides.{Decides-int_eq}
use Rattle.asl_code.specs.declared.value.Value.{Value}
use Rattle.asl_code.specs.declared.value.Value.TheVariants.{Int, Null, Addr}
use Rattle.asl_machine.specs.StepFunction.{same_value}
use Rattle.asl_machine.specs.PackedValue.{bits_of, value_of}

-- two values of which the test says that they are the same, are
pub same_is : (x y : Value) → same_value x y ≡ true → x ≡ y
same_is (Int x) (Int y) e = ap (λ z. Int z) ((Decides-int_eq x y).0 e)
same_is (Int x) Null e = cc
same_is (Int x) (Addr p j) e = cc
same_is Null (Int y) e = cc
same_is Null Null e = refl
same_is Null (Addr p j) e = cc
same_is (Addr o i) (Int y) e = cc
same_is (Addr o i) Null e = cc
same_is (Addr o i) (Addr p j) e =
    let both = and_parts (o == p) (i == j) e in
    ap (λ n. Addr n i) (eqb-true o p both.0) ∙ ap (λ n. Addr p n) (eqb-true i j both.1)
  where
    and_parts : (a b : Bool) → (a && b) ≡ true → (a ≡ true) × (b ≡ true)
    and_parts true true e = (refl, refl)
    and_parts true false e = cc
    and_parts false b e = cc

-- a value is the same as itself
pub same_self : (x : Value) → same_value x x ≡ true
same_self (Int x) = (Decides-int_eq x x).1 refl
same_self Null = refl
same_self (Addr o i) = ap (λ b. b && (i == i)) (eq-eqb o o refl) ∙ eq-eqb i i refl

-- words have the same bits exactly where their values are the same
pub bits_tell : (a b : ℕ) → bits_of (value_of a) ≡ a → bits_of (value_of b) ≡ b → (a == b) ≡ same_value (value_of a) (value_of b)
bits_tell a b p q =
    elim (a == b) as (λ t. (a == b) ≡ t → t ≡ same_value (value_of a) (value_of b)) [
      | true ↦ λ e. let one = eqb-true a b e in sym (ap (λ n. same_value (value_of a) (value_of n)) (sym one) ∙ same_self (value_of a))
      | false ↦ λ e. other (same_value (value_of a) (value_of b)) refl e
    ] refl
  where
    other : (t : Bool) → same_value (value_of a) (value_of b) ≡ t → (a == b) ≡ false → false ≡ t
    other true e n = let one = sym p ∙ ap bits_of (same_is (value_of a) (value_of b) e) ∙ q in let yes = eq-eqb a b one in cc
    other false e n = refl
