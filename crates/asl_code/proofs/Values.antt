-- What value_at answers is the value whose bytes begin the given ones, or why there is none.
use Rattle.std.proofs.Common.{◌≡◌, ℕ, zero, suc, ◌<◌, ◌^◌, false, ltb, List, [], ◌∷◌, ◌++◌, length, get_or, Result, Ok, Err, refl, sym, ap, ◌∙◌, arith, length-append, w16, w32, lit<}
use Rattle.std.specs.Prelude.{IfOk}
use Rattle.std.specs.Int.{to_be_bytes, from_be_bytes, cast_unsigned, cast_signed}
use Rattle.std.proofs.lemmas.Bool.{le-ltb}
use Rattle.std.proofs.lemmas.Int.{of_z-to_z}
use Rattle.std.proofs.lemmas.Nat.{be_bytes_2, be_bytes_4}
use Rattle.std.proofs.Math.Facts.{sfits_to_z}
use Rattle.asl_code.specs.declared.value.Value.{Value}
use Rattle.asl_code.specs.declared.value.Value.TheVariants.{Int, Null, Addr}
use Rattle.asl_code.specs.declared.value_bytes.ValueFault.{ValueFault}
use Rattle.asl_code.specs.declared.value_bytes.ValueFault.TheVariants.{Short}
use Rattle.asl_code.specs.Spelling.{value_bytes, SpellsValue, TakesValue, BeginsValue}
use Rattle.asl_code.specs.ReadingValue.{value_at, int_at, address_at}

abbrev Answer : Type 0
Answer = Result (Value × ℕ) ValueFault

-- each number of the list is a byte
abbrev pub AreBytes : List ℕ → Type 0
AreBytes bytes = (i : ℕ) → get_or bytes i 0 < 256

-- the integer of four bytes
int_of : ℕ → ℕ → ℕ → ℕ → Value
int_of a b c d = Int (cast_signed w32 (from_be_bytes w32 (a ∷ b ∷ c ∷ d ∷ [])))

int_spells : (a b c d : ℕ) → AreBytes (a ∷ b ∷ c ∷ d ∷ []) → SpellsValue (int_of a b c d) (0 ∷ a ∷ b ∷ c ∷ d ∷ [])
unfolding int_of
int_spells a b c d fit =
    let n = from_be_bytes w32 (a ∷ b ∷ c ∷ d ∷ []) in
    let small : n < 2 ^ 32 = omega (arith, fit 0, fit 1, fit 2, fit 3) in
    let bytes : to_be_bytes w32 n ≡ a ∷ b ∷ c ∷ d ∷ [] = be_bytes_4 (a ∷ b ∷ c ∷ d ∷ []) n refl fit refl in
    let again : cast_unsigned w32 (cast_signed w32 n) ≡ n = of_z-to_z w32 n small in
    record { fits = sfits_to_z (record { fits = small }); spelled = ap (λ (t : List ℕ). 0 ∷ t) (sym bytes ∙ ap (to_be_bytes w32) (sym again)) }

-- the cell of three bytes
cell_of : ℕ → ℕ → ℕ → Value
cell_of a b c = Addr (from_be_bytes w16 (a ∷ b ∷ [])) c

two_bytes : (a b c : ℕ) → AreBytes (a ∷ b ∷ c ∷ []) → AreBytes (a ∷ b ∷ [])
two_bytes a b c fit zero = fit 0
two_bytes a b c fit (suc zero) = fit 1
two_bytes a b c fit (suc (suc i)) = lit< tt

cell_spells : (a b c : ℕ) → AreBytes (a ∷ b ∷ c ∷ []) → SpellsValue (cell_of a b c) (2 ∷ a ∷ b ∷ c ∷ [])
unfolding cell_of
cell_spells a b c fit =
    let n = from_be_bytes w16 (a ∷ b ∷ []) in
    let two : AreBytes (a ∷ b ∷ []) = λ i. two_bytes a b c fit i in
    let bytes : to_be_bytes w16 n ≡ a ∷ b ∷ [] = be_bytes_2 (a ∷ b ∷ []) n refl two refl in
    record { fits = (omega (arith, fit 0, fit 1), fit 2); spelled = ap (λ (t : List ℕ). 2 ∷ t ++ c ∷ []) (sym bytes) }

four_bytes : (a b c d : ℕ) → a < 256 → b < 256 → c < 256 → d < 256 → AreBytes (a ∷ b ∷ c ∷ d ∷ [])
four_bytes a b c d p q r s zero = p
four_bytes a b c d p q r s (suc zero) = q
four_bytes a b c d p q r s (suc (suc zero)) = r
four_bytes a b c d p q r s (suc (suc (suc zero))) = s
four_bytes a b c d p q r s (suc (suc (suc (suc i)))) = lit< tt

three_bytes : (a b c : ℕ) → a < 256 → b < 256 → c < 256 → AreBytes (a ∷ b ∷ c ∷ [])
three_bytes a b c p q r zero = p
three_bytes a b c p q r (suc zero) = q
three_bytes a b c p q r (suc (suc zero)) = r
three_bytes a b c p q r (suc (suc (suc i))) = lit< tt

abbrev took : Value → ℕ → Answer
took v n = Ok (v, n)

int_long : (a b c d : ℕ) (rest : List ℕ) → int_at (a ∷ b ∷ c ∷ d ∷ rest) ≡ took (int_of a b c d) 5
unfolding int_of
int_long a b c d rest = let long : ltb (length (a ∷ b ∷ c ∷ d ∷ rest)) 4 ≡ false = le-ltb _ _ (omega arith) in rw long refl

cell_long : (a b c : ℕ) (rest : List ℕ) → address_at (a ∷ b ∷ c ∷ rest) ≡ took (cell_of a b c) 4
unfolding cell_of
cell_long a b c rest = let long : ltb (length (a ∷ b ∷ c ∷ rest)) 3 ≡ false = le-ltb _ _ (omega arith) in rw long refl

same_value : (v w : Value) (m n : ℕ) → took v m ≡ took w n → (v ≡ w) × (m ≡ n)
same_value v w m n e = let pair : (v, m) ≡ (w, n) = cc in (ap (λ (p : Value × ℕ). p.0) pair, ap (λ (p : Value × ℕ). p.1) pair)

-- what is taken is spelled so
pub value_found : (bytes : List ℕ) (v : Value) (n : ℕ) → AreBytes bytes → value_at bytes ≡ Ok (v, n) → TakesValue bytes v n
value_found [] v n fit e = absurd cc
value_found (zero ∷ []) v n fit e = absurd cc
value_found (zero ∷ a ∷ []) v n fit e = absurd cc
value_found (zero ∷ a ∷ b ∷ []) v n fit e = absurd cc
value_found (zero ∷ a ∷ b ∷ c ∷ []) v n fit e = absurd cc
value_found (zero ∷ a ∷ b ∷ c ∷ d ∷ rest) v n fit e =
    let same = same_value (int_of a b c d) v 5 n (sym (int_long a b c d rest) ∙ e) in
    rw (← same.0, ← same.1) (record { within = omega arith; front = int_spells a b c d (four_bytes a b c d (fit 1) (fit 2) (fit 3) (fit 4)) })
value_found (suc zero ∷ rest) v n fit e =
    let same = same_value Null v 1 n e in
    rw (← same.0, ← same.1) (record { within = omega arith; front = record { fits = tt; spelled = refl } })
value_found (suc (suc zero) ∷ []) v n fit e = absurd cc
value_found (suc (suc zero) ∷ a ∷ []) v n fit e = absurd cc
value_found (suc (suc zero) ∷ a ∷ b ∷ []) v n fit e = absurd cc
value_found (suc (suc zero) ∷ a ∷ b ∷ c ∷ rest) v n fit e =
    let same = same_value (cell_of a b c) v 4 n (sym (cell_long a b c rest) ∙ e) in
    rw (← same.0, ← same.1) (record { within = omega arith; front = cell_spells a b c (three_bytes a b c (fit 1) (fit 2) (fit 3)) })
value_found (suc (suc (suc kind)) ∷ rest) v n fit e = absurd cc

pub is_found : (bytes : List ℕ) (r : Answer) → AreBytes bytes → r ≡ value_at bytes → IfOk r (λ found. TakesValue bytes found.0 found.1)
is_found bytes (Ok x) fit e = value_found bytes x.0 x.1 fit (sym e)
is_found bytes (Err f) fit e = tt

begun : (bytes : List ℕ) (v : Value) (next : ℕ) (more : List ℕ) → SpellsValue v (bytes ++ next ∷ more) → BeginsValue bytes
begun bytes v next more s = (v, next, more, s)

-- where a value's bytes continue
pub short_begins : (bytes : List ℕ) → AreBytes bytes → value_at bytes ≡ Err Short → BeginsValue bytes
short_begins [] fit e = begun [] Null 1 [] (record { fits = tt; spelled = refl })
short_begins (zero ∷ []) fit e = begun (0 ∷ []) (int_of 0 0 0 0) 0 (0 ∷ 0 ∷ 0 ∷ []) (int_spells 0 0 0 0 (four_bytes 0 0 0 0 (lit< tt) (lit< tt) (lit< tt) (lit< tt)))
short_begins (zero ∷ a ∷ []) fit e = begun (0 ∷ a ∷ []) (int_of a 0 0 0) 0 (0 ∷ 0 ∷ []) (int_spells a 0 0 0 (four_bytes a 0 0 0 (fit 1) (lit< tt) (lit< tt) (lit< tt)))
short_begins (zero ∷ a ∷ b ∷ []) fit e = begun (0 ∷ a ∷ b ∷ []) (int_of a b 0 0) 0 (0 ∷ []) (int_spells a b 0 0 (four_bytes a b 0 0 (fit 1) (fit 2) (lit< tt) (lit< tt)))
short_begins (zero ∷ a ∷ b ∷ c ∷ []) fit e = begun (0 ∷ a ∷ b ∷ c ∷ []) (int_of a b c 0) 0 [] (int_spells a b c 0 (four_bytes a b c 0 (fit 1) (fit 2) (fit 3) (lit< tt)))
short_begins (zero ∷ a ∷ b ∷ c ∷ d ∷ rest) fit e = let both : took (int_of a b c d) 5 ≡ Err Short = sym (int_long a b c d rest) ∙ e in absurd cc
short_begins (suc zero ∷ rest) fit e = absurd cc
short_begins (suc (suc zero) ∷ []) fit e = begun (2 ∷ []) (cell_of 0 0 0) 0 (0 ∷ 0 ∷ []) (cell_spells 0 0 0 (three_bytes 0 0 0 (lit< tt) (lit< tt) (lit< tt)))
short_begins (suc (suc zero) ∷ a ∷ []) fit e = begun (2 ∷ a ∷ []) (cell_of a 0 0) 0 (0 ∷ []) (cell_spells a 0 0 (three_bytes a 0 0 (fit 1) (lit< tt) (lit< tt)))
short_begins (suc (suc zero) ∷ a ∷ b ∷ []) fit e = begun (2 ∷ a ∷ b ∷ []) (cell_of a b 0) 0 [] (cell_spells a b 0 (three_bytes a b 0 (fit 1) (fit 2) (lit< tt)))
short_begins (suc (suc zero) ∷ a ∷ b ∷ c ∷ rest) fit e = let both : took (cell_of a b c) 4 ≡ Err Short = sym (cell_long a b c rest) ∙ e in absurd cc
short_begins (suc (suc (suc kind)) ∷ rest) fit e = absurd cc

-- a proper prefix of a value's bytes is too short
prefix_short : (bytes : List ℕ) (v : Value) (next : ℕ) (more : List ℕ) → bytes ++ next ∷ more ≡ value_bytes v → value_at bytes ≡ Err Short
prefix_short [] v next more e = refl
prefix_short (k ∷ []) Null next more e = absurd (omega (arith, ap length e))
prefix_short (k ∷ a ∷ rest) Null next more e = absurd (omega (arith, ap length e))
prefix_short (k ∷ []) (Int n) next more e = let kind : k ≡ 0 = cc in rw kind refl
prefix_short (k ∷ a ∷ []) (Int n) next more e = let kind : k ≡ 0 = cc in rw kind refl
prefix_short (k ∷ a ∷ b ∷ []) (Int n) next more e = let kind : k ≡ 0 = cc in rw kind refl
prefix_short (k ∷ a ∷ b ∷ c ∷ []) (Int n) next more e = let kind : k ≡ 0 = cc in rw kind refl
prefix_short (k ∷ a ∷ b ∷ c ∷ d ∷ rest) (Int n) next more e = absurd (omega (arith, ap length e, length-append rest (next ∷ more)))
prefix_short (k ∷ []) (Addr o f) next more e = let kind : k ≡ 2 = cc in rw kind refl
prefix_short (k ∷ a ∷ []) (Addr o f) next more e = let kind : k ≡ 2 = cc in rw kind refl
prefix_short (k ∷ a ∷ b ∷ []) (Addr o f) next more e = let kind : k ≡ 2 = cc in rw kind refl
prefix_short (k ∷ a ∷ b ∷ c ∷ rest) (Addr o f) next more e = absurd (omega (arith, ap length e, length-append rest (next ∷ more)))

pub begins_short : (bytes : List ℕ) → BeginsValue bytes → value_at bytes ≡ Err Short
begins_short bytes b = prefix_short bytes b.0 b.1 b.2 b.3.spelled
