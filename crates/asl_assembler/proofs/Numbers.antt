-- The functions that read a word, against what the word can be.
use Rattle.std.proofs.Common.{◌≡◌, ℕ, ℤ, pos, neg_ℤ, ◌+◌, ◌-◌, ◌*◌, ◌^◌, Bool, true, false, ◌&&◌, List, [], ◌∷◌, length, Some, None, refl, sym, ap, ◌∙◌, inl, inr, eq-eqb}
use Rattle.std.specs.Prelude.{◌==◌, nat_lt, nat_le}
use Rattle.std.specs.List.{list_all}
use Rattle.std.specs.Char.{is_ascii_digit}
use Rattle.std.proofs.lemmas.Bool.{cases_Bool, ltb-true, leb-true, lt-ltb, le-leb, and_parts, and_from}
use Rattle.std.proofs.lemmas.Bool.Decides.{Decides-eqb}
use Rattle.asl_assembler.specs.Words.{IsNumber, IsMarked, IsInteger, worth_after}
use Rattle.asl_assembler.specs.Reading.{decimal_after, decimal_of, below, number_of, after_mark, marked_of, integer_by, integer_of}
use Rattle.asl_assembler.proofs.Options.{bound, guarded, mapped}

-- Digits have a value.
digits_read : (high : ℕ) (ds : List ℕ) → list_all is_ascii_digit ds ≡ true → decimal_after high ds ≡ Some (worth_after high ds)
digits_read high [] all = refl
digits_read high (d ∷ ds) all =
    let parts = and_parts (is_ascii_digit d) (list_all is_ascii_digit ds) all in
    let digit : is_ascii_digit d ≡ true = parts.0 in
    rw digit (digits_read (10 * high + (d - 48)) ds parts.1)

-- What has a value is digits.
read_digits : (high : ℕ) (ds : List ℕ) (n : ℕ) → decimal_after high ds ≡ Some n → (list_all is_ascii_digit ds ≡ true) × (n ≡ worth_after high ds)
read_digits high [] n e = (refl, cc)
read_digits high (d ∷ ds) n e =
    let g = guarded (is_ascii_digit d) (decimal_after (10 * high + (d - 48)) ds) n e in
    let rest = read_digits (10 * high + (d - 48)) ds n g.1 in
    (and_from (is_ascii_digit d) (list_all is_ascii_digit ds) g.0 rest.0, rest.1)

abbrev fits_ten : List ℕ → Bool
fits_ten word = nat_lt 0 (length word) && nat_le (length word) 10

pub number_read : (limit : ℕ) (word : List ℕ) (n : ℕ) → IsNumber limit word n → number_of limit word ≡ Some n
unfolding number_of decimal_of
number_read limit word n h =
    let ten : fits_ten word ≡ true = and_from (nat_lt 0 (length word)) (nat_le (length word) 10) (lt-ltb 0 (length word) h.some) (le-leb (length word) 10 h.few) in
    let value = digits_read 0 word h.digits in
    let small : nat_lt (worth_after 0 word) limit ≡ true = lt-ltb (worth_after 0 word) limit (rw (← h.value) h.fits) in
    rw (ten, value) (rw small (ap Some (sym h.value)))

pub read_number : (limit : ℕ) (word : List ℕ) (n : ℕ) → number_of limit word ≡ Some n → IsNumber limit word n
unfolding number_of decimal_of
read_number limit word n e =
    let b = bound (decimal_of word) (below limit) n e in
    let g = guarded (fits_ten word) (decimal_after 0 word) b.0 b.1 in
    let parts = and_parts (nat_lt 0 (length word)) (nat_le (length word) 10) g.0 in
    let digits = read_digits 0 word b.0 g.1 in
    let small = guarded (nat_lt b.0 limit) (Some b.0) n b.2 in
    let same : b.0 ≡ n = cc in
    record {
      digits = digits.0;
      some = ltb-true 0 (length word) parts.0;
      few = leb-true (length word) 10 parts.1;
      value = sym same ∙ digits.1;
      fits = rw (← same) (ltb-true b.0 limit small.0);
    }

-- A word after a mark.
pub marked_read : (mark limit : ℕ) (word : List ℕ) (n : ℕ) → IsMarked mark limit word n → marked_of mark limit word ≡ Some n
unfolding marked_of
marked_read mark limit [] n h = absurd h
marked_read mark limit (c ∷ word) n h =
    let same : (c == mark) ≡ true = eq-eqb c mark h.0 in
    rw same (number_read limit word n h.1)

pub read_marked : (mark limit : ℕ) (word : List ℕ) (n : ℕ) → marked_of mark limit word ≡ Some n → IsMarked mark limit word n
unfolding marked_of
read_marked mark limit [] n e = absurd (cc)
read_marked mark limit (c ∷ word) n e =
    let b = bound (after_mark mark (c ∷ word)) (number_of limit) n e in
    let g = guarded (c == mark) (Some word) b.0 b.1 in
    let same : word ≡ b.0 = cc in
    ((Decides-eqb c mark).0 g.0, read_number limit word n (rw same b.2))

-- No mark, no number after it.
pub not_marked : (mark limit c : ℕ) (word : List ℕ) → (c == mark) ≡ false → marked_of mark limit (c ∷ word) ≡ None
unfolding marked_of
not_marked mark limit c word other = rw other refl

-- Integers: a word of digits has no `-`.
plain : (word : List ℕ) (n : ℕ) → IsNumber (2 ^ 31) word n → after_mark 45 word ≡ None
plain [] n h = refl
plain (c ∷ word) n h =
    elim (cases_Bool (c == 45)) [
      | inl k ↦ (let digit : is_ascii_digit c ≡ true = (and_parts (is_ascii_digit c) (list_all is_ascii_digit word) h.digits).0 in
          let minus : c ≡ 45 = (Decides-eqb c 45).0 k in
          let none : is_ascii_digit 45 ≡ true = rw minus at digit in
          absurd (cc))
      | inr k ↦ rw k refl
    ]

pub integer_read : (word : List ℕ) (z : ℤ) → IsInteger word z → integer_of word ≡ Some z
unfolding integer_of
integer_read word z (inl h) = rw (plain word h.0 h.1) (rw (number_read (2 ^ 31) word h.0 h.1) (ap Some (sym h.2)))
integer_read [] z (inr h) = absurd h.1
integer_read (c ∷ word) z (inr h) =
    let same : (c == 45) ≡ true = eq-eqb c 45 h.1.0 in
    rw same (rw (number_read (2 ^ 31 + 1) word h.0 h.1.1) (ap Some (sym h.2)))

pub read_integer : (word : List ℕ) (z : ℤ) → integer_of word ≡ Some z → IsInteger word z
unfolding integer_of
read_integer [] z e = let m = mapped pos (number_of (2 ^ 31) []) z e in inl (m.0, read_number (2 ^ 31) [] m.0 m.1, sym m.2)
read_integer (c ∷ word) z e =
    elim (cases_Bool (c == 45)) [
      | inl k ↦ (let negative : integer_by (Some word) (c ∷ word) ≡ Some z = rw k at e in
          let m = mapped (λ n. neg_ℤ (pos n)) (number_of (2 ^ 31 + 1) word) z negative in
          inr (m.0, ((Decides-eqb c 45).0 k, read_number (2 ^ 31 + 1) word m.0 m.1), sym m.2))
      | inr k ↦ (let positive : integer_by None (c ∷ word) ≡ Some z = rw k at e in
          let m = mapped pos (number_of (2 ^ 31) (c ∷ word)) z positive in
          inl (m.0, read_number (2 ^ 31) (c ∷ word) m.0 m.1, sym m.2))
    ]
