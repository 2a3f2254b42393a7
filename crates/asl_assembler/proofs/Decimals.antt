-- The words that the canonical text writes: they read as their tokens, and hold no separator and no line feed.
use Rattle.std.proofs.Common.{◌≡◌, ℕ, pos, negsuc, ◌+◌, ◌-◌, ◌*◌, ◌/◌, ◌%◌, ◌^◌, ◌<◌, ◌≤◌, Bool, true, false, List, [], ◌∷◌, ◌++◌, length, refl, ◌∙◌, suc, arith, inl, inr, lit<}
use Rattle.std.specs.Prelude.{not, ◌||◌, ◌==◌, nat_le}
use Rattle.std.specs.Fmt.{decimal}
use Rattle.std.specs.List.{list_all}
use Rattle.std.specs.Char.{is_ascii_digit}
use Rattle.std.proofs.lemmas.Bool.{and_from, and_parts, leb-true, le-leb, ne_eqb}
use Rattle.std.proofs.lemmas.List.Folds.{list_all-append}
use Rattle.std.proofs.lemmas.Fmt.{decimal_by_steps, decimal_nonempty, length-decimal-le}
use Rattle.asl_assembler.specs.declared.keyword.Keyword.{Keyword}
use Rattle.asl_assembler.specs.declared.keyword.Keyword.TheVariants as keyword
use Rattle.asl_assembler.specs.Words.{Token, Name, Byte, Short, Integer, Register, GlobalName, Star, Offset, IsNumber, IsWord, worth_after, is_separator, name_of}
use Rattle.asl_assembler.specs.Canonical.{word_of, FitsField}

-- Digits and what they are worth.
worth_append : (high : ℕ) (ds : List ℕ) (d : ℕ) → worth_after high (ds ++ d ∷ []) ≡ 10 * worth_after high ds + (d - 48)
worth_append high [] d = refl
worth_append high (c ∷ ds) d = worth_append (10 * high + (c - 48)) ds d

digit_is : (d : ℕ) → d < 10 → is_ascii_digit (48 + d) ≡ true
digit_is d low = and_from (nat_le 48 (48 + d)) (nat_le (48 + d) 57) (le-leb 48 (48 + d) (omega arith)) (le-leb (48 + d) 57 (omega arith))

record Reads (n : ℕ) (ds : List ℕ) : Type 0 where
  digits : list_all is_ascii_digit ds ≡ true
  value : n ≡ worth_after 0 ds

one_digit : (n : ℕ) → n < 10 → Reads n ((48 + n) ∷ [])
one_digit n low = record { digits = and_from (is_ascii_digit (48 + n)) true (digit_is n low) refl; value = omega arith }

more_digits : (n : ℕ) (ds : List ℕ) → 10 ≤ n → Reads (n / 10) ds → Reads n (ds ++ (48 + n % 10) ∷ [])
more_digits n ds high r = record {
  digits = list_all-append is_ascii_digit ds ((48 + n % 10) ∷ []) ∙ and_from (list_all is_ascii_digit ds) (list_all is_ascii_digit ((48 + n % 10) ∷ [])) r.digits (and_from (is_ascii_digit (48 + n % 10)) true (digit_is (n % 10) (omega arith)) refl);
  value = omega (arith, worth_append 0 ds (48 + n % 10), r.value);
}

reads_decimal : (n : ℕ) → n < 2 ^ 64 → Reads n (decimal n)
reads_decimal n fits = decimal_by_steps Reads one_digit more_digits n fits

pub decimal_is : (below n : ℕ) → below ≤ 2 ^ 32 → n < below → IsNumber below (decimal n) n
decimal_is below n small fits =
    let r = reads_decimal n (omega arith) in
    record { digits = r.digits; some = decimal_nonempty n (omega arith); few = length-decimal-le 10 n (omega arith) (omega arith) (omega arith); value = r.value; fits = fits }

-- A word's bytes are no separators and no line feed, and it has one.
abbrev pub is_inner : ℕ → Bool
is_inner b = not (is_separator b || b == 10)

pub record IsSolid (word : List ℕ) : Type 0 where
  pub inner : list_all is_inner word ≡ true
  pub some : 0 < length word

digit_inner : (d : ℕ) → is_ascii_digit d ≡ true → is_inner d ≡ true
digit_inner d h =
    let parts = and_parts (nat_le 48 d) (nat_le d 57) h in
    let low : 48 ≤ d = leb-true 48 d parts.0 in
    let space : (d == 32) ≡ false = ne_eqb d 32 (λ e. omega arith) in
    let tab : (d == 9) ≡ false = ne_eqb d 9 (λ e. omega arith) in
    let comma : (d == 44) ≡ false = ne_eqb d 44 (λ e. omega arith) in
    let return : (d == 13) ≡ false = ne_eqb d 13 (λ e. omega arith) in
    let feed : (d == 10) ≡ false = ne_eqb d 10 (λ e. omega arith) in
    rw (space, tab, comma, return, feed) refl

digits_inner : (ds : List ℕ) → list_all is_ascii_digit ds ≡ true → list_all is_inner ds ≡ true
digits_inner [] h = refl
digits_inner (d ∷ ds) h =
    let parts = and_parts (is_ascii_digit d) (list_all is_ascii_digit ds) h in
    and_from (is_inner d) (list_all is_inner ds) (digit_inner d parts.0) (digits_inner ds parts.1)

decimal_solid : (below n : ℕ) → IsNumber below (decimal n) n → IsSolid (decimal n)
decimal_solid below n h = record { inner = digits_inner (decimal n) h.digits; some = h.some }

marked_solid : (mark : ℕ) (word : List ℕ) → is_inner mark ≡ true → IsSolid word → IsSolid (mark ∷ word)
marked_solid mark word m s = record { inner = and_from (is_inner mark) (list_all is_inner word) m s.inner; some = omega arith }

name_solid : (k : Keyword) → IsSolid (name_of k)
name_solid keyword.Version = record { inner = refl; some = lit< tt }
name_solid keyword.Classes = record { inner = refl; some = lit< tt }
name_solid keyword.Global = record { inner = refl; some = lit< tt }
name_solid keyword.Entry = record { inner = refl; some = lit< tt }
name_solid keyword.Function = record { inner = refl; some = lit< tt }
name_solid keyword.List = record { inner = refl; some = lit< tt }
name_solid keyword.Root = record { inner = refl; some = lit< tt }
name_solid keyword.Class = record { inner = refl; some = lit< tt }
name_solid keyword.Expr = record { inner = refl; some = lit< tt }
name_solid keyword.Int = record { inner = refl; some = lit< tt }
name_solid keyword.Null = record { inner = refl; some = lit< tt }
name_solid keyword.Mov = record { inner = refl; some = lit< tt }
name_solid keyword.Add = record { inner = refl; some = lit< tt }
name_solid keyword.Sub = record { inner = refl; some = lit< tt }
name_solid keyword.Lt = record { inner = refl; some = lit< tt }
name_solid keyword.Eq = record { inner = refl; some = lit< tt }
name_solid keyword.Glob = record { inner = refl; some = lit< tt }
name_solid keyword.Field = record { inner = refl; some = lit< tt }
name_solid keyword.Load = record { inner = refl; some = lit< tt }
name_solid keyword.Store = record { inner = refl; some = lit< tt }
name_solid keyword.New = record { inner = refl; some = lit< tt }
name_solid keyword.Jmp = record { inner = refl; some = lit< tt }
name_solid keyword.Jz = record { inner = refl; some = lit< tt }
name_solid keyword.Call = record { inner = refl; some = lit< tt }
name_solid keyword.Ret = record { inner = refl; some = lit< tt }
name_solid keyword.Out = record { inner = refl; some = lit< tt }
name_solid keyword.Acq = record { inner = refl; some = lit< tt }
name_solid keyword.Rel = record { inner = refl; some = lit< tt }
name_solid keyword.Read = record { inner = refl; some = lit< tt }
name_solid keyword.Write = record { inner = refl; some = lit< tt }

-- Each token's word.
pub record IsWritten (t : Token) : Type 0 where
  pub word : IsWord t (word_of t)
  pub solid : IsSolid (word_of t)

pub written : (t : Token) → FitsField t → IsWritten t
written (Name k) h = record { word = refl; solid = name_solid k }
written (Byte n) h = let d = decimal_is 256 n (omega arith) h in record { word = d; solid = decimal_solid 256 n d }
written (Short n) h = let d = decimal_is 65536 n (omega arith) h in record { word = d; solid = decimal_solid 65536 n d }
written (Integer (pos n)) h = let d = decimal_is (2 ^ 31) n (omega arith) h.sfits in record { word = inl (n, d, refl); solid = decimal_solid (2 ^ 31) n d }
written (Integer (negsuc n)) h = let d = decimal_is (2 ^ 31 + 1) (suc n) (omega arith) (omega (arith, h.sfits)) in record { word = inr (suc n, (refl, d), refl); solid = marked_solid 45 (decimal (suc n)) refl (decimal_solid (2 ^ 31 + 1) (suc n) d) }
written (Register n) h = let d = decimal_is 256 n (omega arith) h in record { word = (refl, d); solid = marked_solid 114 (decimal n) refl (decimal_solid 256 n d) }
written (GlobalName n) h = let d = decimal_is 65536 n (omega arith) h in record { word = (refl, d); solid = marked_solid 103 (decimal n) refl (decimal_solid 65536 n d) }
written Star h = record { word = refl; solid = record { inner = refl; some = lit< tt } }
written (Offset n) h = let d = decimal_is 256 n (omega arith) h in record { word = (refl, d); solid = marked_solid 46 (decimal n) refl (decimal_solid 256 n d) }
