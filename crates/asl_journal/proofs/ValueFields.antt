-- The reader of a value reads its fields: a byte for its kind, and what a value of that kind holds.
use Rattle.std.proofs.Common.{◌≡◌, ℕ, zero, suc, ◌<◌, ◌^◌, List, [], ◌∷◌, ◌++◌, drop, Ok, refl, sym, ap, ◌∙◌, arith, lit<, lit≤, w16, w32}
use Rattle.std.specs.Prelude.{ℤ, FitsSigned}
use Rattle.std.specs.Int.{cast_signed, cast_unsigned}
use Rattle.std.proofs.lemmas.Int.{of_z-to_z, to_z-of_z}
use Rattle.std.proofs.Math.Facts.{sfits_to_z, Fits-of_z}
use Rattle.asl_code.specs.Spelling.{IsValue}
use Rattle.asl_code.specs.declared.value.Value.{Value}
use Rattle.asl_code.specs.declared.value.Value.TheVariants.{Int, Null, Addr}
use Rattle.asl_loader.specs.Bytes.{Field, one, two}
use Rattle.asl_loader.specs.SharedFields.{◌>>=◌, byte_at, number_at, below_at}
use Rattle.asl_loader.proofs.Reader.{Reads, reads_nothing}
use Rattle.asl_loader.proofs.WrongInTwo.{reads_both, reads_key}
use Rattle.asl_loader.proofs.Fields.{byte_reads, two_reads, below_reads}
use Rattle.asl_journal.specs.Bytes.{four, value_fields}
use Rattle.asl_journal.specs.JournalFields.{value_of, value_at}
use Rattle.asl_journal.proofs.Front.{four_reads}

-- the byte of a value's kind
value_number : Value → ℕ
value_number (Int n) = 0
value_number Null = 1
value_number (Addr object offset) = 2

-- the fields after it
after_value : Value → List Field
after_value v = drop 1 (value_fields v)

-- there are three kinds
value_below : (v : Value) → value_number v < 3
unfolding value_number
value_below (Int n) = lit< tt
value_below Null = lit< tt
value_below (Addr object offset) = lit< tt

value_shows : (v : Value) → value_fields v ≡ (one (value_number v) ∷ []) ++ after_value v
unfolding value_number after_value
value_shows (Int n) = refl
value_shows Null = refl
value_shows (Addr object offset) = refl

-- there is a value of each
value_filled : (n : ℕ) → n < 3 → (v : Value) × IsValue v × (value_number v ≡ n)
unfolding value_number
value_filled zero is = let zero_fits : FitsSigned w32 (cast_signed w32 0) = sfits_to_z {n = 0} (record { fits = lit< tt }) in (Int (cast_signed w32 0), zero_fits, refl)
value_filled (suc zero) is = (Null, tt, refl)
value_filled (suc (suc zero)) is = (Addr 0 0, (lit< tt, lit< tt), refl)
value_filled (suc (suc (suc n))) is = absurd (omega arith)

-- a value of each kind, by what it holds
int_is : (v : Value) → IsValue v → value_number v ≡ 0 → (n : ℕ) × (n < 2 ^ 32) × (v ≡ Int (cast_signed w32 n))
unfolding value_number
int_is (Int n) is h = (cast_unsigned w32 n, (Fits-of_z is).fits, ap (λ (z : ℤ). Int z) (sym (to_z-of_z w32 n is)))
int_is Null is h = absurd (omega arith)
int_is (Addr object offset) is h = absurd (omega arith)

null_is : (v : Value) → value_number v ≡ 1 → v ≡ Null
unfolding value_number
null_is (Int n) h = absurd (omega arith)
null_is Null h = refl
null_is (Addr object offset) h = absurd (omega arith)

address_is : (v : Value) → IsValue v → value_number v ≡ 2 → (object : ℕ) × (object < 2 ^ 16) × ((offset : ℕ) × (offset < 256) × (v ≡ Addr object offset))
unfolding value_number
address_is (Int n) is h = absurd (omega arith)
address_is Null is h = absurd (omega arith)
address_is (Addr object offset) is h = (object, is.0, (offset, is.1, refl))

-- the rest of a value of each kind
value_reads_rest : (n : ℕ) → n < 3 → Reads Value (λ v. IsValue v × (value_number v ≡ n)) after_value (value_of n)
unfolding value_of value_number after_value
value_reads_rest zero is =
    reads_both ℕ Value (λ n. n < 2 ^ 32) (λ v. IsValue v × (value_number v ≡ 0)) (λ n. four n ∷ []) after_value (number_at w32) (λ n bytes. Ok (Int (cast_signed w32 n), bytes))
    (λ v n. v ≡ Int (cast_signed w32 n)) (λ v. []) four_reads
    (λ n is_n. reads_nothing Value (λ v. (IsValue v × (value_number v ≡ 0)) × (v ≡ Int (cast_signed w32 n))) (λ v. []) (Int (cast_signed w32 n)) ((sfits_to_z (record { fits = is_n }), refl), refl) (λ v is_v. is_v.1) refl)
    (λ v is_v. int_is v is_v.0 is_v.1)
    (λ n v is_n is_v has. ap after_value has ∙ ap (λ (k : ℕ). four k ∷ []) (of_z-to_z w32 n is_n))
    (λ n is_n. (Int (cast_signed w32 n), (sfits_to_z (record { fits = is_n }), refl), refl))
value_reads_rest (suc zero) is =
    reads_nothing Value (λ v. IsValue v × (value_number v ≡ 1)) after_value Null (tt, refl) (λ v is_v. null_is v is_v.1) refl
value_reads_rest (suc (suc zero)) is =
    reads_both ℕ Value (λ n. n < 2 ^ 16) (λ v. IsValue v × (value_number v ≡ 2)) (λ n. two n ∷ []) after_value (number_at w16) (λ object bytes. byte_at bytes >>= λ offset. Ok (Addr object offset.0, offset.1))
    (λ v object. (offset : ℕ) × (offset < 256) × (v ≡ Addr object offset)) (λ v. drop 2 (value_fields v)) two_reads
    (λ object is_o. reads_both ℕ Value (λ n. n < 256) (λ v. (IsValue v × (value_number v ≡ 2)) × ((offset : ℕ) × (offset < 256) × (v ≡ Addr object offset))) (λ n. one n ∷ []) (λ v. drop 2 (value_fields v)) byte_at (λ offset bytes. Ok (Addr object offset, bytes))
    (λ v offset. v ≡ Addr object offset) (λ v. []) byte_reads
    (λ offset is_f. reads_nothing Value (λ v. ((IsValue v × (value_number v ≡ 2)) × ((offset : ℕ) × (offset < 256) × (v ≡ Addr object offset))) × (v ≡ Addr object offset)) (λ v. []) (Addr object offset) ((((is_o, is_f), refl), (offset, is_f, refl)), refl) (λ v is_v. is_v.1) refl)
    (λ v is_v. is_v.1)
    (λ offset v is_f is_v has. ap (λ (x : Value). drop 2 (value_fields x)) has)
    (λ offset is_f. (Addr object offset, (((is_o, is_f), refl), (offset, is_f, refl)), refl)))
    (λ v is_v. address_is v is_v.0 is_v.1)
    (λ object v is_o is_v has. ap after_value has.2 ∙ ap (λ (x : Value). two object ∷ drop 2 (value_fields x)) (sym has.2))
    (λ object is_o. (Addr object 0, ((is_o, lit< tt), refl), (0, lit< tt, refl)))
value_reads_rest (suc (suc (suc n))) is = absurd (omega arith)

pub value_reads : Reads Value IsValue value_fields value_at
unfolding value_at
value_reads =
    reads_key ℕ Value (λ n. n < 3) IsValue (λ n. one n ∷ []) value_fields (below_at 3) value_of
    value_number after_value (below_reads 3 (lit< tt) (lit≤ tt)) value_reads_rest (λ v is. value_below v) (λ v is. value_shows v) value_filled
