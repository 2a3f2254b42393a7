-- A value at the front of the bytes, as the crate below reads it.
use Rattle.std.proofs.Common.{◌≡◌, ℕ, zero, suc, false, ltb, List, [], ◌∷◌, ◌++◌, length, take, drop, Result, Ok, Err, refl, sym, ap, ◌∙◌, arith, w16, w32}
use Rattle.std.specs.Prelude.{◌↔◌}
use Rattle.std.specs.Int.{from_be_bytes, cast_signed}
use Rattle.std.proofs.lemmas.Bool.{le-ltb}
use Rattle.std.proofs.lemmas.List.{take-append-drop}
use Rattle.asl_code.specs.declared.value.Value.{Value}
use Rattle.asl_code.specs.declared.value.Value.TheVariants.{Int, Null, Addr}
use Rattle.asl_code.specs.declared.value_bytes.ValueFault.{ValueFault}
use Rattle.asl_code.specs.declared.value_bytes.ValueFault.TheVariants as front
use Rattle.asl_code.specs.Spelling.{value_bytes, SpellsValue, TakesValue, BeginsValue}
use Rattle.asl_code.specs.ReadingValue as code
use Rattle.asl_code.proofs.Values.{AreBytes, value_found, short_begins, begins_short}
use Rattle.asl_loader.specs.Bytes.{text_of}
use Rattle.asl_loader.specs.declared.fault.Stop.TheVariants.{Short, Bad}
use Rattle.asl_loader.specs.SharedFields.{byte_at, below_at}
use Rattle.asl_journal.specs.Bytes.{value_fields}
use Rattle.asl_journal.specs.JournalFields.{value_of, value_at}
use Rattle.asl_journal.proofs.ValueFields.{value_reads}

-- the fields of a value are its bytes
pub value_text : (v : Value) → text_of (value_fields v) ≡ value_bytes v
value_text (Int n) = refl
value_text Null = refl
value_text (Addr object offset) = refl

-- what is taken is read
pub taken_is : (bytes : List ℕ) (v : Value) (count : ℕ) → TakesValue bytes v count → value_at bytes ≡ Ok (v, drop count bytes)
taken_is bytes v count t =
    let split : bytes ≡ text_of (value_fields v) ++ drop count bytes = sym (take-append-drop count bytes) ∙ ap (λ (front : List ℕ). front ++ drop count bytes) (t.front.spelled ∙ sym (value_text v)) in
    ap value_at split ∙ value_reads.again v (drop count bytes) t.front.fits

abbrev Answer : Type 0
Answer = Result (Value × ℕ) ValueFault

abbrev answered : Value → ℕ → Answer
answered v n = Ok (v, n)

abbrev refused : ValueFault → Answer
refused f = Err f

-- what is cut there is cut here
same_short : (bytes : List ℕ) → code.value_at bytes ≡ Err front.Short → value_at bytes ≡ Err Short
unfolding value_at value_of byte_at below_at
same_short [] e = refl
same_short (zero ∷ []) e = refl
same_short (zero ∷ a ∷ []) e = refl
same_short (zero ∷ a ∷ b ∷ []) e = refl
same_short (zero ∷ a ∷ b ∷ c ∷ []) e = refl
same_short (zero ∷ a ∷ b ∷ c ∷ d ∷ rest) e =
    let long : ltb (length (a ∷ b ∷ c ∷ d ∷ rest)) 4 ≡ false = le-ltb _ _ (omega arith) in
    let both : answered (Int (cast_signed w32 (from_be_bytes w32 (a ∷ b ∷ c ∷ d ∷ [])))) 5 ≡ refused front.Short = rw long at e in
    absurd cc
same_short (suc zero ∷ rest) e = absurd cc
same_short (suc (suc zero) ∷ []) e = refl
same_short (suc (suc zero) ∷ a ∷ []) e = refl
same_short (suc (suc zero) ∷ a ∷ b ∷ []) e = refl
same_short (suc (suc zero) ∷ a ∷ b ∷ c ∷ rest) e =
    let long : ltb (length (a ∷ b ∷ c ∷ rest)) 3 ≡ false = le-ltb _ _ (omega arith) in
    let both : answered (Addr (from_be_bytes w16 (a ∷ b ∷ [])) c) 4 ≡ refused front.Short = rw long at e in
    absurd cc
same_short (suc (suc (suc kind)) ∷ rest) e = let both : refused front.Bad ≡ refused front.Short = e in absurd cc

-- what is bad there is bad here, at the first byte
same_bad : (bytes : List ℕ) → code.value_at bytes ≡ Err front.Bad → value_at bytes ≡ Err (Bad (length bytes))
unfolding value_at value_of byte_at below_at
same_bad [] e = let both : refused front.Short ≡ refused front.Bad = e in absurd cc
same_bad (zero ∷ []) e = let both : refused front.Short ≡ refused front.Bad = e in absurd cc
same_bad (zero ∷ a ∷ []) e = let both : refused front.Short ≡ refused front.Bad = e in absurd cc
same_bad (zero ∷ a ∷ b ∷ []) e = let both : refused front.Short ≡ refused front.Bad = e in absurd cc
same_bad (zero ∷ a ∷ b ∷ c ∷ []) e = let both : refused front.Short ≡ refused front.Bad = e in absurd cc
same_bad (zero ∷ a ∷ b ∷ c ∷ d ∷ rest) e =
    let long : ltb (length (a ∷ b ∷ c ∷ d ∷ rest)) 4 ≡ false = le-ltb _ _ (omega arith) in
    let both : answered (Int (cast_signed w32 (from_be_bytes w32 (a ∷ b ∷ c ∷ d ∷ [])))) 5 ≡ refused front.Bad = rw long at e in
    absurd cc
same_bad (suc zero ∷ rest) e = absurd cc
same_bad (suc (suc zero) ∷ []) e = let both : refused front.Short ≡ refused front.Bad = e in absurd cc
same_bad (suc (suc zero) ∷ a ∷ []) e = let both : refused front.Short ≡ refused front.Bad = e in absurd cc
same_bad (suc (suc zero) ∷ a ∷ b ∷ []) e = let both : refused front.Short ≡ refused front.Bad = e in absurd cc
same_bad (suc (suc zero) ∷ a ∷ b ∷ c ∷ rest) e =
    let long : ltb (length (a ∷ b ∷ c ∷ rest)) 3 ≡ false = le-ltb _ _ (omega arith) in
    let both : answered (Addr (from_be_bytes w16 (a ∷ b ∷ [])) c) 4 ≡ refused front.Bad = rw long at e in
    absurd cc
same_bad (suc (suc (suc kind)) ∷ rest) e = let high : ltb (suc (suc (suc kind))) 3 ≡ false = le-ltb _ _ (omega arith) in rw high refl

pub short_is : (bytes : List ℕ) → BeginsValue bytes → value_at bytes ≡ Err Short
short_is bytes b = same_short bytes (begins_short bytes b)

-- where a reader that tells the value, and whether it is cut, says that it is bad
pub bad_is : (bytes : List ℕ) (r : Answer) → AreBytes bytes → ((v : Value) (text rest : List ℕ) → SpellsValue v text → bytes ≡ text ++ rest → r ≡ Ok (v, length text)) → (r ≡ Err front.Short) ↔ BeginsValue bytes → r ≡ Err front.Bad → value_at bytes ≡ Err (Bad (length bytes))
bad_is bytes r fit only short e = by_answer (code.value_at bytes) refl
  where
    by_answer : (a : Answer) → code.value_at bytes ≡ a → value_at bytes ≡ Err (Bad (length bytes))
    by_answer (Ok x) h =
        let t = value_found bytes x.0 x.1 fit h in
        let both : refused front.Bad ≡ answered x.0 (length (take x.1 bytes)) = sym e ∙ only x.0 (take x.1 bytes) (drop x.1 bytes) t.front (sym (take-append-drop x.1 bytes)) in
        absurd cc
    by_answer (Err front.Short) h = let both : refused front.Bad ≡ refused front.Short = sym e ∙ short.1 (short_begins bytes fit h) in absurd cc
    by_answer (Err front.Bad) h = same_bad bytes h
