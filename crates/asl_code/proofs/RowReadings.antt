-- Each instruction is read by the row of its op. So bytes that spell it are read as it.
use Rattle.std.proofs.Common.{◌≡◌, ℕ, ◌<◌, ◌^◌, false, ltb, drop, Some, Ok, refl, sym, ap, ◌∙◌, arith, w32, lit<, lit≤}
use Rattle.std.specs.Int.{to_be_bytes, from_be_bytes, cast_unsigned, cast_signed}
use Rattle.std.proofs.lemmas.Bool.{le-ltb}
use Rattle.std.proofs.lemmas.Int.{to_z-of_z}
use Rattle.std.proofs.lemmas.Nat.{from_be_bytes-to_be_bytes_4}
use Rattle.std.proofs.Math.Facts.{Fits-of_z}
use Rattle.asl_code.specs.declared.instr.Instr.{Instr}
use Rattle.asl_code.specs.declared.instr.Instr.TheVariants.{SetInt, SetNull, Move, Add, Subtract, LessThan, Equals, GlobalAddress, FieldAddress, Load, Store, New, Jump, JumpIfZero, Call, Return, Output, Acquire, Release}
use Rattle.asl_code.specs.Spelling.{eight_bytes, instr_bytes, IsInstr, SpellsInstr}
use Rattle.asl_code.specs.Reading.{Row, row_of, instr_of_row, instr_of_fields}
use Rattle.asl_code.proofs.GoodRows.{accepted, AreFields, Takes}

-- how an instruction is read: its row takes its fields, and makes it of them
pub record Read (i : Instr) : Type 0 where
  pub op : ℕ
  pub a : ℕ
  pub b : ℕ
  pub c : ℕ
  pub d : ℕ
  pub row : Row
  pub fields : AreFields op a b c d
  pub is_there : row_of op ≡ Some row
  pub taken : Takes row a b c d
  pub makes : row.made a b c d ≡ i
  pub bytes : instr_bytes i ≡ eight_bytes op a b c d

-- what an instruction shows that a row makes of fields that it takes
by_row : (i : Instr) (op a b c d : ℕ) (row : Row) → row_of op ≡ Some row → AreFields op a b c d → Takes row a b c d → row.made a b c d ≡ i →
    instr_bytes i ≡ eight_bytes op a b c d → Read i
by_row i op a b c d row is_there fields taken makes bytes =
    record { op = op; a = a; b = b; c = c; d = d; row = row; fields = fields; is_there = is_there; taken = taken; makes = makes; bytes = bytes }

-- each instruction, by the row of its op
pub read_of : (i : Instr) → IsInstr i → Read i
read_of (SetInt x w) fits =
    by_row (SetInt x w) 1 x 0 0 (cast_unsigned w32 w) (record { used = 1; greatest = 4294967295; made = λ a b c d. SetInt a (cast_signed w32 d) }) refl
    (record { op_fits = lit< tt; a_fits = fits.0; b_fits = lit< tt; c_fits = lit< tt; d_fits = (Fits-of_z fits.1.0).fits })
    (record { first = refl; second = refl; third = refl; last = omega (arith, (Fits-of_z fits.1.0).fits) }) (ap (SetInt x) (to_z-of_z w32 w fits.1.0)) refl
read_of (SetNull x) fits =
    by_row (SetNull x) 2 x 0 0 0 (record { used = 1; greatest = 0; made = λ a b c d. SetNull a }) refl
    (record { op_fits = lit< tt; a_fits = fits.0; b_fits = lit< tt; c_fits = lit< tt; d_fits = lit< tt })
    (record { first = refl; second = refl; third = refl; last = lit≤ tt }) refl refl
read_of (Move x y) fits =
    by_row (Move x y) 3 x y 0 0 (record { used = 2; greatest = 0; made = λ a b c d. Move a b }) refl
    (record { op_fits = lit< tt; a_fits = fits.0; b_fits = fits.1.0; c_fits = lit< tt; d_fits = lit< tt })
    (record { first = refl; second = refl; third = refl; last = lit≤ tt }) refl refl
read_of (Add x y z) fits =
    by_row (Add x y z) 4 x y z 0 (record { used = 3; greatest = 0; made = λ a b c d. Add a b c }) refl
    (record { op_fits = lit< tt; a_fits = fits.0; b_fits = fits.1.0; c_fits = fits.1.1.0; d_fits = lit< tt })
    (record { first = refl; second = refl; third = refl; last = lit≤ tt }) refl refl
read_of (Subtract x y z) fits =
    by_row (Subtract x y z) 5 x y z 0 (record { used = 3; greatest = 0; made = λ a b c d. Subtract a b c }) refl
    (record { op_fits = lit< tt; a_fits = fits.0; b_fits = fits.1.0; c_fits = fits.1.1.0; d_fits = lit< tt })
    (record { first = refl; second = refl; third = refl; last = lit≤ tt }) refl refl
read_of (LessThan x y z) fits =
    by_row (LessThan x y z) 6 x y z 0 (record { used = 3; greatest = 0; made = λ a b c d. LessThan a b c }) refl
    (record { op_fits = lit< tt; a_fits = fits.0; b_fits = fits.1.0; c_fits = fits.1.1.0; d_fits = lit< tt })
    (record { first = refl; second = refl; third = refl; last = lit≤ tt }) refl refl
read_of (Equals x y z) fits =
    by_row (Equals x y z) 7 x y z 0 (record { used = 3; greatest = 0; made = λ a b c d. Equals a b c }) refl
    (record { op_fits = lit< tt; a_fits = fits.0; b_fits = fits.1.0; c_fits = fits.1.1.0; d_fits = lit< tt })
    (record { first = refl; second = refl; third = refl; last = lit≤ tt }) refl refl
read_of (GlobalAddress x w) fits =
    by_row (GlobalAddress x w) 8 x 0 0 w (record { used = 1; greatest = 65535; made = λ a b c d. GlobalAddress a d }) refl
    (record { op_fits = lit< tt; a_fits = fits.0; b_fits = lit< tt; c_fits = lit< tt; d_fits = omega (arith, fits.1.0) })
    (record { first = refl; second = refl; third = refl; last = omega (arith, fits.1.0) }) refl refl
read_of (FieldAddress x y w) fits =
    by_row (FieldAddress x y w) 9 x y 0 w (record { used = 2; greatest = 255; made = λ a b c d. FieldAddress a b d }) refl
    (record { op_fits = lit< tt; a_fits = fits.0; b_fits = fits.1.0; c_fits = lit< tt; d_fits = omega (arith, fits.1.1.0) })
    (record { first = refl; second = refl; third = refl; last = omega (arith, fits.1.1.0) }) refl refl
read_of (Load x y) fits =
    by_row (Load x y) 10 x y 0 0 (record { used = 2; greatest = 0; made = λ a b c d. Load a b }) refl
    (record { op_fits = lit< tt; a_fits = fits.0; b_fits = fits.1.0; c_fits = lit< tt; d_fits = lit< tt })
    (record { first = refl; second = refl; third = refl; last = lit≤ tt }) refl refl
read_of (Store x y) fits =
    by_row (Store x y) 11 x y 0 0 (record { used = 2; greatest = 0; made = λ a b c d. Store a b }) refl
    (record { op_fits = lit< tt; a_fits = fits.0; b_fits = fits.1.0; c_fits = lit< tt; d_fits = lit< tt })
    (record { first = refl; second = refl; third = refl; last = lit≤ tt }) refl refl
read_of (New x y w) fits =
    by_row (New x y w) 12 x y 0 w (record { used = 2; greatest = 65535; made = λ a b c d. New a b d }) refl
    (record { op_fits = lit< tt; a_fits = fits.0; b_fits = fits.1.0; c_fits = lit< tt; d_fits = omega (arith, fits.1.1.0) })
    (record { first = refl; second = refl; third = refl; last = omega (arith, fits.1.1.0) }) refl refl
read_of (Jump w) fits =
    by_row (Jump w) 13 0 0 0 w (record { used = 0; greatest = 65535; made = λ a b c d. Jump d }) refl
    (record { op_fits = lit< tt; a_fits = lit< tt; b_fits = lit< tt; c_fits = lit< tt; d_fits = omega (arith, fits.0) })
    (record { first = refl; second = refl; third = refl; last = omega (arith, fits.0) }) refl refl
read_of (JumpIfZero x w) fits =
    by_row (JumpIfZero x w) 14 x 0 0 w (record { used = 1; greatest = 65535; made = λ a b c d. JumpIfZero a d }) refl
    (record { op_fits = lit< tt; a_fits = fits.0; b_fits = lit< tt; c_fits = lit< tt; d_fits = omega (arith, fits.1.0) })
    (record { first = refl; second = refl; third = refl; last = omega (arith, fits.1.0) }) refl refl
read_of (Call x y w) fits =
    by_row (Call x y w) 15 x y 0 w (record { used = 2; greatest = 65535; made = λ a b c d. Call a b d }) refl
    (record { op_fits = lit< tt; a_fits = fits.0; b_fits = fits.1.0.0; c_fits = lit< tt; d_fits = omega (arith, fits.1.0.1) })
    (record { first = refl; second = refl; third = refl; last = omega (arith, fits.1.0.1) }) refl refl
read_of (Return x) fits =
    by_row (Return x) 16 x 0 0 0 (record { used = 1; greatest = 0; made = λ a b c d. Return a }) refl
    (record { op_fits = lit< tt; a_fits = fits.0; b_fits = lit< tt; c_fits = lit< tt; d_fits = lit< tt })
    (record { first = refl; second = refl; third = refl; last = lit≤ tt }) refl refl
read_of (Output x) fits =
    by_row (Output x) 17 x 0 0 0 (record { used = 1; greatest = 0; made = λ a b c d. Output a }) refl
    (record { op_fits = lit< tt; a_fits = fits.0; b_fits = lit< tt; c_fits = lit< tt; d_fits = lit< tt })
    (record { first = refl; second = refl; third = refl; last = lit≤ tt }) refl refl
read_of (Acquire w) fits =
    by_row (Acquire w) 18 0 0 0 w (record { used = 0; greatest = 65535; made = λ a b c d. Acquire d }) refl
    (record { op_fits = lit< tt; a_fits = lit< tt; b_fits = lit< tt; c_fits = lit< tt; d_fits = omega (arith, fits.0) })
    (record { first = refl; second = refl; third = refl; last = omega (arith, fits.0) }) refl refl
read_of Release fits =
    by_row Release 19 0 0 0 0 (record { used = 0; greatest = 0; made = λ a b c d. Release }) refl
    (record { op_fits = lit< tt; a_fits = lit< tt; b_fits = lit< tt; c_fits = lit< tt; d_fits = lit< tt })
    (record { first = refl; second = refl; third = refl; last = lit≤ tt }) refl refl

-- a row that takes the fields reads them as its instruction
row_reads : (r : Row) (a b c d : ℕ) → Takes r a b c d → instr_of_row r a b c d ≡ Ok (r.made a b c d)
row_reads r a b c d t =
    let late : ltb r.greatest d ≡ false = le-ltb r.greatest d t.last in
    rw (t.first, t.second, t.third, late) refl

-- the last field is known by its four bytes
pub d_from_bytes : (d e : ℕ) → d < 2 ^ 32 → e < 2 ^ 32 → to_be_bytes w32 d ≡ to_be_bytes w32 e → d ≡ e
d_from_bytes d e fd fe same = sym (from_be_bytes-to_be_bytes_4 d fd) ∙ ap (from_be_bytes w32) same ∙ from_be_bytes-to_be_bytes_4 e fe

pub d_part : (op a b c d op' a' b' c' d' : ℕ) → eight_bytes op a b c d ≡ eight_bytes op' a' b' c' d' → to_be_bytes w32 d ≡ to_be_bytes w32 d'
d_part op a b c d op' a' b' c' d' e = ap (drop 4) e

-- what is spelled so is read
pub instr_again : (i : Instr) (op a b c d : ℕ) → AreFields op a b c d → SpellsInstr i (eight_bytes op a b c d) → instr_of_fields op a b c d ≡ Ok i
instr_again i op a b c d fields s =
    let q = read_of i s.fits in
    let same : eight_bytes op a b c d ≡ eight_bytes q.op q.a q.b q.c q.d = s.spelled ∙ q.bytes in
    let o : q.op ≡ op = cc in
    let pa : q.a ≡ a = cc in
    let pb : q.b ≡ b = cc in
    let pc : q.c ≡ c = cc in
    let pd : q.d ≡ d = sym (d_from_bytes d q.d fields.d_fits q.fields.d_fits (d_part op a b c d q.op q.a q.b q.c q.d same)) in
    let reads : instr_of_fields q.op q.a q.b q.c q.d ≡ Ok i = rw q.is_there (row_reads q.row q.a q.b q.c q.d q.taken ∙ ap accepted q.makes) in
    rw (← o, ← pa, ← pb, ← pc, ← pd) reads
