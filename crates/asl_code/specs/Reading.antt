-- Machinery of the proofs, not of the promise: how eight bytes are read as an instruction, computed
-- (docs/FORMATS.md, "Instructions"). The lemmas of proofs/Instrs lead from here to the relations of specs/Spelling, which
-- public calls cite.
use Rattle.std.specs.Prelude.{ℕ, zero, suc, Bool, not, ◌||◌, ◌==◌, nat_lt, if◌then◌else◌, List, [], ◌∷◌, Option, Some, None, Result, Ok, Err, slice_get, slice_index, drop}
use Rattle.std.specs.Int.{w32, cast_signed, from_be_bytes}
use Rattle.asl_code.specs.declared.instr.Instr.{Instr}
use Rattle.asl_code.specs.declared.instr.Instr.TheVariants.{SetInt, SetNull, Move, Add, Subtract, LessThan, Equals, GlobalAddress, FieldAddress, Load, Store, New, Jump, JumpIfZero, Call, Return, Output, Acquire, Release}

-- a row of the table: how many of a, b and c it uses, its greatest d, and its instruction of such fields
pub record Row : Type 0 where
  pub used : ℕ
  pub greatest : ℕ
  pub made : ℕ → ℕ → ℕ → ℕ → Instr

-- the rows from op 1 on
abbrev pub rows : List Row
rows =
    record { used = 1; greatest = 4294967295; made = λ a b c d. SetInt a (cast_signed w32 d) }
    ∷ record { used = 1; greatest = 0; made = λ a b c d. SetNull a }
    ∷ record { used = 2; greatest = 0; made = λ a b c d. Move a b }
    ∷ record { used = 3; greatest = 0; made = λ a b c d. Add a b c }
    ∷ record { used = 3; greatest = 0; made = λ a b c d. Subtract a b c }
    ∷ record { used = 3; greatest = 0; made = λ a b c d. LessThan a b c }
    ∷ record { used = 3; greatest = 0; made = λ a b c d. Equals a b c }
    ∷ record { used = 1; greatest = 65535; made = λ a b c d. GlobalAddress a d }
    ∷ record { used = 2; greatest = 255; made = λ a b c d. FieldAddress a b d }
    ∷ record { used = 2; greatest = 0; made = λ a b c d. Load a b }
    ∷ record { used = 2; greatest = 0; made = λ a b c d. Store a b }
    ∷ record { used = 2; greatest = 65535; made = λ a b c d. New a b d }
    ∷ record { used = 0; greatest = 65535; made = λ a b c d. Jump d }
    ∷ record { used = 1; greatest = 65535; made = λ a b c d. JumpIfZero a d }
    ∷ record { used = 2; greatest = 65535; made = λ a b c d. Call a b d }
    ∷ record { used = 1; greatest = 0; made = λ a b c d. Return a }
    ∷ record { used = 1; greatest = 0; made = λ a b c d. Output a }
    ∷ record { used = 0; greatest = 65535; made = λ a b c d. Acquire d }
    ∷ record { used = 0; greatest = 0; made = λ a b c d. Release }
    ∷ []

-- the row of an op, if there is one
abbrev pub row_of : ℕ → Option Row
row_of zero = None
row_of (suc n) = slice_get rows n

-- the fields that a row uses, and its greatest d
abbrev pub fields_of : Row → ℕ × ℕ
fields_of r = (r.used, r.greatest)

-- whether a row that uses so many of a, b and c takes this number as one of them, by its index: it uses it, or the number is 0
abbrev pub takes : ℕ → ℕ → ℕ → Bool
takes used index number = nat_lt index used || number == 0

-- the place of the first of the fields that the row does not take
abbrev pub bad_field : ℕ → ℕ → ℕ → ℕ → ℕ → ℕ → Option ℕ
bad_field used greatest a b c d =
    if not (takes used 0 a) then Some 1
    else if not (takes used 1 b) then Some 2
    else if not (takes used 2 c) then Some 3
    else if nat_lt greatest d then Some 4
    else None

-- the instruction, or the place of the bad field if there is one
abbrev pub unless_bad : Option ℕ → Instr → Result Instr ℕ
unless_bad None instr = Ok instr
unless_bad (Some place) instr = Err place

-- the row's instruction of these fields, or the place of the first that it does not take
abbrev pub instr_of_row : Row → ℕ → ℕ → ℕ → ℕ → Result Instr ℕ
instr_of_row r a b c d = unless_bad (bad_field r.used r.greatest a b c d) (r.made a b c d)

-- the instruction of the row, where there is one
abbrev pub instr_of_some : Option Row → ℕ → ℕ → ℕ → ℕ → Result Instr ℕ
instr_of_some None a b c d = Err 0
instr_of_some (Some r) a b c d = instr_of_row r a b c d

-- the instruction of these fields, or the place of the first bad one
abbrev pub instr_of_fields : ℕ → ℕ → ℕ → ℕ → ℕ → Result Instr ℕ
instr_of_fields op = instr_of_some (row_of op)

-- the instruction that the row of this op makes of the fields
abbrev pub made_by : Option Row → ℕ → ℕ → ℕ → ℕ → Option Instr
made_by None a b c d = None
made_by (Some r) a b c d = Some (r.made a b c d)

-- the instruction of eight bytes, or the place of the first bad field
abbrev pub instr_of : List ℕ → Result Instr ℕ
instr_of bytes = instr_of_fields (slice_index bytes 0) (slice_index bytes 1) (slice_index bytes 2) (slice_index bytes 3) (from_be_bytes w32 (drop 4 bytes))
