-- The bytes of an instruction and of a value. All numbers are big-endian (docs/FORMATS.md, "Instructions" and "Values").
use Rattle.std.specs.Prelude.{◌≡◌, ◌≢◌, ℕ, ◌+◌, ◌<◌, ◌≤◌, ◌^◌, nat_lt, if◌then◌else◌, List, [], ◌∷◌, ◌++◌, length, take, FitsSigned}
use Rattle.std.specs.Int.{w16, w32, to_be_bytes, cast_unsigned}
use Rattle.std.specs.List.{AllByRecursion}
use Rattle.asl_code.specs.Operands.{Operand, operands}
use Rattle.asl_code.specs.Operands as operand
use Rattle.asl_code.specs.declared.instr.Instr.{Instr}
use Rattle.asl_code.specs.declared.instr.Instr.TheVariants.{SetInt, SetNull, Move, Add, Subtract, LessThan, Equals, GlobalAddress, FieldAddress, Load, Store, New, Jump, JumpIfZero, Call, Return, Output, Acquire, Release}
use Rattle.asl_code.specs.declared.value.Value.{Value}
use Rattle.asl_code.specs.declared.value.Value.TheVariants.{Int, Null, Addr}

-- the eight bytes of the fields op, a, b, c and d
abbrev pub eight_bytes : ℕ → ℕ → ℕ → ℕ → ℕ → List ℕ
eight_bytes op a b c d = op ∷ a ∷ b ∷ c ∷ to_be_bytes w32 d

-- the bytes of an instruction, a line for each row of the table: a field that the row does not use is 0
abbrev pub instr_bytes : Instr → List ℕ
instr_bytes (SetInt to value) = eight_bytes 1 to 0 0 (cast_unsigned w32 value)
instr_bytes (SetNull to) = eight_bytes 2 to 0 0 0
instr_bytes (Move to from) = eight_bytes 3 to from 0 0
instr_bytes (Add to left right) = eight_bytes 4 to left right 0
instr_bytes (Subtract to left right) = eight_bytes 5 to left right 0
instr_bytes (LessThan to left right) = eight_bytes 6 to left right 0
instr_bytes (Equals to left right) = eight_bytes 7 to left right 0
instr_bytes (GlobalAddress to global) = eight_bytes 8 to 0 0 global
instr_bytes (FieldAddress to from offset) = eight_bytes 9 to from 0 offset
instr_bytes (Load to address) = eight_bytes 10 to address 0 0
instr_bytes (Store address from) = eight_bytes 11 address from 0 0
instr_bytes (New to cells class) = eight_bytes 12 to cells 0 class
instr_bytes (Jump target) = eight_bytes 13 0 0 0 target
instr_bytes (JumpIfZero test target) = eight_bytes 14 test 0 0 target
instr_bytes (Call to first function) = eight_bytes 15 to first 0 function
instr_bytes (Return from) = eight_bytes 16 from 0 0 0
instr_bytes (Output from) = eight_bytes 17 from 0 0 0
instr_bytes (Acquire list) = eight_bytes 18 0 0 0 list
instr_bytes Release = eight_bytes 19 0 0 0 0

-- the operand is a number of its type
abbrev pub IsNumber : Operand → Type 0
IsNumber (operand.Register register) = register < 256
IsNumber (operand.Integer value) = FitsSigned w32 value
IsNumber (operand.Global global) = global < 2 ^ 16
IsNumber (operand.Offset offset) = offset < 256
IsNumber (operand.Cells cells) = cells < 256
IsNumber (operand.Class class) = class < 2 ^ 16
IsNumber (operand.Target target) = target < 2 ^ 16
IsNumber (operand.Callee first function) = (first < 256) × (function < 2 ^ 16)
IsNumber (operand.Locks list) = list < 2 ^ 16

-- so is each operand of the instruction
abbrev pub IsInstr : Instr → Type 0
IsInstr instr = AllByRecursion IsNumber (operands instr)

-- the bytes spell the instruction
pub record SpellsInstr (instr : Instr) (bytes : List ℕ) : Type 0 where
  pub fits : IsInstr instr
  pub spelled : bytes ≡ instr_bytes instr

-- how many of the eight bytes there are up to the end of the field at this place: of op, a, b, c and d
abbrev pub field_end : ℕ → ℕ
field_end place = if nat_lt place 4 then place + 1 else 8

-- The first bad field of eight bytes is at this place: some instruction has the fields before it, and none has these
-- and this field.
pub record IsFirstBadField (bytes : List ℕ) (place : ℕ) : Type 0 where
  pub is_field : place ≤ 4
  pub before : (instr : Instr) × IsInstr instr × (take place (instr_bytes instr) ≡ take place bytes)
  pub here : (instr : Instr) → IsInstr instr → take (field_end place) (instr_bytes instr) ≢ take (field_end place) bytes

-- the bytes of a value: a kind, and then the integer or the cell
abbrev pub value_bytes : Value → List ℕ
value_bytes (Int n) = 0 ∷ to_be_bytes w32 (cast_unsigned w32 n)
value_bytes Null = 1 ∷ []
value_bytes (Addr object offset) = 2 ∷ to_be_bytes w16 object ++ offset ∷ []

-- each number is one of its type
abbrev pub IsValue : Value → Type 0
IsValue (Int n) = FitsSigned w32 n
IsValue Null = Unit {0}
IsValue (Addr object offset) = (object < 2 ^ 16) × (offset < 256)

-- the bytes spell the value
pub record SpellsValue (value : Value) (bytes : List ℕ) : Type 0 where
  pub fits : IsValue value
  pub spelled : bytes ≡ value_bytes value

-- the first so many of the bytes spell the value
pub record TakesValue (bytes : List ℕ) (value : Value) (count : ℕ) : Type 0 where
  pub within : count ≤ length bytes
  pub front : SpellsValue value (take count bytes)

-- the bytes are a proper prefix of a value's bytes
abbrev pub BeginsValue : List ℕ → Type 0
BeginsValue bytes = (value : Value) × (next : ℕ) × (more : List ℕ) × SpellsValue value (bytes ++ next ∷ more)

-- a spelling is of one instruction
abbrev pub InstrOfSpellingIsOne : Type 0
InstrOfSpellingIsOne = (i j : Instr) (bytes : List ℕ) → SpellsInstr i bytes → SpellsInstr j bytes → i ≡ j

-- an instruction has one spelling
abbrev pub SpellingOfInstrIsOne : Type 0
SpellingOfInstrIsOne = (i : Instr) (bytes others : List ℕ) → SpellsInstr i bytes → SpellsInstr i others → bytes ≡ others

-- the first bad field is at one place
abbrev pub FirstBadFieldIsOne : Type 0
FirstBadFieldIsOne = (bytes : List ℕ) (place other : ℕ) → IsFirstBadField bytes place → IsFirstBadField bytes other → place ≡ other

-- a spelling is of one value, whatever follows it: no value's spelling begins another's
abbrev pub ValueOfSpellingIsOne : Type 0
ValueOfSpellingIsOne =
    (v w : Value) (bytes others more rest : List ℕ) → SpellsValue v bytes → SpellsValue w others → bytes ++ more ≡ others ++ rest
    → (v ≡ w) × (bytes ≡ others)

-- a value has one spelling
abbrev pub SpellingOfValueIsOne : Type 0
SpellingOfValueIsOne = (v : Value) (bytes others : List ℕ) → SpellsValue v bytes → SpellsValue v others → bytes ≡ others
