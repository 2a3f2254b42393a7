-- Lines of an assembly text that are instructions (docs/FORMATS.md), the instruction that a broken rule names, and the words of lines by
-- which a rule of the whole image may be broken.
use Rattle.std.specs.Prelude.{◌≡◌, ℕ, suc, ◌+◌, List, [], ◌∷◌, ◌++◌, Bool, true, false, not, ◌||◌, ◌&&◌, bytes_eq, codes, length, Option, Some, None, if◌then◌else◌}
use Rattle.std.specs.List.{All}
use Rattle.asl_assembler.specs.Words.{words_of}
use Rattle.asl_code.specs.declared.fault.VerifyFault.{VerifyFault}
use Rattle.asl_code.specs.declared.fault.VerifyFault.TheVariants as verify
use Rattle.asl_diagnose_text.specs.Position.{first_of}

-- the word is one of these
abbrev pub is_one : List ℕ → List (List ℕ) → Bool
is_one word [] = false
is_one word (x ∷ xs) = bytes_eq word x || is_one word xs

-- the words with which instructions begin: those that set a register from others, and the others
abbrev pub setters : List (List ℕ)
setters =
    codes "int" ∷ codes "null" ∷ codes "mov" ∷ codes "add" ∷ codes "sub" ∷ codes "lt" ∷ codes "eq" ∷ codes "glob" ∷ codes "field" ∷ []

-- the words with which the other instructions begin
abbrev pub others : List (List ℕ)
others =
    codes "load" ∷ codes "store" ∷ codes "new" ∷ codes "jmp" ∷ codes "jz" ∷ codes "call" ∷ codes "ret" ∷ codes "out" ∷ codes "acq" ∷ codes "rel" ∷ []

-- instructions begin with the word
abbrev pub is_instruction_word : List ℕ → Bool
is_instruction_word word = is_one word setters || is_one word others

-- a line of these words is an instruction
abbrev pub begins_instruction : List (List ℕ) → Bool
begins_instruction [] = false
begins_instruction (word ∷ words) = is_instruction_word word

-- the line is one
abbrev pub is_instruction : List ℕ → Bool
is_instruction line = begins_instruction (words_of line)

-- how many lines are
abbrev pub instructions_in : List (List ℕ) → ℕ
instructions_in [] = 0
instructions_in (l ∷ ls) = if is_instruction l then suc (instructions_in ls) else instructions_in ls

-- the line of this number, from 1, is an instruction, and so many of the lines before it are
pub record IsInstructionLine (lines : List (List ℕ)) (pc number : ℕ) : Type 0 where
  pub before : List (List ℕ)
  pub here : List ℕ
  pub behind : List (List ℕ)
  pub split : lines ≡ before ++ here ∷ behind
  pub placed : length before + 1 ≡ number
  pub instruction : is_instruction here ≡ true
  pub counted : instructions_in before ≡ pc

-- the instruction that breaks a rule, if the rule is one of instructions
abbrev pub pc_of : VerifyFault → Option ℕ
pc_of (verify.Target pc) = Some pc
pc_of (verify.Register pc) = Some pc
pc_of (verify.Operand pc) = Some pc
pc_of (verify.ListBase pc) = Some pc
pc_of _ = None

-- a lock of a list
abbrev pub is_lock_word : List ℕ → Bool
is_lock_word word = is_one word (codes "root" ∷ codes "class" ∷ codes "expr" ∷ [])

-- a line of the tables, and one that opens a function or a list
abbrev pub is_table_word : List ℕ → Bool
is_table_word word = bytes_eq word (codes "classes") || bytes_eq word (codes "global")

-- a line that opens a function or a list begins with the word
abbrev pub is_opening_word : List ℕ → Bool
is_opening_word word = bytes_eq word (codes "fn") || bytes_eq word (codes "list")

-- what is counted: classes, globals, functions with their registers, lists with their locks, and instructions
abbrev pub is_counted_word : List ℕ → Bool
is_counted_word word = (is_table_word word || is_opening_word word) || (is_lock_word word || is_instruction_word word)

-- an instruction after which control goes on to the next one, always or perhaps
abbrev pub goes_on : List ℕ → Bool
goes_on word = is_instruction_word word && not (is_one word (codes "ret" ∷ codes "jmp" ∷ []))

-- a line that begins with the word may break a rule of the whole image: a limit by a line of what is counted; a table by a line that
-- names a class or a global; the entry by the line `entry`; a range by a function's line; an end by an instruction after which control
-- goes on
abbrev pub may_break : VerifyFault → List ℕ → Bool
may_break verify.Limit word = is_counted_word word
may_break verify.Table word = is_one word (codes "global" ∷ codes "class" ∷ codes "expr" ∷ [])
may_break verify.NoEntry word = is_one word (codes "entry" ∷ [])
may_break verify.FunctionRange word = is_one word (codes "fn" ∷ [])
may_break verify.FallsOut word = goes_on word
may_break cause word = false

-- so the line
abbrev pub breaks : VerifyFault → List ℕ → Bool
breaks cause line = may_break cause (first_of (words_of line))

-- the line of this number, from 1, may break the rule
pub record IsBreakingLine (lines : List (List ℕ)) (cause : VerifyFault) (number : ℕ) : Type 0 where
  pub before : List (List ℕ)
  pub here : List ℕ
  pub behind : List (List ℕ)
  pub split : lines ≡ before ++ here ∷ behind
  pub placed : length before + 1 ≡ number
  pub named : breaks cause here ≡ true

-- no line may
abbrev pub IsUnbroken : List (List ℕ) → VerifyFault → Type 0
IsUnbroken lines cause = All (λ (line : List ℕ). breaks cause line ≡ false) lines
