-- Which assembly text spells which image, and which line of a text is wrong (docs/FORMATS.md). See docs/DECISIONS.md.
use Rattle.std.specs.Prelude.{◌≡◌, ℕ, ◌+◌, ◌-◌, ◌<◌, ◌≤◌, ◌^◌, ◌⊎◌, List, [], ◌∷◌, ◌++◌, length, map, take, min}
use Rattle.std.specs.List.{flat_map}
use Rattle.asl_code.specs.Operands.{Operand, operands}
use Rattle.asl_code.specs.Operands as operand
use Rattle.asl_code.specs.Versions.{IsVersion}
use Rattle.asl_code.specs.declared.image.Image.{Image}
use Rattle.asl_code.specs.declared.image.Function.{Function}
use Rattle.asl_code.specs.declared.instr.Instr.{Instr}
use Rattle.asl_code.specs.declared.instr.Instr.TheVariants as instr
use Rattle.asl_code.specs.declared.lock.Lock.{Lock}
use Rattle.asl_code.specs.declared.lock.Lock.TheVariants as lock
use Rattle.asl_code.specs.declared.lock.Base.{Base}
use Rattle.asl_code.specs.declared.lock.Base.TheVariants as base
use Rattle.asl_code.specs.declared.path.Op.{Op}
use Rattle.asl_code.specs.declared.path.Op.TheVariants as op
use Rattle.asl_code.specs.declared.value.Effect.{Effect}
use Rattle.asl_code.specs.declared.value.Effect.TheVariants as effect
use Rattle.asl_assembler.specs.declared.keyword.Keyword.{Keyword}
use Rattle.asl_assembler.specs.declared.keyword.Keyword.TheVariants as keyword
use Rattle.asl_assembler.specs.declared.line.Line.{Line}
use Rattle.asl_assembler.specs.declared.line.Line.TheVariants as line
use Rattle.asl_assembler.specs.Words.{Token, Name, Byte, Short, Integer, Register, GlobalName, Star, Offset, AreWords, lines_of, words_of}

-- The keyword of an instruction
abbrev pub instr_name : Instr → Keyword
instr_name (instr.SetInt to value) = keyword.Int
instr_name (instr.SetNull to) = keyword.Null
instr_name (instr.Move to from) = keyword.Mov
instr_name (instr.Add to left right) = keyword.Add
instr_name (instr.Subtract to left right) = keyword.Sub
instr_name (instr.LessThan to left right) = keyword.Lt
instr_name (instr.Equals to left right) = keyword.Eq
instr_name (instr.GlobalAddress to global) = keyword.Glob
instr_name (instr.FieldAddress to from offset) = keyword.Field
instr_name (instr.Load to address) = keyword.Load
instr_name (instr.Store address from) = keyword.Store
instr_name (instr.New to cells class) = keyword.New
instr_name (instr.Jump target) = keyword.Jmp
instr_name (instr.JumpIfZero test target) = keyword.Jz
instr_name (instr.Call to first function) = keyword.Call
instr_name (instr.Return from) = keyword.Ret
instr_name (instr.Output from) = keyword.Out
instr_name (instr.Acquire list) = keyword.Acq
instr_name instr.Release = keyword.Rel

-- The words of an operand: registers and globals have a mark, all others are numbers
abbrev pub operand_tokens : Operand → List Token
operand_tokens (operand.Register register) = Register register ∷ []
operand_tokens (operand.Integer value) = Integer value ∷ []
operand_tokens (operand.Global global) = GlobalName global ∷ []
operand_tokens (operand.Offset offset) = Byte offset ∷ []
operand_tokens (operand.Cells cells) = Byte cells ∷ []
operand_tokens (operand.Class class) = Short class ∷ []
operand_tokens (operand.Target target) = Short target ∷ []
operand_tokens (operand.Callee first function) = Register first ∷ Short function ∷ []
operand_tokens (operand.Locks list) = Short list ∷ []

-- The words of an instruction: its keyword, and those of its operands
abbrev pub instr_tokens : Instr → List Token
instr_tokens i = Name (instr_name i) ∷ flat_map operand_tokens (operands i)

-- How an effect is written
abbrev pub effect_name : Effect → Keyword
effect_name effect.Read = keyword.Read
effect_name effect.Write = keyword.Write

-- The word of an effect
abbrev pub effect_token : Effect → Token
effect_token effect = Name (effect_name effect)

-- The word of the base of an expression
abbrev pub base_token : Base → Token
base_token (base.Reg register) = Register register
base_token (base.Global global) = GlobalName global

-- The word of an operation of a path
abbrev pub op_token : Op → Token
op_token op.Deref = Star
op_token (op.Off offset) = Offset offset

-- The words of a lock
abbrev pub lock_tokens : Lock → List Token
lock_tokens (lock.Root effect) = Name keyword.Root ∷ effect_token effect ∷ []
lock_tokens (lock.Class class effect) = Name keyword.Class ∷ Short class ∷ effect_token effect ∷ []
lock_tokens (lock.Expr expr effect) = Name keyword.Expr ∷ base_token expr.base ∷ (map op_token expr.path ++ effect_token effect ∷ [])

-- The words of a line
abbrev pub tokens_of : Line → List Token
tokens_of (line.Version version) = Name keyword.Version ∷ Short version ∷ []
tokens_of (line.Classes count) = Name keyword.Classes ∷ Short count ∷ []
tokens_of (line.Global class) = Name keyword.Global ∷ Short class ∷ []
tokens_of (line.Entry function) = Name keyword.Entry ∷ Short function ∷ []
tokens_of (line.Function params regs) = Name keyword.Function ∷ Byte params ∷ Byte regs ∷ []
tokens_of (line.Instruction i) = instr_tokens i
tokens_of line.List = Name keyword.List ∷ []
tokens_of (line.Lock l) = lock_tokens l

-- The path of the lock has eight operations at the most
abbrev pub HasPath : Lock → Type 0
HasPath (lock.Expr expr effect) = length expr.path ≤ 8
HasPath (lock.Root effect) = Unit {0}
HasPath (lock.Class class effect) = Unit {0}

-- So has that of the line's lock, if it has one; and the version that the line names, if it names one, is there
abbrev pub KeepsLimits : Line → Type 0
KeepsLimits (line.Version version) = IsVersion version
KeepsLimits (line.Lock l) = HasPath l
KeepsLimits _ = Unit {0}

-- These are the words of this line
pub record IsLine (l : Line) (words : List (List ℕ)) : Type 0 where
  pub spelled : AreWords (tokens_of l) words
  pub kept : KeepsLimits l

-- These are the words of these lines, one for one
abbrev pub AreLines : List Line → List (List (List ℕ)) → Type 0
AreLines [] [] = Unit {0}
AreLines [] (words ∷ more) = ⊥
AreLines (l ∷ ls) [] = ⊥
AreLines (l ∷ ls) (words ∷ more) = IsLine l words × AreLines ls more

-- A function as it is listed: its body stands with it
pub record Body : Type 0 where
  pub params : ℕ
  pub regs : ℕ
  pub code : List Instr

-- A whole listing
pub record Listing : Type 0 where
  pub version : ℕ
  pub classes : ℕ
  pub globals : List ℕ
  pub start : ℕ
  pub functions : List Body
  pub lists : List (List Lock)

-- The lines of a function
abbrev pub function_lines : Body → List Line
function_lines f = line.Function f.params f.regs ∷ map line.Instruction f.code

-- The lines of a lock list
abbrev pub list_lines : List Lock → List Line
list_lines locks = line.List ∷ map line.Lock locks

-- The lines of a listing in order: the header, the functions, the lists
abbrev pub lines_in : Listing → List Line
lines_in l = line.Version l.version ∷ line.Classes l.classes ∷ (map line.Global l.globals ++ line.Entry l.start ∷ (flat_map function_lines l.functions ++ flat_map list_lines l.lists))

-- A function's length is a number of 32 bits: a longer one, which is past every limit, is given the greatest
abbrev pub shortened : ℕ → ℕ
shortened n = min n (2 ^ 32 - 1)

-- The function of an image that is listed so
abbrev pub function_of : Body → Function
function_of f = record { params = f.params; regs = f.regs; len = shortened (length f.code) }

-- The image of a listing: the bodies lie one after the other
abbrev pub image_of : Listing → Image
image_of l = record { version = l.version; classes = l.classes; globals = l.globals; functions = map function_of l.functions; start = l.start; code = flat_map (λ f. f.code) l.functions; lists = l.lists }

-- The words of a line in front of those of others, if it has words
abbrev pub unless_blank : List (List ℕ) → List (List (List ℕ)) → List (List (List ℕ))
unless_blank [] more = more
unless_blank (word ∷ words) more = (word ∷ words) ∷ more

-- The words of each line that is not blank
abbrev pub worded : List (List ℕ) → List (List (List ℕ))
worded [] = []
worded (l ∷ ls) = unless_blank (words_of l) (worded ls)

-- The lines, without the blank ones, are those of a listing of the image
abbrev pub LinesSpell : List (List ℕ) → Image → Type 0
LinesSpell lines image = (l : Listing) × AreLines (lines_in l) (worded lines) × (image ≡ image_of l)

-- The text spells the image
abbrev pub Spells : List ℕ → Image → Type 0
Spells text image = LinesSpell (lines_of text) image

-- Some text of some image begins with these lines
abbrev pub CanBegin : List (List ℕ) → Type 0
CanBegin lines = (more : List (List ℕ)) × (image : Image) × LinesSpell (lines ++ more) image

-- The line of this number, from 1, is the first that is not as its place asks: the lines before it can begin a text,
-- and with it they cannot. Or it is the number after the last, where the text ends too early
pub record IsBadLine (lines : List (List ℕ)) (number : ℕ) : Type 0 where
  pub counted : 0 < number
  pub before : CanBegin (take (number - 1) lines)
  pub here : ((number ≤ length lines) × (CanBegin (take number lines) → ⊥)) ⊎ ((number ≡ length lines + 1) × ((image : Image) → LinesSpell lines image → ⊥))
