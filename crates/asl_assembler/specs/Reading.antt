-- Machinery of the proofs, not of the promise: how a text is read, computed on lists (docs/FORMATS.md). The
-- lemmas of proofs/ lead from here to the definitions of specs/Words and specs/Text, which public calls cite.
use Rattle.std.specs.Prelude.{◌≡◌, ℕ, ℤ, pos, neg_ℤ, ◌+◌, ◌-◌, ◌*◌, ◌^◌, Bool, true, false, not, ◌&&◌, ◌==◌, nat_lt, nat_le, ◌||◌, ◌⊎◌, List, [], ◌∷◌, ◌++◌, length, Option, Some, None, Result, Ok, Err, if◌then◌else◌, codes}
use Rattle.std.specs.Option.{option_map}
use Rattle.std.specs.Char.{is_ascii_digit}
use Rattle.std.specs.Str.{bytes_eq}
use Rattle.asl_code.specs.Verified.{keeps_limits}
use Rattle.asl_code.specs.Versions.{newest_locks, is_version}
use Rattle.asl_code.specs.declared.image.Image.{Image}
use Rattle.asl_code.specs.declared.image.Function.{Function}
use Rattle.asl_code.specs.declared.instr.Instr.{Instr}
use Rattle.asl_code.specs.declared.instr.Instr.TheVariants as instr
use Rattle.asl_code.specs.declared.lock.Lock.{Lock}
use Rattle.asl_code.specs.declared.lock.Lock.TheVariants as lock
use Rattle.asl_code.specs.declared.lock.Base.{Base}
use Rattle.asl_code.specs.declared.lock.Base.TheVariants as base
use Rattle.asl_code.specs.declared.path.Op.{Op}
use Rattle.asl_code.specs.declared.path.Op.TheVariants as op
use Rattle.asl_code.specs.declared.value.Effect.{Effect}
use Rattle.asl_code.specs.declared.value.Effect.TheVariants as effect
use Rattle.asl_assembler.specs.declared.keyword.Keyword.{Keyword}
use Rattle.asl_assembler.specs.declared.keyword.Keyword.TheVariants as keyword
use Rattle.asl_assembler.specs.declared.line.Line.{Line}
use Rattle.asl_assembler.specs.declared.line.Line.TheVariants as line
use Rattle.asl_assembler.specs.declared.image_draft.Place.{Place}
use Rattle.asl_assembler.specs.declared.image_draft.Place.TheVariants as place
use Rattle.asl_assembler.specs.declared.line_order.Turn.{Turn}
use Rattle.asl_assembler.specs.declared.line_order.Turn.TheVariants as turn
use Rattle.asl_assembler.specs.declared.read.ReadFault.{ReadFault}
use Rattle.asl_assembler.specs.declared.read.ReadFault.TheVariants as fault
use Rattle.asl_assembler.specs.declared.assembly.AsmFault.{AsmFault}
use Rattle.asl_assembler.specs.declared.assembly.AsmFault.TheVariants as asm
use Rattle.asl_assembler.specs.Words.{name_of, words_of, lines_of, is_separator}
use Rattle.asl_assembler.specs.Text.{shortened, Spells, IsBadLine}

-- one step after another, where both answer
infixl 10 ◌>>=◌
-- nothing where the first step answers nothing, else what the second makes of its answer
abbrev pub ◌>>=◌ : {A B : Type 0} → Option A → (A → Option B) → Option B
None >>= f = None
(Some x) >>= f = f x

-- the first of these keywords that the word is
abbrev pub first_named : List Keyword → List ℕ → Option Keyword
first_named [] word = None
first_named (k ∷ ks) word = if bytes_eq word (name_of k) then Some k else first_named ks word

-- the first of two answers, if there is one
abbrev pub or_else : {A : Type 0} → Option A → Option A → Option A
or_else None other = other
or_else (Some x) other = Some x

-- the keywords in three parts: those of lines that are no instruction, and of effects
abbrev pub directives : List Keyword
directives = keyword.Version ∷ keyword.Classes ∷ keyword.Global ∷ keyword.Entry ∷ keyword.Function ∷ keyword.List ∷ keyword.Root ∷ keyword.Class ∷ keyword.Expr ∷ keyword.Read ∷ keyword.Write ∷ []

-- the instructions that set a register and touch no cell
abbrev pub setters : List Keyword
setters = keyword.Int ∷ keyword.Null ∷ keyword.Mov ∷ keyword.Add ∷ keyword.Sub ∷ keyword.Lt ∷ keyword.Eq ∷ keyword.Glob ∷ keyword.Field ∷ []

-- the other instructions
abbrev pub others : List Keyword
others = keyword.Load ∷ keyword.Store ∷ keyword.New ∷ keyword.Jmp ∷ keyword.Jz ∷ keyword.Call ∷ keyword.Ret ∷ keyword.Out ∷ keyword.Acq ∷ keyword.Rel ∷ []

-- the keyword that a word is
unfoldable pub keyword_of : List ℕ → Option Keyword
keyword_of word = or_else (first_named others word) (or_else (first_named setters word) (first_named directives word))

-- the value of decimal digits, after digits that are worth `high`
abbrev pub decimal_after : ℕ → List ℕ → Option ℕ
decimal_after high [] = Some high
decimal_after high (d ∷ ds) = if is_ascii_digit d then decimal_after (10 * high + (d - 48)) ds else None

-- the value of one to ten decimal digits
unfoldable pub decimal_of : List ℕ → Option ℕ
decimal_of word = if nat_lt 0 (length word) && nat_le (length word) 10 then decimal_after 0 word else None

-- the number, where it is below the limit
abbrev pub below : ℕ → ℕ → Option ℕ
below limit n = if nat_lt n limit then Some n else None

-- the number of a field whose numbers are below the limit
unfoldable pub number_of : ℕ → List ℕ → Option ℕ
number_of limit word = decimal_of word >>= below limit

-- what stands after this mark, where the word begins with it
abbrev pub after_mark : ℕ → List ℕ → Option (List ℕ)
after_mark mark [] = None
after_mark mark (c ∷ word) = if c == mark then Some word else None

-- a mark, and after it a number below the limit
unfoldable pub marked_of : ℕ → ℕ → List ℕ → Option ℕ
marked_of mark limit word = after_mark mark word >>= number_of limit

-- a 32-bit integer: what stands after a `-`, if the word has one, else the word
abbrev pub integer_by : Option (List ℕ) → List ℕ → Option ℤ
integer_by None word = option_map pos (number_of (2 ^ 31) word)
integer_by (Some digits) word = option_map (λ n. neg_ℤ (pos n)) (number_of (2 ^ 31 + 1) digits)

-- a 32-bit integer, perhaps with `-` (45) before its digits
unfoldable pub integer_of : List ℕ → Option ℤ
integer_of word = integer_by (after_mark 45 word) word

-- a register, as `r0`: 114 is the letter
abbrev pub register_of : List ℕ → Option ℕ
register_of = marked_of 114 256

-- a global, as `g0`: 103 is the letter
abbrev pub global_of : List ℕ → Option ℕ
global_of = marked_of 103 65536

-- the effect of a keyword, if it names one
abbrev pub effect_named : Keyword → Option Effect
effect_named keyword.Read = Some effect.Read
effect_named keyword.Write = Some effect.Write
effect_named _ = None

-- `read` or `write`
unfoldable pub effect_of : List ℕ → Option Effect
effect_of word = keyword_of word >>= effect_named

-- where an expression begins: a register, or else a global
unfoldable pub base_of : List ℕ → Option Base
base_of word = or_else (option_map base.Reg (register_of word)) (option_map base.Global (global_of word))

-- an operation of a path: `*`, or an offset as `.0`, of which 46 is the point
unfoldable pub op_of : List ℕ → Option Op
op_of word = if bytes_eq word (codes "*") then Some op.Deref else option_map op.Off (marked_of 46 256 word)

-- a byte of a line is not a line feed (10)
abbrev pub is_line_byte : ℕ → Bool
is_line_byte b = not (b == 10)

-- a byte of a word is no separator
abbrev pub is_word_byte : ℕ → Bool
is_word_byte b = not (is_separator b)

-- whether there is no word
abbrev pub no_word : List (List ℕ) → Option (Unit {0})
no_word [] = Some tt
no_word (a ∷ words) = None

-- the word, where there is exactly one
abbrev pub one_word : List (List ℕ) → Option (List ℕ)
one_word (a ∷ []) = Some a
one_word _ = None

-- the words, where there are exactly two
abbrev pub two_words : List (List ℕ) → Option (List ℕ × List ℕ)
two_words (a ∷ b ∷ []) = Some (a, b)
two_words _ = None

-- the words, where there are exactly three
abbrev pub three_words : List (List ℕ) → Option (List ℕ × List ℕ × List ℕ)
three_words (a ∷ b ∷ c ∷ []) = Some (a, b, c)
three_words _ = None

-- what one word says
abbrev pub one : {A : Type 0} → (List ℕ → Option A) → List (List ℕ) → Option A
one p words = one_word words >>= p

-- what two words say, each read in its own way
abbrev pub two : {A B : Type 0} → (List ℕ → Option A) → (List ℕ → Option B) → List (List ℕ) → Option (A × B)
two p q words = two_words words >>= λ w. p w.0 >>= λ a. q w.1 >>= λ b. Some (a, b)

-- what three words say, each read in its own way
abbrev pub three : {A B C : Type 0} → (List ℕ → Option A) → (List ℕ → Option B) → (List ℕ → Option C) → List (List ℕ) → Option (A × B × C)
three p q r words = three_words words >>= λ w. p w.0 >>= λ a. q w.1 >>= λ b. r w.2 >>= λ c. Some (a, b, c)

-- three registers
abbrev pub registers_3 : List (List ℕ) → Option (ℕ × ℕ × ℕ)
registers_3 = three register_of register_of register_of

-- two registers
abbrev pub registers_2 : List (List ℕ) → Option (ℕ × ℕ)
registers_2 = two register_of register_of

-- the instruction of a keyword and the words after it, where an operand is not a register, and of `rel`
unfoldable pub with_numbers_of : Keyword → List (List ℕ) → Option Instr
with_numbers_of keyword.Glob words = option_map (λ x. instr.GlobalAddress x.0 x.1) (two register_of global_of words)
with_numbers_of keyword.Field words = option_map (λ x. instr.FieldAddress x.0 x.1 x.2) (three register_of register_of (number_of 256) words)
with_numbers_of keyword.New words = option_map (λ x. instr.New x.0 x.1 x.2) (three register_of (number_of 256) (number_of 65536) words)
with_numbers_of keyword.Jmp words = option_map instr.Jump (one (number_of 65536) words)
with_numbers_of keyword.Jz words = option_map (λ x. instr.JumpIfZero x.0 x.1) (two register_of (number_of 65536) words)
with_numbers_of keyword.Call words = option_map (λ x. instr.Call x.0 x.1 x.2) (three register_of register_of (number_of 65536) words)
with_numbers_of keyword.Acq words = option_map instr.Acquire (one (number_of 65536) words)
with_numbers_of keyword.Rel words = option_map (λ _. instr.Release) (no_word words)
with_numbers_of _ words = None

-- the instruction of a keyword and the words after it
unfoldable pub instr_of : Keyword → List (List ℕ) → Option Instr
instr_of keyword.Int words = option_map (λ x. instr.SetInt x.0 x.1) (two register_of integer_of words)
instr_of keyword.Null words = option_map instr.SetNull (one register_of words)
instr_of keyword.Mov words = option_map (λ x. instr.Move x.0 x.1) (registers_2 words)
instr_of keyword.Add words = option_map (λ x. instr.Add x.0 x.1 x.2) (registers_3 words)
instr_of keyword.Sub words = option_map (λ x. instr.Subtract x.0 x.1 x.2) (registers_3 words)
instr_of keyword.Lt words = option_map (λ x. instr.LessThan x.0 x.1 x.2) (registers_3 words)
instr_of keyword.Eq words = option_map (λ x. instr.Equals x.0 x.1 x.2) (registers_3 words)
instr_of keyword.Load words = option_map (λ x. instr.Load x.0 x.1) (registers_2 words)
instr_of keyword.Store words = option_map (λ x. instr.Store x.0 x.1) (registers_2 words)
instr_of keyword.Ret words = option_map instr.Return (one register_of words)
instr_of keyword.Out words = option_map instr.Output (one register_of words)
instr_of k words = with_numbers_of k words

-- what to do with an operation, if the word is one, and else
abbrev pub by_op : {A : Type 0} → Option Op → (Op → A) → A → A
by_op (Some o) some none = some o
by_op None some none = none

-- the operations and the effect, after a path that was read so far: eight operations at the most
abbrev pub path_of : List Op → List (List ℕ) → Option (List Op × Effect)
path_of path [] = None
path_of path (word ∷ words) = by_op (op_of word)
    (λ o. if nat_lt (length path) 8 then path_of (path ++ o ∷ []) words else None)
    (no_word words >>= λ _. effect_of word >>= λ e. Some (path, e))

-- the lock on the expression of this base
abbrev pub lock_with : Base → Option (List Op × Effect) → Option Lock
lock_with b path = path >>= λ p. Some (lock.Expr (record { base = b; path = p.0 }) p.1)

-- the lock on an expression, of the words after `expr`
unfoldable pub expr_of : List (List ℕ) → Option Lock
expr_of [] = None
expr_of (word ∷ words) = base_of word >>= λ b. lock_with b (path_of [] words)

-- the line of a version, if there is such a version
abbrev pub version_of : ℕ → Option Line
version_of n = if is_version n then Some (line.Version n) else None

-- the line of a keyword and the words after it
unfoldable pub line_of : Keyword → List (List ℕ) → Option Line
line_of keyword.Version words = one (number_of 65536) words >>= version_of
line_of keyword.Classes words = option_map line.Classes (one (number_of 65536) words)
line_of keyword.Global words = option_map line.Global (one (number_of 65536) words)
line_of keyword.Entry words = option_map line.Entry (one (number_of 65536) words)
line_of keyword.Function words = option_map (λ x. line.Function x.0 x.1) (two (number_of 256) (number_of 256) words)
line_of keyword.List words = option_map (λ _. line.List) (no_word words)
line_of keyword.Root words = option_map (λ x. line.Lock (lock.Root x)) (one effect_of words)
line_of keyword.Class words = option_map (λ x. line.Lock (lock.Class x.0 x.1)) (two (number_of 65536) effect_of words)
line_of keyword.Expr words = option_map line.Lock (expr_of words)
line_of k words = option_map line.Instruction (instr_of k words)

-- the line of these words, if they are one; no words are none
unfoldable pub meaning_of : List (List ℕ) → Option Line
meaning_of [] = None
meaning_of (word ∷ words) = keyword_of word >>= λ k. line_of k words

-- the image with one function more
abbrev pub with_function : Image → Function → Image
with_function i f = record i { functions = i.functions ++ f ∷ [] }

-- the image with one lock list more
abbrev pub with_list : Image → List Lock → Image
with_list i locks = record i { lists = i.lists ++ locks ∷ [] }

-- the function with one instruction more, as long as its length can be counted
abbrev pub longer : Function → Function
longer f = record f { len = shortened (f.len + 1) }

-- a place, and the image so far without what is open at that place
abbrev pub State : Type 0
State = Place × Image

-- the state of a place, if there is one, and an image
abbrev pub paired : Option Place → Image → Option State
paired None i = None
paired (Some p) i = Some (p, i)

-- the place in a function that has no instruction yet
abbrev pub opened : ℕ → ℕ → Place
opened params regs = place.Body (record { params = params; regs = regs; len = 0 })

-- the place after a line that opens a function or a list
abbrev pub open_of : Line → Option Place
open_of (line.Function params regs) = Some (opened params regs)
open_of line.List = Some (place.Locks [])
open_of _ = None

-- the line at this place: the place after it, and the image so far
unfoldable pub next : Place → Line → Image → Option State
next place.Version (line.Version n) i = Some (place.Classes, record i { version = n })
next place.Classes (line.Classes n) i = Some (place.Globals, record i { classes = n })
next place.Globals (line.Global c) i = Some (place.Globals, record i { globals = i.globals ++ c ∷ [] })
next place.Globals (line.Entry f) i = Some (place.Functions, record i { start = f })
next place.Functions (line.Function params regs) i = Some (opened params regs, i)
next place.Functions line.List i = Some (place.Locks [], i)
next (place.Body f) (line.Instruction x) i = Some (place.Body (longer f), record i { code = i.code ++ x ∷ [] })
next (place.Body f) (line.Function params regs) i = Some (opened params regs, with_function i f)
next (place.Body f) line.List i = Some (place.Locks [], with_function i f)
next (place.Locks locks) (line.Lock l) i = Some (place.Locks (locks ++ l ∷ []), i)
next (place.Locks locks) line.List i = Some (place.Locks [], with_list i locks)
next _ _ i = None

-- the image, if a test is passed
abbrev pub kept : Bool → Image → Option Image
kept true i = Some i
kept false i = None

-- the image, where a text may end at this place
unfoldable pub finished : Place → Image → Option Image
finished place.Functions i = Some i
finished (place.Body f) i = Some (with_function i f)
finished (place.Locks locks) i = Some (with_list i locks)
finished _ i = None

-- the words of a line: none change nothing
abbrev pub step_words : Place → Image → List (List ℕ) → Option State
step_words p i [] = Some (p, i)
step_words p i (word ∷ words) = meaning_of (word ∷ words) >>= λ m. next p m i

-- a line of bytes
unfoldable pub step_line : Place → Image → List ℕ → Option State
step_line p i l = step_words p i (words_of l)

-- what there is, or else the number of the line that is wrong
abbrev pub or_line : {A : Type 0} → Option A → ℕ → Result A ℕ
or_line (Some x) n = Ok x
or_line None n = Err n

-- a step after one that may have stopped at a line
abbrev pub and_then : {A B : Type 0} → Result A ℕ → (A → Result B ℕ) → Result B ℕ
and_then (Ok x) f = f x
and_then (Err n) f = Err n

-- the image that all lines give from a state on, of which the first has the number n + 1; or the number of the wrong line
abbrev pub image_from : ℕ → Place → Image → List (List ℕ) → Result Image ℕ
image_from n p i [] = or_line (finished p i) (n + 1)
image_from n p i (l ∷ ls) = and_then (or_line (step_line p i l) (n + 1)) (λ s. image_from (n + 1) s.0 s.1 ls)

-- the first line of the text says this, and this is the text after it
pub record BeginsWith (text : List ℕ) (meant : Line) (rest : List ℕ) : Type 0 where
  pub first : List ℕ
  pub split : lines_of text ≡ first ∷ lines_of rest
  pub said : meaning_of (words_of first) ≡ Some meant

-- nothing is read
abbrev pub blank_image : Image
blank_image = record { version = 0; classes = 0; globals = []; functions = []; start = 0; code = []; lists = [] }

-- the locks of the list that is open, or none
abbrev pub open_locks : Place → List Lock
open_locks (place.Locks locks) = locks
open_locks _ = []

-- whether there are more locks in the open list, or more lists, globals, functions or instructions, than a program of any
-- version has
abbrev pub is_over : Place → Image → Bool
is_over p i =
    nat_lt newest_locks (length (open_locks p))
    || nat_lt 1024 (length i.lists)
    || nat_lt 1024 (length i.globals)
    || nat_lt 256 (length i.functions)
    || nat_lt 65535 (length i.code)

-- the image is over a limit
abbrev pub IsOver : Image → Type 0
IsOver i = keeps_limits i ≡ false

-- What the reader returned is this answer, unless memory ran out.
abbrev pub Answers : Result Image ReadFault → Result Image ℕ → Type 0
Answers (Ok image) answer = answer ≡ Ok image
Answers (Err (fault.Line n)) answer = answer ≡ Err n
Answers (Err fault.Over) answer = (image : Image) → answer ≡ Ok image → IsOver image
Answers (Err fault.OutOfMemory) answer = Unit {0}

-- which line comes after one that opens a function or a list
abbrev pub turn_opened : Line → Option Turn
turn_opened (line.Function params regs) = Some turn.Body
turn_opened line.List = Some turn.Locks
turn_opened _ = None

-- which line comes after this one, if it may stand here
unfoldable pub turn_after : Turn → Line → Option Turn
turn_after turn.Version (line.Version n) = Some turn.Classes
turn_after turn.Classes (line.Classes n) = Some turn.Globals
turn_after turn.Globals (line.Global c) = Some turn.Globals
turn_after turn.Globals (line.Entry f) = Some turn.Functions
turn_after turn.Functions l = turn_opened l
turn_after turn.Body (line.Instruction x) = Some turn.Body
turn_after turn.Body l = turn_opened l
turn_after turn.Locks (line.Lock l) = Some turn.Locks
turn_after turn.Locks line.List = Some turn.Locks
turn_after _ _ = None

-- the same of words: none change nothing
abbrev pub turn_words : Turn → List (List ℕ) → Option Turn
turn_words t [] = Some t
turn_words t (word ∷ words) = meaning_of (word ∷ words) >>= turn_after t

-- the same of a line of bytes
unfoldable pub turn_line : Turn → List ℕ → Option Turn
turn_line t l = turn_words t (words_of l)

-- whether a text may end here
abbrev pub may_end : Turn → Bool
may_end turn.Functions = true
may_end turn.Body = true
may_end turn.Locks = true
may_end _ = false

-- the first wrong line of the text, or where it spells an image this fault
abbrev pub HasLineOr : List ℕ → AsmFault → AsmFault → Type 0
HasLineOr text fault result =
    ((number : ℕ) × (result ≡ asm.Line number) × IsBadLine (lines_of text) number) ⊎ (((image : Image) × Spells text image) × (result ≡ fault))
