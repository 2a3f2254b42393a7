-- The canonical text of an image: of all texts that spell it, the one that is written (docs/FORMATS.md).
use Rattle.std.specs.Prelude.{ℕ, ◌<◌, ◌^◌, List, [], ◌∷◌, ◌++◌, take, drop, codes, FitsSigned}
use Rattle.std.specs.Int.{w32}
use Rattle.std.specs.List.{flat_map, AllByRecursion}
use Rattle.std.specs.Fmt.{decimal, signed_decimal}
use Rattle.asl_code.specs.declared.image.Image.{Image}
use Rattle.asl_code.specs.declared.image.Function.{Function}
use Rattle.asl_code.specs.declared.instr.Instr.{Instr}
use Rattle.asl_assembler.specs.declared.line.Line.{Line}
use Rattle.asl_assembler.specs.declared.line.Line.TheVariants as line
use Rattle.asl_assembler.specs.Words.{Token, Name, Byte, Short, Integer, Register, GlobalName, Star, Offset, name_of}
use Rattle.asl_assembler.specs.Text.{Body, Listing, KeepsLimits, tokens_of, lines_in}

-- The word of a token: numbers in decimal digits, with no needless zeros
abbrev pub word_of : Token → List ℕ
word_of (Name k) = name_of k
word_of (Byte n) = decimal n
word_of (Short n) = decimal n
word_of (Integer z) = signed_decimal z
word_of (Register n) = codes "r" ++ decimal n
word_of (GlobalName n) = codes "g" ++ decimal n
word_of Star = codes "*"
word_of (Offset n) = codes "." ++ decimal n

-- The rest of a line: each word after what stands between words, and the line feed
abbrev pub later_words : List ℕ → List Token → List ℕ
later_words between [] = codes "\n"
later_words between (t ∷ ts) = between ++ (word_of t ++ later_words between ts)

-- The operands of a line, of which the first stands after a space
abbrev pub operands : List ℕ → List Token → List ℕ
operands between [] = codes "\n"
operands between (t ∷ ts) = codes " " ++ (word_of t ++ later_words between ts)

-- The words of a line, joined
abbrev pub joined : List ℕ → List Token → List ℕ
joined between [] = codes "\n"
joined between (t ∷ ts) = word_of t ++ operands between ts

-- What stands between the operands of a line: a comma and a space in an instruction, else a space
abbrev pub between_operands : Line → List ℕ
between_operands (line.Instruction i) = codes ", "
between_operands l = codes " "

-- The canonical text of a line
abbrev pub line_text : Line → List ℕ
line_text l = joined (between_operands l) (tokens_of l)

-- The functions with their bodies, which lie one after the other in the code
abbrev pub bodies : List Function → List Instr → List Body
bodies [] code = []
bodies (f ∷ fs) code = record { params = f.params; regs = f.regs; code = take f.len code } ∷ bodies fs (drop f.len code)

-- The listing of an image
abbrev pub listing_of : Image → Listing
listing_of i = record { version = i.version; classes = i.classes; globals = i.globals; start = i.start; functions = bodies i.functions i.code; lists = i.lists }

-- The canonical text of an image: its lines, one after the other
abbrev pub canonical_text : Image → List ℕ
canonical_text i = flat_map line_text (lines_in (listing_of i))

-- The number of the word is in the range of its field
abbrev pub FitsField : Token → Type 0
FitsField (Name k) = Unit {0}
FitsField (Byte n) = n < 256
FitsField (Short n) = n < 2 ^ 16
FitsField (Integer z) = FitsSigned w32 z
FitsField (Register n) = n < 256
FitsField (GlobalName n) = n < 2 ^ 16
FitsField Star = Unit {0}
FitsField (Offset n) = n < 256

-- So are the numbers of the line; its version, if it names one, is there, and its path, if it has one, has eight
-- operations at the most
pub record FitsLine (l : Line) : Type 0 where
  pub fields : AllByRecursion FitsField (tokens_of l)
  pub kept : KeepsLimits l

-- So is all that the image's lines write
abbrev pub FitsText : Image → Type 0
FitsText i = AllByRecursion FitsLine (lines_in (listing_of i))
