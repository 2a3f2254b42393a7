-- The bytes of an image, field by field, and what is wrong with bytes that are those of no program (docs/FORMATS.md,
-- "Images").
use Rattle.std.specs.Prelude.{◌≡◌, ◌≢◌, ℕ, ◌+◌, ◌<◌, ◌≤◌, ◌^◌, List, [], ◌∷◌, ◌++◌, length}
use Rattle.std.specs.List.{flat_map, AllByRecursion}
use Rattle.std.specs.Int.{w16, to_be_bytes}
use Rattle.asl_code.specs.declared.image.Function.{Function}
use Rattle.asl_code.specs.declared.image.Image.{Image}
use Rattle.asl_code.specs.declared.instr.Instr.{Instr}
use Rattle.asl_code.specs.declared.lock.Base.{Base}
use Rattle.asl_code.specs.declared.lock.Base.TheVariants.{Reg, Global}
use Rattle.asl_code.specs.declared.lock.Lock.{Lock}
use Rattle.asl_code.specs.declared.lock.Lock.TheVariants as lock
use Rattle.asl_code.specs.declared.path.Op.{Op}
use Rattle.asl_code.specs.declared.path.Op.TheVariants.{Deref, Off}
use Rattle.asl_code.specs.declared.value.Effect.{Effect}
use Rattle.asl_code.specs.declared.value.Effect.TheVariants.{Read, Write}
use Rattle.asl_code.specs.Spelling.{instr_bytes, IsInstr, IsFirstBadField}
use Rattle.asl_code.specs.Versions.{IsVersion}

-- What is read whole and then judged: a plain field, or the eight bytes of an instruction, which are judged op first,
-- then a, b, c and d.
pub data Field : Type 0 where
  Plain : List ℕ → Field
  Eight : List ℕ → Field

-- the bytes of a field
abbrev pub bytes_of : Field → List ℕ
bytes_of (Plain bytes) = bytes
bytes_of (Eight bytes) = bytes

-- the bytes of fields, one after the other
abbrev pub text_of : List Field → List ℕ
text_of fields = flat_map bytes_of fields

-- a field of one byte
abbrev pub one : ℕ → Field
one n = Plain (n ∷ [])

-- a field of two bytes
abbrev pub two : ℕ → Field
two n = Plain (to_be_bytes w16 n)

-- a count, and then the fields of each item
abbrev pub counted : {X : Type 0} → (X → List Field) → List X → List Field
counted fields_of xs = two (length xs) ∷ flat_map fields_of xs

-- the class of a global
abbrev pub class_fields : ℕ → List Field
class_fields class = two class ∷ []

-- a function: its parameters, its registers, the length of its body
abbrev pub function_fields : Function → List Field
function_fields f = one f.params ∷ one f.regs ∷ two f.len ∷ []

-- an instruction
abbrev pub instr_fields : Instr → List Field
instr_fields instr = Eight (instr_bytes instr) ∷ []

-- an effect
abbrev pub effect_field : Effect → Field
effect_field Read = one 0
effect_field Write = one 1

-- an operation: 0 for `*`, or 1 and the offset
abbrev pub op_fields : Op → List Field
op_fields Deref = one 0 ∷ []
op_fields (Off offset) = one 1 ∷ one offset ∷ []

-- a path: how many operations, and each
abbrev pub path_fields : List Op → List Field
path_fields path = one (length path) ∷ flat_map op_fields path

-- a kind, an effect, and what the lock is on
abbrev pub expr_fields : Base → Effect → List Op → List Field
expr_fields (Reg r) effect path = one 2 ∷ effect_field effect ∷ one r ∷ path_fields path
expr_fields (Global g) effect path = one 3 ∷ effect_field effect ∷ two g ∷ path_fields path

-- a lock
abbrev pub lock_fields : Lock → List Field
lock_fields (lock.Root effect) = one 0 ∷ effect_field effect ∷ []
lock_fields (lock.Class class effect) = one 1 ∷ effect_field effect ∷ two class ∷ []
lock_fields (lock.Expr expr effect) = expr_fields expr.base effect expr.path

-- a list: how many locks, and each
abbrev pub list_fields : List Lock → List Field
list_fields locks = counted lock_fields locks

-- the four bytes of the letters ASLM
abbrev pub magic : Field
magic = Plain (65 ∷ 83 ∷ 76 ∷ 77 ∷ [])

-- the fields of an image
abbrev pub image_fields : Image → List Field
image_fields i =
    magic ∷ two i.version ∷ two i.classes
    ∷ counted class_fields i.globals
    ++ (counted function_fields i.functions
    ++ (two i.start
    ∷ counted instr_fields i.code
    ++ counted list_fields i.lists))

-- each number is one that its field can hold
pub record IsFunction (f : Function) : Type 0 where
  pub params_fits : f.params < 256
  pub regs_fits : f.regs < 256
  pub len_fits : f.len < 2 ^ 16

-- an operation whose offset is one byte
abbrev pub IsOp : Op → Type 0
IsOp Deref = Unit {0}
IsOp (Off offset) = offset < 256

-- a base whose number its field can hold
abbrev pub IsBase : Base → Type 0
IsBase (Reg r) = r < 256
IsBase (Global g) = g < 2 ^ 16

-- a path has eight operations at most
pub record IsPath (path : List Op) : Type 0 where
  pub few : length path ≤ 8
  pub each : AllByRecursion IsOp path

-- a lock whose numbers their fields can hold
abbrev pub IsLock : Lock → Type 0
IsLock (lock.Root effect) = Unit {0}
IsLock (lock.Class class effect) = class < 2 ^ 16
IsLock (lock.Expr expr effect) = IsBase expr.base × IsPath expr.path

-- items that a count of two bytes can count
pub record AreItems (X : Type 0) (IsItem : X → Type 0) (xs : List X) : Type 0 where
  pub counted : length xs < 2 ^ 16
  pub each : AllByRecursion IsItem xs

-- a list of such locks
abbrev pub IsList : List Lock → Type 0
IsList locks = AreItems Lock IsLock locks

-- an image of a version that is there, whose numbers fit their fields
pub record IsImage (i : Image) : Type 0 where
  pub version_is : IsVersion i.version
  pub classes_fits : i.classes < 2 ^ 16
  pub globals_fit : AreItems ℕ (λ class. class < 2 ^ 16) i.globals
  pub functions_fit : AreItems Function IsFunction i.functions
  pub start_fits : i.start < 2 ^ 16
  pub code_fits : AreItems Instr IsInstr i.code
  pub lists_fit : AreItems (List Lock) IsList i.lists

-- the bytes spell the image
pub record SpellsImage (i : Image) (bytes : List ℕ) : Type 0 where
  pub fits : IsImage i
  pub spelled : bytes ≡ text_of (image_fields i)

-- The bytes begin with whole fields of something that has fields, and end within the next field: fewer are left than it
-- has
pub record EndsWithin (X : Type 0) (Is : X → Type 0) (fields_of : X → List Field) (bytes : List ℕ) : Type 0 where
  pub thing : X
  pub is : Is thing
  pub front : List Field
  pub next : Field
  pub more : List Field
  pub opens : fields_of thing ≡ front ++ next ∷ more
  pub rest : List ℕ
  pub parts : bytes ≡ text_of front ++ rest
  pub cut : length rest < length (bytes_of next)

-- a field of the same kind and of as many bytes
abbrev pub IsLike : Field → Field → Type 0
IsLike (Plain bytes) (Plain others) = length bytes ≡ length others
IsLike (Eight bytes) (Eight others) = length bytes ≡ length others
IsLike field other = ⊥

-- where in a field that is not there its first bad byte stands: a plain field is judged as one
abbrev pub IsBadByte : Field → ℕ → Type 0
IsBadByte (Plain bytes) place = place ≡ 0
IsBadByte (Eight bytes) place = IsFirstBadField bytes place

-- The bytes begin with whole fields of something that has fields; where its next field is to stand, they have another,
-- and nothing has these fields and this one. The first bad byte is this one
pub record HasBadByte (X : Type 0) (Is : X → Type 0) (fields_of : X → List Field) (bytes : List ℕ) (at : ℕ) : Type 0 where
  pub thing : X
  pub is : Is thing
  pub front : List Field
  pub next : Field
  pub more : List Field
  pub opens : fields_of thing ≡ front ++ next ∷ more
  pub wrong : Field
  pub rest : List ℕ
  pub parts : bytes ≡ text_of front ++ (bytes_of wrong ++ rest)
  pub like : IsLike next wrong
  pub place : ℕ
  pub bad : IsBadByte wrong place
  pub at_is : at ≡ length (text_of front) + place
  pub none : (other : X) (following : List Field) → Is other → fields_of other ≢ front ++ wrong ∷ following

-- a spelling is of one image
abbrev pub ImageOfSpellingIsOne : Type 0
ImageOfSpellingIsOne = (i j : Image) (bytes : List ℕ) → SpellsImage i bytes → SpellsImage j bytes → i ≡ j

-- an image has one spelling
abbrev pub SpellingOfImageIsOne : Type 0
SpellingOfImageIsOne = (i : Image) (bytes others : List ℕ) → SpellsImage i bytes → SpellsImage i others → bytes ≡ others
