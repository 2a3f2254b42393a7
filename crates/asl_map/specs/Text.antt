-- The text of a map (docs/SOURCE.md, "The map"), a line for each thing.
use Rattle.std.specs.Prelude.{ℕ, zero, suc, List, [], ◌∷◌, ◌++◌, Bool, false, if◌then◌else◌, ◌==◌, slice_get, unwrap_or, codes, encode_utf8_all, Vec}
use Rattle.std.specs.Fmt.{decimal}
use Rattle.std.specs.declared.alloc.Global.{Global}
use Rattle.asl_map.specs.declared.map.Map.{Map}
use Rattle.asl_map.specs.declared.text_piece.Kind.{Kind}
use Rattle.asl_map.specs.declared.text_piece.Kind.TheVariants as kind
use Rattle.asl_map.specs.declared.text_piece.Piece.{Piece}
use Rattle.asl_map.specs.declared.text_piece.Area.{Area}
use Rattle.asl_map.specs.declared.text_piece.Named.{Named}

-- a text for each, where they are numbered from the first number on
abbrev pub numbered : {A : Type 0} → (ℕ → A → List ℕ) → ℕ → List A → List ℕ
numbered text n [] = []
numbered text n (x ∷ xs) = text n x ++ numbered text (suc n) xs

-- a text for each of so many numbers, from the first one on
unfoldable pub texts_from : (ℕ → List ℕ) → ℕ → ℕ → List ℕ
texts_from text first zero = []
texts_from text first (suc count) = text first ++ texts_from text (suc first) count

-- the word of a kind
abbrev pub kind_name : Kind → List ℕ
kind_name kind.Line = codes "stmt"
kind_name kind.If = codes "if"
kind_name kind.While = codes "while"
kind_name kind.Atomic = codes "atomic"
kind_name kind.Return = codes "return"

-- the line of the function of this number: its name, its first place, and the place after its last
abbrev pub function_line : ℕ → Named → List ℕ
function_line n f =
    codes "function " ++ decimal n ++ codes " " ++ encode_utf8_all f.name ++ codes " " ++ decimal f.from ++ codes " " ++ decimal f.to ++ 10 ∷ []

-- whether the number has a mark
abbrev pub is_marked : List Bool → ℕ → Bool
is_marked marks n = unwrap_or (slice_get marks n) false

-- the line of a function that is not reached; for another there is none
abbrev pub unreached_line : List Bool → ℕ → Named → List ℕ
unreached_line reached n f = if is_marked reached n then [] else codes "unreached " ++ decimal n ++ 10 ∷ []

-- a name is ASCII, so these are its bytes
abbrev pub register_line : ℕ → ℕ → List ℕ → List ℕ
register_line f n name =
    codes "register " ++ decimal f ++ codes " " ++ decimal n ++ codes " " ++ encode_utf8_all name ++ 10 ∷ []

-- the lines of the registers with a name, for the function of this number
abbrev pub registers_text : ℕ → Vec (List ℕ) Global → List ℕ
registers_text f names = numbered (register_line f) 0 names.items

-- the line of the global of this number: its name
abbrev pub global_line : ℕ → List ℕ → List ℕ
global_line n name = codes "global " ++ decimal n ++ codes " " ++ encode_utf8_all name ++ 10 ∷ []

-- the line of a global or a site that is of the class; for another there is none
abbrev pub global_member : ℕ → ℕ → ℕ → List ℕ
global_member class n of =
    if of == class then codes "class " ++ decimal class ++ codes " global " ++ decimal n ++ 10 ∷ [] else []

-- the line of the site `n`, if its class `of` is this class; for another there is none
abbrev pub site_member : ℕ → ℕ → ℕ → List ℕ
site_member class n of =
    if of == class then codes "class " ++ decimal class ++ codes " site " ++ decimal n ++ 10 ∷ [] else []

-- the members of a class
abbrev pub members_text : Map → ℕ → List ℕ
members_text m class =
    numbered (global_member class) 0 m.global_classes.items ++ numbered (site_member class) 0 m.site_classes.items

-- the line of the section of this number: its function, its first place, and the place after its last
abbrev pub section_line : ℕ → Area → List ℕ
section_line n a =
    codes "section " ++ decimal n ++ codes " " ++ decimal a.function ++ codes " " ++ decimal a.from ++ codes " " ++ decimal a.to ++ 10 ∷ []

-- the line of the site of this number: its function, its first place, and the place after its last
abbrev pub site_line : ℕ → Area → List ℕ
site_line n a =
    codes "site " ++ decimal n ++ codes " " ++ decimal a.function ++ codes " " ++ decimal a.from ++ codes " " ++ decimal a.to ++ 10 ∷ []

-- the line of the instruction at the pc: the first place of its piece, the place after its last, and its kind
abbrev pub place_line : ℕ → Piece → List ℕ
place_line pc p =
    codes "place " ++ decimal pc ++ codes " " ++ decimal p.from ++ codes " " ++ decimal p.to ++ codes " " ++ kind_name p.kind ++ 10 ∷ []

-- all lines
abbrev pub map_text : Map → List ℕ
map_text m =
    numbered function_line 0 m.functions.items
    ++ (numbered (unreached_line m.reached) 0 m.functions.items
    ++ (numbered registers_text 0 m.registers.items
    ++ (numbered global_line 0 m.globals.items
    ++ (texts_from (members_text m) 0 m.classes
    ++ (numbered section_line 0 m.sections.items
    ++ (numbered site_line 0 m.sites.items ++ numbered place_line 0 m.pieces.items))))))
