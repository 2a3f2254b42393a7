-- What the command `c` answers (docs/PARALLEL.md).
use Rattle.std.specs.declared.alloc.Global.{Global}
use Rattle.std.specs.Prelude.{◌≡◌, ◌≢◌, ◌<◌, ◌⊎◌, ◌++◌, take, Contains, ℕ, Bool, List, [], ◌∷◌, Option, None, Some, String, Vec, codes, encode_utf8_all, map as each, string_bytes}
use Rattle.asl_code.specs.declared.image.Image.{Image}
use Rattle.asl_command_line.specs.declared.command.Replacement.{Replacement}
use Rattle.asl_syntax.specs.declared.fault.SyntaxFault.TheVariants as syntax
use Rattle.asl_emitter.specs.declared.fault.InferFault.TheVariants as infer
use Rattle.asl_lists.specs.declared.driver.Entry.{Entry}
use Rattle.asl_lists.specs.Driver.{AreEntries, driver}
use Rattle.asl_lists.specs.Lengths.{IsLength}
use Rattle.asl_map.specs.declared.map.Map.{Map}
use Rattle.asl_map.specs.declared.text_piece.Named.{Named}
use Rattle.asl_map.specs.Mapped.{IsMapped}
use Rattle.asl_map.specs.Names.{function_name}
use Rattle.asl_parallel_c.specs.declared.options.Extern.{Extern}
use Rattle.asl_parallel_c.specs.declared.options.Options.{Options}
use Rattle.asl_parallel_c.specs.Text.{c_text}
use Rattle.asl_tool.specs.declared.command_fault.CommandFault.{CommandFault}
use Rattle.asl_tool.specs.declared.command_fault.CommandFault.TheVariants as fault
use Rattle.asl_tool.specs.Compile.{IsProgramFor, IsRefusedSource}

-- ---- names

-- the name of a function as a text
abbrev pub function_words : Named → List ℕ
function_words f = encode_utf8_all f.name

-- the name by which C calls the function of a name
abbrev pub c_entry : List ℕ → List ℕ
c_entry name = codes "aslr_entry_" ++ name

-- the functions of these names, one by one, each with this name in C
pub record AreFound (m : Map) (names c_names : List (List ℕ)) (es : List Extern) : Type 0 where
  pub functions : each (λ (e : Extern). function_name m e.function) es ≡ each (λ name. Some name) names
  pub in_c : each (λ (e : Extern). string_bytes e.name) es ≡ c_names

-- the names of the locals of each function as texts
abbrev pub AreLocals : List (Vec (List ℕ) Global) → List (Vec (String Global) Global) → Type 0
AreLocals registers locals =
    each (λ (names : Vec (String Global) Global). each string_bytes names.items) locals ≡ each (λ (names : Vec (List ℕ) Global). each encode_utf8_all names.items) registers

-- the function of the source, and the C function in its place
abbrev pub replaced : Replacement → List ℕ
replaced r = string_bytes r.function

-- the name of the C function that is called in its place
abbrev pub c_function : Replacement → List ℕ
c_function r = string_bytes r.name

-- the text has the names of the map, C calls these functions, and its own in place of these
pub record AreOptions (m : Map) (checks : Bool) (entries : List (List ℕ)) (externs : List Replacement) (o : Options) : Type 0 where
  pub checked : o.checks ≡ checks
  pub in_place : AreFound m (each replaced externs) (each c_function externs) o.externs.items
  pub called : AreFound m entries (each c_entry entries) o.entries.items
  pub names : each string_bytes o.names.items ≡ each function_words m.functions.items
  pub locals : AreLocals m.registers.items o.locals.items

-- ---- the text

-- the text is that of the source's program, with the names of the source
pub record IsPrintedFor (source : List ℕ) (checks : Bool) (entries : List (List ℕ)) (externs : List Replacement) (image : Image) (text : List ℕ) : Type 0 where
  pub is : Map
  pub mapped : IsMapped source is
  pub options : Options
  pub are_options : AreOptions is checks entries externs options
  pub written : text ≡ c_text image options

-- the program is inferred for the source, with paths of the length that is asked for, or else of the greatest that is accepted
abbrev pub IsProgramAt : List ℕ → Option ℕ → Image → Type 0
IsProgramAt source k image = (n : ℕ) × IsLength source k n × IsProgramFor source n image

-- the output is the text of the program that is inferred for a source with a `main`
pub record IsPrintedWhole (source : List ℕ) (k : Option ℕ) (checks : Bool) (entries : List (List ℕ)) (externs : List Replacement) (output : List ℕ) : Type 0 where
  pub image : Image
  pub program : IsProgramAt source k image
  pub written : IsPrintedFor source checks entries externs image output

-- so of the source with what calls its entries
abbrev pub IsPrintedEntries : List ℕ → Option ℕ → Bool → List (List ℕ) → List Replacement → List ℕ → Type 0
IsPrintedEntries source k checks names externs output =
    (es : List Entry) × AreEntries source names es × IsPrintedWhole (source ++ driver es) k checks names externs output

-- the text of the source, where no entries are named
abbrev pub IsPrinted : List ℕ → Option ℕ → Bool → List (List ℕ) → List Replacement → List ℕ → Type 0
IsPrinted source k checks [] externs output = IsPrintedWhole source k checks [] externs output
IsPrinted source k checks (name ∷ names) externs output = IsPrintedEntries source k checks (name ∷ names) externs output

-- ---- refusals

-- some region needs too many locks
abbrev pub IsTooMany : CommandFault → Type 0
IsTooMany (fault.Infer (infer.TooManyLocks region)) = Unit {0}
IsTooMany f = ⊥

-- why no program is inferred for the source: it is the refusal of the length that is asked for; where none is, too many locks are needed
-- even with no path
abbrev pub IsRefusedAt : List ℕ → Option ℕ → CommandFault → Type 0
IsRefusedAt source None f = (n : ℕ) × IsLength source None n × IsRefusedSource source n f × (IsTooMany f → n ≡ 0)
IsRefusedAt source (Some k) f = IsRefusedSource source k f

-- a C function is to be called in place of a function that the map does not have: a source has at most 256. The refusal tells at most 64
-- bytes of its name
abbrev pub IsUnknownIn : Map → List Replacement → CommandFault → Type 0
IsUnknownIn m externs f =
    (r : Replacement) × Contains externs r × (f ≡ fault.Source (syntax.Unknown (take 64 (replaced r)))) × ((function : ℕ) → function < 256 → function_name m function ≢ Some (replaced r))

-- so of the map of the source
abbrev pub IsUnknownOf : List ℕ → List Replacement → CommandFault → Type 0
IsUnknownOf source externs f = (m : Map) × IsMapped source m × IsUnknownIn m externs f

-- what each refusal says of a source with a `main`
abbrev pub IsRefusedWhole : List ℕ → Option ℕ → List Replacement → CommandFault → Type 0
IsRefusedWhole source k externs f = IsRefusedAt source k f ⊎ IsUnknownOf source externs f

-- so of the source with what calls its entries; of lack of memory for that nothing is said
abbrev pub IsRefusedEntries : List ℕ → Option ℕ → List (List ℕ) → List Replacement → CommandFault → Type 0
IsRefusedEntries source k names externs f =
    (f ≡ fault.OutOfMemory) ⊎ ((es : List Entry) × AreEntries source names es × IsRefusedWhole (source ++ driver es) k externs f)

-- what a refusal says of the source, with what calls its entries where some are named
abbrev pub IsRefusedPrinting : List ℕ → Option ℕ → List (List ℕ) → List Replacement → CommandFault → Type 0
IsRefusedPrinting source k [] externs f = IsRefusedWhole source k externs f
IsRefusedPrinting source k (name ∷ names) externs f = IsRefusedEntries source k (name ∷ names) externs f
