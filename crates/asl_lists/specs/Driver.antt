-- The text that calls the entries of a source (docs/PROOFS.md, "The lists as data"): a function for each, so that no two share their arguments.
use Rattle.std.specs.Prelude.{◌≡◌, ℕ, zero, suc, List, [], ◌++◌, Some, codes, false, map, slice_get, string_bytes}
use Rattle.std.specs.Fmt.{decimal}
use Rattle.asl_syntax.specs.Tree.{Item}
use Rattle.asl_syntax.specs.Parsed.{Parses}
use Rattle.asl_syntax.specs.Rules.{parameter_counts, differs}
use Rattle.asl_lists.specs.declared.driver.Entry.{Entry}
use Rattle.asl_lists.specs.declared.whole.Whole.{Whole}
use Rattle.asl_lists.specs.Numbered.{numbered}

-- a new object for each of so many parameters, of which a function has four at most
abbrev pub objects : ℕ → List ℕ
objects zero = []
objects (suc zero) = codes "  a = new 255;\n"
objects (suc (suc zero)) = codes "  a = new 255;\n  b = new 255;\n"
objects (suc (suc (suc zero))) = codes "  a = new 255;\n  b = new 255;\n  c = new 255;\n"
objects n = codes "  a = new 255;\n  b = new 255;\n  c = new 255;\n  d = new 255;\n"

-- the arguments of a call of a function with so many parameters, four at most: the new objects
abbrev pub arguments : ℕ → List ℕ
arguments zero = []
arguments (suc zero) = codes "a"
arguments (suc (suc zero)) = codes "a, b"
arguments (suc (suc (suc zero))) = codes "a, b, c"
arguments n = codes "a, b, c, d"

-- the function that calls an entry
abbrev pub caller : ℕ → Entry → List ℕ
caller number e =
    codes "fn _entry" ++ decimal number ++ codes "() {\n" ++ objects e.parameters ++ codes "  r = " ++ e.name.now ++ codes "(" ++ arguments e.parameters
    ++ codes ");\n  z = 0;\n  return z;\n}\n"

-- the call of it in `main`
abbrev pub call : ℕ → Entry → List ℕ
call number e = codes "  if t { r = _entry" ++ decimal number ++ codes "(); }\n"

-- what stands after a source whose entries are these
abbrev pub driver : List Entry → List ℕ
driver es = codes "\n" ++ numbered caller 0 es ++ codes "fn main(t) {\n  r = t;\n" ++ numbered call 0 es ++ codes "  return r;\n}\n"

-- a `main` that calls nothing: with it a source that has none may have a tree
abbrev pub bare_main : List ℕ
bare_main = codes "\nfn main(t) {\n  return t;\n}\n"

-- where the source has a tree with such a `main`, the function of the entry's name has no other number of parameters there
abbrev pub HasParameters : List ℕ → Entry → Type 0
HasParameters source e =
    (tree : List Item) → Parses (source ++ bare_main) tree → differs (parameter_counts tree e.name.now) e.parameters ≡ false

-- the entries of these names, each with the number of parameters that its function has
pub record AreEntries (source : List ℕ) (names : List (List ℕ)) (entries : List Entry) : Type 0 where
  pub named : map (λ (e : Entry). e.name.now) entries ≡ names
  pub fit : (n : ℕ) (e : Entry) → slice_get entries n ≡ Some e → HasParameters source e

-- the text is the source, with what calls its entries of these names behind it
pub record IsWhole (source : List ℕ) (names : List (List ℕ)) (w : Whole) : Type 0 where
  pub entries : List Entry
  pub named : AreEntries source names entries
  pub text : w.text.items ≡ source ++ driver entries
  pub added : string_bytes w.driver ≡ driver entries
