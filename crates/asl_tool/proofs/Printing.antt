-- The command `c`: sources with entries and without, and the longest paths.
use Rattle.std.proofs.Common.{◌≡◌, ◌<◌, ℕ, Bool, List, [], ◌∷◌, length, map, Option, None, Some, ◌⊎◌, ◌≢◌, get_or, take, inl, inr, subst, sym, ◌∙◌, arith}
use Rattle.asl_emitter.specs.declared.fault.InferFault.TheVariants as infer
use Rattle.asl_emitter.specs.Sources.{HasRefusedTree}
use Rattle.asl_lists.specs.declared.whole.Whole.{Whole}
use Rattle.asl_lists.specs.Driver.{IsWhole}
use Rattle.asl_tool.specs.declared.command_fault.CommandFault.{CommandFault}
use Rattle.asl_tool.specs.declared.command_fault.CommandFault.TheVariants as fault
use Rattle.asl_tool.specs.C.{IsPrinted, IsPrintedEntries, IsPrintedWhole, IsProgramAt, IsRefusedAt, IsRefusedEntries, IsRefusedPrinting, IsRefusedWhole, IsTooMany, IsUnknownIn, IsUnknownOf, replaced}
use Rattle.asl_code.specs.declared.image.Image.{Image}
use Rattle.asl_command_line.specs.declared.command.Replacement.{Replacement}
use Rattle.asl_map.specs.declared.map.Map.{Map}
use Rattle.asl_map.specs.Mapped.{IsMapped}
use Rattle.asl_map.specs.Names.{function_name}
use Rattle.asl_syntax.specs.declared.fault.SyntaxFault.TheVariants as syntax
use Rattle.asl_tool.specs.Compile.{IsProgramFor, IsRefusedSource}

module _ {X : Type 0} (bytes : X → List ℕ) (source : List ℕ) (k : Option ℕ) (externs : List Replacement) where
  pub printed_none : (checks : Bool) (xs : List X) (text : List ℕ) → length xs ≡ 0 → IsPrintedWhole source k checks (map bytes xs) externs text → IsPrinted source k checks (map bytes xs) externs text
  printed_none checks [] text none h = h
  printed_none checks (x ∷ xs) text none h = absurd (omega (arith, none))

  pub refused_none : (xs : List X) (f : CommandFault) → length xs ≡ 0 → IsRefusedWhole source k externs f → IsRefusedPrinting source k (map bytes xs) externs f
  refused_none [] f none h = h
  refused_none (x ∷ xs) f none h = absurd (omega (arith, none))

  pub printed_some : (checks : Bool) (xs : List X) (text : List ℕ) → 0 < length xs → IsPrintedEntries source k checks (map bytes xs) externs text → IsPrinted source k checks (map bytes xs) externs text
  printed_some checks [] text some h = absurd (omega (arith, some))
  printed_some checks (x ∷ xs) text some h = h

  pub refused_some : (xs : List X) (f : CommandFault) → 0 < length xs → IsRefusedEntries source k (map bytes xs) externs f → IsRefusedPrinting source k (map bytes xs) externs f
  refused_some [] f some h = absurd (omega (arith, some))
  refused_some (x ∷ xs) f some h = h

module _ (source : List ℕ) (k : Option ℕ) (names : List (List ℕ)) (externs : List Replacement) (w : Whole) (all : List ℕ) (is : IsWhole source names w) (same : all ≡ w.text.items) where
  pub printed_of : (checks : Bool) (text : List ℕ) → IsPrintedWhole all k checks names externs text → IsPrintedEntries source k checks names externs text
  printed_of checks text h = (is.entries, is.named, subst (λ (s : List ℕ). IsPrintedWhole s k checks names externs text) (same ∙ is.text) h)

  pub refused_of : (f : CommandFault) → IsRefusedWhole all k externs f → IsRefusedEntries source k names externs f
  refused_of f h = inr (is.entries, is.named, subst (λ (s : List ℕ). IsRefusedWhole s k externs f) (same ∙ is.text) h)

-- where a program is inferred, lack of memory may be told
pub memory_whole : (source : List ℕ) (k : Option ℕ) (image : Image) → IsProgramAt source k image → IsRefusedAt source k fault.OutOfMemory
memory_whole source None image p = (p.0, p.1, (image, p.2), λ t. absurd t)
memory_whole source (Some k) image p = (image, subst (λ (n : ℕ). IsProgramFor source n image) p.1 p.2)

-- what may be told of the text of a program that is inferred
pub text_refused : (source : List ℕ) (k : Option ℕ) (externs : List Replacement) (image : Image) (f : CommandFault) → IsProgramAt source k image → ((f ≡ fault.OutOfMemory) ⊎ IsUnknownOf source externs f) → IsRefusedWhole source k externs f
text_refused source k externs image f p (inl memory) = inl (subst (λ (g : CommandFault). IsRefusedAt source k g) (sym memory) (memory_whole source k image p))
text_refused source k externs image f p (inr unknown) = inr unknown

-- a refusal by the map is one by the source
pub unknown_of : (source : List ℕ) (m : Map) (externs : List Replacement) (f : CommandFault) → IsMapped source m → ((f ≡ fault.OutOfMemory) ⊎ IsUnknownIn m externs f) → (f ≡ fault.OutOfMemory) ⊎ IsUnknownOf source externs f
unknown_of source m externs f mapped (inl memory) = inl memory
unknown_of source m externs f mapped (inr unknown) = inr (m, mapped, unknown)

-- a function that the map does not have is one that is to be called in C
pub unknown_function : (m : Map) (externs : List Replacement) (r : Replacement) (i : ℕ) (f : CommandFault) → i < length externs → r ≡ get_or externs i r
    → f ≡ fault.Source (syntax.Unknown (take 64 (replaced r))) → ((function : ℕ) → function < 256 → function_name m function ≢ Some (replaced r)) → IsUnknownIn m externs f
unknown_function m externs r i f below at is none = (r, (i, below, sym at), is, none)

-- where some region needs too many locks, the refusal names it
pub too_many : (source : List ℕ) (k : ℕ) (f : CommandFault) → IsTooMany f → IsRefusedSource source k f → (region : _) × HasRefusedTree source k (infer.TooManyLocks region)
too_many source k (fault.Infer (infer.TooManyLocks region)) t r = (region, r)
too_many source k (fault.Infer (infer.Registers function)) t r = absurd t
too_many source k (fault.Infer infer.CodeSize) t r = absurd t
too_many source k (fault.Infer (infer.AccessOutsideSection function pc)) t r = absurd t
too_many source k (fault.Infer infer.TooManyClasses) t r = absurd t
too_many source k (fault.Infer infer.OutOfMemory) t r = absurd t
too_many source k f t r = absurd t
