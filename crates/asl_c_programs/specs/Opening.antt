-- Which program bytes or a source open, and why they open none.
use Rattle.std.specs.Prelude.{◌≡◌, ◌<◌, ◌≤◌, ◌⊎◌, ℕ, List, Option, None, Some}
use Rattle.asl_code.specs.declared.image.Image.{Image}
use Rattle.asl_opening.specs.Opening.{IsProgram, WhyNotProgram}
use Rattle.asl_syntax.specs.Tree.{Item}
use Rattle.asl_syntax.specs.Parsed.{Parses}
use Rattle.asl_syntax.specs.declared.fault.SyntaxFault.TheVariants as syntax_fault
use Rattle.asl_lower.specs.Lowered.{Lowered, IsLowering}
use Rattle.asl_points_to.specs.Classes.{AreClasses}
use Rattle.asl_map.specs.Mapped.{IsMapped}
use Rattle.asl_emitter.specs.declared.fault.InferFault.TheVariants as infer_fault
use Rattle.asl_compile.specs.declared.fault.CompileFault.{CompileFault}
use Rattle.asl_compile.specs.declared.fault.CompileFault.TheVariants as compile_fault
use Rattle.asl_compile.specs.Compiled.{Compiles, IsRefusedSource}
use Rattle.asl_c_programs.specs.declared.opened.Opened.{Opened}
use Rattle.asl_c_programs.specs.declared.opened.SourceFacts.{SourceFacts}

-- ---- bytes

-- the program of the bytes, of whose source nothing is known
pub record IsOpened (bytes : List ℕ) (o : Opened) : Type 0 where
  pub read : IsProgram bytes o.program
  pub alone : o.facts ≡ None

-- the bytes are not read as a program; or they are, and 2: there was no memory to keep it
abbrev pub WhyNotOpened : List ℕ → ℕ → Type 0
WhyNotOpened bytes status = WhyNotProgram bytes status ⊎ ((program : Image) × IsProgram bytes program × (status ≡ 2))

-- ---- a source

-- the map and the classes of the source
pub record AreFacts (source : List ℕ) (f : SourceFacts) : Type 0 where
  pub mapped : IsMapped source f.map
  pub tree : List Item
  pub parses : Parses source tree
  pub lowering : Lowered
  pub lowers : IsLowering tree lowering
  pub classes : AreClasses lowering f.classes

-- they are known of the program
abbrev pub Knows : List ℕ → Opened → Type 0
Knows source o = (facts : SourceFacts) × (o.facts ≡ Some facts) × AreFacts source facts

-- the program of the source, with paths of at most so many operations, and what is known of the source
pub record IsCompiled (source : List ℕ) (k_limit : ℕ) (o : Opened) : Type 0 where
  pub compiles : Compiles source k_limit o.program
  pub known : Knows source o

-- memory was all that was wanting
abbrev pub IsWantOfMemory : CompileFault → Type 0
IsWantOfMemory (compile_fault.Source cause) = cause ≡ syntax_fault.OutOfMemory
IsWantOfMemory (compile_fault.Infer cause) = cause ≡ infer_fault.OutOfMemory

-- the source has a fault other than lack of memory
abbrev pub IsNoSource : List ℕ → ℕ → Type 0
IsNoSource source k_limit = (fault : CompileFault) × IsRefusedSource source k_limit fault × (IsWantOfMemory fault → ⊥)

-- lack of memory hides what the refusal of `compile` says that it hides
abbrev pub IsUncompiled : List ℕ → ℕ → Type 0
IsUncompiled source k_limit = (fault : CompileFault) × IsRefusedSource source k_limit fault × IsWantOfMemory fault

-- 22: the source is refused; else 2: there was no memory to know whether it is
abbrev pub WhyNotSource : List ℕ → ℕ → ℕ → Type 0
WhyNotSource source k_limit status = ((status ≡ 22) × IsNoSource source k_limit) ⊎ ((status ≡ 2) × IsUncompiled source k_limit)

-- 23: the paths are asked to be too long; else the source has no program; or it has, and 2: there was no memory to keep it
abbrev pub WhyNotCompiled : List ℕ → ℕ → ℕ → Type 0
WhyNotCompiled source k_limit status =
    ((status ≡ 23) × (8 < k_limit))
    ⊎ ((k_limit ≤ 8) × WhyNotSource source k_limit status)
    ⊎ ((k_limit ≤ 8) × ((program : Image) × Compiles source k_limit program × (status ≡ 2)))
