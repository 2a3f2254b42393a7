-- What is told of a text that is refused: why, where it is, its line and column, and with what a program continues there.
use Rattle.std.specs.Prelude.{◌≡◌, ◌≢◌, ℕ, ◌⊎◌, List, [], Bool, false, Option, None, IfSome, MatchOption}
use Rattle.asl_syntax.specs.declared.fault.SyntaxFault.TheVariants as syntax
use Rattle.asl_syntax.specs.Parsed.{HasTree}
use Rattle.asl_syntax.specs.Fault.{IsFault as IsSyntaxFault}
use Rattle.asl_emitter.specs.declared.fault.InferFault.TheVariants as infer
use Rattle.asl_emitter.specs.Sources.{IsAcceptedSource, HasRefusedTree}
use Rattle.asl_assembler.specs.declared.assembly.AsmFault.{AsmFault}
use Rattle.asl_assembler.specs.declared.assembly.AsmFault.TheVariants as asm
use Rattle.asl_assembler.specs.Faults.{IsProgramText, IsFault as IsAsmFault}
use Rattle.asl_code.specs.declared.image.Image.{Image}
use Rattle.asl_diagnose_text.specs.declared.kind.TokenKind.{TokenKind}
use Rattle.asl_diagnose_text.specs.Position.{IsPosition}
use Rattle.asl_diagnose_text.specs.SyntaxPlaces.{IsSyntaxPlace, IsExpectedFor, HasFirstPlace}
use Rattle.asl_diagnose_text.specs.AssemblyPlaces.{IsAssemblyPlace}
use Rattle.asl_diagnose.specs.declared.diagnosis.Refusal.{Refusal}
use Rattle.asl_diagnose.specs.declared.diagnosis.Refusal.TheVariants as refusal
use Rattle.asl_diagnose.specs.declared.diagnosis.Diagnosis.{Diagnosis}
use Rattle.asl_diagnose.specs.declared.most.Bringers.{Bringers}
use Rattle.asl_diagnose.specs.Brought.{AreBringers}
use Rattle.asl_diagnose.specs.InferPlaces.{IsInferPlace}

-- the source is refused so
abbrev pub IsSourceRefusal : List ℕ → ℕ → Refusal → Type 0
IsSourceRefusal source k (refusal.Syntax fault) = IsSyntaxFault source fault × (fault ≢ syntax.OutOfMemory)
IsSourceRefusal source k (refusal.Infer fault) = HasRefusedTree source k fault × (fault ≢ infer.OutOfMemory)
IsSourceRefusal source k (refusal.Asm fault) = ⊥

-- where a refusal of a source is, and with what a program continues there
abbrev pub IsSourcePlace : List ℕ → Refusal → Diagnosis → Type 0
IsSourcePlace text (refusal.Syntax fault) d =
    IsSyntaxPlace text fault d.first d.at × IsExpectedFor text fault d.expected.items d.may_end
IsSourcePlace text (refusal.Infer fault) d = IsInferPlace text fault d.at
IsSourcePlace text (refusal.Asm fault) d = Unit {0}

-- a first place is told of a second declaration alone
abbrev pub HasFirst : Refusal → Option ℕ → Type 0
HasFirst (refusal.Syntax fault) first = HasFirstPlace fault first
HasFirst _ first = first ≡ None

-- kinds of token are told alone where a text stops being the beginning of a program
abbrev pub HasKinds : Refusal → List TokenKind → Bool → Type 0
HasKinds (refusal.Syntax (syntax.Grammar place)) kinds may_end = Unit {0}
HasKinds _ kinds may_end = (kinds ≡ []) × (may_end ≡ false)

-- statements are told of a region that needs too many locks alone, and bring most of them
abbrev pub HasBringers : List ℕ → ℕ → Refusal → Option Bringers → Type 0
HasBringers text k (refusal.Infer (infer.TooManyLocks r)) told = IfSome told (AreBringers text k r)
HasBringers text k _ told = told ≡ None

-- what is told of a source that is refused
pub record IsSourceDiagnosis (source : List ℕ) (k : ℕ) (d : Diagnosis) : Type 0 where
  pub refusal : IsSourceRefusal source k d.refusal
  pub place : IsSourcePlace source d.refusal d
  pub position : IsPosition source d.at d.line d.column
  pub first : HasFirst d.refusal d.first
  pub kinds : HasKinds d.refusal d.expected.items d.may_end
  pub bringers : HasBringers source k d.refusal d.bringers

-- what is answered for a source: nothing where it is accepted
abbrev pub IsSourceDiagnosed : List ℕ → ℕ → Option Diagnosis → Type 0
IsSourceDiagnosed source k told = MatchOption told (IsAcceptedSource source k) (IsSourceDiagnosis source k)

-- where lack of memory may hide the answer for a source: it has a tree, or it is to be listed with what a program continues
abbrev pub MayLackMemory : List ℕ → Type 0
MayLackMemory source = HasTree source ⊎ ((place : ℕ) × IsSyntaxFault source (syntax.Grammar place))

-- what is told of an assembly text that is refused
pub record IsAssemblyDiagnosis (text : List ℕ) (d : Diagnosis) : Type 0 where
  pub fault : AsmFault
  pub refusal : d.refusal ≡ refusal.Asm fault
  pub holds : IsAsmFault text fault
  pub real : fault ≢ asm.OutOfMemory
  pub place : IsAssemblyPlace text fault d.at
  pub position : IsPosition text d.at d.line d.column
  pub first : d.first ≡ None
  pub kinds : HasKinds d.refusal d.expected.items d.may_end
  pub bringers : d.bringers ≡ None

-- what is answered for an assembly text: nothing where it is a program
abbrev pub IsAssemblyDiagnosed : List ℕ → Option Diagnosis → Type 0
IsAssemblyDiagnosed text told = MatchOption told ((image : Image) × IsProgramText text image) (IsAssemblyDiagnosis text)
