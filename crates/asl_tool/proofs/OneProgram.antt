-- An input is one program, or refused for one fault: the laws of texts and of images, for the input of a command.
use Rattle.std.proofs.Common.{◌≡◌, ◌≢◌, ℕ, ◌<◌, ◌⊎◌, inl, inr, List, take, codes, All, Result, Ok, Err, refl, sym, ap, ◌∙◌, subst}
use Rattle.std.proofs.lemmas.Bool.{both_ways, cases_Bool}
use Rattle.std.proofs.lemmas.Slice.Eq.{bytes_eq-Decides}
use Rattle.std.specs.Str.{bytes_eq}
use Rattle.asl_code.specs.declared.image.Image.{Image}
use Rattle.asl_assembler.specs.declared.assembly.AsmFault.{AsmFault}
use Rattle.asl_assembler.specs.declared.assembly.AsmFault.TheVariants as asm
use Rattle.asl_assembler.specs.Faults as text
use Rattle.asl_loader.specs.declared.fault.LoadFault.{LoadFault}
use Rattle.asl_loader.specs.declared.fault.LoadFault.TheVariants as load
use Rattle.asl_loader.specs.Faults as bytes
use Rattle.asl_tool.specs.declared.input_program.ProgramFault.{ProgramFault}
use Rattle.asl_tool.specs.declared.input_program.ProgramFault.TheVariants as program
use Rattle.asl_tool.specs.declared.command_fault.CommandFault.TheVariants as fault
use Rattle.asl_tool.specs.Program.{BeginsAsImage, IsProgram, IsNoProgram}
use Rattle.asl_tool.specs.Outcome.{IsWantOfMemory}

-- what the laws of texts and of bytes say
abbrev pub TextsAreOne : Type 0
TextsAreOne = (t : List ℕ) (outcome other : Result Image AsmFault) → text.IsOutcome t outcome → text.IsOutcome t other → outcome ≡ other

abbrev pub TextsHaveOne : Type 0
TextsHaveOne = (t : List ℕ) → (outcome : Result Image AsmFault) × text.IsOutcome t outcome

abbrev pub BytesHaveOne : Type 0
BytesHaveOne = (bs : List ℕ) → All (λ b. b < 256) bs → (outcome : Result Image LoadFault) × bytes.IsOutcome bs outcome

abbrev pub BytesAreOne : Type 0
BytesAreOne = (bs : List ℕ) (outcome other : Result Image LoadFault) → All (λ b. b < 256) bs → bytes.IsOutcome bs outcome → bytes.IsOutcome bs other → outcome ≡ other

-- ---- the program of an input

pub begins : (input : List ℕ) → BeginsAsImage input ⊎ (BeginsAsImage input → ⊥)
begins input =
    let d = bytes_eq-Decides (take 4 input) (codes "ASLM") in
    elim (cases_Bool (bytes_eq (take 4 input) (codes "ASLM"))) [
      | inl so ↦ inl (d.0 so)
      | inr not_so ↦ inr (λ is. both_ways _ not_so (d.1 is))
    ]

-- the program that an input is, or why it is none
abbrev pub ProgramOutcome : List ℕ → Result Image ProgramFault → Type 0
ProgramOutcome input (Ok image) = IsProgram input image
ProgramOutcome input (Err f) = IsNoProgram input f × (IsWantOfMemory (fault.Program f) → ⊥)

abbrev pub from_bytes : Result Image LoadFault → Result Image ProgramFault
from_bytes (Ok image) = Ok image
from_bytes (Err f) = Err (program.Image f)

abbrev pub from_text : Result Image AsmFault → Result Image ProgramFault
from_text (Ok image) = Ok image
from_text (Err f) = Err (program.Text f)

pub no_memory_image : (f : LoadFault) → (IsWantOfMemory (fault.Program (program.Image f)) → ⊥) → f ≢ load.OutOfMemory
no_memory_image f tells e = tells (subst (λ (g : LoadFault). IsWantOfMemory (fault.Program (program.Image g))) (sym e) tt)

pub no_memory_text : (f : AsmFault) → (IsWantOfMemory (fault.Program (program.Text f)) → ⊥) → f ≢ asm.OutOfMemory
no_memory_text f tells e = tells (subst (λ (g : AsmFault). IsWantOfMemory (fault.Program (program.Text g))) (sym e) tt)

as_bytes : (input : List ℕ) (o : Result Image ProgramFault) → BeginsAsImage input → ProgramOutcome input o → (r : Result Image LoadFault) × (o ≡ from_bytes r) × bytes.IsOutcome input r
as_bytes input (Ok image) y p = let k = p.as_image y in (Ok image, refl, k)
as_bytes input (Err (program.Image f)) y p = (Err f, refl, (p.0.1, no_memory_image f p.1))
as_bytes input (Err (program.Text f)) y p = absurd (p.0.0 y)

pub as_text : (input : List ℕ) (o : Result Image ProgramFault) → (BeginsAsImage input → ⊥) → ProgramOutcome input o → (r : Result Image AsmFault) × (o ≡ from_text r) × text.IsOutcome input r
as_text input (Ok image) n p = let k = p.as_text n in (Ok image, refl, k)
as_text input (Err (program.Image f)) n p = absurd (n p.0.0)
as_text input (Err (program.Text f)) n p = (Err f, refl, (p.0.1, no_memory_text f p.1))

pub program_one : TextsAreOne → BytesAreOne → (input : List ℕ) (o p : Result Image ProgramFault) → All (λ b. b < 256) input → ProgramOutcome input o → ProgramOutcome input p → o ≡ p
program_one texts bytes input o p all x z =
    elim (begins input) [
      | inl y ↦ (let a = as_bytes input o y x in let b = as_bytes input p y z in
          a.1 ∙ ap from_bytes (bytes input a.0 b.0 all a.2 b.2) ∙ sym b.1)
      | inr n ↦ (let a = as_text input o n x in let b = as_text input p n z in
          a.1 ∙ ap from_text (texts input a.0 b.0 a.2 b.2) ∙ sym b.1)
    ]
