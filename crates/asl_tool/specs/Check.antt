-- What the command `check` answers (docs/ANALYSIS.md, "Lists of your own").
use Rattle.std.specs.Prelude.{◌≡◌, ◌≢◌, ◌⊎◌, ℕ, Bool, true, List, ◌∷◌, ◌++◌, All, length, codes}
use Rattle.std.specs.Fmt.{decimal}
use Rattle.asl_code.specs.declared.image.Image.{Image}
use Rattle.asl_syntax.specs.Tree.{Item}
use Rattle.asl_syntax.specs.Parsed.{Parses}
use Rattle.asl_syntax.specs.Fault as syntax
use Rattle.asl_soundness.specs.Safe.{NeverFaultsForLocks}
use Rattle.asl_atomicity.specs.Serial.{HasSerialRuns}
use Rattle.asl_atomicity.specs.Renamed.{HasSerialRunsUpTo}
use Rattle.asl_check.specs.Refused as lists
use Rattle.asl_check.specs.Missing.{LacksAll, IsBeforeLists}
use Rattle.asl_check.specs.declared.fault.CheckFault.{CheckFault}
use Rattle.asl_refusal_text.specs.FaultText.{check_lines}
use Rattle.asl_tool.specs.declared.input_program.ProgramFault.{ProgramFault}
use Rattle.asl_tool.specs.declared.command_fault.CommandFault.{CommandFault}
use Rattle.asl_tool.specs.declared.command_fault.CommandFault.TheVariants as fault
use Rattle.asl_tool.specs.Program.{IsProgram, IsNoProgram}

-- ---- the two sides of an input

-- the bytes have no 0
abbrev pub HasNoSides : List ℕ → Type 0
HasNoSides input = All (λ b. b ≢ 0) input

-- the input is a source side without a byte 0, that byte, and a program's side
pub record HasSides (input source program : List ℕ) : Type 0 where
  pub whole : input ≡ source ++ 0 ∷ program
  pub first : HasNoSides source

-- ---- what is checked

-- the first side is a source, the second a program with so many lists. The program is the source's but for its lists, and these are
-- enough for what its sections need, with paths of at most so many operations; no run of it faults for a missing lock, and its
-- sections are atomic
pub record AreEnough (source program : List ℕ) (k_limit sections : ℕ) : Type 0 where
  pub tree : List Item
  pub image : Image
  pub parsed : Parses source tree
  pub read : IsProgram program image
  pub checked : lists.IsChecked tree k_limit image
  pub safe : NeverFaultsForLocks image
  pub atomic : (count : ℕ) → HasSerialRuns image count
  pub atomic_up_to_numbers : (count : ℕ) → HasSerialRunsUpTo image count
  pub count : sections ≡ length image.lists

-- the line of so many sections
abbrev pub checked_line : ℕ → List ℕ
checked_line sections = codes "checked " ++ decimal sections ++ codes " sections\n"

-- the lists of the input's program are enough for its source, and the output says how many there are
pub record IsChecked (input : List ℕ) (k_limit : ℕ) (output : List ℕ) : Type 0 where
  pub source : List ℕ
  pub program : List ℕ
  pub sections : ℕ
  pub sides : HasSides input source program
  pub enough : AreEnough source program k_limit sections
  pub output_is : output ≡ checked_line sections

-- ---- why an input is refused

-- the source is one, and the program is none
pub record HasNoProgram (source program : List ℕ) (cause : ProgramFault) : Type 0 where
  pub tree : List Item
  pub parsed : Parses source tree
  pub refused : IsNoProgram program cause

-- both sides are what they should be, and the check refuses the two
pub record HasOtherLists (source program : List ℕ) (k_limit : ℕ) (cause : CheckFault) : Type 0 where
  pub tree : List Item
  pub image : Image
  pub parsed : Parses source tree
  pub read : IsProgram program image
  pub refused : lists.IsRefusedLists tree k_limit image cause

-- of what is refused before lists are judged there is no more to tell; else all that the lists lack is told where it is asked for
abbrev pub IsWholeAnswer : Bool → CheckFault → Type 0
IsWholeAnswer all cause = all ≡ true → IsBeforeLists cause

-- these are all that the lists of the program lack, and the first is what the check refuses it with
abbrev pub AreMissing : List Item → Image → ℕ → CheckFault → List CheckFault → Type 0
AreMissing is image k_limit first rest = lists.IsRefusedLists is k_limit image first × LacksAll is k_limit image (first ∷ rest)

-- the same of two sides that are what they should be
pub record HasMissing (source program : List ℕ) (k_limit : ℕ) (first : CheckFault) (rest : List CheckFault) : Type 0 where
  pub tree : List Item
  pub image : Image
  pub parsed : Parses source tree
  pub read : IsProgram program image
  pub missing : AreMissing tree image k_limit first rest

-- what each refusal says of the two sides; lack of memory for the output comes only where the lists are enough, or where all that they
-- lack is asked for and they lack something
abbrev pub IsRefusedPair : List ℕ → List ℕ → ℕ → Bool → CommandFault → Type 0
IsRefusedPair source program k_limit all (fault.Source cause) = syntax.IsFault source cause
IsRefusedPair source program k_limit all (fault.Program cause) = HasNoProgram source program cause
IsRefusedPair source program k_limit all (fault.Check cause) = HasOtherLists source program k_limit cause × IsWholeAnswer all cause
IsRefusedPair source program k_limit all (fault.Missing first lines) =
    (all ≡ true) × ((rest : List CheckFault) × HasMissing source program k_limit first rest × (lines.items ≡ check_lines (first ∷ rest)))
IsRefusedPair source program k_limit all fault.OutOfMemory =
    ((sections : ℕ) × AreEnough source program k_limit sections)
    ⊎ ((all ≡ true) × ((first : CheckFault) × (rest : List CheckFault) × HasMissing source program k_limit first rest))
IsRefusedPair source program k_limit all f = ⊥

-- the same of a tree and a program that the check refuses
abbrev pub IsRefusedProgram : List Item → Image → ℕ → Bool → CommandFault → Type 0
IsRefusedProgram is image k_limit all (fault.Check cause) = lists.IsRefusedLists is k_limit image cause × IsWholeAnswer all cause
IsRefusedProgram is image k_limit all (fault.Missing first lines) =
    (all ≡ true) × ((rest : List CheckFault) × AreMissing is image k_limit first rest × (lines.items ≡ check_lines (first ∷ rest)))
IsRefusedProgram is image k_limit all fault.OutOfMemory = (all ≡ true) × ((first : CheckFault) × (rest : List CheckFault) × AreMissing is image k_limit first rest)
IsRefusedProgram is image k_limit all f = ⊥

-- the input has two sides, and they are refused
pub record HasRefusedPair (input : List ℕ) (k_limit : ℕ) (all : Bool) (f : CommandFault) : Type 0 where
  pub source : List ℕ
  pub program : List ℕ
  pub sides : HasSides input source program
  pub refused : IsRefusedPair source program k_limit all f

-- what each refusal of `check` says of the input
abbrev pub IsRefusedCheck : List ℕ → ℕ → Bool → CommandFault → Type 0
IsRefusedCheck input k_limit all fault.NoProgram = HasNoSides input
IsRefusedCheck input k_limit all f = HasRefusedPair input k_limit all f
