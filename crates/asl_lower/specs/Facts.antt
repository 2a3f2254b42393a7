-- What holds of each lowering (docs/SOURCE.md, "Templates"). All of it is a proposition, so whoever holds a `Lowering` has
-- it, though not the program that was lowered.
use Rattle.std.specs.Prelude.{◌≡◌, ◌≢◌, ℕ, suc, ◌+◌, ◌<◌, ◌↔◌, IsTrue, [], ◌∷◌, List, length, Some, slice_get, sum_by}
use Rattle.asl_code.specs.declared.image.Function as entry
use Rattle.asl_code.specs.declared.instr.Instr.{Instr}
use Rattle.asl_code.specs.declared.instr.Instr.TheVariants as instr
use Rattle.asl_lower.specs.declared.section.Section.{Section}
use Rattle.asl_lower.specs.Lowered.{Lowered}
use Rattle.asl_lower.specs.OpenSections.{open_at, open_behind, is_among, sites_before, sections_before, start_of, owner_of, returned, acquire_of, release_of, InBody, InSection, IsSection, FlowsTo}
use Rattle.asl_lower.specs.Operands.{AreOperandsThere}
use Rattle.asl_lower.specs.Limits.{HasMain, KeepsLimits}

-- the bodies part the code: they have its length together, each pc lies in that of its owner, and in no other
pub record IsParted (l : Lowered) : Type 0 where
  pub total : sum_by (λ (f : entry.Function). f.len) l.functions ≡ length l.code
  pub owned : (pc : ℕ) → pc < length l.code → InBody l (owner_of l.functions pc) pc
  pub one_body : (pc a b : ℕ) → InBody l a pc → InBody l b pc → a ≡ b
  pub in_code : (pc number : ℕ) → InBody l number pc → pc < length l.code

-- what is open where control continues is what the instruction leaves open: an `acq` opens its section, a `rel` closes the innermost, and
-- all others change nothing; nothing is open where a body begins and at a `ret`; a section is open just where the pc lies in it (`opened`)
pub record IsNested (l : Lowered) : Type 0 where
  pub steps : (pc to : ℕ) (i : Instr) → slice_get l.code pc ≡ Some i → FlowsTo i pc to → open_at l.code to ≡ open_behind (Some i) (open_at l.code pc)
  pub leaves : (pc : ℕ) → slice_get l.code pc ≡ Some instr.Release → open_at l.code pc ≢ []
  pub starts : (number : ℕ) (f : entry.Function) → slice_get l.functions number ≡ Some f → open_at l.code (start_of l.functions number) ≡ []
  pub returns : (pc from : ℕ) → slice_get l.code pc ≡ Some (instr.Return from) → open_at l.code pc ≡ []
  pub opened : (pc number : ℕ) → pc < length l.code → IsTrue (is_among (open_at l.code pc) number) ↔ InSection l number pc

-- each section of the table is in the code, each `acq` is that of its section, and each `rel` that of the innermost
-- open one
pub record HasSections (l : Lowered) : Type 0 where
  pub there : (number : ℕ) → number < length l.sections → IsSection l number
  pub entered : (pc number : ℕ) → slice_get l.code pc ≡ Some (instr.Acquire number) → acquire_of l number ≡ Some pc
  pub left : (pc number : ℕ) (around : List ℕ) → slice_get l.code pc ≡ Some instr.Release → open_at l.code pc ≡ number ∷ around → release_of l number ≡ Some pc

-- a `ret` stands at the end of each body, and only there
pub record ReturnsLast (l : Lowered) : Type 0 where
  pub there : (number last : ℕ) (f : entry.Function) → slice_get l.functions number ≡ Some f → start_of l.functions number + f.len ≡ suc last → slice_get l.code last ≡ Some (instr.Return (returned l number))
  pub only_there : (pc number from : ℕ) (f : entry.Function) → slice_get l.functions number ≡ Some f → InBody l number pc → slice_get l.code pc ≡ Some (instr.Return from) → suc pc ≡ start_of l.functions number + f.len

-- control stays in the body, and in a section until its `rel`
pub record StaysInside (l : Lowered) : Type 0 where
  pub body : (pc to number : ℕ) (i : Instr) → InBody l number pc → slice_get l.code pc ≡ Some i → FlowsTo i pc to → InBody l number to
  pub section : (pc to number : ℕ) (i : Instr) (s : Section) → slice_get l.sections number ≡ Some s → InSection l number pc → pc ≢ s.release → slice_get l.code pc ≡ Some i → FlowsTo i pc to → InSection l number to

-- sites and sections are numbered in the order of the code, with no gap
pub record IsNumbered (l : Lowered) : Type 0 where
  pub sites : (pc to cells site : ℕ) → slice_get l.code pc ≡ Some (instr.New to cells site) → site ≡ sites_before l.code pc
  pub sections : (pc number : ℕ) → slice_get l.code pc ≡ Some (instr.Acquire number) → number ≡ sections_before l.code pc
  pub all_sites : sites_before l.code (length l.code) ≡ l.sites
  pub all_sections : sections_before l.code (length l.code) ≡ length l.sections
  pub known_sites : (pc to cells site : ℕ) → slice_get l.code pc ≡ Some (instr.New to cells site) → site < l.sites

-- all of this, and what the instructions name is there, and the limits are kept
pub record HasLayout (l : Lowered) : Type 0 where
  pub parted : IsParted l
  pub nested : IsNested l
  pub sections : HasSections l
  pub returns : ReturnsLast l
  pub inside : StaysInside l
  pub numbered : IsNumbered l
  pub operands : AreOperandsThere l
  pub limits : KeepsLimits l
  pub main : HasMain l
