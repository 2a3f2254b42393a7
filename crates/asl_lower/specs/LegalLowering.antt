-- What each `Lowering` keeps (docs/SOURCE.md, "Templates").
use Rattle.std.specs.Prelude.{ℕ, ◌≤◌, length}
use Rattle.std.specs.List.{All}
use Rattle.asl_code.specs.declared.image.Function as entry
use Rattle.asl_lower.specs.declared.code_draft.CodeDraft.{CodeDraft}
use Rattle.asl_lower.specs.Lowered.{Lowered}
use Rattle.asl_lower.specs.Facts.{HasLayout}
use Rattle.asl_lower.specs.OpenSections.{IsBareAccess}

-- it is laid out as the lowering of a program that breaks no rule, with few registers, not too much code, and each access of a
-- bare function in a section
pub record IsLegalLowering (l : Lowered) : Type 0 where
  pub layout : HasLayout l
  pub few_registers : All (λ (f : entry.Function). f.regs ≤ 64) l.functions
  pub size : length l.code ≤ 65535
  pub inside : (function pc : ℕ) → ¬ IsBareAccess l function pc

-- machinery: what has been emitted (src/code_draft.rt), as a lowering
abbrev pub lowered_of : CodeDraft → Lowered
lowered_of d =
    record { globals = d.globals; functions = d.functions.items; main = d.main; code = d.out.code.items; sites = d.out.sites; sections = d.out.sections.items }
