-- Machinery of the proofs, not of the promise: what has been emitted (src/output.rt), as the values that definitions
-- speak of (docs/SOURCE.md, "Templates").
use Rattle.std.specs.Prelude.{◌≡◌, List, ◌++◌, length}
use Rattle.asl_code.specs.declared.instr.Instr.{Instr}
use Rattle.asl_lower.specs.declared.section.Section.{Section}
use Rattle.asl_lower.specs.declared.output.Output.{Output}
use Rattle.asl_syntax.specs.Tree.{Statement}
use Rattle.asl_lower.specs.Names.{Scope}
use Rattle.asl_lower.specs.Place.{Place, past_stmt}
use Rattle.asl_lower.specs.Layout.{stmt_code, stmt_sections}

-- the place after all that has been emitted
abbrev pub place_of : Output → Place
place_of o = record { pc = length o.code.items; site = o.sites; section = length o.sections.items }

-- this code and these sections have been added, and the output is at the place after them
pub record Adds (old new : Output) (code : List Instr) (sections : List Section) (past : Place) : Type 0 where
  pub adds_code : new.code.items ≡ old.code.items ++ code
  pub adds_sections : new.sections.items ≡ old.sections.items ++ sections
  pub place : place_of new ≡ past

-- the code of this statement and its sections have been added
abbrev pub AddsStatement : Scope → Statement → Output → Output → Type 0
AddsStatement sc s old new = Adds old new (stmt_code sc s (place_of old)) (stmt_sections sc s (place_of old)) (past_stmt s (place_of old))
