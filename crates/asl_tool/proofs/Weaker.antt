-- What a run of the program leaves, where less is said of what stayed as it was, or of what standard error got.
use Rattle.std.proofs.Common.{ℕ, List, Option, Some, None, inl, inr}
use Rattle.asl_command_line.specs.declared.command.Invocation.{Invocation}
use Rattle.asl_command_line.specs.declared.command.Invocation.TheVariants.{Alone, Run, Help, Version, WrongUsage}
use Rattle.asl_tool.specs.declared.tool_fault.ToolFault.{ToolFault}
use Rattle.asl_tool.specs.declared.tool_fault.ToolFault.TheVariants as fault
use Rattle.asl_tool.specs.Tool.{Promise, Refuses, IsCommandStatus, IsTextStatus, IsStatus, EndsWith, EndsAlone}

refuses_weaker : (P Q : Type 0) (known : Option (List ℕ)) (room : Option ℕ) (old new : Option (List ℕ)) (promise : Promise) → (P → Q) → (f : ToolFault) → Refuses P known room old new promise f → Refuses Q known room old new promise f
refuses_weaker P Q known room old new promise h (fault.Read cause) r = (r.0, h r.1)
refuses_weaker P Q known room old new promise h (fault.Command cause) r = record { input = r.input; whole = r.whole; refused = r.refused; nothing = h r.nothing }
refuses_weaker P Q known room old new promise h (fault.Write cause) r = r
refuses_weaker P Q known room old new promise h fault.OutOfMemory r = r

command_weaker : (P Q : Type 0) (S T : List ℕ → Type 0) (known : Option (List ℕ)) (room : Option ℕ) (old new : Option (List ℕ)) (promise : Promise) (status : ℕ) → (P → Q) → ((line : List ℕ) → S line → T line)
    → IsCommandStatus P S known room old new promise status → IsCommandStatus Q T known room old new promise status
command_weaker P Q S T known room old new promise status h t (inl x) = inl x
command_weaker P Q S T known room old new promise status h t (inr (e, (f, r, s))) = inr (e, (f, refuses_weaker P Q known room old new promise h f r, t _ s))

text_weaker : (S T : List ℕ → Type 0) (room : Option ℕ) (old new : Option (List ℕ)) (text : List ℕ) (status : ℕ) → ((line : List ℕ) → S line → T line) → IsTextStatus S room old new text status → IsTextStatus T room old new text status
text_weaker S T room old new text status t (inl x) = inl x
text_weaker S T room old new text status t (inr (e, (f, lacks, part, s))) = inr (e, (f, lacks, part, t _ s))

status_weaker : (P Q U V : Type 0) (S T : List ℕ → Type 0) (known : Option (List ℕ)) (room : Option ℕ) (old new : Option (List ℕ)) (status : ℕ) → (U → V) → (P → Q) → ((line : List ℕ) → S line → T line) → (asked : Option Invocation)
    → IsStatus U P S known room old new status asked → IsStatus V Q T known room old new status asked
status_weaker P Q U V S T known room old new status g h t (Some (Alone command)) x = command_weaker P Q S T known room old new _ status h t x
status_weaker P Q U V S T known room old new status g h t (Some (Run team)) x = command_weaker P Q S T known room old new _ status h t x
status_weaker P Q U V S T known room old new status g h t (Some (Help page)) x = (g x.0, text_weaker S T room old new _ status t x.1)
status_weaker P Q U V S T known room old new status g h t (Some Version) x = (g x.0, text_weaker S T room old new _ status t x.1)
status_weaker P Q U V S T known room old new status g h t (Some (WrongUsage text)) x = (g x.0, (h x.1.0, (x.1.1.0, t _ x.1.1.1)))
status_weaker P Q U V S T known room old new status g h t None x = (g x.0, (h x.1.0, (x.1.1.0, t _ x.1.1.1)))

pub alone_weaker : (P Q U V : Type 0) (S T : List ℕ → Type 0) (words : List (List ℕ)) (known : Option (List ℕ)) (room : Option ℕ) (old new : Option (List ℕ)) (status : ℕ) → (U → V) → (P → Q) → ((line : List ℕ) → S line → T line)
    → EndsAlone words U P S known room old new status → EndsAlone words V Q T known room old new status
alone_weaker P Q U V S T words known room old new status g h t e =
    record { invocation = e.invocation; waits_not = e.waits_not; is_asked = e.is_asked; is_status = status_weaker P Q U V S T known room old new status g h t e.invocation e.is_status }

pub ends_weaker : (P Q U V : Type 0) (S T : List ℕ → Type 0) (words : List (List ℕ)) (known : Option (List ℕ)) (room : Option ℕ) (old new : Option (List ℕ)) (status : ℕ) → (U → V) → (P → Q) → ((line : List ℕ) → S line → T line)
    → EndsWith words U P S known room old new status → EndsWith words V Q T known room old new status
ends_weaker P Q U V S T words known room old new status g h t e =
    record { invocation = e.invocation; is_asked = e.is_asked; is_status = status_weaker P Q U V S T known room old new status g h t e.invocation e.is_status }
