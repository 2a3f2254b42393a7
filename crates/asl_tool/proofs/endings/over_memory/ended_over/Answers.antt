use Rattle.std.proofs.Common.{inl, inr, None, Some, map, string_bytes, subst}
use Rattle.asl_command_line.specs.Words.{AsksFor}
use Rattle.asl_command_line.specs.declared.command.Invocation.TheVariants.{Alone, Help, Version, WrongUsage}
use Rattle.asl_tool.proofs.endings.over_memory.ended_over.Goals as goal

pub returns-in-Ok-Alone : goal.returns-in-Ok-Alone
returns-in-Ok-Alone c =
    let asks = subst (AsksFor (map string_bytes c.args.words.now)) c.in-Ok-Alone.field-0-is c.in-Ok-Alone.ensures in
    record { invocation = Some (Alone c.in-Ok-Alone.command); is_asked = asks; is_ending = c.command_over.ensures }

pub returns-in-Ok-Help : goal.returns-in-Ok-Help
returns-in-Ok-Help c =
    let asks = subst (AsksFor (map string_bytes c.args.words.now)) c.in-Ok-Help.field-0-is c.in-Ok-Help.ensures in
    elim c.shown_over.ensures [
      | inl shown ↦ record { invocation = Some (Help c.in-Ok-Help.page); is_asked = asks; is_ending = shown }
      | inr none ↦ record { invocation = None; is_asked = tt; is_ending = none }
    ]

pub returns-in-Ok-Version : goal.returns-in-Ok-Version
returns-in-Ok-Version c =
    let asks = subst (AsksFor (map string_bytes c.args.words.now)) c.in-Ok-Version.field-0-is c.in-Ok-Version.ensures in
    elim c.shown_over-in-Ok-Version.ensures [
      | inl shown ↦ record { invocation = Some Version; is_asked = asks; is_ending = shown }
      | inr none ↦ record { invocation = None; is_asked = tt; is_ending = none }
    ]

pub returns-in-Ok-WrongUsage : goal.returns-in-Ok-WrongUsage
returns-in-Ok-WrongUsage c =
    let asks = subst (AsksFor (map string_bytes c.args.words.now)) c.in-Ok-WrongUsage.field-0-is c.in-Ok-WrongUsage.ensures in
    record { invocation = Some (WrongUsage c.in-Ok-WrongUsage.text); is_asked = asks; is_ending = (c.undone.ensures.ending, c.undone.ensures.output) }

pub returns-in-Err : goal.returns-in-Err
returns-in-Err c = record { invocation = None; is_asked = tt; is_ending = (c.undone-in-Err.ensures.ending, c.undone-in-Err.ensures.output) }
