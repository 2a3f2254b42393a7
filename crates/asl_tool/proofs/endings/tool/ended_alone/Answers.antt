use Rattle.std.proofs.Common.{None, Some, map, string_bytes, refl, subst}
use Rattle.asl_command_line.specs.Words.{AsksFor}
use Rattle.asl_command_line.specs.declared.command.Invocation.TheVariants.{Alone, Help, Version, WrongUsage}
use Rattle.asl_tool.proofs.endings.tool.ended_alone.Goals as goal

pub returns-in-Ok-Alone-clause-status : goal.returns-in-Ok-Alone-clause-status
returns-in-Ok-Alone-clause-status g c =
    let asks = subst (AsksFor (map string_bytes c.args.words.now)) c.in-Ok-Alone.field-0-is c.in-Ok-Alone.ensures in
    record { invocation = Some (Alone c.in-Ok-Alone.command); waits_not = tt; is_asked = asks; is_status = c.command_ending.ensures }

pub returns-in-Ok-Help-clause-status : goal.returns-in-Ok-Help-clause-status
returns-in-Ok-Help-clause-status g c =
    let asks = subst (AsksFor (map string_bytes c.args.words.now)) c.in-Ok-Help.field-0-is c.in-Ok-Help.ensures in
    record { invocation = Some (Help c.in-Ok-Help.page); waits_not = tt; is_asked = asks; is_status = (refl, c.shown.ensures) }

pub returns-in-Ok-WrongUsage-clause-status : goal.returns-in-Ok-WrongUsage-clause-status
returns-in-Ok-WrongUsage-clause-status g c =
    let asks = subst (AsksFor (map string_bytes c.args.words.now)) c.in-Ok-WrongUsage.field-0-is c.in-Ok-WrongUsage.ensures in
    record { invocation = Some (WrongUsage c.in-Ok-WrongUsage.text); waits_not = tt; is_asked = asks; is_status = (refl, (refl, (refl, refl))) }

pub returns-in-Ok-Version-clause-status : goal.returns-in-Ok-Version-clause-status
returns-in-Ok-Version-clause-status g c =
    let asks = subst (AsksFor (map string_bytes c.args.words.now)) c.in-Ok-Version.field-0-is c.in-Ok-Version.ensures in
    record { invocation = Some Version; waits_not = tt; is_asked = asks; is_status = (refl, c.shown-in-Ok-Version.ensures) }

pub returns-in-Err-clause-status : goal.returns-in-Err-clause-status
returns-in-Err-clause-status g c =
    record { invocation = None; waits_not = tt; is_asked = tt; is_status = (refl, (refl, (refl, refl))) }
