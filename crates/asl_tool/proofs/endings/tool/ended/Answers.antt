use Rattle.std.proofs.Common.{None, Some, map, string_bytes, refl, subst}
use Rattle.asl_command_line.specs.Words.{AsksFor}
use Rattle.asl_command_line.specs.declared.command.Invocation.TheVariants.{Alone, Run, Help, Version, WrongUsage}
use Rattle.asl_tool.proofs.endings.tool.ended.Goals as goal

pub returns-in-Ok-Alone : goal.returns-in-Ok-Alone
returns-in-Ok-Alone g c =
    let asks = subst (AsksFor (map string_bytes c.args.words.now)) c.in-Ok-Alone.field-0-is c.in-Ok-Alone.ensures in
    record { invocation = Some (Alone c.in-Ok-Alone.command); is_asked = asks; is_status = c.command_ending.ensures }

pub returns-in-Ok-Run : goal.returns-in-Ok-Run
returns-in-Ok-Run g c =
    let asks = subst (AsksFor (map string_bytes c.args.words.now)) c.in-Ok-Run.field-0-is c.in-Ok-Run.ensures in
    record { invocation = Some (Run c.in-Ok-Run.team); is_asked = asks; is_status = c.run_ending.ensures }

pub returns-in-Ok-Help : goal.returns-in-Ok-Help
returns-in-Ok-Help g c =
    let asks = subst (AsksFor (map string_bytes c.args.words.now)) c.in-Ok-Help.field-0-is c.in-Ok-Help.ensures in
    record { invocation = Some (Help c.in-Ok-Help.page); is_asked = asks; is_status = (refl, c.shown.ensures) }

pub returns-in-Ok-WrongUsage : goal.returns-in-Ok-WrongUsage
returns-in-Ok-WrongUsage g c =
    let asks = subst (AsksFor (map string_bytes c.args.words.now)) c.in-Ok-WrongUsage.field-0-is c.in-Ok-WrongUsage.ensures in
    record { invocation = Some (WrongUsage c.in-Ok-WrongUsage.text); is_asked = asks; is_status = (refl, (refl, (refl, refl))) }

pub returns-in-Ok-Version : goal.returns-in-Ok-Version
returns-in-Ok-Version g c =
    let asks = subst (AsksFor (map string_bytes c.args.words.now)) c.in-Ok-Version.field-0-is c.in-Ok-Version.ensures in
    record { invocation = Some Version; is_asked = asks; is_status = (refl, c.shown-in-Ok-Version.ensures) }

pub returns-in-Err : goal.returns-in-Err
returns-in-Err g c =
    record { invocation = None; is_asked = tt; is_status = (refl, (refl, (refl, refl))) }
