use Rattle.std.proofs.Common.{◌≡◌}
use Rattle.asl_tool.proofs.Telling.{command_ends}
use Rattle.asl_tool.proofs.endings.tool.command_ending.Goals as goal

pub returns : goal.returns
returns g c =
    command_ends (c.perform-done.new.writer ≡ c.args.writer.now) _ _ _ _ _ c.perform-done.result c.ending_of.result c.perform-done.ensures.ok c.perform-done.ensures.err c.ending_of.ensures
