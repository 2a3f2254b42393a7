use Rattle.std.proofs.Common.{subst}
use Rattle.asl_tool.specs.Streams.{Tells}
use Rattle.asl.proofs.process.say_no_memory.Goals as goal

pub returns-clause-told : goal.returns-clause-told
returns-clause-told g c =
    subst (Tells (g.E.ByteSink.room c.args.errors.now) (g.E.Write.contents c.args.errors.now) (g.E.Write.contents c.write_whole.new.writer))
    c.as_bytes.ensures.value c.write_whole.ensures.told
