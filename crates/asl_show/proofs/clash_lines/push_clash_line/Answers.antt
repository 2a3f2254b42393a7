use Rattle.std.proofs.Common.{string_bytes}
use Rattle.asl_show.specs.Nodes.{asker_text, clashing_text}
use Rattle.asl_show.proofs.Texts.{grown}
use Rattle.asl_show.proofs.clash_lines.push_clash_line.Goals as goal

pub returns : goal.returns
returns c =
    grown c.push_clashing.result (string_bytes c.args.text.now) (string_bytes c.push_asker.new.text) (string_bytes c.push_clashing.new.text)
    (asker_text c.args.t c.args.node) (clashing_text c.args.name.now c.args.other c.args.held.now) c.in_ok-push_asker.ensures c.push_clashing.ensures
