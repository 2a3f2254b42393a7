use Rattle.std.proofs.lemmas.Map.Text.{btree_map_updates_str}
use Rattle.asl_command_line.proofs.Externs.{hold_more}
use Rattle.asl_command_line.proofs.extern_words.add_text.Goals as goal

pub returns : goal.returns
returns c all h =
    hold_more c.args.held.now c.insert.new.self c.args.text.now all
    (λ q. btree_map_updates_str c.args.text.now c.args.held.now c.insert.new.self _ c.in_ok-insert.ensures.updates q) h
