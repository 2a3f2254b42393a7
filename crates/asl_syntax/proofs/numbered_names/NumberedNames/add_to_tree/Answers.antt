use Rattle.std.proofs.lemmas.Map.Text.{btree_map_updates_str}
use Rattle.asl_syntax.proofs.numbered_names.NumberedNames.add_to_tree.Goals as goal

pub returns-clause-map : goal.returns-clause-map
returns-clause-map c = λ q. btree_map_updates_str c.args.name.now c.args.self.now.names c.insert.new.self _ c.in_ok-insert.ensures.updates q
