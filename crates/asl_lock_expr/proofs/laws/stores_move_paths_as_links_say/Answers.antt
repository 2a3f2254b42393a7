use Rattle.asl_lock_expr.proofs.Walks.{last_hit}
use Rattle.asl_lock_expr.proofs.laws.stores_move_paths_as_links_say.Goals as goal

pub returns : goal.returns
returns c = last_hit
