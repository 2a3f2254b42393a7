use Rattle.asl_machine.proofs.Joins.{joined_found, joined_unfound}
use Rattle.asl_machine.proofs.request.add.Goals as goal

pub returns-in-Some : goal.returns-in-Some
returns-in-Some c = let f = joined_found _ c.args.node c.args.mode c.in-Some.i c.index_mut-ask.result.now c.in-Some.ensures in cc

pub returns-in_ok-push-in-None : goal.returns-in_ok-push-in-None
returns-in_ok-push-in-None c = let f = joined_unfound _ c.args.node c.args.mode c.in-None.ensures in cc (c.in_ok-push-in-None.ensures.items)
