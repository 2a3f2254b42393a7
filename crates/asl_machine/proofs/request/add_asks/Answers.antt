use Rattle.std.proofs.Common.{rules}
use Rattle.asl_machine.proofs.Asking.{asks_some, asks_none}
use Rattle.asl_machine.proofs.request.add_asks.Goals as goal

pub returns-in-Some-clause-added : goal.returns-in-Some-clause-added
returns-in-Some-clause-added c = search (rules, asks_some)

pub returns-in-None-clause-added : goal.returns-in-None-clause-added
returns-in-None-clause-added c = search (rules, asks_none)
