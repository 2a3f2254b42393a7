use Rattle.std.proofs.Common.{arith}
use Rattle.asl_journal.proofs.Loads.{gets_found, gets_only, gets_refused}
use Rattle.asl_journal.proofs.journal_bytes.get.Goals as goal

pub returns-clause-found : goal.returns-clause-found
returns-clause-found c = gets_found c.args.bytes.now c.whole_of.result (λ i. omega (arith, c.type_inv.bytes i)) c.whole_of.ensures

pub returns-clause-only : goal.returns-clause-only
returns-clause-only c log spells = gets_only c.args.bytes.now c.whole_of.result log c.whole_of.ensures spells

pub returns-clause-refused : goal.returns-clause-refused
returns-clause-refused c = gets_refused c.args.bytes.now c.whole_of.result (λ i. omega (arith, c.type_inv.bytes i)) c.whole_of.ensures
