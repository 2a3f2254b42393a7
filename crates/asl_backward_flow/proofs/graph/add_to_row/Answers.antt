use Rattle.std.proofs.Common.{arith}
use Rattle.asl_backward_flow.proofs.Rows.{row_pushed}
use Rattle.asl_backward_flow.proofs.graph.add_to_row.Goals as goal

pub returns-clause-rows : goal.returns-clause-rows
returns-clause-rows c = row_pushed (λ r. r.items) c.args.rows.now.items c.args.number c.index_mut.result.now c.push.new.self c.args.pc (omega (arith, c.requires)) c.index_mut.ensures.value c.in_ok-push.ensures.items
