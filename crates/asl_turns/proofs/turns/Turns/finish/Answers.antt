use Rattle.std.proofs.Common.{◌∙◌, ap}
use Rattle.asl_turns.specs.Turn.{Word}
use Rattle.asl_turns.proofs.Counting.{counted}
use Rattle.asl_turns.proofs.LastSeat.{KnowsCount, finished}
use Rattle.asl_turns.proofs.turns.Turns.finish.Goals as goal

knows : (c : goal.After-min) → KnowsCount c.self.inside.limit c.min.result c.args.seat
knows c =
    finished c.self.inside.table.shared.key c.self.inside.limit c.word-word.result c.min.result c.seat.inside.seat.id c.self.invariant.0 _ c.seat.inside.seat.me.0 _ _ _
    c.seat.view_is c.requires.whole c.close_with-closed.ensures.values.2 c.word-word.ensures c.min.ensures

pub returns-clause-tickets : goal.returns-clause-tickets
returns-clause-tickets c = (knows c).tickets

pub returns-clause-count : goal.returns-clause-count
returns-clause-count c = counted c.min.result c.args.seat.tickets (knows c).tickets

pub returns-clause-spent : goal.returns-clause-spent
returns-clause-spent c = λ some. (knows c).spent some ∙ ap (λ (w : Word). w.limit) c.self.view_is
