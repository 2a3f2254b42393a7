use Rattle.std.proofs.Common.{◌∙◌, sym, ap, arith}
use Rattle.asl_turns.specs.Turn.{Word, Turn}
use Rattle.asl_turns.proofs.Moves.{draws}
use Rattle.asl_turns.proofs.turns.Turns.draw.Goals as goal

pub fetch_add-found-requires : goal.fetch_add-found-requires
fetch_add-found-requires c =
    let same = ap (λ (t : Turn). t.of) c.seat.view_is ∙ c.requires ∙ sym c.self.view_is in
    let left = c.seat.invariant.0 in
    let some = c.if-seat-eq0.false in
    let words = c.self.invariant.1 in
    (ap (λ (w : Word). w.table) same, omega arith, draws c.self.inside.table.shared.key c.self.inside.table.shared.table_id.slots c.seat.inside.seat.id c.seat.inside.seat.me (omega arith))
