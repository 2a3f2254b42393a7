use Rattle.std.proofs.Common.{◌∙◌, sym, ap, arith}
use Rattle.asl_turns.specs.Turn.{Word, Turn}
use Rattle.asl_turns.proofs.Moves.{splits}
use Rattle.asl_turns.proofs.turns.Turns.split.Goals as goal

pub split_seat-new-requires : goal.split_seat-new-requires
split_seat-new-requires c =
    let same = ap (λ (t : Turn). t.of) c.seat.view_is ∙ c.requires ∙ sym c.self.view_is in
    let left = c.seat.invariant.0 in
    let words = c.self.invariant.1 in
    let enough = c.if-seat-lt2.false in
    (ap (λ (w : Word). w.table) same, omega arith, splits c.self.inside.table.shared.key c.seat.inside.seat.id c.seat.inside.seat.me.0 (omega arith))
