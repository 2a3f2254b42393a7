use Rattle.std.proofs.Common.{◌∙◌, sym, ap, arith}
use Rattle.asl_turns.specs.Turn.{Word, Turn}
use Rattle.asl_turns.proofs.Moves.{joins, looks}
use Rattle.asl_turns.proofs.turns.Turns.join.Goals as goal

pub join_seat-requires : goal.join_seat-requires
join_seat-requires c =
    let same = ap (λ (t : Turn). t.of) c.seat.view_is ∙ c.requires.seat ∙ sym c.self.view_is in
    let other = ap (λ (t : Turn). t.of) c.other.view_is ∙ c.requires.other ∙ sym c.self.view_is in
    let words = c.self.invariant.1 in (
      ap (λ (w : Word). w.table) same,
      ap (λ (w : Word). w.table) other,
      c.other.invariant.1,
      omega arith,
      joins c.self.inside.table.shared.key c.seat.inside.seat.id c.other.inside.seat.id c.seat.inside.seat.me.0 c.other.inside.seat.me.0
          (ap (λ (w : Word). w.limit) same ∙ sym c.self.invariant.0),
    )

pub load-requires : goal.load-requires
load-requires c =
    let same = ap (λ (t : Turn). t.of) c.seat.view_is ∙ c.requires.seat ∙ sym c.self.view_is in
    let words = c.self.invariant.1 in (
      c.join_seat.ensures.0 ∙ ap (λ (w : Word). w.table) same,
      omega arith,
      looks c.self.inside.table.shared.key c.self.inside.table.shared.table_id.slots c.join_seat.new.seat.id c.join_seat.new.seat.me,
    )
