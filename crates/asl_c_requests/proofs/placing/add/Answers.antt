use Rattle.std.proofs.Common.{sym, ap, ◌∙◌, arith}
use Rattle.std.proofs.lemmas.List.{drop-set-lt}
use Rattle.asl_mode_lanes.specs.declared.mode.Mode.{Mode}
use Rattle.asl_mode_lanes.specs.Mode.{join_of}
use Rattle.asl_c_requests.proofs.KindLaws.{kinds_joined, kinds_inserted}
use Rattle.asl_c_requests.proofs.WordLaws.{at_count, joined_in, inserted_in}
use Rattle.asl_c_requests.proofs.placing.add.Goals as goal

pub returns-then-is_at-clause-asks : goal.returns-then-is_at-clause-asks
returns-then-is_at-clause-asks c =
    joined_in _ _ _ _ _ _ _ c.place_for-place.ensures.value (sym c.is_at.ensures ∙ c.if-is_at.true)
    (at_count c.args.asks.now c.args.count c.place_for-place.result c.args.at (omega arith) (sym c.is_at.ensures ∙ c.if-is_at.true))
    (c.ask_for.ensures.ask ∙ ap (λ (o : Mode). (c.args.at, o)) (c.join.ensures.value ∙ ap (λ (k : Mode). join_of k c.args.asked) c.mode.ensures))

pub returns-then-is_at-clause-rest : goal.returns-then-is_at-clause-rest
returns-then-is_at-clause-rest c =
    drop-set-lt c.args.count c.args.asks.now c.place_for-place.result c.ask_for.result
    (at_count c.args.asks.now c.args.count c.place_for-place.result c.args.at (omega arith) (sym c.is_at.ensures ∙ c.if-is_at.true))

pub returns-clause-asks : goal.returns-clause-asks
returns-clause-asks c =
    inserted_in _ _ _ _ _ _ c.place_for-place.ensures.value (sym c.is_at.ensures ∙ c.if-is_at.false) c.ask_for-2.ensures.ask c.insert.ensures.asks

pub returns-then-is_at-clause-kinds : goal.returns-then-is_at-clause-kinds
returns-then-is_at-clause-kinds c =
    kinds_joined c.args.asks.now c.args.count c.place_for-place.result c.ask_for.result
    (at_count c.args.asks.now c.args.count c.place_for-place.result c.args.at (omega arith) (sym c.is_at.ensures ∙ c.if-is_at.true)) c.requires.kinds c.ask_for.ensures.kind

pub returns-clause-kinds : goal.returns-clause-kinds
returns-clause-kinds c = kinds_inserted _ _ _ _ c.insert.ensures.asks c.requires.kinds c.ask_for-2.ensures.kind
