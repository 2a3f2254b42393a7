use Rattle.std.proofs.Common.{Bool, ◌-◌, ◌∙◌, subst, sym, arith}
use Rattle.std.proofs.lemmas.Bool.{eqb-true}
use Rattle.asl_grammar.specs.Lex.{tokens_of}
use Rattle.asl_grammar.specs.Reader.{spots_left}
use Rattle.asl_grammar.specs.View.{spot_of}
use Rattle.asl_grammar.proofs.Reading.{none_left}
use Rattle.asl_diagnose_text.specs.Statements.{beginnings}
use Rattle.asl_diagnose_text.proofs.Beginnings.{IsCounting, none_counted, counted_one, counted_none, all_counted}
use Rattle.asl_diagnose_text.proofs.statements.are_so_many.Goals as goal

pub reading-init : goal.reading-init
reading-init c = none_counted c.args.from c.args.to c.args.count (tokens_of c.args.text.now) (spots_left c.new-tokens.result) c.new-tokens.ensures.tokens

pub reading-preserved-then-is_one : goal.reading-preserved-then-is_one
reading-preserved-then-is_one c =
    subst (λ (b : Bool). IsCounting c.args.from c.args.to c.args.count (beginnings c.args.text.now) b (spots_left c.next.new.self) (c.reading.left - 1)) (sym c.is_edge-is_start.ensures)
    (counted_one c.args.from c.args.to c.args.count (beginnings c.args.text.now) c.reading.is_start (spots_left c.reading.tokens) (spots_left c.next.new.self) (spot_of c.in-Token.spot) c.reading.left c.reading.invariant c.in-Token.ensures.found.0 (sym c.begins_between-is_one.ensures ∙ c.if-is_one.true) (λ z. omega arith))

pub reading-preserved : goal.reading-preserved
reading-preserved c =
    subst (λ (b : Bool). IsCounting c.args.from c.args.to c.args.count (beginnings c.args.text.now) b (spots_left c.next.new.self) c.reading.left) (sym c.is_edge-is_start.ensures)
    (counted_none c.args.from c.args.to c.args.count (beginnings c.args.text.now) c.reading.is_start (spots_left c.reading.tokens) (spots_left c.next.new.self) (spot_of c.in-Token.spot) c.reading.left c.reading.invariant c.in-Token.ensures.found.0 (sym c.begins_between-is_one.ensures ∙ c.if-is_one.false))

pub returns : goal.returns
returns c t =
    all_counted c.args.from c.args.to c.args.count (beginnings c.args.text.now) c.reading.is_start (spots_left c.reading.tokens) c.reading.left c.reading.invariant
    (none_left c.reading.tokens c.next.new.self c.next.result c.next.ensures.found c.in_default.not-Token) (eqb-true c.reading.left 0 t)
