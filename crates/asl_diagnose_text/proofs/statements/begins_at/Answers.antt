use Rattle.std.proofs.Common.{Bool, ◌∙◌, subst, sym}
use Rattle.asl_grammar.specs.Lex.{tokens_of}
use Rattle.asl_grammar.specs.Reader.{spots_left}
use Rattle.asl_grammar.specs.View.{spot_of}
use Rattle.std.specs.List.{Contains}
use Rattle.asl_diagnose_text.specs.Statements.{beginnings}
use Rattle.asl_diagnose_text.proofs.Beginnings.{begun, none_begins, begins_here, begins_later}
use Rattle.asl_diagnose_text.proofs.statements.begins_at.Goals as goal

pub reading-init : goal.reading-init
reading-init c = none_begins (tokens_of c.args.text.now) (spots_left c.new-tokens.result) c.args.at c.new-tokens.ensures.tokens

pub reading-preserved : goal.reading-preserved
reading-preserved c h =
    begins_later (beginnings c.args.text.now) c.reading.is_start (spots_left c.reading.tokens) (spots_left c.next.new.self) (spot_of c.in-Token.spot) c.args.at c.reading.invariant c.in-Token.ensures.found.0 (subst (λ (b : Bool). Contains (begun b (spots_left c.next.new.self)) c.args.at) c.is_edge-is_start.ensures h)

pub returns-then-spot-at : goal.returns-then-spot-at
returns-then-spot-at c t =
    begins_here (beginnings c.args.text.now) c.reading.is_start (spots_left c.reading.tokens) (spots_left c.next.new.self) (spot_of c.in-Token.spot) c.args.at c.reading.invariant c.in-Token.ensures.found.0 (sym c.begins_with.ensures ∙ c.if-begins_with.true) c.if-spot-at.true
