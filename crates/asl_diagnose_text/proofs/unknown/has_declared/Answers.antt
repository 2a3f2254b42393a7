use Rattle.std.proofs.Common.{◌∙◌, sym}
use Rattle.asl_grammar.specs.Reader.{spots_left}
use Rattle.asl_grammar.specs.View.{spot_of}
use Rattle.asl_grammar.proofs.Reading.{none_left}
use Rattle.asl_diagnose_text.proofs.TokenOn.{declared_here, declared_later, declared_nowhere}
use Rattle.asl_diagnose_text.proofs.unknown.has_declared.Goals as goal

pub reading-preserved : goal.reading-preserved
reading-preserved c =
    declared_later c.args.what c.args.name.now c.reading.before _ (spots_left c.reading.tokens) (spots_left c.next.new.self) (spot_of c.in-Token.spot) _ c.reading.invariant c.in-Token.ensures.found.0 (sym c.is_declared.ensures ∙ c.if-is_declared.false) c.pass.ensures

pub returns-then-is_declared : goal.returns-then-is_declared
returns-then-is_declared c =
    declared_here c.args.what c.args.name.now c.reading.before (spots_left c.reading.tokens) (spots_left c.next.new.self) (spot_of c.in-Token.spot) _ c.reading.invariant c.in-Token.ensures.found.0 (sym c.is_declared.ensures ∙ c.if-is_declared.true)

pub returns : goal.returns
returns c =
    declared_nowhere c.args.what c.args.name.now c.reading.before (spots_left c.reading.tokens) _ c.reading.invariant
    (none_left c.reading.tokens c.next.new.self c.next.result c.next.ensures.found c.in_default.not-Token)
