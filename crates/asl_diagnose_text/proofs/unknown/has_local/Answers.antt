use Rattle.std.proofs.Common.{◌∙◌, sym}
use Rattle.asl_grammar.specs.Reader.{spots_left}
use Rattle.asl_grammar.specs.View.{spot_of}
use Rattle.asl_grammar.proofs.Reading.{none_left}
use Rattle.asl_diagnose_text.proofs.TokenOn.{local_ends, local_here, local_later, local_nowhere}
use Rattle.asl_diagnose_text.proofs.unknown.has_local.Goals as goal

pub reading-preserved : goal.reading-preserved
reading-preserved c =
    local_later c.args.name.now c.reading.before _ (spots_left c.reading.tokens) (spots_left c.next.new.self) (spot_of c.in-Token.spot) _ c.reading.invariant c.in-Token.ensures.found.0 (sym c.is_function_name.ensures ∙ c.if-is_function_name.false) (sym c.is_set.ensures ∙ c.if-is_set.false) c.pass.ensures

pub returns-then-is_function_name : goal.returns-then-is_function_name
returns-then-is_function_name c =
    local_ends c.args.name.now c.reading.before (spots_left c.reading.tokens) (spots_left c.next.new.self) (spot_of c.in-Token.spot) _ c.reading.invariant c.in-Token.ensures.found.0 (sym c.is_function_name.ensures ∙ c.if-is_function_name.true)

pub returns-then-is_set : goal.returns-then-is_set
returns-then-is_set c =
    local_here c.args.name.now c.reading.before (spots_left c.reading.tokens) (spots_left c.next.new.self) (spot_of c.in-Token.spot) _ c.reading.invariant c.in-Token.ensures.found.0 (sym c.is_function_name.ensures ∙ c.if-is_function_name.false) (sym c.is_set.ensures ∙ c.if-is_set.true)

pub returns : goal.returns
returns c =
    local_nowhere c.args.name.now c.reading.before (spots_left c.reading.tokens) _ c.reading.invariant
    (none_left c.reading.tokens c.next.new.self c.next.result c.next.ensures.found c.in_default.not-Token)
