use Rattle.std.proofs.Common.{◌∙◌, sym, ap}
use Rattle.asl_grammar.specs.Lex.{tokens_of}
use Rattle.asl_grammar.specs.Reader.{spots_left}
use Rattle.asl_grammar.specs.View.{spot_of}
use Rattle.asl_grammar.proofs.Reading.{none_left}
use Rattle.asl_diagnose_text.specs.declared.declared.Declares.TheVariants.{Nothing}
use Rattle.asl_diagnose_text.specs.SeenView.{first_function}
use Rattle.asl_diagnose_text.proofs.Sought.{function_here, function_later, no_function}
use Rattle.asl_diagnose_text.proofs.function_head.function_place.Goals as goal

pub reading-init : goal.reading-init
reading-init c = ap (first_function c.args.name.now Nothing) c.new-tokens.ensures.tokens

pub reading-preserved : goal.reading-preserved
reading-preserved c =
    function_later c.args.name.now c.reading.next _ (tokens_of c.args.text.now) (spots_left c.reading.tokens) (spots_left c.next.new.self) (spot_of c.in-Token.spot) c.reading.invariant c.in-Token.ensures.found.0 (sym c.is_function.ensures ∙ c.if-is_function.false) c.declares_after-next.ensures

pub returns-then-is_function : goal.returns-then-is_function
returns-then-is_function c =
    function_here c.args.name.now c.reading.next (tokens_of c.args.text.now) (spots_left c.reading.tokens) (spots_left c.next.new.self) (spot_of c.in-Token.spot) c.reading.invariant c.in-Token.ensures.found.0 (sym c.is_function.ensures ∙ c.if-is_function.true)

pub returns : goal.returns
returns c =
    no_function c.args.name.now c.reading.next (tokens_of c.args.text.now) (spots_left c.reading.tokens) c.reading.invariant
    (none_left c.reading.tokens c.next.new.self c.next.result c.next.ensures.found c.in_default.not-Token)
