use Rattle.std.proofs.Common.{◌∙◌, sym, arith}
use Rattle.asl_grammar.specs.Lex.{tokens_of}
use Rattle.asl_grammar.specs.Reader.{spots_left}
use Rattle.asl_grammar.specs.View.{spot_of}
use Rattle.asl_grammar.proofs.Reading.{none_left}
use Rattle.asl_diagnose_text.proofs.Words.{none_counted, counted_one, counted_none, all_counted}
use Rattle.asl_diagnose_text.proofs.word_place.numbered.Goals as goal

pub reading-init : goal.reading-init
reading-init c = none_counted c.args.word (tokens_of c.args.text.now) (spots_left c.new-tokens.result) c.args.number c.new-tokens.ensures.tokens

pub reading-preserved-then-is_word : goal.reading-preserved-then-is_word
reading-preserved-then-is_word c =
    counted_one c.args.word (tokens_of c.args.text.now) (spots_left c.reading.tokens) (spots_left c.next.new.self) (spot_of c.in-Token.spot) c.args.number c.reading.left c.reading.invariant c.in-Token.ensures.found.0 (sym c.is_word.ensures ∙ c.if-is_word.true) (λ z. omega arith)

pub reading-preserved : goal.reading-preserved
reading-preserved c =
    counted_none c.args.word (tokens_of c.args.text.now) (spots_left c.reading.tokens) (spots_left c.next.new.self) (spot_of c.in-Token.spot) c.args.number c.reading.left c.reading.invariant c.in-Token.ensures.found.0 (sym c.is_word.ensures ∙ c.if-is_word.false)

pub returns-clause-none : goal.returns-clause-none
returns-clause-none c =
    all_counted c.args.word (tokens_of c.args.text.now) (spots_left c.reading.tokens) c.args.number c.reading.left c.reading.invariant
    (none_left c.reading.tokens c.next.new.self c.next.result c.next.ensures.found c.in_default.not-Token)
