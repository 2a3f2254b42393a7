use Rattle.std.proofs.Common.{sym}
use Rattle.asl_grammar.specs.Lex.{tokens_of}
use Rattle.asl_grammar.specs.Reader.{spots_left}
use Rattle.asl_grammar.specs.View.{spot_of}
use Rattle.asl_grammar.proofs.Reading.{none_left}
use Rattle.asl_diagnose_text.proofs.Scanned.{none_read, one_read, declared_again, all_read}
use Rattle.asl_diagnose_text.proofs.declared.twice_places.Goals as goal

pub reading-init : goal.reading-init
reading-init c = none_read c.args.name.now (tokens_of c.args.text.now) (spots_left c.new-tokens.result) c.new-seen.result c.new-tokens.ensures.tokens c.new-seen.ensures

pub reading-preserved : goal.reading-preserved
reading-preserved c =
    one_read c.args.name.now (tokens_of c.args.text.now) (spots_left c.reading.tokens) (spots_left c.next.new.self) (spot_of c.in-Token.spot) c.reading.seen c.pass.new.self c.reading.invariant c.in-Token.ensures.found.0 c.pass.ensures (sym c.in-None.ensures)

pub returns-in-Some-clause-some : goal.returns-in-Some-clause-some
returns-in-Some-clause-some c =
    declared_again c.args.name.now (tokens_of c.args.text.now) (spots_left c.reading.tokens) (spots_left c.next.new.self) (spot_of c.in-Token.spot) c.reading.seen c.in-Some.first c.reading.invariant c.in-Token.ensures.found.0 (sym c.in-Some.ensures)

pub returns-clause-none : goal.returns-clause-none
returns-clause-none c =
    all_read c.args.name.now (tokens_of c.args.text.now) (spots_left c.reading.tokens) c.reading.seen c.reading.invariant
    (none_left c.reading.tokens c.next.new.self c.next.result c.next.ensures.found c.in_default.not-Token)
