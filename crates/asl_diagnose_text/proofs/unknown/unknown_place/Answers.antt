use Rattle.std.proofs.Common.{◌∙◌, sym}
use Rattle.asl_grammar.specs.Lex.{tokens_of}
use Rattle.asl_grammar.specs.Reader.{spots_left}
use Rattle.asl_grammar.specs.View.{spot_of}
use Rattle.asl_grammar.proofs.Reading.{none_left}
use Rattle.asl_diagnose_text.proofs.Tokens.{none_passed, one_passed}
use Rattle.asl_diagnose_text.proofs.Scanned.{name_there}
use Rattle.asl_diagnose_text.proofs.TokenOn.{use_start, use_here, use_later, use_nowhere}
use Rattle.asl_diagnose_text.proofs.unknown.unknown_place.Goals as goal

pub reading-init : goal.reading-init
reading-init c = record {
  passed = none_passed (tokens_of c.args.text.now) (spots_left c.new-tokens.result) c.new-tokens.ensures.tokens;
  place = use_start c.args.name.now _ _ c.new-before.result (tokens_of c.args.text.now) (spots_left c.new-tokens.result) c.has_declared-globals.ensures c.has_declared-functions.ensures c.new-before.ensures c.new-tokens.ensures.tokens;
}

pub reading-preserved : goal.reading-preserved
reading-preserved c = record {
  passed = one_passed (tokens_of c.args.text.now) (spots_left c.reading.tokens) (spots_left c.next.new.self) (spot_of c.in-Token.spot) c.reading.invariant.passed c.in-Token.ensures.found.0;
  place = use_later c.args.name.now c.has_declared-globals.result c.has_declared-functions.result c.reading.locals c.local_after-locals.result c.reading.before _ (spots_left c.reading.tokens) (spots_left c.next.new.self) (spot_of c.in-Token.spot) _ c.reading.invariant.place c.in-Token.ensures.found.0 c.local_after-locals.ensures (sym c.is_use.ensures.value ∙ c.if-is_use.false) c.pass.ensures;
}

pub returns-then-is_use-clause-place : goal.returns-then-is_use-clause-place
returns-then-is_use-clause-place c =
    use_here c.args.name.now c.has_declared-globals.result c.has_declared-functions.result c.reading.locals c.local_after-locals.result c.reading.before (spots_left c.reading.tokens) (spots_left c.next.new.self) (spot_of c.in-Token.spot) _ c.reading.invariant.place c.in-Token.ensures.found.0 c.local_after-locals.ensures (sym c.is_use.ensures.value ∙ c.if-is_use.true)

pub returns-then-is_use-clause-name : goal.returns-then-is_use-clause-name
returns-then-is_use-clause-name c =
    name_there c.args.name.now (tokens_of c.args.text.now) (spots_left c.reading.tokens) (spots_left c.next.new.self) (spot_of c.in-Token.spot) c.reading.invariant.passed c.in-Token.ensures.found.0 (c.is_use.ensures.named c.if-is_use.true)

pub returns : goal.returns
returns c = record {
  place = use_nowhere c.args.name.now c.has_declared-globals.result c.has_declared-functions.result c.reading.locals c.reading.before (spots_left c.reading.tokens) _ c.reading.invariant.place
      (none_left c.reading.tokens c.next.new.self c.next.result c.next.ensures.found c.in_default.not-Token);
  name = tt;
}
