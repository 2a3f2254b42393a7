use Rattle.std.proofs.Common.{◌≡◌, ◌∙◌, Some, None, not, ap, sym, subst}
use Rattle.asl_grammar.specs.Lex.{tokens_of}
use Rattle.asl_grammar.specs.Reader.{spots_left}
use Rattle.asl_grammar.specs.View.{spot_of}
use Rattle.asl_grammar.specs.Seen.{Place, next_place}
use Rattle.asl_diagnose_text.proofs.Led.{after_start, after_next}
use Rattle.asl_grammar.proofs.Reading.{none_left}
use Rattle.asl_diagnose_text.specs.WalkView.{walk_place, IsStopped}
use Rattle.asl_diagnose_text.proofs.Stop.{stopped_end, stopped_at}
use Rattle.asl_diagnose_text.proofs.expected.stop.Goals as goal

pub reading-init : goal.reading-init
reading-init c =
    after_start (tokens_of c.args.text.now) (spots_left c.new-tokens.result) (walk_place c.new-walk.result) c.new-tokens.ensures.tokens c.new-walk.ensures

pub reading-preserved : goal.reading-preserved
reading-preserved c =
    let x = spot_of c.in-Token.spot in
    let n : Some (walk_place c.take.new.self) ≡ next_place (walk_place c.reading.walk) x.token = c.in_ok-take.ensures.goes (c.is_none.ensures ∙ ap not c.if-is_none.false) in
    after_next (tokens_of c.args.text.now) (walk_place c.reading.walk) (walk_place c.take.new.self) x (spots_left c.reading.tokens) (spots_left c.next.new.self) c.reading.invariant c.in-Token.ensures.found.0 n

pub returns-then-is_none : goal.returns-then-is_none
returns-then-is_none c =
    let x = spot_of c.in-Token.spot in
    let none = c.is_none.ensures ∙ ap not c.if-is_none.true in
    let stuck : next_place (walk_place c.reading.walk) x.token ≡ None = c.in_ok-take.ensures.stays none in
    let same : walk_place c.take.new.self ≡ walk_place c.reading.walk = c.in_ok-take.ensures.same none in
    let P : Place → Type 0 = λ p. IsStopped (tokens_of c.args.text.now) p in
    subst P (sym same) (stopped_at (tokens_of c.args.text.now) (spots_left c.reading.tokens) (spots_left c.next.new.self) x (walk_place c.reading.walk) c.reading.invariant c.in-Token.ensures.found.0 stuck)

pub returns : goal.returns
returns c =
    stopped_end (tokens_of c.args.text.now) (spots_left c.reading.tokens) (walk_place c.reading.walk) c.reading.invariant
    (none_left c.reading.tokens c.next.new.self c.next.result c.next.ensures.found c.in_default.not-Token)
