use Rattle.std.proofs.Common.{◌≡◌, ap, subst, sym, ◌∙◌, length, List, Option, Some, ℕ, []}
use Rattle.asl_grammar.specs.declared.control.Control.TheVariants as control
use Rattle.asl_grammar.specs.declared.control.Kind.{Kind}
use Rattle.asl_grammar.specs.Lex.{tokens_of}
use Rattle.asl_grammar.specs.Token.{Spot}
use Rattle.asl_grammar.specs.Grammar.{Judges}
use Rattle.asl_grammar.specs.Reader.{spots_left}
use Rattle.asl_grammar.specs.SeenView.{kinds_in, place_in}
use Rattle.asl_grammar.specs.View.{spot_of}
use Rattle.asl_grammar.specs.Seen.{Place, start_place, next_place}
use Rattle.asl_grammar.proofs.Stopping.{fault_from}
use Rattle.asl_grammar.proofs.Judged.{goes_on, stopped, ended}
use Rattle.asl_grammar.proofs.Reading.{none_left}
use Rattle.asl_grammar.proofs.recognizer.fault_by_kinds.Goals as goal

pub reading-init : goal.reading-init
reading-init c =
    let end = length c.args.text.now in
    let p = place_in control.ItemStart (kinds_in c.new-kinds.result) in
    let left = spots_left c.new-tokens.result in
    let none : p ≡ start_place = ap (λ (ks : List Kind). place_in control.ItemStart ks) c.new-kinds.ensures in
    let whole : left ≡ tokens_of c.args.text.now = c.new-tokens.ensures.tokens in
    ap (λ (q : Place). fault_from q left end) none ∙ ap (λ (ss : List Spot). fault_from start_place ss end) whole

pub reading-preserved : goal.reading-preserved
reading-preserved c =
    let p = place_in c.reading.control (kinds_in c.reading.kinds) in
    let q = place_in c.in-Some.next (kinds_in c.advance.new.kinds) in
    let x = spot_of c.in-Token.spot in
    let n : Some q ≡ next_place p x.token = rw c.in-Some.is at c.in_ok-advance.ensures in
    goes_on p q x (spots_left c.reading.tokens) (spots_left c.next.new.self) (length c.args.text.now) _ c.reading.invariant c.in-Token.ensures.found.0 n

pub returns-in-None : goal.returns-in-None
returns-in-None c =
    stopped _ _ _ _ _ _ c.reading.invariant c.in-Token.ensures.found.0 (rw c.in-None.is at c.in_ok-advance.ensures)

pub returns : goal.returns
returns c =
    let all = tokens_of c.args.text.now in
    let end = length c.args.text.now in
    let P : Option ℕ → Type 0 = λ o. Judges all end o in
    let none : spots_left c.reading.tokens ≡ [] = none_left c.reading.tokens c.next.new.self c.next.result c.next.ensures.found c.in_default.not-Token in
    subst P (sym c.fault_at_end.ensures) (ended all (spots_left c.reading.tokens) end (place_in c.reading.control (kinds_in c.reading.kinds)) c.reading.invariant none)
