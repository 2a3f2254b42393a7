use Rattle.std.proofs.Common.{ℕ, ◌∙◌, sym, subst, arith}
use Rattle.asl_grammar.specs.Lex.{tokens_of}
use Rattle.asl_grammar.specs.Reader.{bytes_left, spots_left}
use Rattle.asl_grammar.specs.View.{spot_of}
use Rattle.asl_grammar.proofs.Reading.{none_left}
use Rattle.asl_diagnose_text.proofs.Braces.{IsOpen, none_open, braces_on, braces_stay, still_open}
use Rattle.asl_diagnose_text.proofs.statements.is_open.Goals as goal

pub reading-init : goal.reading-init
reading-init c = none_open c.args.from c.args.to (tokens_of c.args.text.now) (spots_left c.new-tokens.result) (bytes_left c.new-tokens.result) c.new-tokens.ensures.tokens (omega (arith, c.new-tokens.result.fits))

pub reading-preserved-then-is_between : goal.reading-preserved-then-is_between
reading-preserved-then-is_between c =
    subst (λ (n : ℕ). IsOpen c.args.from c.args.to (tokens_of c.args.text.now) (spots_left c.next.new.self) n (bytes_left c.next.new.self)) (sym c.braces_after-depth.ensures)
    (braces_on c.args.from c.args.to (tokens_of c.args.text.now) (spots_left c.reading.tokens) (spots_left c.next.new.self) (spot_of c.in-Token.spot) c.reading.depth (bytes_left c.reading.tokens) (bytes_left c.next.new.self) c.reading.invariant c.in-Token.ensures.found.0 c.in-Token.ensures.shorter (sym c.is_between.ensures ∙ c.if-is_between.true) (sym c.closes_last.ensures ∙ c.if-closes_last.false))

pub reading-preserved : goal.reading-preserved
reading-preserved c =
    braces_stay c.args.from c.args.to (tokens_of c.args.text.now) (spots_left c.reading.tokens) (spots_left c.next.new.self) (spot_of c.in-Token.spot) c.reading.depth (bytes_left c.reading.tokens) (bytes_left c.next.new.self) c.reading.invariant c.in-Token.ensures.found.0 c.in-Token.ensures.shorter (sym c.is_between.ensures ∙ c.if-is_between.false)

pub returns : goal.returns
returns c t =
    still_open c.args.from c.args.to (tokens_of c.args.text.now) (spots_left c.reading.tokens) c.reading.depth (bytes_left c.reading.tokens) c.reading.invariant
    (none_left c.reading.tokens c.next.new.self c.next.result c.next.ensures.found c.in_default.not-Token)
