use Rattle.std.proofs.Common.{Bool, subst}
use Rattle.std.specs.List.{Contains}
use Rattle.asl_grammar.specs.Lex.{tokens_of}
use Rattle.asl_grammar.specs.Reader.{spots_left}
use Rattle.asl_grammar.specs.View.{spot_of}
use Rattle.asl_diagnose_text.specs.Statements.{endings, is_edge}
use Rattle.asl_diagnose_text.proofs.Beginnings.{to_end, none_ends, ends_here, ends_later}
use Rattle.asl_diagnose_text.proofs.statements.ends_at.Goals as goal

pub reading-init : goal.reading-init
reading-init c = none_ends (tokens_of c.args.text.now) (spots_left c.new-tokens.result) c.args.at c.new-tokens.ensures.tokens

pub reading-preserved : goal.reading-preserved
reading-preserved c h =
    let s = spot_of c.in-Token.spot in
    let P : Bool → Bool → Type 0 = λ b may. Contains (to_end b may (spots_left c.next.new.self)) c.args.at in
    let one = subst (λ (may : Bool). P c.is_begun_after-is_begun.result may) c.is_edge-is_start.ensures h in
    ends_later (endings c.args.text.now) c.reading.is_begun c.reading.is_start (spots_left c.reading.tokens) (spots_left c.next.new.self) s c.args.at c.reading.invariant c.in-Token.ensures.found.0 (subst (λ (b : Bool). P b (is_edge s.token)) c.is_begun_after-is_begun.ensures one)

pub returns-then-is_end : goal.returns-then-is_end
returns-then-is_end c t =
    let there = c.is_end.ensures c.if-is_end.true in
    ends_here (endings c.args.text.now) c.reading.is_begun c.reading.is_start (spots_left c.reading.tokens) (spots_left c.next.new.self) (spot_of c.in-Token.spot) c.args.at c.reading.invariant c.in-Token.ensures.found.0 c.if-is_begun.true there.0 there.1
