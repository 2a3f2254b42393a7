use Rattle.std.proofs.Common.{ℕ, List, ◌∙◌, sym, ap}
use Rattle.std.proofs.lemmas.Bool.{false≢true}
use Rattle.asl_grammar.specs.Lex.{tokens_of}
use Rattle.asl_diagnose_text.specs.SeenView.{is_twice, seen_nothing}
use Rattle.asl_diagnose_text.proofs.syntax_places.twice_place.Goals as goal

pub unreachable-requires : goal.unreachable-requires
unreachable-requires c =
    false≢true (sym c.in-None.ensures.none ∙ ap (λ (x : List ℕ). is_twice x seen_nothing (tokens_of c.args.source.now)) c.as_slice.ensures.bytes ∙ c.requires)
