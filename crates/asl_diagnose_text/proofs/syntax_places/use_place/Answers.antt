use Rattle.std.proofs.Common.{ℕ, List, ◌∙◌, sym, ap, subst}
use Rattle.asl_grammar.specs.Lex.{tokens_of}
use Rattle.asl_diagnose_text.specs.Places.{IsNameAt}
use Rattle.asl_diagnose_text.proofs.FirstUse.{first_use_in}
use Rattle.asl_diagnose_text.proofs.NamesThere.{unknown_there, unknown_placed}
use Rattle.asl_diagnose_text.proofs.syntax_places.use_place.Goals as goal

pub returns : goal.returns
returns c =
    let P : List ℕ → Type 0 = λ x. IsNameAt (tokens_of c.args.source.now) x c.in-Some.at in
    unknown_placed c.args.source.now c.args.name.now c.in-Some.at c.requires (c.in-Some.ensures.place ∙ ap (λ (x : List ℕ). first_use_in x (tokens_of c.args.source.now)) c.as_slice.ensures.bytes) (subst P c.as_slice.ensures.bytes c.in-Some.ensures.name)

pub unreachable-requires : goal.unreachable-requires
unreachable-requires c =
    unknown_there c.args.source.now c.args.name.now c.requires (sym (c.in-None.ensures.place ∙ ap (λ (x : List ℕ). first_use_in x (tokens_of c.args.source.now)) c.as_slice.ensures.bytes))
