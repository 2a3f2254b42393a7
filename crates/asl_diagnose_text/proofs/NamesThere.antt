-- The names at which refusals are told are in the text.
use Rattle.std.proofs.Common.{◌≡◌, ℕ, List, Some, None, true, sym, ◌∙◌}
use Rattle.asl_grammar.specs.Lex.{tokens_of}
use Rattle.asl_syntax.specs.declared.fault.SyntaxFault.TheVariants as syntax
use Rattle.asl_syntax.specs.Fault.{IsFault}
use Rattle.asl_diagnose_text.specs.Places.{IsNameAt}
use Rattle.asl_diagnose_text.specs.SeenView.{is_twice, seen_nothing}
use Rattle.asl_diagnose_text.specs.Unknown.{IsUnknownPlace}
use Rattle.asl_diagnose_text.proofs.FirstUse.{first_use_in, unknown_found}
use Rattle.asl_diagnose_text.proofs.RepeatedNames.{repeated_there}

none_some : (at : ℕ) → None ≡ Some at → ⊥
none_some at e = absurd cc

-- a name that is declared twice, and one that is nowhere declared
pub twice_there : (text x : List ℕ) → IsFault text (syntax.Twice x) → is_twice x seen_nothing (tokens_of text) ≡ true
twice_there text x h = repeated_there h.tree (tokens_of text) x h.spelled.spelled h.name

pub unknown_there : (text x : List ℕ) → IsFault text (syntax.Unknown x) → first_use_in x (tokens_of text) ≡ None → ⊥
unknown_there text x h none =
    let f = unknown_found h.tree (tokens_of text) x h.spelled.spelled h.name in
    none_some f.0 (sym none ∙ f.1.found)

pub unknown_placed : (text x : List ℕ) (at : ℕ) → IsFault text (syntax.Unknown x) → Some at ≡ first_use_in x (tokens_of text) → IsNameAt (tokens_of text) x at → IsUnknownPlace text x at
unknown_placed text x at h e named =
    let f = unknown_found h.tree (tokens_of text) x h.spelled.spelled h.name in
    record { name = named; tree = h.tree; spelled = h.spelled; place = f.1.is ∙ sym (e ∙ f.1.found) }
