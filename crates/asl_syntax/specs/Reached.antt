-- Machinery of the proofs, not of the promise: how far the code's one walk over a text's tokens comes (src/source_limits.rt). What
-- contracts cite is specs/Limit, and `bad_place` of docs/SOURCE.md's tokens.
use Rattle.std.specs.Prelude.{◌≡◌, ℕ, List, [], Some, None}
use Rattle.asl_grammar.specs.Lex.{tokens_of, bad_place}
use Rattle.asl_syntax.specs.declared.source_limits.Extent as code
use Rattle.asl_syntax.specs.declared.source_limits.Extent.TheVariants as reach
use Rattle.asl_syntax.specs.Limit.{limit_from}

-- to the end with no place past a limit, to the place where no token stands, or to the first token past a limit
abbrev pub IsReach : List ℕ → code.Extent → Type 0
IsReach text reach.End = (bad_place text ≡ None) × (limit_from [] (tokens_of text) ≡ None)
IsReach text (reach.Bad at) = bad_place text ≡ Some at
IsReach text (reach.Over at) = limit_from [] (tokens_of text) ≡ Some at
