-- A printed tree is read back.
use Rattle.std.proofs.Common.{◌≡◌, ℕ, List, [], IsTrue}
use Rattle.asl_grammar.specs.Token.{Token}
use Rattle.asl_grammar.specs.Lex.{tokens_of, are_tokens}
use Rattle.asl_grammar.specs.Grammar.{bare}
use Rattle.asl_grammar.specs.Spelling.{program_on}
use Rattle.asl_grammar.proofs.Real.{tokens_real}
use Rattle.asl_syntax.specs.Tree.{Item}
use Rattle.asl_syntax.specs.Spelled.{Spells}
use Rattle.asl_syntax.specs.Writing.{writing}
use Rattle.asl_syntax.specs.Printed.{printed}
use Rattle.asl_syntax.specs.Parsed.{IsLexed}
use Rattle.asl_syntax.proofs.Leaner.{leaner}
use Rattle.asl_syntax.proofs.Named.{keeps_real}
use Rattle.asl_syntax.proofs.Narrow.{ascii_spaced}
use Rattle.asl_syntax.proofs.Respelled.{read_spaced, good_spaced}

pub printed_lexed : (tree : List Item) → IsTrue (are_tokens (program_on (writing tree) [])) → IsLexed (printed tree)
printed_lexed tree h =
    record {
      ascii = ascii_spaced (program_on (writing tree) []) h;
      tokens = good_spaced (program_on (writing tree) []) h;
    }

pub printed_tokens : (tree : List Item) → IsTrue (are_tokens (program_on (writing tree) [])) → bare (tokens_of (printed tree)) ≡ program_on (writing tree) []
printed_tokens tree h =
    read_spaced (program_on (writing tree) []) h

pub parsed_names : (text : List ℕ) (tree : List Item) → Spells tree (bare (tokens_of text)) → IsTrue (are_tokens (program_on (writing tree) []))
parsed_names text tree s =
    leaner (λ (ts us : List Token). IsTrue (are_tokens ts) → IsTrue (are_tokens us)) keeps_real tree (bare (tokens_of text)) s (tokens_real text)
