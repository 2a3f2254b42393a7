-- The tokens of a printed tree are tokens, and its names are those of each text of the tree.
use Rattle.std.proofs.Common.{List, ◌∷◌, IsTrue}
use Rattle.std.proofs.lemmas.Bool.{and_parts, and_from}
use Rattle.asl_grammar.specs.Token.{Token}
use Rattle.asl_grammar.specs.Lex.{is_token, are_tokens}
use Rattle.asl_syntax.proofs.Leaner.{Keeps}

abbrev pub StaysReal : List Token → List Token → Type 0
StaysReal ts us = IsTrue (are_tokens ts) → IsTrue (are_tokens us)

same_real : (t : Token) (ts us : List Token) → StaysReal ts us → StaysReal (t ∷ ts) (t ∷ us)
same_real t ts us r h =
    let both = and_parts (is_token t) (are_tokens ts) h in
    and_from _ _ both.0 (r both.1)

pub keeps_real : Keeps StaysReal
keeps_real = record { none = λ h. h; same = same_real; sign = λ ts us r. r; empty = λ ts us r. r }
