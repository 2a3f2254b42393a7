-- Machinery of the proofs, not of the promise: the code's words (src/words.rt) as the mentions of docs/SOURCE.md's names.
use Rattle.std.specs.Prelude.{◌≡◌, ◌<◌, List, [], ◌∷◌, Option, Some, None}
use Rattle.asl_grammar.specs.Grammar.{bare}
use Rattle.asl_grammar.specs.Reader.{spots_left, bytes_left}
use Rattle.asl_syntax.specs.declared.words.Word as code
use Rattle.asl_syntax.specs.declared.words.Word.TheVariants as codes
use Rattle.asl_syntax.specs.declared.words.Words as reader
use Rattle.asl_syntax.specs.Mentions.{Mention, DeclaresGlobal, DeclaresFunction, DeclaresParameter, AssignsLocal, UsesLocal, UsesGlobal, CallsFunction}
use Rattle.asl_syntax.specs.Heard.{heard}

-- a word, with the name that its slice holds
abbrev pub word_of : code.Word → Mention
word_of (codes.Global x) = DeclaresGlobal x.now
word_of (codes.Function x) = DeclaresFunction x.now
word_of (codes.Parameter x) = DeclaresParameter x.now
word_of (codes.Assigned x) = AssignsLocal x.now
word_of (codes.Local x) = UsesLocal x.now
word_of (codes.GlobalUse x) = UsesGlobal x.now
word_of (codes.Call x n) = CallsFunction x.now n

-- the names that a reader has left
abbrev pub words_left : reader.Words → List Mention
words_left r = heard r.before (bare (spots_left r.tokens))

-- what the next call answers, and what is left then
abbrev pub IsHeard : reader.Words → Option code.Word → reader.Words → Type 0
IsHeard old None new = words_left old ≡ []
IsHeard old (Some w) new =
    (words_left old ≡ word_of w ∷ words_left new) × (bytes_left new.tokens < bytes_left old.tokens)
