-- what is left gives the answer
use Rattle.std.proofs.Common.{◌≡◌}
use Rattle.asl_grammar.specs.Grammar.{bare}
use Rattle.asl_grammar.specs.Lex.{tokens_of}
use Rattle.asl_grammar.specs.Reader.{bytes_left}
use Rattle.asl_syntax.specs.declared.words.Before.TheVariants.{Plain}
use Rattle.asl_syntax.specs.Heard.{heard, heard_main}
use Rattle.asl_syntax.specs.WordView.{words_left}
use Rattle.asl_syntax.proofs.scan.has_main.Given as goal

abbrev pub invariant-reading : goal.invariant-reading
invariant-reading l = heard_main (words_left l.words) ≡ heard_main (heard Plain (bare (tokens_of l.fn.text)))

abbrev pub decreases-reading : goal.decreases-reading
decreases-reading l = bytes_left l.words.tokens
