use Rattle.std.proofs.Common.{◌≡◌}
use Rattle.asl_grammar.specs.Lex.{tokens_of}
use Rattle.asl_grammar.specs.Reader.{bytes_left, spots_left}
use Rattle.asl_diagnose_text.specs.declared.declared.Declares.TheVariants.{Nothing}
use Rattle.asl_diagnose_text.specs.SeenView.{first_function}
use Rattle.asl_diagnose_text.proofs.function_head.function_place.Given as goal

abbrev pub invariant-reading : goal.invariant-reading
invariant-reading l = first_function l.name l.next (spots_left l.tokens) ≡ first_function l.name Nothing (tokens_of l.fn.text)

abbrev pub decreases-reading : goal.decreases-reading
decreases-reading l = bytes_left l.tokens
