-- what is left gives the answer
use Rattle.std.proofs.Common.{◌≡◌, length}
use Rattle.asl_grammar.specs.Lex.{tokens_of}
use Rattle.asl_grammar.specs.Reader.{spots_left, bytes_left}
use Rattle.asl_grammar.specs.Seen.{start_place}
use Rattle.asl_grammar.specs.SeenView.{kinds_in, place_in}
use Rattle.asl_grammar.proofs.Stopping.{fault_from}
use Rattle.asl_grammar.proofs.recognizer.fault_by_kinds.Given as goal

abbrev pub invariant-reading : goal.invariant-reading
invariant-reading l =
    fault_from (place_in l.control (kinds_in l.kinds)) (spots_left l.tokens) (length l.fn.text) ≡ fault_from start_place (tokens_of l.fn.text) (length l.fn.text)

abbrev pub decreases-reading : goal.decreases-reading
decreases-reading l = bytes_left l.tokens
