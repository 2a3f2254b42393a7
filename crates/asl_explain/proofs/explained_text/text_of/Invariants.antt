use Rattle.std.proofs.Common.{string_bytes}
use Rattle.asl_explain.specs.Analysed.{read}
use Rattle.asl_explain.specs.Known.{AreKnown}
use Rattle.asl_explain.specs.Telling.{TellsSections, given}
use Rattle.asl_explain.proofs.explained_text.text_of.Given as goal

abbrev pub invariant-loop-number : goal.invariant-loop-number
invariant-loop-number l = record {
  tells : TellsSections (read l.analysis) l.lists (given l.teller) l.number (string_bytes l.text);
  known : AreKnown (read l.analysis) l.known;
}
