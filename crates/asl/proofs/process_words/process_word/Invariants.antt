use Rattle.asl.proofs.process_words.process_word.Given as goal

abbrev pub invariant-loop : goal.invariant-loop
invariant-loop g l = Unit {0}
