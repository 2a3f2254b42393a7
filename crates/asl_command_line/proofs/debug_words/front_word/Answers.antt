use Rattle.std.proofs.Common.{rules, drop, refl, []}
use Rattle.clap.specs.Walk.{texts}
use Rattle.asl_command_line.proofs.Named.{first_is, one_is_last, two_are}
use Rattle.asl_command_line.proofs.Talks.{no_word_first, no_word_last, no_number_after}
use Rattle.asl_command_line.proofs.debug_words.front_word.Goals as goal

pub returns-then-not-takes_number-clause-err : goal.returns-then-not-takes_number-clause-err
returns-then-not-takes_number-clause-err c = no_word_first c.args.all.now _ c.requires c.in_default.ensures (c.takes_number.ensures.no (search rules))

pub returns-then-all-lt2-clause-err : goal.returns-then-all-lt2-clause-err
returns-then-all-lt2-clause-err c = no_word_last c.args.all.now _ c.requires (search rules) c.in_default.ensures

pub returns-in_default-number-clause-err : goal.returns-in_default-number-clause-err
returns-in_default-number-clause-err c = no_number_after c.args.all.now _ _ (search rules) c.in_default.ensures c.in_default-number.ensures

pub returns-in-None-clause-err : goal.returns-in-None-clause-err
returns-in-None-clause-err c = no_word_first c.args.all.now _ c.requires c.in_default.ensures c.in-None.ensures

pub returns-then-not-takes_number-clause-named : goal.returns-then-not-takes_number-clause-named
returns-then-not-takes_number-clause-named c = record {
  front = [];
  rest = texts (drop 1 c.args.all.now);
  its = first_is c.args.all.now _ c.requires;
  before = ([], refl);
  none = record { alone = c.in_default.ensures; followed = c.takes_number.ensures.no (search rules) };
}

pub returns-then-all-lt2-clause-named : goal.returns-then-all-lt2-clause-named
returns-then-all-lt2-clause-named c = record {
  front = [];
  name = _;
  its = one_is_last c.args.all.now _ c.requires (search rules);
  before = ([], refl);
  takes = c.takes_number.ensures.yes (search rules);
}

pub returns-in_default-number-clause-named : goal.returns-in_default-number-clause-named
returns-in_default-number-clause-named c = record {
  front = [];
  name = _;
  rest = texts (drop 2 c.args.all.now);
  its = two_are c.args.all.now _ _ (search rules);
  before = ([], refl);
  takes = c.takes_number.ensures.yes (search rules);
  none = c.in_default-number.ensures;
}

pub returns-in-None-clause-named : goal.returns-in-None-clause-named
returns-in-None-clause-named c = record {
  front = [];
  rest = texts (drop 1 c.args.all.now);
  its = first_is c.args.all.now _ c.requires;
  before = ([], refl);
  none = record { alone = c.in_default.ensures; followed = c.in-None.ensures };
}
