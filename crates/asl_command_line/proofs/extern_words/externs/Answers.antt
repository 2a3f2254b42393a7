use Rattle.std.proofs.Common.{rules, ◌≡◌, Bor, List, [], ap, map, refl, take, ◌∙◌, string_bytes, arith}
use Rattle.std.proofs.lemmas.List.{length-map, take_all}
use Rattle.std.proofs.lemmas.Option.{slice_get-get_or, slice_get_within}
use Rattle.clap.specs.Walk.{texts}
use Rattle.clap.specs.Words.{Text}
use Rattle.asl_command_line.specs.declared.command.Replacement.{Replacement}
use Rattle.asl_command_line.specs.Externs.{c_name_in, function_in}
use Rattle.asl_command_line.proofs.Externs.{held_next, made_more, right_next, word_at, wrong_at}
use Rattle.asl_command_line.proofs.extern_words.externs.Goals as goal

pub returns-in-Some-clause-err : goal.returns-in-Some-clause-err
returns-in-Some-clause-err c =
    let words = c.args.words.now in
    let n = c.loop-word.word-index in
    let here = word_at words n _ (slice_get-get_or words n record { ref_ptr = (0, 0); now = [] } (search rules)) in
    wrong_at words n _ here c.in-Some.why (c.in-Some.ensures (texts (take n words)) c.loop-word.invariant.held_functions c.loop-word.invariant.held_names)

pub loop-word-preserved : goal.loop-word-preserved
loop-word-preserved c =
    let words = c.args.words.now in
    let n = c.loop-word.word-index in
    let none : Bor Text = record { ref_ptr = (0, 0); now = [] } in
    let before = texts (take n words) in
    let here = word_at words n _ (slice_get-get_or words n none (search rules)) in
    record {
      right = right_next words n _ here c.loop-word.invariant.right (c.in_default.ensures before c.loop-word.invariant.held_functions c.loop-word.invariant.held_names);
      functions = made_more (λ (e : Replacement). string_bytes e.function) function_in words n none
          c.loop-word.pairs.items c.push.new.self.items c.in-Ok.pair (search rules) (search rules) (search rules) c.loop-word.invariant.functions;
      names = made_more (λ (e : Replacement). string_bytes e.name) c_name_in words n none
          c.loop-word.pairs.items c.push.new.self.items c.in-Ok.pair (search rules) (search rules) (search rules) c.loop-word.invariant.names;
      held_functions = held_next function_in words n none _ c.add_word.new.functions (search rules) refl
          (c.in-Ok-add_word.ensures.functions (map function_in before) c.loop-word.invariant.held_functions);
      held_names = held_next c_name_in words n none _ c.add_word.new.names (search rules) refl
          (c.in-Ok-add_word.ensures.names (map c_name_in before) c.loop-word.invariant.held_names);
    }

pub returns-clause-ok : goal.returns-clause-ok
returns-clause-ok c =
    let words = c.args.words.now in
    let all : take c.loop-word.word-index words ≡ words = take_all c.loop-word.word-index words c.loop-word-test.false in
    record {
      right = λ i word there why.
          let within = slice_get_within (texts words) i word there in
          let same = length-map words (λ (w : Bor Text). w.now) in
          let ended = c.loop-word-test.false in
          c.loop-word.invariant.right i word (omega (arith, within, same, ended)) there why;
      functions = c.loop-word.invariant.functions ∙ ap (λ (l : List (Bor Text)). map function_in (texts l)) all;
      names = c.loop-word.invariant.names ∙ ap (λ (l : List (Bor Text)). map c_name_in (texts l)) all;
    }
