use Rattle.std.proofs.Common.{◌≡◌, ◌++◌, ◌∷◌, [], map, option_map, string_bytes, ap, ◌∙◌, arith}
use Rattle.std.proofs.lemmas.List.{map-append}
use Rattle.std.proofs.lemmas.Option.{IfSome_then}
use Rattle.asl.proofs.Lines.{words_fault, words_more}
use Rattle.asl.proofs.process_words.process_words.Goals as goal

pub returns-in-Err-clause-err : goal.returns-in-Err-clause-err
returns-in-Err-clause-err g c = words_fault (g.L.CommandLine.known c.args.line.now) c.loop-number.number c.in-Err.fault c.loop-number.invariant.behind c.in-Err.ensures.err

pub loop-number-preserved : goal.loop-number-preserved
loop-number-preserved g c =
    let line = g.L.CommandLine.known c.args.line.now in
    let before = c.loop-number.invariant in
    let word = string_bytes c.in-Ok-Some.word in
    let texts = map string_bytes c.loop-number.words.items in
    let grown : map string_bytes c.push.new.self.items ≡ texts ++ word ∷ [] = ap (map string_bytes) c.in-Ok.ensures.items ∙ map-append string_bytes c.loop-number.words.items (c.in-Ok-Some.word ∷ []) in
    let here = IfSome_then line c.in-Ok-Some.ensures.ok (λ all e. e ∙ ap (option_map string_bytes) c.in-Ok-Some.field-0-is) in
    record {
      behind = omega (arith, before.behind);
      first = IfSome_then line (words_more line texts c.loop-number.number word before.behind before.first here) (λ all e. grown ∙ e);
    }
