use Rattle.std.proofs.Common.{rules, tests, Bor, ◌∙◌}
use Rattle.std.proofs.lemmas.Iterator.{YieldsList-from_slice}
use Rattle.std.proofs.lemmas.Iterator.Search.{any_from_yields_List}
use Rattle.std.specs.Str.{bytes_eq}
use Rattle.clap.specs.Words.{Text}
use Rattle.asl_command_line.proofs.Externs.{any_mapped}
use Rattle.asl_command_line.proofs.extern_words.is_among.Goals as goal

pub returns : goal.returns
returns c =
    any_from_yields_List (λ (w : Bor Text). bytes_eq w.now c.args.name.now) _ _ _ c.any.ensures.ran (YieldsList-from_slice c.args.words.now cc) (λ x b q k. search (rules, tests))
    ∙ any_mapped (λ (w : Bor Text). w.now) (λ (one : Text). bytes_eq one c.args.name.now) c.args.words.now
