use Rattle.std.proofs.Common.{◌∙◌, sym, map, rules}
use Rattle.std.proofs.lemmas.Bool.{false≢true}
use Rattle.asl_command_line.specs.declared.extern_words.WhyNot.TheVariants as why
use Rattle.asl_command_line.specs.Externs.{c_name_in, function_in}
use Rattle.asl_command_line.proofs.Externs.{held_is}
use Rattle.asl_command_line.proofs.extern_words.wrong.Goals as goal

pub returns-then-contains_key : goal.returns-then-contains_key
returns-then-contains_key c before functions names =
    held_is c.args.functions.now (map function_in before) c.halves.result.0.now _ c.contains_key.result functions c.contains_key.ensures c.halves.ensures.function ∙ c.if-contains_key.true

pub returns-then-contains_key-2 : goal.returns-then-contains_key-2
returns-then-contains_key-2 c before functions names =
    held_is c.args.names.now (map c_name_in before) c.halves.result.1.now _ c.contains_key-2.result names c.contains_key-2.ensures c.halves.ensures.name ∙ c.if-contains_key-2.true

pub returns : goal.returns
returns c before functions names why.NoPair h = search rules
returns c before functions names why.IsMain h = search rules
returns c before functions names why.IsKeyword h = search rules
returns c before functions names why.IsTaken h = search rules
returns c before functions names why.FunctionTwice h =
    absurd (false≢true (sym c.if-contains_key.false ∙ sym (held_is c.args.functions.now (map function_in before) c.halves.result.0.now _ c.contains_key.result functions c.contains_key.ensures c.halves.ensures.function) ∙ h))
returns c before functions names why.NameTwice h =
    absurd (false≢true (sym c.if-contains_key-2.false ∙ sym (held_is c.args.names.now (map c_name_in before) c.halves.result.1.now _ c.contains_key-2.result names c.contains_key-2.ensures c.halves.ensures.name) ∙ h))
