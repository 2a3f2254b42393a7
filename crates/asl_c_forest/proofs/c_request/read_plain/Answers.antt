use Rattle.std.proofs.Common.{rules, ◌≤◌, ◌∙◌, sym, ap, length}
use Rattle.std.specs.List.{list_all}
use Rattle.std.proofs.lemmas.List.{drop_all}
use Rattle.asl_c_forest.specs.Plain.{is_plain}
use Rattle.asl_c_forest.proofs.PlainLaws.{kinds_of, classes_there, modes_of}
use Rattle.asl_c_forest.proofs.c_request.read_plain.Goals as goal

pub returns-clause-kinds : goal.returns-clause-kinds
returns-clause-kinds c _ =
    let all : length c.args.asks.now ≤ c.loop-ask.ask-index = search rules in
    kinds_of c.args.classes c.args.asks.now (sym c.loop-ask.invariant.plain ∙ ap (list_all (is_plain c.args.classes)) (drop_all c.loop-ask.ask-index c.args.asks.now all))

pub returns-clause-classes : goal.returns-clause-classes
returns-clause-classes c _ =
    let all : length c.args.asks.now ≤ c.loop-ask.ask-index = search rules in
    classes_there c.args.classes c.args.asks.now (sym c.loop-ask.invariant.plain ∙ ap (list_all (is_plain c.args.classes)) (drop_all c.loop-ask.ask-index c.args.asks.now all))

pub returns-clause-modes : goal.returns-clause-modes
returns-clause-modes c _ =
    let all : length c.args.asks.now ≤ c.loop-ask.ask-index = search rules in
    modes_of c.args.classes c.args.asks.now (sym c.loop-ask.invariant.plain ∙ ap (list_all (is_plain c.args.classes)) (drop_all c.loop-ask.ask-index c.args.asks.now all))
