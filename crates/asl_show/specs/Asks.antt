-- What the threads ask for, as the word `asks` writes it (docs/JOURNAL.md, "Stacks, objects and requests").
use Rattle.std.specs.Prelude.{ℕ, List, [], ◌∷◌, ◌++◌, length, codes}
use Rattle.std.specs.Fmt.{decimal}
use Rattle.std.specs.Option.{option_map_or}
use Rattle.asl_lock_forest.specs.Holding.{Request}
use Rattle.asl_machine.specs.State.{State}
use Rattle.asl_machine.specs.View.{Configuration}
use Rattle.asl_machine.specs.Asked.{request_at}
use Rattle.asl_show.specs.Lines.{lines_from}
use Rattle.asl_show.specs.Nodes.{ask_line, clash_lines, node_lines}

-- what a thread asks for by this request, or that it asks for nothing; and then who is in its way
abbrev pub asked_text : ℕ → State → ℕ → Request → List ℕ
asked_text classes s t [] = codes "asks " ++ decimal t ++ 10 ∷ []
asked_text classes s t (ask ∷ others) = node_lines classes s (ask_line t (ask ∷ others)) ++ node_lines classes s (clash_lines s t (ask ∷ others))

-- what the thread of this number asks for, if it stands at an `acq` in no section
abbrev pub asks_of : Configuration → ℕ → List ℕ
asks_of m t = option_map_or (asked_text m.image.classes m.state t) (request_at m.image m.state t) []

-- what each thread asks for
abbrev pub asks_text : Configuration → List ℕ
asks_text m = lines_from (asks_of m) 0 (length m.state.threads)
