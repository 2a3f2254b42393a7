-- Texts that grow in two steps.
use Rattle.std.proofs.Common.{◌≡◌, ◌==◌, ℕ, false, List, [], ◌∷◌, ◌++◌, ◌∙◌, length, refl, ap, append_assoc, OnOk, Ok, Err}
use Rattle.std.specs.declared.result.Result.{Result}
use Rattle.asl_lock_forest.specs.Holding.{Request}
use Rattle.asl_machine.specs.State.{State}
use Rattle.asl_show.specs.Asks.{asked_text}
use Rattle.asl_show.specs.Nodes.{ask_line, clash_lines, node_lines}

-- a text that grew by one piece, and where a call succeeds by another, has grown by both
pub grown : {T E : Type 0} (r : Result T E) (old mid new first second : List ℕ) → mid ≡ old ++ first → OnOk r (new ≡ mid ++ second) → OnOk r (new ≡ old ++ (first ++ second))
grown (Ok x) old mid new first second a b = b ∙ ap (λ l. l ++ second) a ∙ append_assoc old first second
grown (Err e) old mid new first second a b = tt

-- a request that asks for something is told by its nodes and their clashes
pub asked_some : (classes : ℕ) (s : State) (t : ℕ) (request : Request) → (length request == 0) ≡ false
    → asked_text classes s t request ≡ node_lines classes s (ask_line t request) ++ node_lines classes s (clash_lines s t request)
asked_some classes s t [] e = cc
asked_some classes s t (ask ∷ others) e = refl
