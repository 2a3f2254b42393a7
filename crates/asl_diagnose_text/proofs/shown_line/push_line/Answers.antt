use Rattle.std.proofs.Common.{◌-◌, ◌++◌, ℕ, List, refl, map, length, codes, rules, append_assoc}
use Rattle.asl_diagnose_text.specs.Shown.{below, bytes_on, shown}
use Rattle.asl_diagnose_text.proofs.shown_line.push_line.Goals as goal

pub returns : goal.returns
returns c =
    let before : List ℕ = c.shown_before-before.result.now in
    let lines : List ℕ = map shown before ++ (map shown (bytes_on c.args.text.now c.args.at (120 - length before)) ++ (codes "\n" ++ (map below before ++ codes "^\n"))) in
    (lines, record { before = before; are_before = c.shown_before-before.ensures; is = refl }, search (rules, append_assoc))
