use Rattle.std.proofs.Common.{◌≡◌, ℕ, List, ◌++◌, codes, string_bytes, ap, ◌∙◌}
use Rattle.std.proofs.lemmas.Result.{IfOk-weaker}
use Rattle.std.specs.Fmt.{decimal}
use Rattle.asl_class_text.specs.Texts.{function_words, argument_number}
use Rattle.asl_class_text.proofs.words.unnamed_words.Goals as goal

-- the words with another number and another name
other : (number n of w : List ℕ) → number ≡ n → of ≡ w → codes "argument " ++ (number ++ (codes " of calls in " ++ of)) ≡ codes "argument " ++ (n ++ (codes " of calls in " ++ w))
other number n of w e f =
    ap (λ (l : List ℕ). codes "argument " ++ (l ++ (codes " of calls in " ++ of))) e ∙ ap (λ (l : List ℕ). codes "argument " ++ (n ++ (codes " of calls in " ++ l))) f

pub returns : goal.returns
returns c =
    IfOk-weaker c.format.result _ _
    (λ text told. told ∙ other (string_bytes c.in_ok-number.number) (decimal (argument_number c.args.facts.now c.args.function c.args.register)) (string_bytes c.in_ok-of.of) (function_words c.args.facts.now c.args.function) c.in_ok-number.ensures c.in_ok-of.ensures)
    c.format.ensures.ok
