use Rattle.std.proofs.Common.{◌≡◌, ◌++◌, ℕ, List, Option, Some, OnOk, ap, sym, ◌∙◌, drop, string_bytes, subst}
use Rattle.asl_diagnose_text.specs.Shown.{IsLetterText}
use Rattle.asl_diagnose.specs.RefusalText.{IsByteTold}
use Rattle.asl_diagnose.proofs.refusal_text.push_byte.Goals as goal

pub returns-in-Some : goal.returns-in-Some
returns-in-Some c =
    subst (λ (at : Option ℕ). OnOk c.push_letter.result ((x : List ℕ) × IsByteTold c.args.text.now at x × (string_bytes c.push_letter.new.message ≡ string_bytes c.args.message.now ++ x))) (sym c.in-Some.is)
    (subst (λ (bs : List ℕ). OnOk c.push_letter.result ((x : List ℕ) × IsLetterText bs x × (string_bytes c.push_letter.new.message ≡ string_bytes c.args.message.now ++ x)))
    (c.split_at.ensures.back ∙ ap (λ (n : ℕ). drop n c.args.text.now) c.min.ensures) c.push_letter.ensures)
