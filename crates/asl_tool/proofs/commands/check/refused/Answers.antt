use Rattle.std.proofs.Common.{◌≡◌, ◌↔◌, ◌∷◌, [], Bool, List, MatchBool, ap, ◌∙◌, subst}
use Rattle.asl_syntax.specs.AstView.{tree_of}
use Rattle.asl_check.specs.declared.fault.CheckFault.{CheckFault}
use Rattle.asl_check.specs.Missing.{LacksAll, IsBeforeLists}
use Rattle.asl_check.specs.Refused.{IsChecked, IsRefusedLists}
use Rattle.asl_check.proofs.Telling.{refusal_first}
use Rattle.asl_refusal_text.specs.FaultText.{check_lines}
use Rattle.asl_tool.proofs.commands.check.refused.Goals as goal

pub returns-in-Ok-lines_of_checks : goal.returns-in-Ok-lines_of_checks
returns-in-Ok-lines_of_checks c =
    let is = tree_of c.args.ast.now in
    let image = c.args.program.now in
    let faults : List CheckFault = c.in-Ok.faults.items in
    let same = c.operations.ensures.value in
    let all = subst (λ n. LacksAll is n image faults) same c.in-Ok.ensures.all in
    let first = subst (λ n. (f : CheckFault) (rest : List CheckFault) → faults ≡ f ∷ rest → IsRefusedLists is n image f) same c.in-Ok.ensures.first in
    let none = subst (λ n. (faults ≡ []) ↔ IsChecked is n image) same c.in-Ok.ensures.none in
    let late = subst (λ (b : Bool). MatchBool b (IsBeforeLists c.args.first → ⊥) (IsBeforeLists c.args.first)) c.if-not-is_of_lists.false c.is_of_lists.ensures in
    let own = refusal_first is c.args.k_limit.now image c.args.first faults late c.requires all first none in
    (c.if-not-all.false, (own.0, (c.requires, subst (λ (fs : List CheckFault). LacksAll is c.args.k_limit.now image fs) own.1 all), c.in-Ok-lines_of_checks.ensures ∙ ap check_lines (c.deref.ensures.value ∙ own.1)))

pub returns-in-Ok : goal.returns-in-Ok
returns-in-Ok c =
    let is = tree_of c.args.ast.now in
    let image = c.args.program.now in
    let faults : List CheckFault = c.in-Ok.faults.items in
    let same = c.operations.ensures.value in
    let all = subst (λ n. LacksAll is n image faults) same c.in-Ok.ensures.all in
    let first = subst (λ n. (f : CheckFault) (rest : List CheckFault) → faults ≡ f ∷ rest → IsRefusedLists is n image f) same c.in-Ok.ensures.first in
    let none = subst (λ n. (faults ≡ []) ↔ IsChecked is n image) same c.in-Ok.ensures.none in
    let late = subst (λ (b : Bool). MatchBool b (IsBeforeLists c.args.first → ⊥) (IsBeforeLists c.args.first)) c.if-not-is_of_lists.false c.is_of_lists.ensures in
    let own = refusal_first is c.args.k_limit.now image c.args.first faults late c.requires all first none in
    (c.if-not-all.false, (c.args.first, own.0, (c.requires, subst (λ (fs : List CheckFault). LacksAll is c.args.k_limit.now image fs) own.1 all)))
