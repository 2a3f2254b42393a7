use Rattle.std.proofs.Common.{◌≡◌, List, ℕ, IfOk, rules, refl, inr, map, subst, string_bytes}
use Rattle.asl_tool.specs.declared.endings.over_memory.Ended.{Ended}
use Rattle.asl_tool.specs.Memory.{EndsOver}
use Rattle.asl_tool.specs.Tool.{AsksForWork}
use Rattle.asl_c_commands.specs.Words.{words_of}
use Rattle.asl_c_commands.specs.Called.{SaysWhyNot}
use Rattle.asl_c_commands.proofs.Answering.{ok_of, err_of}
use Rattle.asl_c_commands.proofs.call.called.Goals as goal

pub returns-clause-ended : goal.returns-clause-ended
returns-clause-ended c =
    let same : map string_bytes c.as_slice.result.now ≡ words_of c.args.words.now = first_of (search rules, cc) in
    subst (λ (w : List (List ℕ)). IfOk c.answered.result (λ (e : Ended). EndsOver w c.args.input.now e.output.items e.ending)) same
    (ok_of c.ended_over.result c.answered.result _ _ c.answered.ensures c.ended_over.ensures)

pub returns-clause-err : goal.returns-clause-err
returns-clause-err c =
    let same : map string_bytes c.as_slice.result.now ≡ words_of c.args.words.now = first_of (search rules, cc) in
    err_of c.ended_over.result c.answered.result _ _ (SaysWhyNot c.args.words.now) c.answered.ensures c.ended_over.ensures
    (λ waits. inr (inr (refl, subst (λ (w : List (List ℕ)). AsksForWork w) same waits)))
