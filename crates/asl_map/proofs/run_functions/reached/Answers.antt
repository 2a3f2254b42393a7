use Rattle.std.proofs.Common.{◌≡◌, ℕ, ◌<◌, Bool, true, false, List, replicate, slice_set, ◌∙◌, subst, arith}
use Rattle.std.proofs.lemmas.Option.{slice_get_within}
use Rattle.std.proofs.lemmas.List.{length-replicate}
use Rattle.asl_lower.specs.Reach.{IsMarked}
use Rattle.asl_lower.proofs.Marks.{set_here, only_one}
use Rattle.asl_map.proofs.Calls.{reached_from, reached_marked}
use Rattle.asl_map.proofs.run_functions.reached.Goals as goal

pub bounds-marks-from : goal.bounds-marks-from
bounds-marks-from c =
    let lay = c.main.ensures.kept.layout in
    omega (arith, slice_get_within c.args.lowering.now.functions c.args.lowering.now.main lay.main.function lay.main.in_table, lay.limits.few_functions, c.main.ensures.main, c.from.ensures)

pub returns : goal.returns
returns c function =
    let l = c.args.lowering.now in
    let lay = c.main.ensures.kept.layout in
    let same : c.from.result ≡ l.main = c.from.ensures ∙ c.main.ensures.main in
    let few : c.from.result < 256 = omega (arith, slice_get_within l.functions l.main lay.main.function lay.main.in_table, lay.limits.few_functions, same) in
    let first : List Bool = slice_set (replicate 256 false) c.from.result true in
    let here : IsMarked first c.from.result = set_here (replicate 256 false) c.from.result (omega (arith, length-replicate 256 false, few)) in
    let P : ℕ → Type 0 = λ n. IsMarked c.follow_calls.new.marks n in (
      λ h. reached_from l first (λ f m. only_one 256 c.from.result f m ∙ same) function (c.follow_calls.ensures.only function h),
      reached_marked l c.follow_calls.new.marks (subst P same (c.follow_calls.ensures.kept c.from.result here)) c.follow_calls.ensures.followed function,
    )
