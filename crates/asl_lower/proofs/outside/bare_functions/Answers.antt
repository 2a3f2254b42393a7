use Rattle.std.proofs.Common.{ℕ, ◌<◌, ◌∙◌, true, false, length, map, replicate, slice_set, subst, arith}
use Rattle.std.proofs.lemmas.List.{length-replicate}
use Rattle.std.proofs.lemmas.Option.{slice_get_within}
use Rattle.asl_syntax.specs.View.{item_of}
use Rattle.asl_lower.specs.Layout.{lowering_of}
use Rattle.asl_lower.specs.Reach.{IsMarked}
use Rattle.asl_lower.proofs.Marks.{set_here, only_one}
use Rattle.asl_lower.proofs.Reaching.{bare_from_reached, bare_marked}
use Rattle.asl_lower.proofs.outside.bare_functions.Goals as goal

pub bounds-marks-main_number : goal.bounds-marks-main_number
bounds-marks-main_number c =
    let l = lowering_of (map item_of c.args.items.now) in
    omega (arith, slice_get_within l.functions l.main c.requires.layout.main.function c.requires.layout.main.in_table, c.requires.layout.limits.few_functions, c.main_number.ensures.number)

pub returns : goal.returns
returns c f =
    let l = lowering_of (map item_of c.args.items.now) in
    let m = c.requires.layout.main in
    let low : c.main_number.result < length (replicate 256 false) = omega (arith, slice_get_within l.functions l.main m.function m.in_table, c.requires.layout.limits.few_functions, c.main_number.ensures.number, length-replicate 256 false) in
    let P : ℕ → Type 0 = λ n. IsMarked c.follow_calls.new.marks n in
    let main : IsMarked c.follow_calls.new.marks l.main = subst P c.main_number.ensures.number (c.follow_calls.ensures.kept c.main_number.result (set_here (replicate 256 false) c.main_number.result low)) in (
      λ h. bare_from_reached l (slice_set (replicate 256 false) c.main_number.result true) (λ g k. only_one 256 c.main_number.result g k ∙ c.main_number.ensures.number) f (c.follow_calls.ensures.only f h),
      bare_marked l c.follow_calls.new.marks main c.follow_calls.ensures.followed f,
    )
