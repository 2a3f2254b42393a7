use Rattle.std.proofs.Common.{rules, ◌≡◌, ℕ, ◌-◌, List, length, Some, slice_get}
use Rattle.std.specs.List.{Contains}
use Rattle.std.proofs.lemmas.Option.{slice_get_within, get_or_from_slice_get}
use Rattle.asl_explain.proofs.Walking.{from_none}
use Rattle.asl_explain.proofs.walk.add_successors.Goals as goal

listed : (items : List ℕ) (k x : ℕ) → slice_get items k ≡ Some x → Contains items x
listed items k x at = (k, slice_get_within items k x at, get_or_from_slice_get items k x x at)

pub returns-in_default : goal.returns-in_default
returns-in_default c = from_none c.args.analysis.now.lowering c.args.pc c.args.waiting.now.items

pub returns-then-first-to : goal.returns-then-first-to
returns-then-first-to c =
    let l = c.args.analysis.now.lowering in
    let nexts = c.as_slice-nexts.result.now in
    let same : nexts ≡ c.successors-successors.result.items = search rules in
    let head : slice_get c.successors-successors.result.items 0 ≡ Some c.in-Some-Some.first.now = search rules in
    let end : slice_get c.successors-successors.result.items (length c.successors-successors.result.items - 1) ≡ Some c.in-Some-Some.last.now = search rules in
    c.in_ok-add_next-2.ensures l c.args.pc c.args.waiting.now.items (λ i at. (c.successors-successors.ensures.goes_on i at _).0 (listed _ 0 _ head))
    (c.in_ok-add_next.ensures l c.args.pc c.args.waiting.now.items (λ i at. (c.successors-successors.ensures.goes_on i at _).0 (listed _ _ _ end)) (from_none l c.args.pc c.args.waiting.now.items))

pub returns : goal.returns
returns c =
    let l = c.args.analysis.now.lowering in
    let head : slice_get c.successors-successors.result.items 0 ≡ Some c.in-Some-Some.first.now = search rules in
    let end : slice_get c.successors-successors.result.items (length c.successors-successors.result.items - 1) ≡ Some c.in-Some-Some.last.now = search rules in
    c.in_ok-add_next-4.ensures l c.args.pc c.args.waiting.now.items (λ i at. (c.successors-successors.ensures.goes_on i at _).0 (listed _ _ _ end))
    (c.in_ok-add_next-3.ensures l c.args.pc c.args.waiting.now.items (λ i at. (c.successors-successors.ensures.goes_on i at _).0 (listed _ 0 _ head)) (from_none l c.args.pc c.args.waiting.now.items))
