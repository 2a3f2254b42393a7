use Rattle.std.proofs.Common.{◌≡◌, ℕ, ◌+◌, true, List, length, map, slice_set, refl, sym, ap, ◌∙◌, subst, arith}
use Rattle.asl_syntax.specs.View.{item_of, function_of, block_of}
use Rattle.asl_syntax.specs.Tree.{functions_of}
use Rattle.asl_syntax.specs.declared.tree.Statement as tree
use Rattle.asl_lower.specs.Names.{function_names}
use Rattle.asl_lower.specs.OpenSections.{start_of}
use Rattle.asl_lower.specs.Layout.{lowering_of}
use Rattle.asl_lower.specs.Reach.{Outside}
use Rattle.asl_lower.specs.Outside.{block_callees, MarksThese}
use Rattle.asl_lower.proofs.Laid.{lowering_of_is_lowering}
use Rattle.asl_lower.proofs.Marks.{set_fewer}
use Rattle.asl_lower.proofs.Reaching.{done_begin, done_more, all_done}
use Rattle.asl_lower.proofs.Trees.{tree_body, body_callees}
use Rattle.asl_lower.proofs.outside.follow_calls.Goals as goal

pub loop-number-init : goal.loop-number-init
loop-number-init c = done_begin (lowering_of (map item_of c.args.items.now)) Outside 256 c.args.marks.now

pub next_function-requires : goal.next_function-requires
next_function-requires c =
    omega (arith, c.count_functions-count.ensures, (lowering_of_is_lowering (map item_of c.args.items.now)).functions, c.requires.layout.limits.few_functions)

pub bounds-followed-number : goal.bounds-followed-number
bounds-followed-number c =
    omega (arith, c.in-Some.ensures.0, c.count_functions-count.ensures, (lowering_of_is_lowering (map item_of c.args.items.now)).functions, c.requires.layout.limits.few_functions)

pub loop-number-smaller-in-Some-function_at : goal.loop-number-smaller-in-Some-function_at
loop-number-smaller-in-Some-function_at c =
    omega (arith, set_fewer c.loop-number.followed c.in-Some.number c.in-Some.ensures.2)

pub loop-number-preserved-in-Some-function_at : goal.loop-number-preserved-in-Some-function_at
loop-number-preserved-in-Some-function_at c =
    let is = map item_of c.args.items.now in
    let l = lowering_of is in
    let n : ℕ = c.in-Some.number in
    let f = function_of c.in-Some-function_at.function.now in
    let b = tree_body is l (lowering_of_is_lowering is) c.requires.layout n f c.in-Some-function_at.ensures in
    let same : block_callees (function_names (functions_of is)) (block_of c.deref.result.now) ≡ block_callees (function_names (functions_of is)) f.body = ap (λ (ss : List tree.Statement). block_callees (function_names (functions_of is)) (block_of ss)) c.deref.ensures.value in
    let P : List ℕ → Type 0 = λ xs. MarksThese xs c.loop-number.marks c.mark_block.new.marks in
    let start : ℕ = start_of l.functions n in
    done_more l Outside n b.entry_is start (start + b.entry_is.len) c.args.marks.now c.loop-number.marks c.mark_block.new.marks c.loop-number.followed (slice_set c.loop-number.followed n true) b.in_table refl refl c.in-Some.ensures.1 refl
    (body_callees is l c.requires.layout n f c.loop-number.marks c.mark_block.new.marks b (omega (arith, c.mark_block.array_long, c.mark_block.ensures.len)) (subst P same c.mark_block.ensures))
    c.loop-number.invariant

pub returns-clause-followed : goal.returns-clause-followed
returns-clause-followed c =
    let is = map item_of c.args.items.now in
    let l = lowering_of is in
    let same : c.count_functions-count.result ≡ length l.functions = c.count_functions-count.ensures ∙ sym (lowering_of_is_lowering is).functions in
    all_done l Outside c.count_functions-count.result c.args.marks.now c.loop-number.marks c.loop-number.followed same c.loop-number.invariant c.in_default.ensures
