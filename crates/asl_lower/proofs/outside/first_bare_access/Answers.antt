use Rattle.std.proofs.Common.{◌≡◌, ℕ, suc, Result, Ok, Err, OnOk, ◌+◌, ◌<◌, ◌≤◌, ◌⊎◌, inl, inr, ◌∷◌, List, None, Some, length, map, slice_get, refl, sym, ap, ◌∙◌, subst, arith}
use Rattle.std.proofs.lemmas.Bool.{both_ways}
use Rattle.std.proofs.lemmas.Option.{slice_get_within}
use Rattle.std.proofs.lemmas.List.{at_drop_all}
use Rattle.asl_code.specs.declared.image.Function as entry
use Rattle.asl_syntax.specs.declared.tree.Item as items
use Rattle.asl_syntax.specs.declared.tree.Statement as tree
use Rattle.asl_syntax.specs.Tree.{Function, Item, functions_of}
use Rattle.asl_syntax.specs.View.{item_of, function_of, block_of}
use Rattle.asl_lower.specs.Lowered.{Lowered}
use Rattle.asl_lower.specs.OpenSections.{start_of, IsBare}
use Rattle.asl_lower.specs.Facts.{HasLayout}
use Rattle.asl_lower.specs.Size.{block_size}
use Rattle.asl_lower.specs.Layout.{lowering_of}
use Rattle.asl_lower.specs.Outside.{block_access}
use Rattle.asl_lower.proofs.Counts.{sum_more}
use Rattle.asl_lower.proofs.Laid.{lowering_of_is_lowering}
use Rattle.asl_lower.proofs.Listed.{at_function, at_global}
use Rattle.asl_lower.proofs.Marks.{marked_if_read, read_if_marked}
use Rattle.asl_lower.proofs.Lowest.{NoneBefore, first_found, none_after, none_at_all}
use Rattle.asl_lower.proofs.Trees.{TreeBody, tree_body, body_spans, body_first, body_clear, body_fits}
use Rattle.asl_lower.proofs.outside.first_bare_access.Goals as goal
use Rattle.asl_lower.proofs.outside.first_bare_access.Goals.{in-Function, then-bare-number+in_default-pass_block, else-bare-number, in_default}

-- the functions from a number on are those of the items that are left
abbrev AreLeft : List Item → ℕ → List Function → Type 0
AreLeft is number left = (n : ℕ) → slice_get (functions_of is) (number + n) ≡ slice_get left n

listed : (is : List Item) (number : ℕ) (left rest : List Function) (f : Function) → AreLeft is number left → left ≡ f ∷ rest → slice_get (functions_of is) number ≡ Some f
listed is number left rest f h e =
    let here : number ≡ number + 0 = omega arith in
    ap (slice_get (functions_of is)) here ∙ h 0 ∙ ap (λ (fs : List Function). slice_get fs 0) e

left_after : (is : List Item) (number next : ℕ) (left rest : List Function) (f : Function) → AreLeft is number left → left ≡ f ∷ rest → next ≡ number + 1 → AreLeft is next rest
left_after is number next left rest f h e n m =
    let more : next + m ≡ number + suc m = omega (arith, n) in
    ap (slice_get (functions_of is)) more ∙ h (suc m) ∙ ap (λ (fs : List Function). slice_get fs (suc m)) e

-- the body of the function of the item
body : (is : List Item) → HasLayout (lowering_of is) → (number : ℕ) (left rest : List Function) (f : Function) → AreLeft is number left → left ≡ f ∷ rest → TreeBody is (lowering_of is) number f
body is lay number left rest f h e = tree_body is (lowering_of is) (lowering_of_is_lowering is) lay number f (listed is number left rest f h e)

few : (is : List Item) → HasLayout (lowering_of is) → (number : ℕ) (left rest : List Function) (f : Function) → AreLeft is number left → left ≡ f ∷ rest → number < 256
few is lay number left rest f h e =
    omega (arith, slice_get_within (functions_of is) number f (listed is number left rest f h e), (lowering_of_is_lowering is).functions, lay.limits.few_functions)

pub bounds-bare-number : goal.bounds-bare-number
bounds-bare-number c =
    let e = at_function c.args.items.now c.loop-item.item-index c.item-item.result c.in-Function.function c.loop-item-test.true c.item-item.is c.in-Function.is in
    few (map item_of c.args.items.now) c.requires.layout c.loop-item.number _ _ (function_of c.in-Function.function) c.loop-item.invariant.left e

pub pass_block-requires : goal.pass_block-requires
pass_block-requires c =
    let is = map item_of c.args.items.now in
    let e = at_function c.args.items.now c.loop-item.item-index c.item-item.result c.in-Function.function c.loop-item-test.true c.item-item.is c.in-Function.is in
    let b = body is c.requires.layout c.loop-item.number _ _ (function_of c.in-Function.function) c.loop-item.invariant.left e in
    let same : block_size (block_of c.deref.result.now) ≡ block_size (block_of c.in-Function.function.body.items) = ap (λ (ss : List tree.Statement). block_size (block_of ss)) c.deref.ensures.value in
    omega (arith, body_fits is (lowering_of is) c.requires.layout c.loop-item.number (function_of c.in-Function.function) b, c.requires.few, c.loop-item.invariant.start, same)

pub returns-in-Err : goal.returns-in-Err
returns-in-Err c =
    let is = map item_of c.args.items.now in
    let l = lowering_of is in
    let n : ℕ = c.loop-item.number in
    let f = function_of c.in-Function.function in
    let e = at_function c.args.items.now c.loop-item.item-index c.item-item.result c.in-Function.function c.loop-item-test.true c.item-item.is c.in-Function.is in
    let b = body is c.requires.layout n _ _ f c.loop-item.invariant.left e in
    let found : block_access f.body c.loop-item.start ≡ Some c.in-Err.access.pc = sym (ap (λ (ss : List tree.Statement). block_access (block_of ss) c.loop-item.start) c.deref.ensures.value) ∙ c.in-Err.ensures.found in
    first_found l n c.loop-item.start (c.loop-item.start + b.entry_is.len) c.in-Err.access.pc (body_spans is l n f c.loop-item.start b c.loop-item.invariant.start) ((c.bare_functions-bare.ensures n).0 (marked_if_read c.bare_functions-bare.result n c.if-bare-number.true)) c.loop-item.invariant.none (body_first is l n f c.loop-item.start c.in-Err.access.pc b c.loop-item.invariant.start found)

pub overflow_add-number : goal.overflow_add-number
overflow_add-number c =
    let e = at_function c.args.items.now c.loop-item.item-index c.item-item.result c.in-Function.function c.loop-item-test.true c.item-item.is c.in-Function.is in
    omega (arith, few (map item_of c.args.items.now) c.requires.layout c.loop-item.number _ _ (function_of c.in-Function.function) c.loop-item.invariant.left e)

pub block_size-requires : goal.block_size-requires
block_size-requires c =
    let is = map item_of c.args.items.now in
    let e = at_function c.args.items.now c.loop-item.item-index c.item-item.result c.in-Function.function c.loop-item-test.true c.item-item.is c.in-Function.is in
    let b = body is c.requires.layout c.loop-item.number _ _ (function_of c.in-Function.function) c.loop-item.invariant.left e in
    let same : block_size (block_of c.deref-in-Function.result.now) ≡ block_size (block_of c.in-Function.function.body.items) = ap (λ (ss : List tree.Statement). block_size (block_of ss)) c.deref-in-Function.ensures.value in
    omega (arith, body_fits is (lowering_of is) c.requires.layout c.loop-item.number (function_of c.in-Function.function) b, c.requires.few, same)

pub overflow_add-start : goal.overflow_add-start
overflow_add-start c =
    let is = map item_of c.args.items.now in
    let e = at_function c.args.items.now c.loop-item.item-index c.item-item.result c.in-Function.function c.loop-item-test.true c.item-item.is c.in-Function.is in
    let b = body is c.requires.layout c.loop-item.number _ _ (function_of c.in-Function.function) c.loop-item.invariant.left e in
    let same : block_size (block_of c.deref-in-Function.result.now) ≡ block_size (block_of c.in-Function.function.body.items) = ap (λ (ss : List tree.Statement). block_size (block_of ss)) c.deref-in-Function.ensures.value in
    omega (arith, body_fits is (lowering_of is) c.requires.layout c.loop-item.number (function_of c.in-Function.function) b, c.requires.few, same, c.block_size.ensures)

pub overflow_add-start-in-Function : goal.overflow_add-start-in-Function
overflow_add-start-in-Function c =
    let is = map item_of c.args.items.now in
    let e = at_function c.args.items.now c.loop-item.item-index c.item-item.result c.in-Function.function c.loop-item-test.true c.item-item.is c.in-Function.is in
    let b = body is c.requires.layout c.loop-item.number _ _ (function_of c.in-Function.function) c.loop-item.invariant.left e in
    let same : block_size (block_of c.deref-in-Function.result.now) ≡ block_size (block_of c.in-Function.function.body.items) = ap (λ (ss : List tree.Statement). block_size (block_of ss)) c.deref-in-Function.ensures.value in
    omega (arith, body_fits is (lowering_of is) c.requires.layout c.loop-item.number (function_of c.in-Function.function) b, c.requires.few, same, c.block_size.ensures, c.loop-item.invariant.start)

-- where the next body begins, and that none stands before it
record Onward (l : Lowered) (number start : ℕ) : Type 0 where
  start_is : start ≡ start_of l.functions number
  none : NoneBefore l start

onward : (is : List Item) → HasLayout (lowering_of is) → (number next start end size : ℕ) (f : Function) → TreeBody is (lowering_of is) number f → start ≡ start_of (lowering_of is).functions number → NoneBefore (lowering_of is) start → (block_access f.body start ≡ None) ⊎ (IsBare (lowering_of is) number → ⊥) → size ≡ block_size f.body → next ≡ number + 1 → end ≡ start + (size + 1) → Onward (lowering_of is) next end
onward is lay number next start end size f b s none clear z n e =
    let l = lowering_of is in
    let step = sum_more (λ (g : entry.Function). g.len) l.functions number b.entry_is b.in_table in
    let one : next ≡ suc number = omega (arith, n) in
    let last : end ≡ start + b.entry_is.len = omega (arith, e, z, b.len) in
    let Q : ℕ → Type 0 = λ m. Onward l m end in
    let P : ℕ → Type 0 = λ m. NoneBefore l m in
    let all = none_after l lay number start (start + b.entry_is.len) (body_spans is l number f start b s) (λ pc bare low high. elim clear [ inl k ↦ body_clear is l number f start b s k pc low high | inr k ↦ absurd (k bare) ]) none in
    subst Q (sym one) (record { start_is = omega (arith, last, s, step); none = subst P (sym last) all })

-- what is known where a call did not fail
ok_holds : {T E : Type 0} (r : Result T E) (P : Type 0) → OnOk r P → ((e : E) → r ≡ Err e → ⊥) → P
ok_holds (Ok x) P h not = h
ok_holds (Err e) P h not = absurd (not e refl)

pub loop-item-preserved : goal.loop-item-preserved
loop-item-preserved c =
    let is = map item_of c.args.items.now in
    let l = lowering_of is in
    let n : ℕ = c.loop-item.number in
    elim c.match-item.branch [
      | in-Function w ↦
          let f = function_of w.in-Function.function in
          let e = at_function c.args.items.now c.loop-item.item-index c.item-item.result w.in-Function.function c.loop-item-test.true c.item-item.is w.in-Function.is in
          let b = body is c.requires.layout n _ _ f c.loop-item.invariant.left e in
          let size : w.block_size.result ≡ block_size f.body = w.block_size.ensures ∙ ap (λ (ss : List tree.Statement). block_size (block_of ss)) w.deref-in-Function.ensures.value in
          let clear : (block_access f.body c.loop-item.start ≡ None) ⊎ (IsBare l n → ⊥) = elim w.if-bare-number.branch [
            | then-bare-number+in_default-pass_block v ↦ inl (sym (ap (λ (ss : List tree.Statement). block_access (block_of ss) c.loop-item.start) v.deref.ensures.value) ∙ ok_holds v.pass_block.result (block_access (block_of v.deref.result.now) c.loop-item.start ≡ None) v.pass_block.ensures.none v.in_default-pass_block.not-Err)
            | else-bare-number v ↦ inr (λ bare. both_ways _ v.if-bare-number.false (read_if_marked c.bare_functions-bare.result n ((c.bare_functions-bare.ensures n).1 bare)))
          ] in
          let o = onward is c.requires.layout n c.match-item.number c.loop-item.start c.match-item.start w.block_size.result f b c.loop-item.invariant.start c.loop-item.invariant.none clear size w.number-is w.start-is in
          record {
            start = o.start_is;
            left = left_after is n c.match-item.number _ _ f c.loop-item.invariant.left e w.number-is;
            count = omega (arith, c.loop-item.invariant.count, ap (length {A = Function}) e, w.number-is);
            none = o.none;
          }
      | in_default w ↦
          let e = at_global c.args.items.now c.loop-item.item-index c.item-item.result w.in_default.field-0 c.loop-item-test.true c.item-item.is w.in_default.is in
          let P : ℕ → Type 0 = λ m. (m ≡ start_of l.functions n) × NoneBefore l m in
          let q = subst P (sym w.start-is) (c.loop-item.invariant.start, c.loop-item.invariant.none) in
          record {
            start = q.0 ∙ ap (start_of l.functions) (sym w.number-is);
            left = λ m. ap (λ k. slice_get (functions_of is) (k + m)) w.number-is ∙ c.loop-item.invariant.left m ∙ ap (λ (fs : List Function). slice_get fs m) e;
            count = omega (arith, c.loop-item.invariant.count, ap (length {A = Function}) e, w.number-is);
            none = q.1;
          }
    ]

pub returns : goal.returns
returns c =
    let is = map item_of c.args.items.now in
    let l = lowering_of is in
    let none_left = at_drop_all (λ (xs : List items.Item). length (functions_of (map item_of xs))) c.args.items.now c.loop-item.item-index c.loop-item-test.false in
    let past : length l.functions ≤ c.loop-item.number = omega (arith, c.loop-item.invariant.count, none_left, (lowering_of_is_lowering is).functions) in
    none_at_all l c.requires.layout c.loop-item.number c.loop-item.start c.loop-item.invariant.start past c.loop-item.invariant.none
