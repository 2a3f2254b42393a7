use Rattle.std.proofs.Common.{◌≡◌, ◌+◌, suc, ◌∷◌, ◌++◌, List, drop, map, length, sym, ap, ◌∙◌, subst, arith, Vec, Global}
use Rattle.asl_code.specs.declared.image.Function as entry
use Rattle.asl_syntax.specs.Tree.{Function, functions_of}
use Rattle.asl_syntax.specs.View.{function_of, item_of}
use Rattle.asl_lower.specs.declared.output.Output.{Output}
use Rattle.asl_lower.specs.Names.{scope_of}
use Rattle.asl_lower.specs.Place.{past_function, past_functions}
use Rattle.asl_lower.specs.Layout.{block_sections, function_code, functions_code, functions_sections, functions_table}
use Rattle.asl_lower.specs.OutputView.{Adds, place_of}
use Rattle.asl_lower.specs.Refused.{first_crowded}
use Rattle.asl_lower.proofs.Listed.{none_crowded, at_function, at_global, functions_room, code_step, sections_step, table_step}
use Rattle.asl_lower.proofs.functions.emit_functions.Goals as goal
use Rattle.asl_lower.proofs.functions.emit_functions.Goals.{in-Function+in_ok-entry+in_ok-push, in_default}

pub emit_function-requires-clause-room : goal.emit_function-requires-clause-room
emit_function-requires-clause-room c =
    let e = at_function c.args.items.now c.loop-item.item-index c.item-item.result c.in-Function.function c.loop-item-test.true c.item-item.is c.in-Function.is in
    functions_room (function_of c.in-Function.function) _ _ (place_of c.loop-item.out) _ e c.loop-item.invariant.4 c.requires.room

pub loop-item-preserved : goal.loop-item-preserved
loop-item-preserved c =
    let is = map item_of c.args.items.now in
    let left = functions_of (map item_of (drop c.loop-item.item-index c.args.items.now)) in
    let rest = functions_of (map item_of (drop (c.loop-item.item-index + 1) c.args.items.now)) in
    let old = c.loop-item.out in
    let number = c.loop-item.number in
    elim c.match-item.branch [
      | in-Function+in_ok-entry+in_ok-push w ↦
          let f = function_of w.in-Function.function in
          let e : left ≡ f ∷ rest = at_function c.args.items.now c.loop-item.item-index c.item-item.result w.in-Function.function (omega arith) c.item-item.is w.in-Function.is in
          let P : Output → Type 0 = λ o. Adds old o (function_code is number f (place_of old)) (block_sections (scope_of is number f) f.body (place_of old)) (past_function f (place_of old)) in
          let h : P c.match-item.out = subst P (sym w.out-is) w.in_ok-entry.ensures.adds in
          let n : c.match-item.number ≡ suc number = omega arith in (
            ap (λ m. first_crowded m rest) n ∙ (none_crowded number f rest (ap (first_crowded number) (sym e) ∙ c.loop-item.invariant.0)).1,
            omega (arith, ap length e),
            code_step is number c.match-item.number f left rest old c.match-item.out _ e n h c.loop-item.invariant.2,
            sections_step is number c.match-item.number f left rest old c.match-item.out _ e n h c.loop-item.invariant.3,
            c.loop-item.invariant.4 ∙ ap (λ (fs : List Function). past_functions fs (place_of old)) e ∙ ap (past_functions rest) (sym h.place),
            table_step f left rest c.loop-item.table.items c.match-item.table.items _ w.in_ok-entry.entry (place_of old) (place_of c.match-item.out) e (ap (λ (t : Vec entry.Function Global). t.items) w.table-is ∙ w.in_ok-push.ensures.items) w.in_ok-entry.ensures.entry h.place c.loop-item.invariant.5,
          )
      | in_default w ↦
          let e : rest ≡ left = sym (at_global c.args.items.now c.loop-item.item-index c.item-item.result w.in_default.field-0 (omega arith) c.item-item.is w.in_default.is) in
          let n : c.match-item.number ≡ number = w.number-is in
          let o : c.match-item.out ≡ old = w.out-is in (
            ap (λ m. first_crowded m rest) n ∙ ap (first_crowded number) e ∙ c.loop-item.invariant.0,
            omega (arith, ap length e),
            ap (λ m. c.match-item.out.code.items ++ functions_code is m rest (place_of c.match-item.out)) n ∙ ap (λ (v : Output). v.code.items ++ functions_code is number rest (place_of v)) o ∙ ap (λ (fs : List Function). old.code.items ++ functions_code is number fs (place_of old)) e ∙ c.loop-item.invariant.2,
            ap (λ m. c.match-item.out.sections.items ++ functions_sections is m rest (place_of c.match-item.out)) n ∙ ap (λ (v : Output). v.sections.items ++ functions_sections is number rest (place_of v)) o ∙ ap (λ (fs : List Function). old.sections.items ++ functions_sections is number fs (place_of old)) e ∙ c.loop-item.invariant.3,
            c.loop-item.invariant.4 ∙ sym (ap (λ (v : Output). past_functions rest (place_of v)) o ∙ ap (λ (fs : List Function). past_functions fs (place_of old)) e),
            ap (λ (t : Vec entry.Function Global). t.items ++ functions_table rest (place_of c.match-item.out)) w.table-is ∙ ap (λ (v : Output). c.loop-item.table.items ++ functions_table rest (place_of v)) o ∙ ap (λ (fs : List Function). c.loop-item.table.items ++ functions_table fs (place_of old)) e ∙ c.loop-item.invariant.5,
          )
    ]
