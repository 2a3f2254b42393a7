use Rattle.std.proofs.Common.{OnOk, string_bytes, refl, sym, subst}
use Rattle.std.proofs.lemmas.Result.{on_ok_weaker}
use Rattle.asl_command_line.specs.declared.debug_word.DebugWord.{DebugWord}
use Rattle.asl_show.specs.View.{view_text}
use Rattle.asl_show.specs.Asks.{asks_text}
use Rattle.asl_show.specs.Stack.{stack_text}
use Rattle.asl_show.specs.Objects.{objects_text}
use Rattle.asl_tool.specs.Debug.{Follows}
use Rattle.asl_tool.proofs.commands.debug.obey.Goals as goal

pub returns-in-View : goal.returns-in-View
returns-in-View c =
    let s = c.args.debugger.now in
    let m = c.view.result.now in
    let told = on_ok_weaker c.push_view.result (λ grows. (view_text m, (refl, m, c.view.ensures.shown, refl), grows)) c.push_view.ensures in
    subst (λ (w : DebugWord). OnOk c.push_view.result (Follows s w s (string_bytes c.args.text.now) (string_bytes c.push_view.new.text))) (sym c.in-View.is) told

pub returns-in-Asks : goal.returns-in-Asks
returns-in-Asks c =
    let s = c.args.debugger.now in
    let m = c.view-in-Asks.result.now in
    let told = on_ok_weaker c.push_asks.result (λ grows. (asks_text m, (refl, m, c.view-in-Asks.ensures.shown, refl), grows)) c.push_asks.ensures in
    subst (λ (w : DebugWord). OnOk c.push_asks.result (Follows s w s (string_bytes c.args.text.now) (string_bytes c.push_asks.new.text))) (sym c.in-Asks.is) told

pub returns-in-Stack : goal.returns-in-Stack
returns-in-Stack c =
    let s = c.args.debugger.now in
    let m = c.view-in-Stack.result.now in
    let told = on_ok_weaker c.push_stack.result (λ grows. (stack_text m.state, (refl, m, c.view-in-Stack.ensures.shown, refl), grows)) c.push_stack.ensures in
    subst (λ (w : DebugWord). OnOk c.push_stack.result (Follows s w s (string_bytes c.args.text.now) (string_bytes c.push_stack.new.text))) (sym c.in-Stack.is) told

pub returns-in-Objects : goal.returns-in-Objects
returns-in-Objects c =
    let s = c.args.debugger.now in
    let m = c.view-in-Objects.result.now in
    let told = on_ok_weaker c.push_objects.result (λ grows. (objects_text m.state, (refl, m, c.view-in-Objects.ensures.shown, refl), grows)) c.push_objects.ensures in
    subst (λ (w : DebugWord). OnOk c.push_objects.result (Follows s w s (string_bytes c.args.text.now) (string_bytes c.push_objects.new.text))) (sym c.in-Objects.is) told
