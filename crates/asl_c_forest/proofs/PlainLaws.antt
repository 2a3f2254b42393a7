-- Of asks that are plain each kind, class and mode is there.
use Rattle.std.proofs.Common.{ℕ, Bool, true, false, ◌&&◌, not, IsTrue, List, [], ◌∷◌, map, refl, sym, true≢false}
use Rattle.std.specs.List.{list_all}
use Rattle.asl_mode_lanes.specs.declared.mode.Mode.TheVariants.{NL}
use Rattle.asl_mode_lanes.specs.Mode.{is_at_most}
use Rattle.asl_mode_lanes.specs.Row.{mode_of}
use Rattle.asl_lock_forest.specs.Request.{asks_modes}
use Rattle.asl_lock_queue.specs.declared.ask.Ask.{Ask}
use Rattle.asl_lock_queue.specs.Asks.{is_kind, has_kinds, node_of, ask_of}
use Rattle.asl_c_forest.specs.Status.{is_there, has_classes}
use Rattle.asl_c_forest.specs.Plain.{is_plain}

both : (a b : Bool) → IsTrue a → IsTrue b → IsTrue (a && b)
both true true p q = refl
both true false p q = q
both false b p q = p

parts : (a b : Bool) → IsTrue (a && b) → IsTrue a × IsTrue b
parts true b e = (refl, e)
parts false b e = absurd (true≢false (sym e))

pub kinds_of : (classes : ℕ) (asks : List Ask) → IsTrue (list_all (is_plain classes) asks) → IsTrue (has_kinds asks)
kinds_of classes [] e = refl
kinds_of classes (ask ∷ asks) e =
    let here = parts (is_plain classes ask) (list_all (is_plain classes) asks) e in
    both (is_kind ask.kind) (has_kinds asks) (parts (is_kind ask.kind) (is_there classes (node_of ask) && not (is_at_most (mode_of ask.mode) NL)) here.0).0 (kinds_of classes asks here.1)

pub classes_there : (classes : ℕ) (asks : List Ask) → IsTrue (list_all (is_plain classes) asks) → IsTrue (has_classes classes asks)
classes_there classes [] e = refl
classes_there classes (ask ∷ asks) e =
    let here = parts (is_plain classes ask) (list_all (is_plain classes) asks) e in
    let rest = (parts (is_kind ask.kind) (is_there classes (node_of ask) && not (is_at_most (mode_of ask.mode) NL)) here.0).1 in
    both (is_there classes (node_of ask)) (has_classes classes asks) (parts (is_there classes (node_of ask)) (not (is_at_most (mode_of ask.mode) NL)) rest).0 (classes_there classes asks here.1)

pub modes_of : (classes : ℕ) (asks : List Ask) → IsTrue (list_all (is_plain classes) asks) → IsTrue (asks_modes (map ask_of asks))
modes_of classes [] e = refl
modes_of classes (ask ∷ asks) e =
    let here = parts (is_plain classes ask) (list_all (is_plain classes) asks) e in
    let rest = (parts (is_kind ask.kind) (is_there classes (node_of ask) && not (is_at_most (mode_of ask.mode) NL)) here.0).1 in
    both (not (is_at_most (mode_of ask.mode) NL)) (asks_modes (map ask_of asks)) (parts (is_there classes (node_of ask)) (not (is_at_most (mode_of ask.mode) NL)) rest).1 (modes_of classes asks here.1)
