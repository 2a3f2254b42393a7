-- Machinery of the proofs, not of the promise: an ask whose kind, class and mode are there, in one test.
use Rattle.std.specs.Prelude.{ℕ, ◌&&◌, Bool, not}
use Rattle.asl_mode_lanes.specs.declared.mode.Mode.TheVariants.{NL}
use Rattle.asl_mode_lanes.specs.Mode.{is_at_most}
use Rattle.asl_mode_lanes.specs.Row.{mode_of}
use Rattle.asl_lock_queue.specs.declared.ask.Ask.{Ask}
use Rattle.asl_lock_queue.specs.Asks.{is_kind, node_of}
use Rattle.asl_c_forest.specs.Status.{is_there}

-- whether the kind, the class and the mode of an ask are there
abbrev pub is_plain : ℕ → Ask → Bool
is_plain classes ask = is_kind ask.kind && (is_there classes (node_of ask) && not (is_at_most (mode_of ask.mode) NL))
