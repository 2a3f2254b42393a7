-- The arguments of `step`, as `clap` builds them, and which of them a flag names.
use Rattle.std.proofs.Common.{◌≡◌, ◌||◌, ◌==◌, ℕ, Bool, true, false, cond, List, [], ◌∷◌, Option, Some, None, refl, codes}
use Rattle.std.specs.Str.{bytes_eq}
use Rattle.clap.specs.Walk.{Rule, Text, arg_by_long, arg_by_short}
use Rattle.clap.specs.Simple.{Shape, filled, help_rule, new_shape, with_index}
use Rattle.asl_command_line.specs.Arguments.{flag_rule, needed_rule, words_rule}

abbrev pub threads : Rule
threads = with_index 1 (filled (needed_rule (codes "threads")))

abbrev pub recorded : Rule
recorded = with_index 1 (filled (flag_rule (codes "record")))

abbrev pub schedule : Rule
schedule = with_index 1 (filled (words_rule (codes "schedule")))

abbrev pub help : Rule
help = with_index 2 (filled help_rule)

abbrev pub step_rules : List Rule
step_rules = threads ∷ recorded ∷ schedule ∷ help ∷ []

abbrev pub step_shape : Shape
step_shape = record (new_shape (codes "step")) {
  rules = step_rules;
  no_binary_name = true;
  disable_help_subcommand = true;
  is_built = true;
}

-- the option or flag of a name, by which name it is
abbrev pub named : Bool → Bool → Bool → Option Rule
named t r h = cond t (Some threads) (cond r (Some recorded) (cond h (Some help) None))

pub long_is : (name : Text)
    → arg_by_long step_rules name ≡ named (bytes_eq (codes "threads") name || false) (bytes_eq (codes "record") name || false) (bytes_eq (codes "help") name || false)
long_is name = refl

pub short_is : (x : ℕ) → arg_by_short step_rules x ≡ cond (104 == x || false) (Some help) None
short_is x = refl
