-- Machinery of the proofs, not of the promise: what a command that is being built has come to (src/arguments.rt).
use Rattle.std.specs.Prelude.{◌≡◌, false}
use Rattle.clap.specs.Words.{App, app_of, with_subcommand}
use Rattle.clap.specs.declared.builder.command.Command.TheViews.{out-Command}
use Rattle.clap.specs.declared.builder.command.Command.{Command}
use Rattle.asl_command_line.specs.Arguments.{compile_app, check_app, map_app, explain_app, diagnose_app, asm_app, dis_app, step_app, run_app, replay_app, log_app, debug_app, c_app, lists_app}

-- the command is the one that is described, and has no argument that its subcommands share
pub record IsBuilt (command : Command) (app : App) : Type 0 where
  pub app_is : app_of command ≡ app
  pub local : (out-Command command).has_globals ≡ false

-- the program with the commands that say what a source needs and why
abbrev pub analyses_added : App → App
analyses_added app =
    with_subcommand (with_subcommand (with_subcommand (with_subcommand (with_subcommand app compile_app.top) check_app.top) map_app.top) explain_app.top) diagnose_app.top

-- the program with the commands that assemble and step an image
abbrev pub steps_added : App → App
steps_added app = with_subcommand (with_subcommand (with_subcommand (with_subcommand (with_subcommand app asm_app.top) dis_app.top) step_app.top) run_app.top) replay_app.top

-- the program with the commands that show a run, and print a source as C and as data
abbrev pub texts_added : App → App
texts_added app = with_subcommand (with_subcommand (with_subcommand (with_subcommand app log_app.top) debug_app.top) c_app.top) lists_app.top
