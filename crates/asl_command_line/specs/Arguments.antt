-- The commands of the program `asl` and their arguments, in the terms in which `clap` says what words make of them
-- (docs/CLI.md, "Commands").
use Rattle.std.specs.Prelude.{true, [], Some, codes}
use Rattle.clap.specs.Words.{App, Rule, Text, new_app, new_rule, with_rule, with_subcommand}
use Rattle.clap.specs.Lexer.{usize_max}
use Rattle.clap.specs.declared.builder.action.ArgAction.TheVariants.{Set, SetTrue, Append}

-- `--NAME VALUE`
abbrev pub value_rule : Text → Rule
value_rule name = record (new_rule name) { long = Some name; action = Some Set; value_names = 1 }

-- `--NAME VALUE`, any number of times
abbrev pub values_rule : Text → Rule
values_rule name = record (new_rule name) { long = Some name; action = Some Append; value_names = 1 }

-- `--NAME VALUE`, which must be given
abbrev pub needed_rule : Text → Rule
needed_rule name = record (value_rule name) { required = true }

-- `--NAME`
abbrev pub flag_rule : Text → Rule
flag_rule name = record (new_rule name) { long = Some name; action = Some SetTrue }

-- words of no option, of which there must be one or more
abbrev pub words_rule : Text → Rule
words_rule name = record (new_rule name) {
  action = Some Append;
  value_names = 1;
  range = Some (record { start_inclusive = 1; end_inclusive = usize_max });
  required = true;
}

-- `compile [--k K] [--text]`
abbrev pub compile_app : App
compile_app = with_rule (with_rule (new_app (codes "compile")) (value_rule (codes "k"))) (flag_rule (codes "text"))

-- `check [--k K] [--all]`
abbrev pub check_app : App
check_app = with_rule (with_rule (new_app (codes "check")) (value_rule (codes "k"))) (flag_rule (codes "all"))

-- `map`
abbrev pub map_app : App
map_app = new_app (codes "map")

-- `explain [--k K] [--all] [--classes]`
abbrev pub explain_app : App
explain_app = with_rule (with_rule (with_rule (new_app (codes "explain")) (value_rule (codes "k"))) (flag_rule (codes "all"))) (flag_rule (codes "classes"))

-- `lists [--k K] [--entry F]..`
abbrev pub lists_app : App
lists_app = with_rule (with_rule (new_app (codes "lists")) (value_rule (codes "k"))) (values_rule (codes "entry"))

-- `diagnose [--k K] [--asm] [--all]`
abbrev pub diagnose_app : App
diagnose_app = with_rule (with_rule (with_rule (new_app (codes "diagnose")) (value_rule (codes "k"))) (flag_rule (codes "asm"))) (flag_rule (codes "all"))

-- `c [--k K] [--check] [--entry F].. [--extern F=NAME]..`
abbrev pub c_app : App
c_app =
    with_rule (with_rule (with_rule (with_rule (new_app (codes "c")) (value_rule (codes "k"))) (flag_rule (codes "check"))) (values_rule (codes "entry")))
    (values_rule (codes "extern"))

-- `asm`
abbrev pub asm_app : App
asm_app = new_app (codes "asm")

-- `dis`
abbrev pub dis_app : App
dis_app = new_app (codes "dis")

-- `replay`
abbrev pub replay_app : App
replay_app = new_app (codes "replay")

-- `step --threads N [--record] T..`
abbrev pub step_app : App
step_app =
    with_rule (with_rule (with_rule (new_app (codes "step")) (needed_rule (codes "threads"))) (flag_rule (codes "record")))
    (words_rule (codes "schedule"))

-- `run --threads N --workers W --limit L [--record]`
abbrev pub run_app : App
run_app =
    with_rule (with_rule (with_rule (with_rule (new_app (codes "run")) (needed_rule (codes "threads"))) (needed_rule (codes "workers")))
    (needed_rule (codes "limit"))) (flag_rule (codes "record"))

-- `log [--trace]`
abbrev pub log_app : App
log_app = with_rule (new_app (codes "log")) (flag_rule (codes "trace"))

-- `debug WORD..`
abbrev pub debug_app : App
debug_app = with_rule (new_app (codes "debug")) (words_rule (codes "words"))

-- the program's words are those after its own name, and name a command; it has the flags `--version` and `-V`
abbrev pub bare_app : App
bare_app = record {
  top = record (new_app (codes "asl")).top { has_version = true; no_binary_name = true; subcommand_required = true; disable_help_subcommand = true };
  subs = [];
}

-- the program
abbrev pub asl_app : App
asl_app =
    with_subcommand (with_subcommand (with_subcommand (with_subcommand (with_subcommand (with_subcommand (with_subcommand (with_subcommand (with_subcommand (with_subcommand (with_subcommand
    (with_subcommand (with_subcommand (with_subcommand bare_app
    compile_app.top) check_app.top) map_app.top) explain_app.top) diagnose_app.top) asm_app.top) dis_app.top) step_app.top) run_app.top) replay_app.top) log_app.top)
    debug_app.top) c_app.top) lists_app.top
