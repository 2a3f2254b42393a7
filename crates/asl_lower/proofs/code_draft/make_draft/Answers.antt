use Rattle.std.proofs.Common.{map}
use Rattle.asl_syntax.specs.View.{item_of}
use Rattle.asl_lower.proofs.Emitted.{emitted}
use Rattle.asl_lower.proofs.code_draft.make_draft.Goals as goal

pub returns : goal.returns
returns c =
    emitted (map item_of c.args.items.now) (record { globals = c.count_globals-globals.result; functions = c.in_ok-functions.functions; main = c.main_number-main.result; out = c.emit_functions.new.out }) c.new-out.result (record { code = c.new-out.ensures.code; sections = c.new-out.ensures.sections; sites = c.new-out.ensures.sites }) c.in_ok-functions.ensures.adds c.in_ok-functions.ensures.table c.count_globals-globals.ensures c.main_number-main.ensures.number
