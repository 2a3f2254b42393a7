use Rattle.std.proofs.Common.{refl, arith, length}
use Rattle.std.proofs.lemmas.List.Elements.{All-nil}
use Rattle.std.proofs.lemmas.Option.{slice_get_read}
use Rattle.asl_debugger.specs.Checkpoints.{IsMarkOf}
use Rattle.asl_debugger.proofs.Marks.{first_there, first_is, marked}
use Rattle.asl_debugger.proofs.checkpoints.prepared.Goals as goal

pub machine_of-requires : goal.machine_of-requires
machine_of-requires g c =
    let told = c.in_ok-checkpoints.ensures in
    let items = c.in_ok-checkpoints.checkpoints.items in
    let some = first_there (length c.args.journal.now.events) (length items) c.args.spacing told.enough in
    let at = slice_get_read items _ 0 c.index.result.now refl some c.index.ensures in
    (first_is c.args.program.now c.args.journal.now c.args.spacing items c.index.result.now told.each at).fits

pub returns-clause-kept : goal.returns-clause-kept
returns-clause-kept g c =
    let told = c.in_ok-checkpoints.ensures in
    let items = c.in_ok-checkpoints.checkpoints.items in
    let some = first_there (length c.args.journal.now.events) (length items) c.args.spacing told.enough in
    let at = slice_get_read items _ 0 c.index.result.now refl some c.index.ensures in
    let is = first_is c.args.program.now c.args.journal.now c.args.spacing items c.index.result.now told.each at in
    record {
      is_log = told.log;
      journal = told.journal;
      spaced = c.requires;
      shown = marked c.args.program.now c.args.journal.now 0 c.index.result.now c.in_ok-machine.machine c.in_ok-machine.ensures.machine is;
      within = omega arith;
      each = told.each;
      enough = told.enough;
      none_past = told.none_past;
      marked = All-nil (IsMarkOf c.args.program.now c.args.journal.now);
    }
