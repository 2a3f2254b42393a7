use Rattle.asl_code.proofs.FitsLaws.{image_fits}
use Rattle.asl_machine.specs.Run.{start_of}
use Rattle.asl_machine.specs.ComputedRun.{replies_of, state_after}
use Rattle.asl_machine.proofs.Starts.{start_sound, length-first_threads}
use Rattle.asl_machine.proofs.TableRuns.{run_is, run_only, one_run}
use Rattle.asl_machine.proofs.run_laws.runs_are_the_tables.Goals as goal

pub returns : goal.returns
returns c = record {
  some = λ image count schedule v there.
      (let start = start_of image count in (
        replies_of image start schedule,
        state_after image start schedule,
        run_is image count schedule start (start_sound image count (image_fits image v)) (length-first_threads image count) there,
      ));
  one = one_run;
  computed = λ image s end schedule replies run. run_only image schedule s replies end run;
}
