use Rattle.std.proofs.Common.{◌<◌, subst, sym, ◌∙◌}
use Rattle.asl_code.proofs.FitsLaws.{image_fits}
use Rattle.asl_machine.specs.StepFunction.{step_of}
use Rattle.asl_machine.proofs.Reached.{reached_sound, reached_count}
use Rattle.asl_machine.proofs.Table.{step_is}
use Rattle.asl_machine.proofs.Unique.{step_only}
use Rattle.asl_machine.proofs.laws.steps_have_one_line.Goals as goal

pub returns : goal.returns
returns c = record {
  some = λ image count s t v r lt. (
    (step_of image s t).reply,
    (step_of image s t).state,
    step_is image s t (reached_sound image count s (image_fits image v) r) (subst (λ n. t < n) (sym (reached_count image count s r)) lt),
  );
  one = λ image s new other t reply answer h k.
      (let a = step_only image s t reply new h in
      let b = step_only image s t answer other k in
      (a.0 ∙ sym b.0, a.1 ∙ sym b.1));
  computed = λ image s new t reply h. step_only image s t reply new h;
}
