use Rattle.std.proofs.Common.{◌∙◌, ap, sym, subst, map, arith}
use Rattle.asl_code.specs.declared.image.Image.{Image}
use Rattle.asl_code.specs.Fits.{FitsImage}
use Rattle.asl_code.proofs.FitsLaws.{image_fits}
use Rattle.asl_code.proofs.Versions.{few_threads}
use Rattle.asl_machine.specs.Run.{global_object, first_threads}
use Rattle.asl_machine.specs.Ready.{IsMachine}
use Rattle.asl_machine.proofs.Machines.{start_machine}
use Rattle.asl_machine.proofs.machine.start.Goals as goal

pub start_threads-requires-clause-fits : goal.start_threads-requires-clause-fits
start_threads-requires-clause-fits c = subst FitsImage (sym c.in_ok-code.ensures) (image_fits c.args.program.now c.classes.ensures.verified)

pub invariant_of-result : goal.invariant_of-result
invariant_of-result c =
    subst (λ (i : Image). IsMachine i c.in_ok-heap.heap c.in_ok-forest.forest c.in_ok-threads.threads.items) (sym c.in_ok-code.ensures)
    (start_machine c.args.program.now c.in_ok-heap.heap c.in_ok-forest.forest c.in_ok-threads.threads.items c.args.n
    c.classes.ensures.verified c.requires.count
    (c.in_ok-heap.ensures ∙ ap (map global_object) c.globals.ensures.globals)
    (c.in_ok-forest.ensures.classes ∙ c.classes.ensures.classes)
    c.in_ok-forest.ensures.threads c.in_ok-forest.ensures.holding (c.in_ok-threads.ensures ∙ ap (λ (i : Image). first_threads i c.args.n) c.in_ok-code.ensures))

pub new-requires-clause-few_threads : goal.new-requires-clause-few_threads
new-requires-clause-few_threads c = omega (arith, c.requires.count.1, few_threads c.args.program.now.version)

pub start_threads-requires-clause-few : goal.start_threads-requires-clause-few
start_threads-requires-clause-few c = omega (arith, c.requires.count.1, few_threads c.args.program.now.version)
