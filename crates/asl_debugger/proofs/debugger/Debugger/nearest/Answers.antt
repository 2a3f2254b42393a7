use Rattle.std.proofs.Common.{◌≡◌, ◌≤◌, ◌*◌, ◌/◌, Some, arith, refl, subst, sym}
use Rattle.std.specs.Prelude.{slice_get}
use Rattle.std.proofs.lemmas.List.Elements.{All-get_or}
use Rattle.std.proofs.lemmas.Option.{slice_get_read}
use Rattle.asl_debugger.specs.declared.trail.Mark.{Mark}
use Rattle.asl_debugger.specs.Checkpoints.{IsMarkOf}
use Rattle.asl_debugger.proofs.Marking.{found}
use Rattle.asl_debugger.proofs.Marks.{number_there, marked}
use Rattle.asl_debugger.proofs.debugger.Debugger.nearest.Goals as goal

pub returns-in_ok-machine-in-Some-clause-machine :
    goal.returns-in_ok-machine-in-Some-clause-machine
returns-in_ok-machine-in-Some-clause-machine g c =
    let d = c.self.inside in
    let mark = c.index-mark.result.now in
    let there = found (λ (m : Mark). (c.args.k / d.spacing * d.spacing ≤ m.position) × (m.position ≤ c.args.k)) d.marks.items c.in-Some.index (rw c.as_slice.ensures.value at c.in-Some.ensures) in
    let is : IsMarkOf d.machine.image d.journal mark =
    subst (λ (m : Mark). IsMarkOf d.machine.image d.journal m) (sym c.index-mark.ensures) (All-get_or (IsMarkOf d.machine.image d.journal) d.marks.items c.in-Some.index mark there.0 c.self.invariant.marked) in
    let told = rw c.program-program.ensures at c.in_ok-machine-in-Some.ensures.machine in
    rw (← c.self.view_is) (marked d.machine.image d.journal mark.position mark.rest c.in_ok-machine-in-Some.machine told is.is)

pub returns-in_ok-machine-in-Some-clause-before : goal.returns-in_ok-machine-in-Some-clause-before
returns-in_ok-machine-in-Some-clause-before g c =
    let d = c.self.inside in
    let mark = c.index-mark.result.now in
    let there = found (λ (m : Mark). (c.args.k / d.spacing * d.spacing ≤ m.position) × (m.position ≤ c.args.k)) d.marks.items c.in-Some.index (rw c.as_slice.ensures.value at c.in-Some.ensures) in
    subst (λ (m : Mark). m.position ≤ c.args.k) (sym c.index-mark.ensures) (there.1 mark).1

pub machine_of-requires-in-None : goal.machine_of-requires-in-None
machine_of-requires-in-None g c =
    let d = c.self.inside in
    let number = c.args.k / d.spacing in
    let few = rw (← c.self.view_is) at c.requires in
    let low : number * d.spacing ≤ c.args.k = omega (arith, c.self.invariant.spaced) in
    let lt = number_there d.machine.image d.journal d.spacing d.position c.args.k number d.checkpoints.items d.marks.items d.machine c.self.invariant few low in
    let at : slice_get d.checkpoints.items number ≡ Some c.index-checkpoint.result.now = slice_get_read d.checkpoints.items _ number c.index-checkpoint.result.now refl lt c.index-checkpoint.ensures in
    rw c.program-program.ensures (c.self.invariant.each number c.index-checkpoint.result.now at).fits

pub returns-in_ok-machine-in-None-clause-machine :
    goal.returns-in_ok-machine-in-None-clause-machine
returns-in_ok-machine-in-None-clause-machine g c =
    let d = c.self.inside in
    let number = c.args.k / d.spacing in
    let few = rw (← c.self.view_is) at c.requires in
    let low : number * d.spacing ≤ c.args.k = omega (arith, c.self.invariant.spaced) in
    let lt = number_there d.machine.image d.journal d.spacing d.position c.args.k number d.checkpoints.items d.marks.items d.machine c.self.invariant few low in
    let at : slice_get d.checkpoints.items number ≡ Some c.index-checkpoint.result.now = slice_get_read d.checkpoints.items _ number c.index-checkpoint.result.now refl lt c.index-checkpoint.ensures in
    let told = rw c.program-program.ensures at c.in_ok-machine-in-None.ensures.machine in
    rw (← c.self.view_is) (marked d.machine.image d.journal (number * d.spacing) c.index-checkpoint.result.now c.in_ok-machine-in-None.machine told (c.self.invariant.each number c.index-checkpoint.result.now at))
