use Rattle.std.proofs.Common.{◌≡◌, ℕ, true, false, sym, subst}
use Rattle.asl_code.specs.Verified.{applies}
use Rattle.asl_code.proofs.FitsBack.{verified_from_facts}
use Rattle.asl_code.specs.declared.image.Image.{Image}
use Rattle.asl_atomicity.specs.Serial.{HasSerialRuns}
use Rattle.asl_atomicity.specs.Renamed.{HasSerialRunsUpTo}
use Rattle.asl_emitter.proofs.Guarding.{inferred_serial, inferred_serial_up_to}
use Rattle.asl_soundness.specs.Safe.{NeverFaultsForLocks}
use Rattle.asl_emitter.proofs.Making.{made_at_entries}
use Rattle.asl_emitter.proofs.Verifying.{inferred_fits}
use Rattle.asl_emitter.proofs.Sounding.{inferred_sound}
use Rattle.asl_emitter.proofs.inferred.program.Goals as goal

pub unreachable-requires : goal.unreachable-requires
unreachable-requires c =
    let l = c.args.lowering.now in
    let k = c.args.classes.now in
    let flow = c.requires.flow in
    let made = c.in_ok-image.ensures in
    let image = c.in_ok-image.image in
    let fault = c.in-Err._refused.0 in
    let inferred = made_at_entries l k flow.stores c.args.k c.args.flow.now image flow.tells made.made in
    let fits = inferred_fits l k flow.stores c.args.k image made.kept c.requires.classes c.requires.few inferred in
    let holds : applies image fault ≡ true = c.in-Err.ensures.fault.holds in
    let none : applies image fault ≡ false = verified_from_facts image fits fault in
    absurd (cc)

pub returns-clause-sound : goal.returns-clause-sound
returns-clause-sound c =
    let l = c.args.lowering.now in
    let k = c.args.classes.now in
    let flow = c.requires.flow in
    let made = c.in_ok-image.ensures in
    let image = c.in_ok-image.image in
    let inferred = made_at_entries l k flow.stores c.args.k c.args.flow.now image flow.tells made.made in
    subst NeverFaultsForLocks (sym c.in-Ok.ensures.program) (inferred_sound l k flow.stores c.args.k image made.kept c.requires.classes c.requires.few flow.written inferred)

pub returns-clause-atomic : goal.returns-clause-atomic
returns-clause-atomic c =
    let l = c.args.lowering.now in
    let k = c.args.classes.now in
    let flow = c.requires.flow in
    let made = c.in_ok-image.ensures in
    let image = c.in_ok-image.image in
    let inferred = made_at_entries l k flow.stores c.args.k c.args.flow.now image flow.tells made.made in
    subst (λ (i : Image). (count : ℕ) → HasSerialRuns i count) (sym c.in-Ok.ensures.program) (inferred_serial l k flow.stores c.args.k image made.kept c.requires.classes c.requires.few flow.written inferred)

pub returns-clause-atomic_up_to_numbers : goal.returns-clause-atomic_up_to_numbers
returns-clause-atomic_up_to_numbers c =
    let l = c.args.lowering.now in
    let k = c.args.classes.now in
    let flow = c.requires.flow in
    let made = c.in_ok-image.ensures in
    let image = c.in_ok-image.image in
    let inferred = made_at_entries l k flow.stores c.args.k c.args.flow.now image flow.tells made.made in
    subst (λ (i : Image). (count : ℕ) → HasSerialRunsUpTo i count) (sym c.in-Ok.ensures.program) (inferred_serial_up_to l k flow.stores c.args.k image made.kept c.requires.classes c.requires.few flow.written inferred)
