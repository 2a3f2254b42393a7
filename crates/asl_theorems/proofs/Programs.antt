-- What is compiled is verified, safe and atomic: from the source's tree and its inferred image alone.
use Rattle.std.proofs.Common.{◌≡◌, ◌≢◌, ℕ, suc, ◌≤◌, Bool, List, [], Some, slice_get, sym, subst, arith}
use Rattle.asl_code.specs.declared.image.Image.{Image}
use Rattle.asl_code.specs.Fits.{FitsImage}
use Rattle.asl_syntax.specs.Tree.{Item}
use Rattle.asl_syntax.specs.Parsed.{Parses}
use Rattle.asl_code.specs.declared.lock.Lock.{Lock}
use Rattle.asl_lower.specs.declared.section.Section.{Section}
use Rattle.asl_lower.specs.Lowered.{Lowered, IsLowering}
use Rattle.asl_lower.specs.Regions.{Inside}
use Rattle.asl_lock_expr.specs.ClassOf.{TellsStores}
use Rattle.asl_lock_expr.specs.Links.{IsOne}
use Rattle.asl_backward_flow.specs.Needed.{Needed}
use Rattle.asl_lower.specs.LegalLowering.{IsLegalLowering}
use Rattle.asl_lower.proofs.Laid.{lowering_is_computed, one_lowering}
use Rattle.asl_lower.proofs.Emitted.{emitted_kept}
use Rattle.asl_points_to.specs.Classes.{Classed, AreClasses}
use Rattle.asl_points_to.proofs.Uniques.{one_classed}
use Rattle.asl_soundness.specs.Safe.{NeverFaultsForLocks}
use Rattle.asl_atomicity.specs.Serial.{HasSerialRuns}
use Rattle.asl_atomicity.specs.Renamed.{HasSerialRunsUpTo}
use Rattle.asl_emitter.specs.Inferred.{ClassedProgram, IsInferred, IsInferredFor}
use Rattle.asl_emitter.specs.Refused.{IsLowered, IsAccepted}
use Rattle.asl_emitter.proofs.Verifying.{inferred_fits}
use Rattle.asl_emitter.proofs.Sounding.{inferred_sound}
use Rattle.asl_emitter.proofs.Guarding.{inferred_serial, inferred_serial_up_to}
use Rattle.asl_emitter.proofs.Alike.{one_test, one_image}
use Rattle.asl_emitter.proofs.Covering.{fitted_covers}
use Rattle.asl_emitter.proofs.Needing.{needed_class}
use Rattle.asl_theorems.specs.Compiled.{Compiles}

-- the lowering of a program that is parsed and lowered is one that a `Lowering` may keep
kept : (source : List ℕ) (is : List Item) (l : Lowered) → Parses source is → IsLowered is → IsLowering is l → IsLegalLowering l
kept source is l p h lowers =
    emitted_kept is l (lowering_is_computed is l lowers) ∣ record { text = source; parses = p } ∣₁ h.room.few_registers
    (omega (arith, lowers.code, h.room.few_instructions)) (h.inside l lowers)

-- however a program is lowered and classed, there are as many classes
as_few : (is : List Item) (p q : ClassedProgram is) → p.classes.count ≤ 1024 → q.classes.count ≤ 1024
as_few is p q few =
    let same = one_lowering is p.lowering q.lowering p.lowers q.lowers in
    subst (λ (c : Classed). c.count ≤ 1024)
    (one_classed q.lowering p.classes q.classes (subst (λ (l : Lowered). AreClasses l p.classes) same p.are_classes) q.are_classes) few

module _ (source : List ℕ) (k_limit : ℕ) (image : Image) (c : Compiles source k_limit image) where
  pub its_kept : IsLegalLowering c.inferred.analysis.program.lowering
  its_kept = kept source c.tree c.inferred.analysis.program.lowering c.parsed c.accepted.lowered c.inferred.analysis.program.lowers

  pub its_few : c.inferred.analysis.program.classes.count ≤ 1024
  its_few = as_few c.tree c.accepted.analysis.program c.inferred.analysis.program c.accepted.few_classes

  pub compiled_fits : FitsImage image
  compiled_fits =
      let a = c.inferred.analysis in
      inferred_fits a.program.lowering a.program.classes a.stores k_limit image its_kept a.program.are_classes its_few c.inferred.inferred

  pub compiled_safe : NeverFaultsForLocks image
  compiled_safe =
      let a = c.inferred.analysis in
      inferred_sound a.program.lowering a.program.classes a.stores k_limit image its_kept a.program.are_classes its_few a.tells c.inferred.inferred

  pub compiled_serial : (count : ℕ) → HasSerialRuns image count
  compiled_serial =
      let a = c.inferred.analysis in
      inferred_serial a.program.lowering a.program.classes a.stores k_limit image its_kept a.program.are_classes its_few a.tells c.inferred.inferred

  pub compiled_serial_up_to : (count : ℕ) → HasSerialRunsUpTo image count
  compiled_serial_up_to =
      let a = c.inferred.analysis in
      inferred_serial_up_to a.program.lowering a.program.classes a.stores k_limit image its_kept a.program.are_classes its_few a.tells c.inferred.inferred

-- that a text has one tree is a law of `asl_syntax`
abbrev pub TextHasOneTree : Type 0
TextHasOneTree = (t u : List Item) (text : List ℕ) → Parses text t → Parses text u → t ≡ u

pub one_program : TextHasOneTree → (source : List ℕ) (k_limit : ℕ) (image other : Image) → Compiles source k_limit image → Compiles source k_limit other → image ≡ other
one_program one_tree source k_limit image other p q =
    one_image q.tree k_limit image other (subst (λ (is : List Item). IsInferredFor is k_limit image) (one_tree p.tree q.tree source p.parsed q.parsed) p.inferred) q.inferred

-- ---- whatever lowering, classes and written classes there are

module _ (is : List Item) (l : Lowered) (c : Classed) (stores : ℕ → ℕ → Bool) (lowers : IsLowering is l) (are : AreClasses l c) (tells : TellsStores l c stores) (k_limit : ℕ) (image : Image) where
  by_classes : (d : Classed) → d ≡ c → (o : ℕ → ℕ → Bool) → TellsStores l d o → IsInferred l d o k_limit image → IsInferred l c stores k_limit image
  by_classes d e o u p =
      subst (λ s. IsInferred l c s k_limit image) (one_test l c o stores (subst (λ x. TellsStores l x o) e u) tells) (subst (λ x. IsInferred l x o k_limit image) e p)

  of_each : IsInferredFor is k_limit image → IsInferred l c stores k_limit image
  of_each h =
      let a = h.analysis in
      let e : a.program.lowering ≡ l = one_lowering is a.program.lowering l a.program.lowers lowers in
      subst (λ k. (d : Classed) → AreClasses k d → (o : ℕ → ℕ → Bool) → TellsStores k d o → IsInferred k d o k_limit image → IsInferred l c stores k_limit image) (sym e)
      (λ d k o u q. by_classes d (one_classed l d c k are) o u q) a.program.classes a.program.are_classes a.stores a.tells h.inferred

pub its_source : TextHasOneTree → (source : List ℕ) (k_limit : ℕ) (image : Image) (tree : List Item) (l : Lowered) (c : Classed) (stores : ℕ → ℕ → Bool) → Compiles source k_limit image → Parses source tree → IsLowering tree l → AreClasses l c →
    TellsStores l c stores → IsInferred l c stores k_limit image
its_source one_tree source k_limit image tree l c stores p parsed lowers are tells =
    of_each tree l c stores lowers are tells k_limit image (subst (λ (is : List Item). IsInferredFor is k_limit image) (one_tree p.tree tree source p.parsed parsed) p.inferred)

pub is_kept : (source : List ℕ) (k_limit : ℕ) (tree : List Item) (l : Lowered) → Parses source tree → IsAccepted tree k_limit → IsLowering tree l → IsLegalLowering l
is_kept source k_limit tree l parsed accepted lowers = kept source tree l parsed accepted.lowered lowers

-- a section that needs a lock has a list that is not empty
pub some_lock : TextHasOneTree → (source : List ℕ) (k_limit : ℕ) (image : Image) (tree : List Item) (l : Lowered) (c : Classed) (stores : ℕ → ℕ → Bool) (n : ℕ) (section : Section) (list : List Lock) (lock : Lock) → Compiles source k_limit image →
    Parses source tree → IsLowering tree l → AreClasses l c → TellsStores l c stores → slice_get l.sections n ≡ Some section → slice_get image.lists n ≡ Some list → Needed l c stores k_limit (Inside n) (suc section.acquire) lock → list ≢ []
some_lock one_tree source k_limit image tree l c stores n section list lock p parsed lowers are tells there at needed empty =
    let m = its_source one_tree source k_limit image tree l c stores p parsed lowers are tells in
    let own = kept source tree l parsed (subst IsLowered (one_tree p.tree tree source p.parsed parsed) p.accepted.lowered) lowers in
    let over = fitted_covers c section.function 256 (Needed l c stores k_limit (Inside n) (suc section.acquire)) list (m.lists n section list there at) lock needed
    (needed_class l c stores k_limit own are n (suc section.acquire) section lock there needed) in
    absurd (subst (λ (xs : List Lock). IsOne xs over.0) empty over.1)
