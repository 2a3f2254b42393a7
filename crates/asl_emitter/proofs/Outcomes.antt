-- A program has one outcome: its faults, and that an image is inferred for it, keep each other out.
use Rattle.std.proofs.Common.{◌≡◌, ◌⊎◌, inl, inr, ℕ, Bool, List, refl, ap, ap₂, subst, arith}
use Rattle.asl_syntax.specs.Tree.{Item}
use Rattle.asl_lower.specs.Lowered.{Lowered, IsLowering}
use Rattle.asl_lower.specs.Regions.{Region}
use Rattle.asl_lower.specs.OpenSections.{InBody, IsFirstBareAccess}
use Rattle.asl_lower.proofs.Laid.{one_lowering}
use Rattle.asl_lower.proofs.BodyFacts.{lowering_parted}
use Rattle.asl_points_to.specs.Classes.{Classed, AreClasses}
use Rattle.asl_points_to.proofs.Uniques.{one_classed}
use Rattle.asl_lock_expr.specs.ClassOf.{TellsStores}
use Rattle.asl_backward_flow.specs.Needed.{NeedsMany, region_of}
use Rattle.asl_emitter.specs.declared.fault.InferFault.{InferFault}
use Rattle.asl_emitter.specs.declared.fault.InferFault.TheVariants.{Registers, CodeSize, AccessOutsideSection, TooManyClasses, TooManyLocks, OutOfMemory}
use Rattle.asl_emitter.specs.Inferred.{ClassedProgram, Analysis}
use Rattle.asl_emitter.specs.Refused.{IsLowered, IsAccepted, IsRefusedInference}
use Rattle.asl_emitter.proofs.Alike.{one_test}

-- a program that is lowered has no fault of lowering
not_registers : (is : List Item) (k_limit function : ℕ) → IsLowered is → IsRefusedInference is k_limit (Registers function) → ⊥
not_registers is k_limit function h e = let none = h.room.few_registers in cc

not_code_size : (is : List Item) (k_limit : ℕ) → IsLowered is → IsRefusedInference is k_limit CodeSize → ⊥
not_code_size is k_limit h e = omega (arith, h.room.few_instructions, e.1)

not_access : (is : List Item) (k_limit function pc : ℕ) → IsLowered is → IsRefusedInference is k_limit (AccessOutsideSection function pc) → ⊥
not_access is k_limit function pc h e = h.inside e.1.0 e.1.1 function pc e.1.2.access

pub registers : (is : List Item) (k_limit function : ℕ) (other : InferFault) → IsRefusedInference is k_limit (Registers function) → IsRefusedInference is k_limit other → other ≡ Registers function
registers is k_limit function (Registers another) h e = cc
registers is k_limit function CodeSize h e = let none = e.0 in absurd (cc)
registers is k_limit function (AccessOutsideSection another pc) h e = let none = e.0.few_registers in absurd (cc)
registers is k_limit function TooManyClasses h e = absurd (not_registers is k_limit function e.lowered h)
registers is k_limit function (TooManyLocks region) h e = absurd (not_registers is k_limit function e.lowered h)
registers is k_limit function OutOfMemory h e = absurd (not_registers is k_limit function e h)

pub code_size : (is : List Item) (k_limit : ℕ) (other : InferFault) → IsRefusedInference is k_limit CodeSize → IsRefusedInference is k_limit other → other ≡ CodeSize
code_size is k_limit (Registers function) h e = let none = h.0 in absurd (cc)
code_size is k_limit CodeSize h e = refl
code_size is k_limit (AccessOutsideSection function pc) h e = absurd (omega (arith, e.0.few_instructions, h.1))
code_size is k_limit TooManyClasses h e = absurd (not_code_size is k_limit e.lowered h)
code_size is k_limit (TooManyLocks region) h e = absurd (not_code_size is k_limit e.lowered h)
code_size is k_limit OutOfMemory h e = absurd (not_code_size is k_limit e h)

-- the first access outside sections is one
one_access : (is : List Item) (l : Lowered) → IsLowering is l → (f g pc at : ℕ) → IsFirstBareAccess l f pc → IsFirstBareAccess l g at → (g ≡ f) × (at ≡ pc)
one_access is l lowers f g pc at p q =
    let same : at ≡ pc = omega (arith, p.first g at q.access, q.first f pc p.access) in
    ((lowering_parted is l lowers).one_body pc g f (subst (InBody l g) same q.access.inside) p.access.inside, same)

pub access : (is : List Item) (k_limit function pc : ℕ) (other : InferFault) → IsRefusedInference is k_limit (AccessOutsideSection function pc) → IsRefusedInference is k_limit other → other ≡ AccessOutsideSection function pc
access is k_limit function pc (Registers another) h e = let none = h.0.few_registers in absurd (cc)
access is k_limit function pc CodeSize h e = absurd (omega (arith, h.0.few_instructions, e.1))
access is k_limit function pc (AccessOutsideSection another at) h e =
    let same : e.1.0 ≡ h.1.0 = one_lowering is e.1.0 h.1.0 e.1.1 h.1.1 in
    let one = one_access is h.1.0 h.1.1 function another pc at h.1.2 (subst (λ (l : Lowered). IsFirstBareAccess l another at) same e.1.2) in
    ap₂ (λ f p. AccessOutsideSection f p) one.0 one.1
access is k_limit function pc TooManyClasses h e = absurd (not_access is k_limit function pc e.lowered h)
access is k_limit function pc (TooManyLocks region) h e = absurd (not_access is k_limit function pc e.lowered h)
access is k_limit function pc OutOfMemory h e = absurd (not_access is k_limit function pc e h)

-- a program has one set of classes
one_count : (is : List Item) (p q : ClassedProgram is) → q.classes.count ≡ p.classes.count
one_count is p q =
    let same : q.lowering ≡ p.lowering = one_lowering is q.lowering p.lowering q.lowers p.lowers in
    ap (λ (c : Classed). c.count) (one_classed p.lowering q.classes p.classes (subst (λ l. AreClasses l q.classes) same q.are_classes) p.are_classes)

-- what a region needs is the same by each analysis of the program
one_need : (is : List Item) (k_limit : ℕ) (r : Region) (a b : Analysis is) → NeedsMany b.program.lowering b.program.classes b.stores k_limit r → NeedsMany a.program.lowering a.program.classes a.stores k_limit r
one_need is k_limit r a b many =
    let p = a.program in
    let q = b.program in
    let same : q.lowering ≡ p.lowering = one_lowering is q.lowering p.lowering q.lowers p.lowers in
    by_lowering p.lowering p.classes a.stores p.are_classes a.tells q.lowering same q.classes b.stores q.are_classes b.tells many
  where
    by_classes : (l : Lowered) (c : Classed) (stores : ℕ → ℕ → Bool) → TellsStores l c stores → (d : Classed) → d ≡ c → (other : ℕ → ℕ → Bool) → TellsStores l d other → NeedsMany l d other k_limit r → NeedsMany l c stores k_limit r
    by_classes l c stores t d e other u m =
        subst (λ s. NeedsMany l c s k_limit r) (one_test l c other stores (subst (λ k. TellsStores l k other) e u) t) (subst (λ k. NeedsMany l k other k_limit r) e m)

    by_lowering : (l : Lowered) (c : Classed) (stores : ℕ → ℕ → Bool) → AreClasses l c → TellsStores l c stores → (m : Lowered) → m ≡ l → (d : Classed) (other : ℕ → ℕ → Bool) → AreClasses m d → TellsStores m d other → NeedsMany m d other k_limit r → NeedsMany l c stores k_limit r
    by_lowering l c stores ac t m e d other ad u many =
        by_classes l c stores t d (one_classed l d c (subst (λ k. AreClasses k d) e ad) ac) other (subst (λ k. TellsStores k d other) e u) (subst (λ k. NeedsMany k d other k_limit r) e many)

pub classes : (is : List Item) (k_limit : ℕ) (other : InferFault) → IsRefusedInference is k_limit TooManyClasses → IsRefusedInference is k_limit other → (other ≡ TooManyClasses) ⊎ (other ≡ OutOfMemory)
classes is k_limit (Registers function) h e = absurd (not_registers is k_limit function h.lowered e)
classes is k_limit CodeSize h e = absurd (not_code_size is k_limit h.lowered e)
classes is k_limit (AccessOutsideSection function pc) h e = absurd (not_access is k_limit function pc h.lowered e)
classes is k_limit TooManyClasses h e = inl refl
classes is k_limit (TooManyLocks region) h e = absurd (omega (arith, h.many, e.few_classes, one_count is h.program e.analysis.program))
classes is k_limit OutOfMemory h e = inr refl

pub locks : (is : List Item) (k_limit : ℕ) (region : _) (other : InferFault) → IsRefusedInference is k_limit (TooManyLocks region) → IsRefusedInference is k_limit other → ((another : _) × (other ≡ TooManyLocks another)) ⊎ (other ≡ OutOfMemory)
locks is k_limit region (Registers function) h e = absurd (not_registers is k_limit function h.lowered e)
locks is k_limit region CodeSize h e = absurd (not_code_size is k_limit h.lowered e)
locks is k_limit region (AccessOutsideSection function pc) h e = absurd (not_access is k_limit function pc h.lowered e)
locks is k_limit region TooManyClasses h e = absurd (omega (arith, e.many, h.few_classes, one_count is e.program h.analysis.program))
locks is k_limit region (TooManyLocks another) h e = inl (another, refl)
locks is k_limit region OutOfMemory h e = inr refl

pub accepted : (is : List Item) (k_limit : ℕ) (other : InferFault) → IsAccepted is k_limit → IsRefusedInference is k_limit other → other ≡ OutOfMemory
accepted is k_limit (Registers function) h e = absurd (not_registers is k_limit function h.lowered e)
accepted is k_limit CodeSize h e = absurd (not_code_size is k_limit h.lowered e)
accepted is k_limit (AccessOutsideSection function pc) h e = absurd (not_access is k_limit function pc h.lowered e)
accepted is k_limit TooManyClasses h e = absurd (omega (arith, e.many, h.few_classes, one_count is e.program h.analysis.program))
accepted is k_limit (TooManyLocks region) h e = absurd (h.few_locks (region_of region) (one_need is k_limit (region_of region) h.analysis e.analysis e.many))
accepted is k_limit OutOfMemory h e = refl
