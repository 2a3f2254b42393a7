-- What is needed after the `acq` of a section is there, and has a class.
use Rattle.std.proofs.Common.{◌≡◌, ℕ, ◌<◌, Bool, Some, slice_get, ap, sym, ◌∙◌, subst, arith}
use Rattle.asl_code.specs.declared.image.Function as entry
use Rattle.asl_code.specs.declared.lock.Base.{Base}
use Rattle.asl_code.specs.declared.lock.Base.TheVariants.{Reg, Global}
use Rattle.asl_code.specs.declared.lock.Lock.{Lock}
use Rattle.asl_code.specs.declared.lock.Lock.TheVariants as lock
use Rattle.asl_lower.specs.declared.section.Section.{Section}
use Rattle.asl_lower.specs.Lowered.{Lowered}
use Rattle.asl_lower.specs.Regions.{Inside}
use Rattle.asl_lower.specs.LegalLowering.{IsLegalLowering}
use Rattle.asl_points_to.specs.Classes.{Classed, AreClasses}
use Rattle.asl_backward_flow.specs.Needed.{Needed}
use Rattle.asl_backward_flow.specs.Based.{HasBase, IsLockOf}
use Rattle.asl_backward_flow.proofs.Leasts.{needed_inside}
use Rattle.asl_backward_flow.proofs.Basing.{needed_of}
use Rattle.asl_emitter.specs.Lists.{HasClass}
use Rattle.asl_emitter.proofs.There.{IsBaseIn, IsLockIn}

needed_at : (l : Lowered) (c : Classed) (stores : ℕ → ℕ → Bool) (k_limit : ℕ) → IsLegalLowering l → AreClasses l c → (n pc : ℕ) (s : Section) (a : Lock) → slice_get l.sections n ≡ Some s → Needed l c stores k_limit (Inside n) pc a → IsLockOf l c k_limit s.function a
needed_at l c stores k_limit kept are n pc s a there needed =
    let k = needed_inside l c stores k_limit (Inside n) pc a needed in
    let same : k.1.is ≡ s = (let u : Some k.1.is ≡ Some s = sym k.1.in_table ∙ there in cc) in
    let function : k.0 ≡ s.function = sym k.1.function ∙ ap (λ (x : Section). x.function) same in
    subst (λ f. IsLockOf l c k_limit f a) function (needed_of l c stores k_limit kept are (Inside n) pc a needed k.0 pc k.1)

of_class : (l : Lowered) (c : Classed) (k_limit f : ℕ) (a : Lock) → IsLockOf l c k_limit f a → HasClass c f a
of_class l c k_limit f (lock.Root e) h = absurd h
of_class l c k_limit f (lock.Class x e) h = tt
of_class l c k_limit f (lock.Expr d e) h = (h.2.0, h.2.1)

of_base : (l : Lowered) (c : Classed) → AreClasses l c → (f : ℕ) (fn : entry.Function) → slice_get l.functions f ≡ Some fn → (b : Base) → HasBase l f b → IsBaseIn c fn.regs b
of_base l c are f fn at (Reg r) h =
    let same : h.0 ≡ fn = (let u : Some h.0 ≡ Some fn = sym h.1 ∙ at in cc) in
    subst (λ (g : entry.Function). r < g.regs) same h.2
of_base l c are f fn at (Global g) h = let same = are.least.legal.globals in omega (arith, h, same)

of_function : (l : Lowered) (c : Classed) → AreClasses l c → (k_limit f : ℕ) (fn : entry.Function) → slice_get l.functions f ≡ Some fn → (a : Lock) → IsLockOf l c k_limit f a → IsLockIn c fn.regs a
of_function l c are k_limit f fn at (lock.Root e) h = tt
of_function l c are k_limit f fn at (lock.Class x e) h = h
of_function l c are k_limit f fn at (lock.Expr d e) h = of_base l c are f fn at d.base h.0

pub needed_class : (l : Lowered) (c : Classed) (stores : ℕ → ℕ → Bool) (k_limit : ℕ) → IsLegalLowering l → AreClasses l c → (n pc : ℕ) (s : Section) (a : Lock) → slice_get l.sections n ≡ Some s → Needed l c stores k_limit (Inside n) pc a → HasClass c s.function a
needed_class l c stores k_limit kept are n pc s a there needed = of_class l c k_limit s.function a (needed_at l c stores k_limit kept are n pc s a there needed)

pub needed_in : (l : Lowered) (c : Classed) (stores : ℕ → ℕ → Bool) (k_limit : ℕ) → IsLegalLowering l → AreClasses l c → (n pc : ℕ) (s : Section) (fn : entry.Function) (a : Lock) → slice_get l.sections n ≡ Some s → slice_get l.functions s.function ≡ Some fn →
    Needed l c stores k_limit (Inside n) pc a → IsLockIn c fn.regs a
needed_in l c stores k_limit kept are n pc s fn a there function needed = of_function l c are k_limit s.function fn function a (needed_at l c stores k_limit kept are n pc s a there needed)
