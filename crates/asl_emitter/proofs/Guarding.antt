-- An inferred image is guarded: who is granted the list of a section covers the cells that the list's expressions read.
use Rattle.std.proofs.Common.{◌≡◌, ℕ, suc, ◌≤◌, Bool, List, [], ◌∷◌, ◌++◌, Option, None, Some, slice_get, unwrap_or, refl, ap, ◌∙◌, subst, inl, inr}
use Rattle.asl_code.specs.declared.image.Image.{Image}
use Rattle.asl_code.specs.declared.instr.Instr.{Instr}
use Rattle.asl_code.specs.declared.instr.Instr.TheVariants as instr
use Rattle.asl_code.specs.declared.value.Value.{Value}
use Rattle.asl_code.specs.declared.value.Effect.{Effect}
use Rattle.asl_code.specs.declared.value.Effect.TheVariants.{Read}
use Rattle.asl_code.specs.declared.lock.Base.{Base}
use Rattle.asl_code.specs.declared.lock.Expr.{Expr}
use Rattle.asl_code.specs.declared.lock.Lock.{Lock}
use Rattle.asl_code.specs.declared.lock.Lock.TheVariants as lock
use Rattle.asl_code.specs.declared.path.Op.{Op}
use Rattle.asl_code.specs.declared.path.Op.TheVariants.{Deref, Off}
use Rattle.asl_lock_forest.specs.Holding.{Holding, grant}
use Rattle.asl_lower.specs.declared.section.Section.{Section}
use Rattle.asl_lower.specs.Lowered.{Lowered}
use Rattle.asl_lower.specs.OpenSections.{InBody}
use Rattle.asl_lower.specs.Regions.{Inside}
use Rattle.asl_lower.proofs.Owner.{from_mapped}
use Rattle.asl_lower.proofs.Inside.{told as section_told}
use Rattle.asl_points_to.specs.Classes.{Classed, AreClasses}
use Rattle.asl_expression.specs.Expression.{base_cell, path_cell}
use Rattle.asl_lock_expr.specs.Links.{IsOne, on, prefixes, class_lock}
use Rattle.asl_lock_expr.specs.ClassOf.{class_of}
use Rattle.asl_expression.proofs.Paths.{path_append}
use Rattle.asl_backward_flow.specs.Needed.{Needed, Before}
use Rattle.asl_machine.specs.State.{Object, Activity, State}
use Rattle.asl_machine.specs.Request.{heap_of, request_of}
use Rattle.asl_machine.specs.Cover.{cover}
use Rattle.asl_machine.proofs.Following.{outside_here}
use Rattle.asl_machine.proofs.Invariant.{here_of}
use Rattle.asl_soundness.proofs.Analysed.{IsAnalysed}
use Rattle.asl_soundness.specs.Coded.{classed}
use Rattle.asl_soundness.specs.Covering.{CoversLock}
use Rattle.asl_soundness.specs.Protected.{CellProtected, Protected}
use Rattle.asl_soundness.proofs.Standing.{lowered_at}
use Rattle.asl_soundness.proofs.Entering.{granted_protects}
use Rattle.asl_soundness.proofs.Sections.{Ready, own_view, stands, layout, body}
use Rattle.asl_soundness.proofs.Soundness.{reached_good}
use Rattle.asl_atomicity.specs.Serial.{HasSerialRuns, IsAtEntry, IsGuarded, ListCovered, ReadsCovered}
use Rattle.asl_atomicity.specs.Renamed.{HasSerialRunsUpTo}
use Rattle.asl_atomicity.proofs.ByTable.{end_reached, runs_serial, runs_serial_up_to}
use Rattle.asl_emitter.proofs.Sounding.{inferred_analysed}
use Rattle.asl_emitter.proofs.Verifying.{inferred_fits}
use Rattle.asl_lower.specs.LegalLowering.{IsLegalLowering}
use Rattle.asl_lock_expr.specs.ClassOf.{TellsStores}
use Rattle.asl_emitter.specs.Lists.{Locks, as_class, IsFitted}
use Rattle.asl_emitter.specs.Inferred.{IsInferred}
use Rattle.asl_emitter.proofs.Fits.{fitted_all}

-- only an `acq` is an `acq` in the image
pub is_acquire : (c : Classed) (i : Instr) (list : ℕ) → classed c i ≡ instr.Acquire list → i ≡ instr.Acquire list
is_acquire c (instr.New a n site) list e = cc
is_acquire c i list e = e

-- where each prefix that is read is protected, the cells that are read are covered
pub reads_covered : (h : Holding) (t : ℕ) (objects : List Object) (regs : List Value) (base : Base) (done ops : List Op)
    → ((n : Lock) → IsOne (prefixes base done ops) n → Protected (cover h []) t objects regs n)
    → ReadsCovered h t objects ops (path_cell (heap_of objects) done (base_cell regs base))
reads_covered h t objects regs base done [] all = tt
reads_covered h t objects regs base done (Off places ∷ ops) all =
    subst (ReadsCovered h t objects ops) (path_append (heap_of objects) done (Off places ∷ []) (base_cell regs base)) (reads_covered h t objects regs base (done ++ Off places ∷ []) ops all)
reads_covered h t objects regs base done (Deref ∷ ops) all = (
  (λ c class at of. subst (CellProtected (cover h []) t objects Read) at (all (on base done Read) (inl refl)) class of),
  subst (ReadsCovered h t objects ops) (path_append (heap_of objects) done (Deref ∷ []) (base_cell regs base)) (reads_covered h t objects regs base (done ++ Deref ∷ []) ops (λ n o. all n (inr o))),
)

-- an expression of a fitted list is one of the set
IsTold : Locks → Lock → Type 0
IsTold given (lock.Expr e effect) = given (lock.Expr e effect)
IsTold given (lock.Class class effect) = Unit {0}
IsTold given (lock.Root effect) = Unit {0}

told : (given : Locks) (a : Lock) → given a → IsTold given a
unfolding IsTold
told given (lock.Expr e effect) g = g
told given (lock.Class class effect) g = tt
told given (lock.Root effect) g = tt

class_told : (given : Locks) (o : Option ℕ) (effect : Effect) (b : Lock) → IsOne (class_lock effect o) b → IsTold given b
unfolding IsTold
class_told given None effect b z = absurd z
class_told given (Some class) effect b (inl e) = subst (IsTold given) e tt
class_told given (Some class) effect b (inr z) = absurd z

classes_told : (given : Locks) (c : Classed) (f : ℕ) (a b : Lock) → IsOne (as_class c f a) b → IsTold given b
unfolding IsTold
classes_told given c f (lock.Expr e effect) b o = class_told given (class_of c f e) effect b o
classes_told given c f (lock.Class class effect) b (inl e) = subst (IsTold given) e tt
classes_told given c f (lock.Class class effect) b (inr z) = absurd z
classes_told given c f (lock.Root effect) b (inl e) = subst (IsTold given) e tt
classes_told given c f (lock.Root effect) b (inr z) = absurd z

pub expression_given : (c : Classed) (f most : ℕ) (given : Locks) (list : List Lock) → IsFitted c f most given list → (e : Expr) (effect : Effect) → IsOne list (lock.Expr e effect) → given (lock.Expr e effect)
unfolding IsTold
expression_given c f most given list fitted e effect o =
    fitted_all (IsTold given) c f most given list (told given) (λ a b p q. classes_told given c f a b q) (λ x. tt) fitted (lock.Expr e effect) o

module _ (l : Lowered) (c : Classed) (stores : ℕ → ℕ → Bool) (k_limit : ℕ) (image : Image) (A : IsAnalysed l c stores k_limit (Needed l c stores k_limit) image) (m : IsInferred l c stores k_limit image) where
  module _ (s : State) (t list : ℕ) (a : Activity) (q : Ready l c stores k_limit (Needed l c stores k_limit) image s t a) (entry : IsAtEntry image s t list a) (section : Section) (there : slice_get l.sections list ≡ Some section) (starts : section.acquire ≡ a.top.pc) (locks : List Lock) (listed : slice_get image.lists list ≡ Some locks) where
    abbrev Granted : Holding
    Granted = grant s.holding t (request_of s.objects a.top.regs locks)

    function_here : section.function ≡ a.top.function
    function_here =
        let lay = layout l c stores k_limit (Needed l c stores k_limit) image s t a q in
        lay.parted.one_body a.top.pc section.function a.top.function (subst (InBody l section.function) starts (section_told l lay list section there).first_inside) (body l c stores k_limit (Needed l c stores k_limit) image s t a q)

    needed_protected : (n : Lock) → Needed l c stores k_limit (Inside list) (suc section.acquire) n → Protected (cover Granted []) t s.objects a.top.regs n
    needed_protected n k =
        let over = A.lists list section locks n there listed k in
        granted_protects (own_view l c stores k_limit (Needed l c stores k_limit) image s t a q) s.holding [] t s.objects a.top.regs locks (outside_here image s t a q.here entry.depth)
        (stands l c stores k_limit (Needed l c stores k_limit) image s t a q) over.0 n over.1 (A.based (Inside list) (suc section.acquire) n k) (subst (λ f. CoversLock c f over.0 n) function_here over.2)

    list_covered : (ls : List Lock) → ((n : Lock) → IsOne ls n → IsOne locks n) → ListCovered Granted t s.objects a.top.regs ls
    list_covered [] within = tt
    list_covered (lock.Expr e effect ∷ ls) within =
        let needed = expression_given c section.function 256 (λ n. Needed l c stores k_limit (Inside list) (suc section.acquire) n) locks (m.lists list section locks there listed) e effect (within (lock.Expr e effect) (inl refl)) in (
          reads_covered Granted t s.objects a.top.regs e.base [] e.path (λ n o. needed_protected n (Before (Inside list) (suc section.acquire) (lock.Expr e effect) n needed o)),
          list_covered ls (λ n o. within n (inr o)),
        )
    list_covered (lock.Class class effect ∷ ls) within = list_covered ls (λ n o. within n (inr o))
    list_covered (lock.Root effect ∷ ls) within = list_covered ls (λ n o. within n (inr o))

  pub inferred_guarded : (count : ℕ) → IsGuarded image count
  inferred_guarded count run s t list a led entry granted =
      let reached = end_reached image count run s A.made.fits led in
      let good = reached_good l c stores k_limit (Needed l c stores k_limit) image A count s reached in
      let here = here_of image s t a good.structured.sound entry.runs in
      let q : Ready l c stores k_limit (Needed l c stores k_limit) image s t a = record { program = A; structured = good.structured; here = here; has = good.has t a here.is } in
      let i = lowered_at l c image A.made a.top.pc (instr.Acquire list) entry.at in
      let at : slice_get l.code a.top.pc ≡ Some (instr.Acquire list) = i.1 ∙ ap (λ (j : Instr). Some j) (is_acquire c i.0 list i.2) in
      let lay = layout l c stores k_limit (Needed l c stores k_limit) image s t a q in
      let e = from_mapped (λ (z : Section). z.acquire) (slice_get l.sections list) a.top.pc (lay.sections.entered a.top.pc list at) in
      by_list s t list a q entry e.0 e.1 e.2 (slice_get image.lists list) refl
    where
      by_list : (s : State) (t list : ℕ) (a : Activity) (q : Ready l c stores k_limit (Needed l c stores k_limit) image s t a) → IsAtEntry image s t list a → (section : Section) → slice_get l.sections list ≡ Some section → section.acquire ≡ a.top.pc →
          (o : Option (List Lock)) → slice_get image.lists list ≡ o → ListCovered (grant s.holding t (request_of s.objects a.top.regs (unwrap_or o []))) t s.objects a.top.regs (unwrap_or o [])
      by_list s t list a q entry section there starts None e = tt
      by_list s t list a q entry section there starts (Some locks) e = list_covered s t list a q entry section there starts locks e locks (λ n o. o)

-- each run of an inferred image has a serial one
pub inferred_serial : (l : Lowered) (c : Classed) (stores : ℕ → ℕ → Bool) (k_limit : ℕ) (image : Image) → IsLegalLowering l → AreClasses l c → c.count ≤ 1024 → TellsStores l c stores → IsInferred l c stores k_limit image → (count : ℕ) → HasSerialRuns image count
inferred_serial l c stores k_limit image kept are few tells m count =
    runs_serial image count (inferred_fits l c stores k_limit image kept are few m) (inferred_guarded l c stores k_limit image (inferred_analysed l c stores k_limit image kept are few tells m) m count)

-- the same up to the numbers of objects, where sections make some
pub inferred_serial_up_to : (l : Lowered) (c : Classed) (stores : ℕ → ℕ → Bool) (k_limit : ℕ) (image : Image) → IsLegalLowering l → AreClasses l c → c.count ≤ 1024 → TellsStores l c stores → IsInferred l c stores k_limit image → (count : ℕ) → HasSerialRunsUpTo image count
inferred_serial_up_to l c stores k_limit image kept are few tells m count =
    runs_serial_up_to image count (inferred_fits l c stores k_limit image kept are few m) (inferred_guarded l c stores k_limit image (inferred_analysed l c stores k_limit image kept are few tells m) m count)
