-- The second pass: a step of a thread in its top frame keeps what the frame wants, over its own instructions and sections.
use Rattle.std.proofs.Common.{◌≡◌, ℕ, suc, ◌+◌, ◌-◌, ◌<◌, Bool, false, cond, List, [], ◌∷◌, Some, length, slice_get, refl, ap, ap₂, sym, ◌∙◌, subst, inl, arith}
use Rattle.std.specs.Prelude.{option_map}
use Rattle.std.proofs.lemmas.List.{nil_from_length}
use Rattle.std.proofs.lemmas.Option.{same_Some}
use Rattle.asl_code.specs.declared.image.Image.{Image}
use Rattle.asl_code.specs.declared.value.Effect.{Effect}
use Rattle.asl_code.specs.declared.lock.Expr.{Expr}
use Rattle.asl_code.specs.declared.lock.Lock.{Lock}
use Rattle.asl_code.specs.declared.lock.Lock.TheVariants as lock
use Rattle.asl_code.specs.declared.instr.Instr.{Instr}
use Rattle.asl_code.specs.declared.instr.Instr.TheVariants as instr
use Rattle.asl_lock_forest.specs.Holding.{grant}
use Rattle.asl_lower.specs.declared.section.Section.{Section}
use Rattle.asl_lower.specs.Lowered.{Lowered}
use Rattle.asl_lower.specs.OpenSections.{open_at, open_behind, is_acquire, InBody, FlowsTo}
use Rattle.asl_lower.specs.Regions.{Body, Inside, outermost}
use Rattle.asl_lower.specs.Facts.{HasLayout}
use Rattle.asl_lower.proofs.Owner.{from_mapped}
use Rattle.asl_lower.proofs.Inside.{told}
use Rattle.asl_points_to.specs.Classes.{Classed}
use Rattle.asl_lock_expr.specs.Links.{LinkContext, view, before}
use Rattle.asl_backward_flow.specs.Closed.{Family}
use Rattle.asl_machine.specs.State.{Object, Frame, Activity, State}
use Rattle.asl_machine.specs.Step.{placed_at, going_on}
use Rattle.asl_machine.specs.Request.{request_of}
use Rattle.asl_machine.specs.Cover.{Cover, cover}
use Rattle.asl_machine.proofs.Following.{Here, outside_here}
use Rattle.asl_soundness.proofs.Analysed.{IsAnalysed}
use Rattle.asl_soundness.specs.Nested.{is_inside, opened, IsNestedAt, region_of}
use Rattle.asl_soundness.specs.Covering.{CoversLock}
use Rattle.asl_soundness.specs.Protected.{Protected, BaseThere}
use Rattle.asl_soundness.specs.Wanted.{WaitingHave}
use Rattle.asl_soundness.proofs.Having.{HasWanted}
use Rattle.asl_soundness.proofs.Protecting.{Stands, AllProtected}
use Rattle.asl_soundness.proofs.Standing.{body_of, globals_agree}
use Rattle.asl_soundness.proofs.Links.{GlobalsThere, link_protects}
use Rattle.asl_soundness.proofs.Nesting.{none_opened, none_inside, closed_behind}
use Rattle.asl_soundness.proofs.Regions.{no_region, region_goes}
use Rattle.asl_soundness.proofs.Entering.{granted_protects}
use Rattle.asl_soundness.proofs.Structure.{IsStructured}

-- a thread of an analysed program that is about to step, with all that it wants
pub record Ready (l : Lowered) (c : Classed) (stores : ℕ → ℕ → Bool) (k_limit : ℕ) (K : Family) (image : Image) (s : State) (t : ℕ) (a : Activity) : Type 0 where
  pub program : IsAnalysed l c stores k_limit K image
  pub structured : IsStructured l c image s
  pub here : Here image s t a
  pub has : HasWanted l c stores k_limit K (cover s.holding a.fresh) t s.objects a

module _ (l : Lowered) (c : Classed) (stores : ℕ → ℕ → Bool) (k_limit : ℕ) (K : Family) (image : Image) (s : State) (t : ℕ) (a : Activity) (q : Ready l c stores k_limit K image s t a) where
  abbrev pub own_view : LinkContext
  own_view = view c stores k_limit a.top.function

  pub stands : Stands own_view s.objects a.top.regs
  stands = record {
    cells = q.structured.agrees.cells;
    frame = (q.structured.agrees.threads t a q.here.is).0;
    globals = globals_agree l c image q.program.made s q.structured.sound;
  }

  pub layout : HasLayout l
  layout = q.program.kept.layout

  pub body : InBody l a.top.function a.top.pc
  body = body_of l c image q.program.made a.top.function a.top.pc q.here.placed.function q.here.placed.lies

  pub nested : IsNestedAt l a
  nested = q.structured.nested t a q.here.is

  -- an instruction with such a law that continues in the frame, and enters no outermost section
  pub goes_on : (k : Cover) → HasWanted l c stores k_limit K k t s.objects a → (i : Instr) (depth : ℕ) (g : Frame) (new : List Object) → slice_get l.code a.top.pc ≡ Some i → FlowsTo i a.top.pc g.pc → g.function ≡ a.top.function →
      (is_inside l a.below ≡ false → open_at l.code a.top.pc ≡ [] → open_at l.code g.pc ≡ []) → GlobalsThere c i →
      ((e : Expr) (effect : Effect) → BaseThere c e.base → AllProtected k t s.objects a.top.regs (before own_view i e effect) → Protected k t new g.regs (lock.Expr e effect)) →
      WaitingHave l c stores k_limit K k t new a.below → HasWanted l c stores k_limit K k t new (going_on a depth g)
  goes_on k has i depth g new at goes same none globals row waiting = record {
    top = λ r e n w.
        (let was = region_goes l layout a.top a.below body nested.kinds.0 g i at goes same none r e in
        link_protects own_view k t s.objects new a.top.regs g.regs i stands globals row n (q.program.based r g.pc n w)
        (λ m o. has.top r was.0 m (q.program.closed.linked r a.top.function a.top.pc g.pc i n m was.1 at goes w o)));
    waiting = waiting;
  }

  -- no `acq`: what is closed stays so
  pub stays_closed : (i : Instr) (to : ℕ) → slice_get l.code a.top.pc ≡ Some i → FlowsTo i a.top.pc to → is_acquire i ≡ false → is_inside l a.below ≡ false → open_at l.code a.top.pc ≡ [] → open_at l.code to ≡ []
  stays_closed i to at goes plain out none = layout.nested.steps a.top.pc to i at goes ∙ ap (open_behind (Some i)) none ∙ closed_behind i plain

  -- an instruction that leaves registers and objects, and every expression
  pub passes : (i : Instr) (depth next : ℕ) → slice_get l.code a.top.pc ≡ Some i → FlowsTo i a.top.pc next → (is_inside l a.below ≡ false → open_at l.code a.top.pc ≡ [] → open_at l.code next ≡ []) → GlobalsThere c i →
      ((e : Expr) (effect : Effect) → before own_view i e effect ≡ lock.Expr e effect ∷ []) → HasWanted l c stores k_limit K (cover s.holding a.fresh) t s.objects (going_on a depth (placed_at next a.top))
  passes i depth next at goes none globals same =
      goes_on (cover s.holding a.fresh) q.has i depth (placed_at next a.top) s.objects at goes refl none globals
      (λ e effect there all. subst (AllProtected (cover s.holding a.fresh) t s.objects a.top.regs) (same e effect) all (lock.Expr e effect) (inl refl)) q.has.waiting

  -- `acq` inside a section
  pub nests : (list next : ℕ) → slice_get l.code a.top.pc ≡ Some (instr.Acquire list) → next ≡ suc a.top.pc → 0 < a.depth → HasWanted l c stores k_limit K (cover s.holding a.fresh) t s.objects (going_on a (a.depth + 1) (placed_at next a.top))
  nests list next at goes deep =
      let d = nested.depth in
      passes (instr.Acquire list) (a.depth + 1) next at goes
      (λ out none. absurd (let z = none_inside l a.below out in let y = ap (length {A = ℕ}) none in omega (arith, z, y, d, deep))) tt (λ e effect. refl)

  -- `rel` of an inner section
  pub unnests : (next : ℕ) → slice_get l.code a.top.pc ≡ Some instr.Release → next ≡ suc a.top.pc → HasWanted l c stores k_limit K (cover s.holding a.fresh) t s.objects (going_on a (a.depth - 1) (placed_at next a.top))
  unnests next at goes = passes instr.Release (a.depth - 1) next at goes (stays_closed instr.Release next at goes refl) tt (λ e effect. refl)

  -- where no section is open no frame wants anything
  pub none_wait : (k : Cover) (objects : List Object) (fs : List Frame) → opened l fs ≡ 0 → WaitingHave l c stores k_limit K k t objects fs
  none_wait k objects [] z = tt
  none_wait k objects (f ∷ fs) z =
      let here : length (open_at l.code f.pc) ≡ 0 = omega (arith, z) in
      let rest : opened l fs ≡ 0 = omega (arith, z) in
      (λ r e n w. absurd (no_region l f fs r (nil_from_length (open_at l.code f.pc) here) (none_opened l fs rest) e), none_wait k objects fs rest)

  -- a thread in no section wants nothing
  pub wants_none : (k : Cover) (objects : List Object) (b : Activity) → IsNestedAt l b → b.depth ≡ 0 → HasWanted l c stores k_limit K k t objects b
  wants_none k objects b now outside =
      let d = now.depth in
      let here : length (open_at l.code b.top.pc) ≡ 0 = omega (arith, d, outside) in
      let below : opened l b.below ≡ 0 = omega (arith, d, outside) in
      record {
        top = λ r e n w. absurd (no_region l b.top b.below r (nil_from_length (open_at l.code b.top.pc) here) (none_opened l b.below below) e);
        waiting = none_wait k objects b.below below;
      }

  -- `acq` outside all sections, granted
  pub enters : (list next : ℕ) (locks : List Lock) → slice_get l.code a.top.pc ≡ Some (instr.Acquire list) → next ≡ suc a.top.pc → slice_get image.lists list ≡ Some locks → a.depth ≡ 0 →
      HasWanted l c stores k_limit K (cover (grant s.holding t (request_of s.objects a.top.regs locks)) a.fresh) t s.objects (going_on a 1 (placed_at next a.top))
  enters list next locks at goes listed outside =
      let d = nested.depth in
      let here : length (open_at l.code a.top.pc) ≡ 0 = omega (arith, d, outside) in
      let below : opened l a.below ≡ 0 = omega (arith, d, outside) in
      let e = from_mapped (λ (z : Section). z.acquire) (slice_get l.sections list) a.top.pc (layout.sections.entered a.top.pc list at) in
      let first : InBody l e.0.function a.top.pc = subst (InBody l e.0.function) e.2 (told l layout list e.0 e.1).first_inside in
      let function : e.0.function ≡ a.top.function = layout.parted.one_body a.top.pc e.0.function a.top.function first body in
      let opens : open_at l.code next ≡ list ∷ [] = layout.nested.steps a.top.pc next (instr.Acquire list) at goes ∙ ap {B = List ℕ} (λ xs. list ∷ xs) (nil_from_length (open_at l.code a.top.pc) here) in
      let region : region_of l (placed_at next a.top) a.below ≡ Some (Inside list) = ap₂ (λ (b : Bool) (xs : List ℕ). cond b (Some (Body a.top.function)) (option_map Inside (outermost xs))) (none_opened l a.below below) opens in
      record {
        top = λ r g n w.
            (let is : Inside list ≡ r = same_Some (Inside list) r (sym region ∙ g) in
            let there : K (Inside list) (suc e.0.acquire) n = subst (λ pc. K (Inside list) pc n) (goes ∙ ap suc (sym e.2)) (subst (λ x. K x next n) (sym is) w) in
            let m = q.program.lists list e.0 locks n e.1 listed there in
            granted_protects own_view s.holding a.fresh t s.objects a.top.regs locks (outside_here image s t a q.here outside) stands m.0 n m.1 (q.program.based (Inside list) (suc e.0.acquire) n there)
            (subst (λ f. CoversLock c f m.0 n) function m.2));
        waiting = none_wait (cover (grant s.holding t (request_of s.objects a.top.regs locks)) a.fresh) s.objects a.below below;
      }
