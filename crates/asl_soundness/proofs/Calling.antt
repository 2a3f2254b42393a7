-- The third pass: over calls and returns, what frames want is protected: of the callee by what the call wants, of the frame that
-- waits by what the call leaves, of the frame returned to by what was left.
use Rattle.std.proofs.Common.{◌≡◌, ℕ, suc, ◌+◌, ◌<◌, ◌≤◌, Bool, true, false, cond, List, [], ◌∷◌, Option, Some, None, length, set, slice_get, refl, ap, sym, ◌∙◌, subst, inl, inr, arith, rules}
use Rattle.std.specs.Prelude.{option_and_then, option_map, nat_lt}
use Rattle.std.proofs.lemmas.Bool.{cases_lt, or_parts}
use Rattle.std.proofs.lemmas.Option.{same_Some}
use Rattle.asl_code.specs.declared.image.Image.{Image}
use Rattle.asl_code.specs.declared.image.Function.{Function}
use Rattle.asl_code.specs.declared.value.Value.{Value}
use Rattle.asl_code.specs.declared.value.Cell.{Cell}
use Rattle.asl_code.specs.declared.value.Effect.{Effect}
use Rattle.asl_code.specs.declared.lock.Base.{Base}
use Rattle.asl_code.specs.declared.lock.Base.TheVariants.{Reg, Global}
use Rattle.asl_code.specs.declared.lock.Lock.{Lock}
use Rattle.asl_code.specs.declared.lock.Lock.TheVariants as lock
use Rattle.asl_code.specs.declared.path.Op.{Op}
use Rattle.asl_code.specs.declared.instr.Instr.TheVariants as instr
use Rattle.asl_lower.specs.Lowered.{Lowered}
use Rattle.asl_lower.specs.OpenSections.{open_at, start_of}
use Rattle.asl_lower.specs.Regions.{Region, Body, Inside, IsIn, outermost}
use Rattle.asl_points_to.specs.Classes.{Classed}
use Rattle.asl_expression.specs.Expression.{pointed, path_cell, base_cell}
use Rattle.asl_lock_expr.specs.ClassOf.{MayStore, ByCall, base_class}
use Rattle.asl_lock_expr.specs.Links.{view, IsOne, on, is_register, goes_through, renamed, renamed_on}
use Rattle.asl_expression.proofs.Paths.{no_cell_from_none}
use Rattle.asl_lock_expr.proofs.Leaves.{call_leaves}
use Rattle.asl_backward_flow.specs.Closed.{Family}
use Rattle.asl_machine.specs.State.{Object, Frame, Activity, State, cell_at, class_of, written}
use Rattle.asl_machine.specs.Calls.{with_register}
use Rattle.asl_machine.specs.WellFormed.{IsSuspended, AreSuspended}
use Rattle.asl_machine.specs.Step.{placed_at, returned}
use Rattle.asl_machine.specs.Request.{heap_of}
use Rattle.asl_machine.specs.Cover.{Cover, cover}
use Rattle.asl_soundness.proofs.Analysed.{IsAnalysed}
use Rattle.asl_soundness.specs.Agrees.{FrameAgrees, FramesAgree, ThreadAgrees, CellsAgree}
use Rattle.asl_soundness.specs.Nested.{is_inside, region_of}
use Rattle.asl_soundness.specs.Protected.{CellProtected, Protected, BaseThere, LockThere}
use Rattle.asl_soundness.specs.Wanted.{IsLeft, WaitingHave}
use Rattle.asl_soundness.proofs.Having.{HasWanted}
use Rattle.asl_soundness.proofs.Protecting.{GlobalsAgree, Stands, settle_protects}
use Rattle.asl_soundness.proofs.Standing.{body_of, call_at, globals_agree}
use Rattle.asl_soundness.proofs.Stored.{store_below, return_row}
use Rattle.asl_soundness.proofs.Keeping.{left_whole}
use Rattle.asl_soundness.proofs.Links.{link_protects}
use Rattle.asl_soundness.proofs.Regions.{region_there, no_region, region_goes}
use Rattle.asl_soundness.proofs.Sections.{Ready, own_view, stands, layout, body, nested, stays_closed}

-- ---- a store of the top frame, for the frames that wait

module _ (l : Lowered) (c : Classed) (stores : ℕ → ℕ → Bool) (k_limit : ℕ) (K : Family) (image : Image) (A : IsAnalysed l c stores k_limit K image) (k : Cover) (t : ℕ) (objects : List Object)
    (cell : Cell) (value old : Value) (there : cell_at objects cell ≡ Some old) (hit : ℕ) (of : class_of objects cell.object ≡ Some hit) (cells : CellsAgree c objects) (globals : GlobalsAgree c objects) (agrees : CellsAgree c (written objects cell value)) where
  -- of one of them: what the call leaves goes through no class that is written
  one_stored : (f : Frame) (above : ℕ) (result : Option ℕ) → IsSuspended image objects above result f → FrameAgrees c objects f.function f.regs → MayStore l c above hit → (r : Region) (n : Lock) → IsLeft l c stores k_limit K f r n →
      Protected k t objects f.regs n → Protected k t (written objects cell value) f.regs n
  one_stored f above result u frame may r (lock.Root effect) w p = p
  one_stored f above result u frame may r (lock.Class x effect) w p = p
  one_stored f above result u frame may r (lock.Expr e effect) w p =
      let v = view c stores k_limit f.function in
      let left = call_leaves v w.to w.first w.callee w.behind e effect w.left in
      let same : w.call ≡ u.call = (let a = w.waits in let b = u.behind in omega (arith, a, b)) in
      let calls : instr.Call w.to w.first w.callee ≡ instr.Call u.to u.first above = same_Some _ _ (sym w.calls ∙ ap (slice_get l.code) same ∙ call_at l c image A.made objects above result f u) in
      let callee : w.callee ≡ above = cc in
      let writes : stores w.callee hit ≡ true = ap (λ g. stores g hit) callee ∙ A.told above hit may in
      let past = (or_parts (is_register w.to e.base) (goes_through c (stores w.callee) (base_class c f.function e.base) e.path) left.1).1 in
      store_below k t objects cell value old there v f.regs (record { cells = cells; frame = frame; globals = globals }) agrees e effect
      ((left_whole l c stores k_limit K A.closed A.based f r).there (lock.Expr e effect) w) (stores w.callee) hit of writes past p

  -- of all: a caller may store to what its callee may store to
  pub waiting_stored : (above : ℕ) (result : Option ℕ) (fs : List Frame) → AreSuspended image objects above result fs → FramesAgree c objects fs → MayStore l c above hit →
      WaitingHave l c stores k_limit K k t objects fs → WaitingHave l c stores k_limit K k t (written objects cell value) fs
  waiting_stored above result [] susp frames may have = tt
  waiting_stored above result (f ∷ fs) susp frames may have =
      let u = susp.0 in (
        λ r e n w. one_stored f above result u frames.0 may r n w (have.0 r e n w),
        waiting_stored f.function f.result fs susp.1 frames.1
            (ByCall f.function u.call above hit (body_of l c image A.made f.function u.call u.function u.inside) (u.to, u.first, call_at l c image A.made objects above result f u) may) have.1,
      )

-- ---- calls and returns

module _ (l : Lowered) (c : Classed) (stores : ℕ → ℕ → Bool) (k_limit : ℕ) (K : Family) (image : Image) (s : State) (t : ℕ) (a : Activity) (q : Ready l c stores k_limit K image s t a) where
  module _ (x first g : ℕ) (callee : Function) (at : slice_get l.code a.top.pc ≡ Some (instr.Call x first g)) (listed : slice_get l.functions g ≡ Some callee) where
    -- where the call waits in a region, it was in it
    waits_in : (next : ℕ) → next ≡ suc a.top.pc → (r : Region) → region_of l (placed_at next a.top) a.below ≡ Some r → (region_of l a.top a.below ≡ Some r) × IsIn l r a.top.function a.top.pc
    waits_in next goes r e =
        region_goes l (layout l c stores k_limit K image s t a q) a.top a.below (body l c stores k_limit K image s t a q) (nested l c stores k_limit K image s t a q).kinds.0 (placed_at next a.top) (instr.Call x first g) at goes refl
        (stays_closed l c stores k_limit K image s t a q (instr.Call x first g) next at goes refl) r e

    -- what is wanted at the callee's entry, in its first frame: a parameter is its argument, other registers point nowhere
    callee_has : (regs : List Value) (r : Region) → region_of l a.top a.below ≡ Some r → IsIn l r a.top.function a.top.pc →
        ((n : ℕ) → n < callee.params → slice_get regs n ≡ slice_get a.top.regs (first + n)) → ((n : ℕ) → callee.params ≤ n → option_and_then pointed (slice_get regs n) ≡ None) →
        (m : Lock) → K (Body g) (start_of l.functions g) m → Protected (cover s.holding a.fresh) t s.objects regs m
    callee_has regs r region isin args others m w =
        by_lock m (λ p o known. settle_protects (own_view l c stores k_limit K image s t a q) (cover s.holding a.fresh) t s.objects a.top.regs (stands l c stores k_limit K image s t a q) p known
        (λ n z. q.has.top r region n (q.program.closed.entered r a.top.function a.top.pc x first g callee m p n isin at listed w o z))) (q.program.based (Body g) (start_of l.functions g) m w)
      where
        by_base : (base : Base) (path : List Op) (effect : Effect) → ((p : Lock) → IsOne (renamed_on first callee.params base path effect) p → LockThere c p → Protected (cover s.holding a.fresh) t s.objects a.top.regs p) → BaseThere c base →
            CellProtected (cover s.holding a.fresh) t s.objects effect (path_cell (heap_of s.objects) path (base_cell regs base))
        by_base (Global n) path effect named known = named (on (Global n) path effect) (inl refl) known
        by_base (Reg n) path effect named known =
            elim (cases_lt n callee.params) [
              | inl lt ↦
                  let test : nat_lt n callee.params ≡ true = search (rules, arith, lt) in
                  let p = named (on (Reg (first + n)) path effect) (subst (λ b. IsOne (cond b (on (Reg (first + n)) path effect ∷ []) []) (on (Reg (first + n)) path effect)) (sym test) (inl refl)) tt in
                  subst (λ o. CellProtected (cover s.holding a.fresh) t s.objects effect (path_cell (heap_of s.objects) path (option_and_then pointed o))) (sym (args n lt)) p
              | inr le ↦ subst (CellProtected (cover s.holding a.fresh) t s.objects effect) (sym (ap (path_cell (heap_of s.objects) path) (others n le) ∙ no_cell_from_none (heap_of s.objects) path)) tt
            ]

        by_lock : (m : Lock) → ((p : Lock) → IsOne (renamed first callee.params m) p → LockThere c p → Protected (cover s.holding a.fresh) t s.objects a.top.regs p) → LockThere c m → Protected (cover s.holding a.fresh) t s.objects regs m
        by_lock (lock.Root effect) named known = named (lock.Root effect) (inl refl) tt
        by_lock (lock.Class y effect) named known = named (lock.Class y effect) (inl refl) tt
        by_lock (lock.Expr e effect) named known = by_base e.base e.path effect named known

    pub calls : (next : ℕ) (new : Frame) → next ≡ suc a.top.pc → new.function ≡ g → new.pc ≡ start_of l.functions g →
        ((n : ℕ) → n < callee.params → slice_get new.regs n ≡ slice_get a.top.regs (first + n)) → ((n : ℕ) → callee.params ≤ n → option_and_then pointed (slice_get new.regs n) ≡ None) →
        HasWanted l c stores k_limit K (cover s.holding a.fresh) t s.objects (record { depth = a.depth; top = new; below = placed_at next a.top ∷ a.below; fresh = a.fresh })
    calls next new goes is begins args others =
        let frames = placed_at next a.top ∷ a.below in
        let empty : open_at l.code new.pc ≡ [] = ap (open_at l.code) begins ∙ (layout l c stores k_limit K image s t a q).nested.starts g callee listed in
        record {
          top = λ r e n w.
              elim (is_inside l frames) as (λ b. is_inside l frames ≡ b → Protected (cover s.holding a.fresh) t s.objects new.regs n) [
                | true ↦ λ out.
                    let own : Body g ≡ r = same_Some (Body g) r (ap (λ y. Some (Body y)) (sym is) ∙ sym (ap (λ b. cond b (Some (Body new.function)) (option_map Inside (outermost (open_at l.code new.pc)))) out) ∙ e) in
                    let caller = region_there l (placed_at next a.top) a.below out in
                    let was = waits_in next goes caller.0 caller.1 in
                    callee_has new.regs caller.0 was.0 was.1 args others n (subst (λ pc. K (Body g) pc n) begins (subst (λ y. K y new.pc n) (sym own) w))
                | false ↦ λ out. absurd (no_region l new frames r empty out e)
              ] refl;
          waiting = (
            λ r e n w.
                (let here : w.call ≡ a.top.pc = (let z = w.waits in omega (arith, z, goes)) in
                let was = waits_in next goes r e in
                q.has.top r was.0 n (q.program.closed.linked r a.top.function a.top.pc next (instr.Call w.to w.first w.callee) w.behind n was.1 (ap (slice_get l.code) (sym here) ∙ w.calls) goes w.wanted w.left)),
            q.has.waiting,
          );
        }

  -- `ret` to the frame below
  pub returns : (x : ℕ) (caller : Frame) (others : List Frame) (value : Value) → a.below ≡ caller ∷ others → a.top.result ≡ Some x → ThreadAgrees c s.objects (returned a (with_register x value caller) others) → x < length caller.regs →
      HasWanted l c stores k_limit K (cover s.holding a.fresh) t s.objects (returned a (with_register x value caller) others)
  returns x caller others value below awaits agrees lt =
      let susp : AreSuspended image s.objects a.top.function a.top.result (caller ∷ others) = subst (AreSuspended image s.objects a.top.function a.top.result) below q.here.placed.below in
      let u = susp.0 in
      let same : u.to ≡ x = same_Some u.to x (sym u.awaits ∙ awaits) in
      let calls : slice_get l.code u.call ≡ Some (instr.Call x u.first a.top.function) = call_at l c image q.program.made s.objects a.top.function a.top.result caller u ∙ ap (λ n. Some (instr.Call n u.first a.top.function)) same in
      let frames : FramesAgree c s.objects (caller ∷ others) = subst (FramesAgree c s.objects) below (q.structured.agrees.threads t a q.here.is).1 in
      let waiting : WaitingHave l c stores k_limit K (cover s.holding a.fresh) t s.objects (caller ∷ others) = subst (WaitingHave l c stores k_limit K (cover s.holding a.fresh) t s.objects) below q.has.waiting in
      let globals = globals_agree l c image q.program.made s q.structured.sound in
      let cells = q.structured.agrees.cells in
      let old : Stands (view c stores k_limit caller.function) s.objects caller.regs = record { cells = cells; frame = frames.0; globals = globals } in
      let now : Stands (view c stores k_limit caller.function) s.objects (set caller.regs x value) = record { cells = cells; frame = agrees.0; globals = globals } in
      record {
        top = λ r e n w.
            link_protects (view c stores k_limit caller.function) (cover s.holding a.fresh) t s.objects s.objects caller.regs (set caller.regs x value) (instr.Call x u.first a.top.function) old tt
            (λ d effect there all. return_row (view c stores k_limit caller.function) (cover s.holding a.fresh) t s.objects caller.regs x value (stores a.top.function) now lt d effect there all)
            n (q.program.based r caller.pc n w)
            (λ m o. waiting.0 r e m (record { call = u.call; to = x; first = u.first; callee = a.top.function; behind = n; waits = (let b = u.behind in omega (arith, b)); calls = calls; wanted = w; left = o }));
        waiting = waiting.1;
      }
