-- Every line of the table keeps its thread nested.
use Rattle.std.proofs.Common.{◌≡◌, ℕ, suc, ◌+◌, ◌-◌, List, [], Some, None, length, slice_get, refl, ap, sym, ◌∙◌, subst, inl, inr, arith}
use Rattle.std.proofs.lemmas.Option.{same_Some}
use Rattle.asl_code.specs.declared.image.Image.{Image}
use Rattle.asl_code.specs.declared.value.Value.TheVariants.{Addr}
use Rattle.asl_code.specs.declared.instr.Instr.{Instr}
use Rattle.asl_code.specs.declared.instr.Instr.TheVariants as instr
use Rattle.asl_lower.specs.Lowered.{Lowered}
use Rattle.asl_lower.specs.OpenSections.{open_behind, FlowsTo, start_of}
use Rattle.asl_lower.specs.Facts.{IsNested}
use Rattle.asl_points_to.specs.Classes.{Classed}
use Rattle.asl_lock_forest.specs.Holding.{Holding}
use Rattle.asl_machine.specs.declared.reply.Reply.{Reply}
use Rattle.asl_machine.specs.declared.reply.Reply.TheVariants as reply
use Rattle.asl_machine.specs.State.{Object, Frame, Activity, Thread, Running, Done, Failed, State, activity_of, activity_at}
use Rattle.asl_machine.specs.Step.{Line, after, advanced, advanced_with, going_on, with_fresh}
use Rattle.asl_machine.proofs.Following.{Here}
use Rattle.asl_machine.proofs.ValueLines.{at_of}
use Rattle.asl_machine.proofs.LineKinds.{line_fails}
use Rattle.asl_soundness.specs.Coded.{classed, IsImageOf}
use Rattle.asl_soundness.specs.Nested.{IsNestedAt}
use Rattle.asl_soundness.proofs.Standing.{body_of}
use Rattle.asl_soundness.proofs.Owning.{IsOwn, runs_on, ends_on}
use Rattle.asl_soundness.proofs.Nesting.{plain, acquires, releases, returns, calls}

-- the place after, as the machine writes it
pub next_is : (pc : ℕ) → pc + 1 ≡ suc pc
next_is pc = omega arith

-- the thread, if it runs, is nested
abbrev pub IsOwnNested : Lowered → ℕ → State → Type 0
IsOwnNested l t new = IsOwn (λ s b. IsNestedAt l b) t new

-- it makes no difference which objects are fresh for the thread
renested : (l : Lowered) (a : Activity) (fresh : List ℕ) → IsNestedAt l a → IsNestedAt l (with_fresh fresh a)
renested l a fresh n = record { depth = n.depth; kinds = n.kinds }

module _ (l : Lowered) (nests : IsNested l) (c : Classed) (image : Image) (made : IsImageOf l c image) (s : State) (t : ℕ) (a : Activity) (h : Here image s t a) (nested : IsNestedAt l a) where
  runs : (b : Activity) (objects : List Object) (holding : Holding) (new : State) → IsNestedAt l b → new ≡ after s t (Running b) objects holding → IsOwnNested l t new
  runs b objects holding new n e = runs_on (λ s b. IsNestedAt l b) s t h.there objects holding new b e n

  ends : (thread : Thread) (holding : Holding) (new : State) → activity_of thread ≡ None → new ≡ after s t thread s.objects holding → IsOwnNested l t new
  ends thread holding new none e = ends_on (λ s b. IsNestedAt l b) s t h.there s.objects holding new thread none e

  -- in the same frame, at its next instruction
  on : (i : Instr) (top : Frame) (objects : List Object) (new : State) → slice_get l.code a.top.pc ≡ Some i → top.function ≡ a.top.function → FlowsTo i a.top.pc top.pc → ((xs : List ℕ) → open_behind (Some i) xs ≡ xs) →
      new ≡ after s t (Running (going_on a a.depth top)) objects s.holding → IsOwnNested l t new
  on i top objects new at same goes keeps e = runs (going_on a a.depth top) objects s.holding new (plain l nests a nested i top same at goes keeps) e

  pub line_nested : (i : Instr) (r : Reply) (new : State) → slice_get l.code a.top.pc ≡ Some i → Line (at_of image s t a) (classed c i) r new → IsOwnNested l t new
  line_nested (instr.SetInt x n) reply.Ran new at e = on _ _ s.objects new at refl (next_is a.top.pc) (λ xs. refl) e
  line_nested (instr.SetNull x) reply.Ran new at e = on _ _ s.objects new at refl (next_is a.top.pc) (λ xs. refl) e
  line_nested (instr.Move x y) reply.Ran new at e = on _ _ s.objects new at refl (next_is a.top.pc) (λ xs. refl) e.2
  line_nested (instr.Add x y z) reply.Ran new at e = on _ _ s.objects new at refl (next_is a.top.pc) (λ xs. refl) e.4
  line_nested (instr.Subtract x y z) reply.Ran new at e = on _ _ s.objects new at refl (next_is a.top.pc) (λ xs. refl) e.4
  line_nested (instr.LessThan x y z) reply.Ran new at e =
      elim e.4 [
        | inl h ↦ on _ _ s.objects new at refl (next_is a.top.pc) (λ xs. refl) h.1
        | inr h ↦ on _ _ s.objects new at refl (next_is a.top.pc) (λ xs. refl) h.1
      ]
  line_nested (instr.Equals x y z) reply.Ran new at e =
      elim e.4 [
        | inl h ↦ on _ _ s.objects new at refl (next_is a.top.pc) (λ xs. refl) h.1
        | inr h ↦ on _ _ s.objects new at refl (next_is a.top.pc) (λ xs. refl) h.1
      ]
  line_nested (instr.GlobalAddress x g) reply.Ran new at e = on _ _ s.objects new at refl (next_is a.top.pc) (λ xs. refl) e
  line_nested (instr.FieldAddress x y n) reply.Ran new at e = on _ _ s.objects new at refl (next_is a.top.pc) (λ xs. refl) e.sets
  line_nested (instr.Load x y) reply.Ran new at e = on _ _ s.objects new at refl (next_is a.top.pc) (λ xs. refl) e.sets
  line_nested (instr.Store x y) reply.Ran new at e = on _ _ _ new at refl (next_is a.top.pc) (λ xs. refl) e.goes_on
  line_nested (instr.New x n site) reply.Ran new at e =
      runs _ _ s.holding new
      (renested l (going_on a a.depth (advanced_with x (Addr (length s.objects) 0) a.top)) _ (plain l nests a nested (instr.New x n site) (advanced_with x (Addr (length s.objects) 0) a.top) refl at (next_is a.top.pc) (λ xs. refl))) e.makes
  line_nested (instr.Jump target) reply.Ran new at e = on _ _ s.objects new at refl refl (λ xs. refl) e
  line_nested (instr.JumpIfZero x target) reply.Ran new at e =
      elim e.2 [
        | inl h ↦ on _ _ s.objects new at refl (inl refl) (λ xs. refl) h.1
        | inr h ↦ on _ _ s.objects new at refl (inr (next_is a.top.pc)) (λ xs. refl) h.1
      ]
  line_nested (instr.Output from) (reply.Out value) new at e = on _ _ s.objects new at refl (next_is a.top.pc) (λ xs. refl) e.1
  line_nested (instr.Call x first g) reply.Ran new at e =
      runs _ s.objects s.holding new
      (calls l nests a nested x first g (a.top.pc + 1) e.callee _ at (next_is a.top.pc) (body_of l c image made a.top.function a.top.pc h.placed.function h.placed.lies)
      (ap (λ fs. slice_get fs g) (sym made.functions) ∙ e.is) refl (ap (λ fs. start_of fs g) made.functions)) e.calls
  line_nested (instr.Return from) reply.Ran new at (inl e) = runs _ s.objects s.holding new (returns l nests a nested from _ e.caller e.others at e.waiting refl refl) e.returns
  line_nested (instr.Return from) reply.Ran new at (inr e) = ends (Done e.value) s.holding new refl e.ends
  line_nested (instr.Acquire list) reply.Ran new at (inl e) = runs _ s.objects s.holding new (acquires l nests a nested list (a.top.pc + 1) at (next_is a.top.pc)) e.goes_on
  line_nested (instr.Acquire list) reply.Ran new at (inr e) =
      let one : a.depth + 1 ≡ 1 = (let z = e.asks.outside in omega (arith, z)) in
      runs _ s.objects _ new (subst (λ n. IsNestedAt l (going_on a n (advanced a.top))) one (acquires l nests a nested list (a.top.pc + 1) at (next_is a.top.pc))) e.goes_on
  line_nested (instr.Acquire list) reply.Blocked new at e = λ b f. subst (IsNestedAt l) (same_Some a b (sym h.is ∙ ap (λ (u : State). activity_at u.threads t) (sym e.same) ∙ f)) nested
  line_nested instr.Release reply.Ran new at (inl e) = runs _ s.objects s.holding new (releases l nests a nested (a.top.pc + 1) at (next_is a.top.pc)) e.goes_on
  line_nested instr.Release reply.Ran new at (inr e) =
      let zero_is : a.depth - 1 ≡ 0 = (let z = e.outer in omega (arith, z)) in
      runs _ s.objects _ new (renested l (going_on a 0 (advanced a.top)) [] (subst (λ n. IsNestedAt l (going_on a n (advanced a.top))) zero_is (releases l nests a nested (a.top.pc + 1) at (next_is a.top.pc)))) e.leaves
  line_nested i (reply.Fault f) new at e = ends (Failed f) _ new refl (line_fails (at_of image s t a) (classed c i) f new e)
  line_nested i r new at e = absurd e
