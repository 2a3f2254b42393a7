-- What a step by the table leaves as it was: the other threads, how many sections they are in, what is fresh for them and what they hold, and
-- the objects' classes and sizes. Before it, what is told of a running thread by its number, and of a cell that it may access.
use Rattle.std.proofs.Common.{◌≡◌, ◌≢◌, ℕ, ◌<◌, true, false, [], Some, None, length, slice_get, refl, ap, ◌∙◌, arith}
use Rattle.std.specs.Prelude.{nat_lt, option_and_then, IsTrue}
use Rattle.std.specs.Option.{option_map_or}
use Rattle.std.proofs.lemmas.Bool.{and_parts}
use Rattle.asl_code.specs.declared.image.Image.{Image}
use Rattle.asl_code.specs.declared.value.Cell.{Cell}
use Rattle.asl_code.specs.declared.value.Effect.{Effect}
use Rattle.asl_lock_forest.specs.declared.node.Node.{Node}
use Rattle.asl_lock_forest.specs.Holding.{held}
use Rattle.asl_machine.specs.declared.reply.Reply.{Reply}
use Rattle.asl_machine.specs.Cover.{is_fresh, cover, allows}
use Rattle.asl_machine.specs.Fresh.{fresh_at, IsFreshFor}
use Rattle.asl_machine.specs.State.{Object, Activity, Running, State, class_of, size_of, activity_of, depth_at}
use Rattle.asl_machine.specs.Step.{Step, is_allowed}
use Rattle.asl_machine.proofs.Heaps.{class_of-written, size_of-written}
use Rattle.asl_machine.proofs.Lines.{of_line}
use Rattle.asl_machine.proofs.Others.{step_leaves, step_leaves_held, step_keeps}
use Rattle.asl_machine.proofs.ValueLines.{at_of}

-- how many sections a running thread is in
pub depth_of : (s : State) (t : ℕ) (a : Activity) → slice_get s.threads t ≡ Some (Running a) → depth_at s.threads t ≡ a.depth
depth_of s t a is = ap (λ o. option_map_or (λ (b : Activity). b.depth) (option_and_then activity_of o) 0) is

-- it is not in one and in none
pub no_depth : (d : ℕ) → d ≡ 0 → 0 < d → ⊥
no_depth d e p = omega arith

-- what is in its list is fresh for it
pub listed_fresh : (s : State) (t : ℕ) (a : Activity) (o : ℕ) → slice_get s.threads t ≡ Some (Running a) → IsTrue (is_fresh a.fresh o) → IsFreshFor s t o
listed_fresh s t a o is own = ap (λ z. is_fresh (option_map_or (λ (b : Activity). b.fresh) (option_and_then activity_of z) []) o) is ∙ own

-- an allowed access is of a cell whose object has a class
pub allowed_class : (image : Image) (s : State) (t : ℕ) (a : Activity) (effect : Effect) (cell : Cell) → is_allowed (at_of image s t a) effect cell ≡ true → (class : ℕ) × (class_of s.objects cell.object ≡ Some class)
allowed_class image s t a effect cell e =
    elim (class_of s.objects cell.object) as (λ o. class_of s.objects cell.object ≡ o → option_map_or (λ class. allows (cover s.holding a.fresh) t cell class effect) o false ≡ true →
    (class : ℕ) × (class_of s.objects cell.object ≡ Some class)) [
      | None ↦ λ is f. cc
      | Some class ↦ λ is f. (class, is)
    ] refl (and_parts (nat_lt 0 a.depth) _ e).1

module _ (image : Image) (s : State) (t : ℕ) (r : Reply) (new : State) where
  -- ---- another thread

  pub same_thread : (u : ℕ) → u ≢ t → Step image s t r new → slice_get new.threads u ≡ slice_get s.threads u
  same_thread u apart step = of_line image s t (λ q z. slice_get z.threads u ≡ slice_get s.threads u) (step_leaves image s t u apart) r new step

  pub same_fresh : (u : ℕ) → u ≢ t → Step image s t r new → fresh_at new.threads u ≡ fresh_at s.threads u
  same_fresh u apart step = ap (λ z. option_map_or (λ (b : Activity). b.fresh) (option_and_then activity_of z) []) (same_thread u apart step)

  pub same_depth : (u : ℕ) → u ≢ t → Step image s t r new → depth_at new.threads u ≡ depth_at s.threads u
  same_depth u apart step = ap (λ z. option_map_or (λ (b : Activity). b.depth) (option_and_then activity_of z) 0) (same_thread u apart step)

  pub same_held : (u : ℕ) → u ≢ t → Step image s t r new → (node : Node) → held new.holding u node ≡ held s.holding u node
  same_held u apart step node = of_line image s t (λ q z. held z.holding u node ≡ held s.holding u node) (step_leaves_held image s t u node apart) r new step

  -- ---- an object

  pub same_class : (o class : ℕ) → Step image s t r new → class_of s.objects o ≡ Some class → class_of new.objects o ≡ Some class
  same_class o class step of = of_line image s t (λ q z. class_of z.objects o ≡ Some class) (step_keeps (λ (x : Object). x.class) class_of-written image s t o class of) r new step

  pub same_size : (o size : ℕ) → Step image s t r new → size_of s.objects o ≡ Some size → size_of new.objects o ≡ Some size
  same_size o size step of = of_line image s t (λ q z. size_of z.objects o ≡ Some size) (step_keeps (λ (x : Object). length x.cells) size_of-written image s t o size of) r new step
