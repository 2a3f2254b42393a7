-- The start of a verified program satisfies the invariant.
use Rattle.std.proofs.Common.{◌≡◌, ℕ, ◌-◌, ◌<◌, ◌≤◌, zero, suc, pos, replicate, map, length-append, List, [], ◌∷◌, Some, None, length, slice_get, refl, ap, sym, ◌∙◌, subst, inl, inr, arith}
use Rattle.std.specs.Prelude.{option_and_then, unwrap_or}
use Rattle.std.proofs.lemmas.Option.{same_Some}
use Rattle.std.proofs.lemmas.List.{length-replicate, length-map}
use Rattle.asl_code.specs.declared.image.Image.{Image}
use Rattle.asl_code.specs.declared.image.Function.{Function}
use Rattle.asl_code.specs.declared.value.Value.{Value}
use Rattle.asl_code.specs.declared.value.Value.TheVariants.{Int}
use Rattle.asl_code.specs.Fits.{FitsImage}
use Rattle.std.specs.FinMap as finite
use Rattle.asl_mode_lanes.specs.declared.mode.Mode.{Mode}
use Rattle.asl_lock_forest.specs.Keys.{key, key_cmp}
use Rattle.asl_lock_forest.proofs.Laws.{held_empty}
use Rattle.asl_lock_forest.proofs.Lawful.{lawful_empty, within_empty}
use Rattle.asl_machine.specs.State.{Object, Activity, Thread, Done, cell_at, class_of, size_of, activity_of, activity_at}
use Rattle.asl_expression.specs.Expression.{cell_of}
use Rattle.asl_machine.specs.Access.{Points}
use Rattle.asl_machine.specs.WellFormed.{IsPlaced, SatisfiesInvariant}
use Rattle.asl_machine.specs.Run.{global_object, first_activity, first_thread, first_threads, start_of}
use Rattle.asl_machine.proofs.Lists.{one_more, replicated}

-- the first registers hold the thread's number and zeros, which point nowhere
first_values : (t m r : ℕ) (v : Value) (objects : List Object) → slice_get (Int (pos t) ∷ replicate m (Int (pos 0))) r ≡ Some v → Points objects v
first_values t m zero v objects e = let is : Int (pos t) ≡ v = cc in subst (Points objects) is tt
first_values t m (suc r) v objects e = subst (Points objects) (sym (replicated m r (Int (pos 0)) v e)) tt

-- each thread starts placed, at the entry function's first instruction
first_placed : (image : Image) (objects : List Object) (t : ℕ) → FitsImage image → IsPlaced image objects (first_activity image t)
first_placed image objects t fits =
    let f = fits.entry.0 in
    let is : unwrap_or (slice_get image.functions image.start) (record { params = 0; regs = 0; len = 0 }) ≡ f = ap (λ o. unwrap_or o (record { params = 0; regs = 0; len = 0 })) fits.entry.1 in
    let good = fits.function_fits image.start f fits.entry.1 in
    let one = fits.entry.2 in
    let some = good.some in
    let params = good.params in
    let count : (n : ℕ) → n ≡ f.regs → length (Int (pos t) ∷ replicate (n - 1) (Int (pos 0))) ≡ f.regs = λ n e. counted (Int (pos t)) (Int (pos 0)) n f.regs e (omega arith) in
    record {
      function = f;
      lies = record { function = fits.entry.1; low = omega arith; high = omega arith };
      registers = count _ (ap (λ (g : Function). g.regs) is);
      points = λ r v e. first_values t _ r v objects e;
      depth = omega arith;
      below = (refl, refl);
      few = omega arith;
    }
  where
    counted : (x y : Value) (n m : ℕ) → n ≡ m → 1 ≤ m → length (x ∷ replicate (n - 1) y) ≡ m
    counted x y n m e le = let l = length-replicate (n - 1) y in omega arith

-- each thread of the start is one that starts so
first_found : (image : Image) (n u : ℕ) (thread : Thread) → slice_get (first_threads image n) u ≡ Some thread → (t : ℕ) × (thread ≡ first_thread image t)
first_found image zero u thread e = cc
first_found image (suc n) u thread e = elim (one_more (first_threads image n) (first_thread image n) thread u e) [ inl before ↦ first_found image n u thread before | inr last ↦ (n, last) ]

pub length-first_threads : (image : Image) (n : ℕ) → length (first_threads image n) ≡ n
length-first_threads image zero = refl
length-first_threads image (suc n) = let h = length-first_threads image n in let l = length-append (first_threads image n) (first_thread image n ∷ []) in omega arith

start_placed : (image : Image) (objects : List Object) (n u : ℕ) (a : Activity) → FitsImage image → activity_at (first_threads image n) u ≡ Some a → IsPlaced image objects a
start_placed image objects n u a fits e =
    elim (slice_get (first_threads image n) u) as (λ o. slice_get (first_threads image n) u ≡ o → option_and_then activity_of o ≡ Some a → IsPlaced image objects a) [
      | None ↦ λ f k. cc
      | Some thread ↦ λ f k.
          let first = first_found image n u thread f in
          let is = sym (ap activity_of first.1) ∙ k in
          subst (IsPlaced image objects) (same_Some _ _ is) (first_placed image objects first.0 fits)
    ] refl e

-- the objects of the start are the globals, with their classes and one cell each, which holds 0
global_classed : (classes : List ℕ) (n class : ℕ) → slice_get classes n ≡ Some class → class_of (map global_object classes) n ≡ Some class
global_classed [] n class e = cc
global_classed (c ∷ cs) zero class e = e
global_classed (c ∷ cs) (suc n) class e = global_classed cs n class e

global_sized : (classes : List ℕ) (n class : ℕ) → slice_get classes n ≡ Some class → size_of (map global_object classes) n ≡ Some 1
global_sized [] n class e = cc
global_sized (c ∷ cs) zero class e = refl
global_sized (c ∷ cs) (suc n) class e = global_sized cs n class e

global_class : (classes : List ℕ) (n class : ℕ) → class_of (map global_object classes) n ≡ Some class → slice_get classes n ≡ Some class
global_class [] n class e = e
global_class (c ∷ cs) zero class e = e
global_class (c ∷ cs) (suc n) class e = global_class cs n class e

global_size : (classes : List ℕ) (n size : ℕ) → size_of (map global_object classes) n ≡ Some size → 0 < size
global_size [] n size e = cc
global_size (c ∷ cs) zero size e = let one : 1 ≡ size = cc in omega arith
global_size (c ∷ cs) (suc n) size e = global_size cs n size e

global_value : (objects : List Object) (classes : List ℕ) (o i : ℕ) (v : Value) → cell_at (map global_object classes) (cell_of o i) ≡ Some v → Points objects v
global_value objects [] o i v e = cc
global_value objects (c ∷ cs) zero zero v e = let is : Int (pos 0) ≡ v = cc in subst (Points objects) is tt
global_value objects (c ∷ cs) zero (suc i) v e = cc
global_value objects (c ∷ cs) (suc o) i v e = global_value objects cs o i v e

-- the start is sound
pub start_sound : (image : Image) (n : ℕ) → FitsImage image → SatisfiesInvariant image (start_of image n)
start_sound image n fits =
    let objects = map global_object image.globals in
    record {
      fits = fits;
      formed = record {
        objects = record {
          classes = λ k class e. fits.global_fits k class (global_class image.globals k class e);
          points = λ c v e. global_value objects image.globals c.object c.offset v e;
          globals = λ g class e. (global_classed image.globals g class e, global_sized image.globals g class e);
          sizes = λ n size e. global_size image.globals n size e;
          few = let l = length-map image.globals global_object in let k = fits.few_globals in omega arith;
        };
        placed = λ u a e. start_placed image objects n u a fits e;
        ended = λ u v e. let first = (first_found image n u (Done v) e).1 in cc;
      };
      outside = λ u e node. finite.get-empty {X = Mode} key_cmp (key u node);
      lawful = lawful_empty;
      within = within_empty image.classes (length (first_threads image n));
      there = λ u node ne. absurd (ne (held_empty u node));
    }
