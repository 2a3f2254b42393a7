-- Registers and cells that point elsewhere: what a thread holds and may read is no address in an object that is fresh for another
-- thread. From this follows that a step hands no fresh object to another thread.
use Rattle.std.proofs.Common.{◌≡◌, ◌≢◌, ℕ, zero, suc, pos, ◌+◌, ◌-◌, ◌⊎◌, ◌++◌, replicate, take, drop, List, [], ◌∷◌, Some, length, set, slice_get, ap, sym, ◌∙◌, inl, inr, arith}
use Rattle.std.specs.Prelude.{Option}
use Rattle.std.specs.Option.{option_map_or}
use Rattle.asl_code.proofs.Told.{slice_get-drop}
use Rattle.asl_code.specs.declared.image.Image.{Image}
use Rattle.asl_code.specs.declared.value.Value.{Value}
use Rattle.asl_code.specs.declared.value.Value.TheVariants.{Int, Addr}
use Rattle.asl_code.specs.declared.value.Cell.{Cell}
use Rattle.asl_code.specs.declared.value.Effect.TheVariants.{Read}
use Rattle.asl_lock_forest.specs.Holding.{is_covered}
use Rattle.asl_lock_forest.proofs.NinePairs.{nine_pairs}
use Rattle.asl_machine.specs.Cover.{is_fresh, cover, Allows}
use Rattle.asl_machine.specs.State.{Object, Frame, Activity, State, cell_at, class_of, activity_at}
use Rattle.asl_machine.specs.Calls.{first_registers, values_from}
use Rattle.asl_machine.specs.Access.{AllPoint}
use Rattle.asl_machine.specs.WellFormed.{AreSuspended, SatisfiesInvariant}
use Rattle.asl_machine.specs.Fresh.{IsFreshFor, PointElsewhere, AllElsewhere, AreApart}
use Rattle.asl_machine.proofs.Lists.{get_either, replicated}
use Rattle.asl_machine.proofs.WellFormedHeaps.{points_within}
use Rattle.asl_machine.proofs.Freshness.{or_split}

-- a register that is set to no such address
pub set_elsewhere : (o : ℕ) (regs : List Value) (r : ℕ) (v : Value) → PointElsewhere o regs → ((i : ℕ) → v ≢ Addr o i) → PointElsewhere o (set regs r v)
set_elsewhere o regs r v p q k i e = elim (get_either regs r k v (Addr o i) e) [ inl is ↦ q i (sym is) | inr old ↦ p k i old ]

-- what is read of a list filled up with z is of the list, or z
filled : (xs : List Value) (m r : ℕ) (z v : Value) → slice_get (xs ++ replicate m z) r ≡ Some v → (slice_get xs r ≡ Some v) ⊎ (v ≡ z)
filled [] m r z v e = inr (replicated m r z v e)
filled (x ∷ xs) m zero z v e = inl e
filled (x ∷ xs) m (suc r) z v e = filled xs m r z v e

-- what is read of the first k is read of the list
taken_from : (k : ℕ) (xs : List Value) (r : ℕ) (v : Value) → slice_get (take k xs) r ≡ Some v → slice_get xs r ≡ Some v
taken_from zero xs r v e = cc
taken_from (suc k) [] r v e = cc
taken_from (suc k) (x ∷ xs) zero v e = e
taken_from (suc k) (x ∷ xs) (suc r) v e = taken_from k xs r v e

-- the first registers of a callee
pub called_elsewhere : (o : ℕ) (regs : List Value) (first params count : ℕ) → PointElsewhere o regs → PointElsewhere o (first_registers (values_from regs first params) count)
called_elsewhere o regs first params count p r i e =
    elim (filled (values_from regs first params) (count - length (values_from regs first params)) r (Int (pos 0)) (Addr o i) e) [
      | inl own ↦ p (first + r) i (sym (slice_get-drop first regs r) ∙ taken_from params (drop first regs) r (Addr o i) own)
      | inr is ↦ (let f : Addr o i ≡ Int (pos 0) = is in cc)
    ]

-- no register points to an object that is not there
pub none_points : (objects : List Object) (regs : List Value) → AllPoint objects regs → PointElsewhere (length objects) regs
none_points objects regs p r i e = let lt = points_within objects (length objects) i (p r (Addr (length objects) i) e) in omega (arith, lt)

-- nor does one of a frame that waits
pub none_below : (image : Image) (objects : List Object) (above : ℕ) (result : Option ℕ) (fs : List Frame) → AreSuspended image objects above result fs → AllElsewhere (length objects) fs
none_below image objects above result [] h = tt
none_below image objects above result (f ∷ fs) h = (none_points objects f.regs h.0.points, none_below image objects f.function f.result fs h.1)

-- ---- cells

-- what a thread may read in a cell that is not fresh for another is no address in an object that is
pub read_elsewhere : (image : Image) (s : State) → SatisfiesInvariant image s → AreApart image s → (t u : ℕ) (a : Activity) → t ≢ u → activity_at s.threads t ≡ Some a → (cell : Cell) (x : ℕ) → class_of s.objects cell.object ≡ Some x →
    Allows (cover s.holding a.fresh) t cell x Read → ¬ IsFreshFor s u cell.object → (o i : ℕ) → cell_at s.objects cell ≡ Some (Addr o i) → ¬ IsFreshFor s u o
read_elsewhere image s sound kept t u a apart is cell x of allowed away o i at f =
    elim (kept.cells u o i cell f at) [
      | inl in_fresh ↦ away in_fresh
      | inr covered ↦ elim (or_split (is_fresh a.fresh cell.object) (is_covered s.holding t cell x Read) allowed) [
        | inl own ↦ covered.0 t (ap (λ y. is_fresh (option_map_or (λ (d : Activity). d.fresh) y []) cell.object) is ∙ own)
        | inr read ↦ nine_pairs s.holding sound.lawful t u apart cell x read (covered.1 x of)
      ]
    ]
