-- A step that changes a cell, or makes it, accesses it for writing.
use Rattle.std.proofs.Common.{◌≡◌, ◌≢◌, ℕ, ◌<◌, ◌≤◌, ◌++◌, List, [], ◌∷◌, Option, Some, None, length, replicate, slice_get, refl, ap, sym, ◌∙◌, subst, inl, inr, arith, pos}
use Rattle.std.specs.Prelude.{IsSome, option_and_then}
use Rattle.std.proofs.lemmas.Bool.{cases_lt}
use Rattle.std.proofs.lemmas.Bool.Decides.{eqb_tells}
use Rattle.std.proofs.lemmas.List.{length_push, length-replicate}
use Rattle.std.proofs.lemmas.Option.{slice_get_within, slice_get_past}
use Rattle.asl_code.specs.declared.image.Image.{Image}
use Rattle.asl_code.specs.declared.instr.Instr.TheVariants as instr
use Rattle.asl_code.specs.declared.value.Value.{Value}
use Rattle.asl_code.specs.declared.value.Value.TheVariants.{Int, Addr}
use Rattle.asl_code.specs.declared.value.Cell.{Cell}
use Rattle.asl_code.specs.declared.value.Effect.TheVariants.{Write}
use Rattle.asl_code.specs.Fits.{FitsImage}
use Rattle.asl_machine.specs.declared.reply.Reply.{Reply}
use Rattle.asl_machine.specs.State.{Object, Activity, Running, State, cell_at, new_object}
use Rattle.asl_machine.proofs.Heaps.{tell_cells, written_other}
use Rattle.asl_machine.proofs.Lists.{get_before, get_last, is_there}
use Rattle.asl_races.specs.Races.{Accesses, AccessesChanges}
use Rattle.asl_races.proofs.Turns.{Turn, Rests, GoesOn, Ends, Enters, Leaves, Wrote, Same, Stored, Made, taken, step_turn}

-- a cell that one object more has changed is one of that object
made_changes : (objects : List Object) (class cells : ℕ) (cell : Cell) → cell_at (objects ++ new_object class cells ∷ []) cell ≢ cell_at objects cell → (cell.object ≡ length objects) × (cell.offset < cells)
made_changes objects class cells cell changed = elim (cases_lt cell.object (length objects)) [
  | inl old ↦ absurd (old_object (slice_get objects cell.object) refl (is_there objects cell.object old))
  | inr past ↦ elim (eqb_tells cell.object (length objects)) [
    | inl newest ↦ (newest.1, in_cells newest.1 (slice_get (replicate cells (Int (pos 0))) cell.offset) refl)
    | inr other ↦ absurd (changed (ap read (slice_get_past more cell.object (none_past past other.1)) ∙ sym (ap read (slice_get_past objects cell.object past))))
  ]
]
  where
    read : Option Object → Option Value
    read o = option_and_then (λ (p : Object). slice_get p.cells cell.offset) o

    more : List Object
    more = objects ++ new_object class cells ∷ []

    none_past : length objects ≤ cell.object → cell.object ≢ length objects → length more ≤ cell.object
    none_past past other = let l = length_push objects (new_object class cells) in omega (arith, l, past, other)

    old_object : (o : Option Object) → slice_get objects cell.object ≡ o → IsSome o → ⊥
    old_object None is there = let g = there in cc
    old_object (Some p) is there = changed (ap read (get_before objects (new_object class cells ∷ []) cell.object p is) ∙ sym (ap read is))

    past_of : cell.object ≡ length objects → length objects ≤ cell.object
    past_of newest = omega (arith, newest)

    in_cells : cell.object ≡ length objects → (v : Option Value) → slice_get (replicate cells (Int (pos 0))) cell.offset ≡ v → cell.offset < cells
    in_cells newest None is =
        absurd (changed (ap read (ap (slice_get more) newest ∙ get_last objects (new_object class cells)) ∙ is ∙ sym (ap read (slice_get_past objects cell.object (past_of newest)))))
    in_cells newest (Some v) is = subst (λ n. cell.offset < n) (length-replicate cells (Int (pos 0))) (slice_get_within (replicate cells (Int (pos 0))) cell.offset v is)

module _ (image : Image) (s : State) (t : ℕ) (r : Reply) (cell : Cell) where
  wrote_accesses : (a : Activity) (objects : List Object) → slice_get s.threads t ≡ Some (Running a) → Wrote image s t a r objects → cell_at objects cell ≢ cell_at s.objects cell → Accesses image (taken s t r) cell Write
  wrote_accesses a objects is (Same e) changed = absurd (changed (ap (λ z. cell_at z cell) e))
  wrote_accesses a objects is (Stored address from c v does reads reads_v allowed e) changed = elim (tell_cells cell c) [
    | inl same ↦ inl (record {
      instr = instr.Store address from;
      is_at = record { activity = a; runs = is; at = does.0 };
      register = address;
      is_access = (refl, refl);
      names = reads ∙ ap (λ (z : Cell). Some (Addr z.object z.offset)) (sym same);
      ran = does.1;
    })
    | inr other ↦ absurd (changed (ap (λ z. cell_at z cell) e ∙ written_other s.objects c v cell other))
  ]
  wrote_accesses a objects is (Made to cells class does e) changed =
      let new = made_changes s.objects class cells cell (λ same. changed (ap (λ z. cell_at z cell) e ∙ same)) in
      inr (refl, record { to = to; cells = cells; class = class; is_at = record { activity = a; runs = is; at = does.0 }; newest = new.0; inside = new.1; ran = does.1 })

  turn_accesses : (new : State) → Turn image s t r new → cell_at new.objects cell ≢ cell_at s.objects cell → Accesses image (taken s t r) cell Write
  turn_accesses new (Rests e) changed = absurd (changed (ap (λ (z : State). cell_at z.objects cell) e))
  turn_accesses new (GoesOn a b objects is e deep wrote) changed = wrote_accesses a objects is wrote (λ same. changed (ap (λ (z : State). cell_at z.objects cell) e ∙ same))
  turn_accesses new (Ends a v is low e) changed = absurd (changed (ap (λ (z : State). cell_at z.objects cell) e))
  turn_accesses new (Enters a b holding is g e) changed = absurd (changed (ap (λ (z : State). cell_at z.objects cell) e))
  turn_accesses new (Leaves a thread is back e) changed = absurd (changed (ap (λ (z : State). cell_at z.objects cell) e))

pub accesses_changes : (image : Image) (count : ℕ) → FitsImage image → AccessesChanges image count
accesses_changes image count fits run s t r new cell is step changed =
    turn_accesses image s t r cell new (step_turn image s t r new step) changed
