-- An evaluation that comes to no object of others: it begins in none, and no operation of a path leads from elsewhere into one, but a `*` at
-- a cell that holds an address in one. Who comes to such an object comes to the goal; where that cannot be, nobody does.
use Rattle.std.proofs.Common.{◌≡◌, ℕ, List, Option, Some, None, slice_get, refl, ap, sym, ◌∙◌, subst}
use Rattle.std.specs.Prelude.{option_and_then}
use Rattle.asl_code.specs.declared.value.Value.{Value}
use Rattle.asl_code.specs.declared.value.Value.TheVariants.{Addr}
use Rattle.asl_code.specs.declared.value.Cell.{Cell}
use Rattle.asl_code.specs.declared.lock.Base.{Base}
use Rattle.asl_code.specs.declared.lock.Base.TheVariants.{Reg, Global}
use Rattle.asl_code.specs.declared.path.Op.TheVariants.{Deref, Off}
use Rattle.asl_expression.specs.Expression.{cell_of, pointed, base_cell, walked}
use Rattle.asl_expression.proofs.Paths.{star_reads, moved_stays}
use Rattle.asl_machine.specs.State.{Object, cell_at}
use Rattle.asl_machine.specs.Request.{heap_of}
use Rattle.asl_machine.proofs.WellFormedHeaps.{pointed_value}

module _ (others : ℕ → Type 0) (Goal : Type 0) where
  -- a cell in an object of others comes to the goal
  abbrev pub IsAway : Option Cell → Type 0
  IsAway at = (c : Cell) → at ≡ Some c → others c.object → Goal

  pub off_away : (objects : List Object) (places : ℕ) (at : Option Cell) → IsAway at → IsAway (option_and_then (walked (heap_of objects) (Off places)) at)
  off_away objects places None away next e other = absurd (let none : None ≡ Some next = e in cc)
  off_away objects places (Some c) away next e other = away c refl (subst others (moved_stays (heap_of objects) places c next e) other)

  pub star_away : (objects : List Object) (at : Option Cell) → ((c : Cell) → at ≡ Some c → (o k : ℕ) → cell_at objects c ≡ Some (Addr o k) → others o → Goal) → IsAway (option_and_then (walked (heap_of objects) Deref) at)
  star_away objects None far next e other = absurd (let none : None ≡ Some next = e in cc)
  star_away objects (Some c) far next e other =
      let r = star_reads (heap_of objects) c next e in
      let w = pointed_value r.0 next r.2 in
      far c refl next.object w.0 (r.1 ∙ ap (λ y. Some y) w.1) other

  pub base_away : (regs : List Value) (b : Base) → ((n : ℕ) → b ≡ Global n → others n → Goal) → ((o k r : ℕ) → slice_get regs r ≡ Some (Addr o k) → others o → Goal) → IsAway (base_cell regs b)
  base_away regs (Global n) globals far c e other = (let is : cell_of n 0 ≡ c = cc in globals n refl (subst others (sym (ap (λ (z : Cell). z.object) is)) other))
  base_away regs (Reg r) globals far c e other =
      elim (slice_get regs r) as (λ o. slice_get regs r ≡ o → option_and_then pointed o ≡ Some c → Goal) [
        | None ↦ λ is k. absurd (let none : None ≡ Some c = k in cc)
        | Some w ↦ λ is k. (let p = pointed_value w c k in far c.object p.0 r (is ∙ ap (λ y. Some y) p.1) other)
      ] refl e
