-- The region of a frame: its instruction is one of the region, and control continues in it until its end.
use Rattle.std.proofs.Common.{◌≡◌, ℕ, suc, ◌||◌, Bool, true, false, cond, List, [], ◌∷◌, Option, Some, None, slice_get, refl, ap, ap₂, sym, ◌∙◌, subst, inl, inr, arith}
use Rattle.std.specs.Prelude.{option_map}
use Rattle.std.proofs.lemmas.Option.{same_Some}
use Rattle.asl_code.specs.declared.instr.Instr.{Instr}
use Rattle.asl_code.specs.declared.instr.Instr.TheVariants as instr
use Rattle.asl_lower.specs.declared.section.Section.{Section}
use Rattle.asl_lower.specs.Lowered.{Lowered}
use Rattle.asl_lower.specs.OpenSections.{open_at, release_of, InBody, FlowsTo}
use Rattle.asl_lower.specs.Regions.{Region, Body, Inside, IsIn, outermost}
use Rattle.asl_lower.specs.Facts.{HasLayout}
use Rattle.asl_lower.proofs.Inside.{outermost_inside, outermost_stays, outermost_left, end_stands}
use Rattle.asl_machine.specs.State.{Frame}
use Rattle.asl_soundness.specs.Nested.{is_some_open, is_inside, IsOfKind, region_of}

none_outermost : (xs : List ℕ) → outermost xs ≡ None → xs ≡ []
none_outermost [] e = refl
none_outermost (x ∷ []) e = cc
none_outermost (x ∷ y ∷ xs) e = let bad = none_outermost (y ∷ xs) e in cc

some_outermost : (xs : List ℕ) → is_some_open xs ≡ true → (n : ℕ) × (outermost xs ≡ Some n)
some_outermost [] e = cc
some_outermost (x ∷ []) e = (x, refl)
some_outermost (x ∷ y ∷ xs) e = some_outermost (y ∷ xs) refl

or_none : (b : Bool) → (b || false) ≡ true → b ≡ true
or_none true e = refl
or_none false e = e

-- a frame in a section, or above one, has a region
pub region_there : (l : Lowered) (f : Frame) (below : List Frame) → is_inside l (f ∷ below) ≡ true → (r : Region) × (region_of l f below ≡ Some r)
region_there l f below e =
    elim (is_inside l below) as (λ b. (is_some_open (open_at l.code f.pc) || b) ≡ true → (r : Region) × (cond b (Some (Body f.function)) (option_map Inside (outermost (open_at l.code f.pc))) ≡ Some r)) [
      | true ↦ λ g. (Body f.function, refl)
      | false ↦ λ g. (let o = some_outermost (open_at l.code f.pc) (or_none _ g) in (Inside o.0, ap (option_map Inside) o.1))
    ] e

-- and where nothing is open it has none
pub no_region : (l : Lowered) (f : Frame) (below : List Frame) (r : Region) → open_at l.code f.pc ≡ [] → is_inside l below ≡ false → region_of l f below ≡ Some r → ⊥
no_region l f below r none out e =
    let is : region_of l f below ≡ None = ap₂ (λ (b : Bool) (xs : List ℕ). cond b (Some (Body f.function)) (option_map Inside (outermost xs))) out none in
    let bad : None ≡ Some r = sym is ∙ e in
    cc

module _ (l : Lowered) (lay : HasLayout l) (f : Frame) (below : List Frame) (body : InBody l f.function f.pc) (kind : IsOfKind l (is_inside l below) f.function) where
  -- the `rel` at which the outermost section ends is followed by nothing that is open
  ends : (i : Instr) (to n : ℕ) → slice_get l.code f.pc ≡ Some i → FlowsTo i f.pc to → release_of l n ≡ Some f.pc → outermost (open_at l.code f.pc) ≡ Some n → open_at l.code to ≡ []
  ends i to n at goes end out =
      let is : i ≡ instr.Release = same_Some i instr.Release (sym at ∙ end_stands l lay f.pc n end) in
      let next : to ≡ suc f.pc = subst (λ j. FlowsTo j f.pc to) is goes in
      ap (open_at l.code) next ∙ outermost_left l lay f.pc n end out

  -- where control continues in a region, it was in it: at an instruction that enters none
  pub region_goes : (g : Frame) (i : Instr) → slice_get l.code f.pc ≡ Some i → FlowsTo i f.pc g.pc → g.function ≡ f.function → (is_inside l below ≡ false → open_at l.code f.pc ≡ [] → open_at l.code g.pc ≡ []) →
      (r : Region) → region_of l g below ≡ Some r → (region_of l f below ≡ Some r) × IsIn l r f.function f.pc
  region_goes g i at goes same none r e =
      elim (is_inside l below) as (λ b. is_inside l below ≡ b → IsOfKind l b f.function → cond b (Some (Body g.function)) (option_map Inside (outermost (open_at l.code g.pc))) ≡ Some r →
      (cond b (Some (Body f.function)) (option_map Inside (outermost (open_at l.code f.pc))) ≡ Some r) × IsIn l r f.function f.pc) [
        | true ↦ λ is k h.
            let own : Some (Body f.function) ≡ Some r = ap (λ n. Some (Body n)) (sym same) ∙ h in
            (own, subst (λ q. IsIn l q f.function f.pc) (same_Some (Body f.function) r own) (refl, k, body))
        | false ↦ λ is k h. by_section is (outermost (open_at l.code f.pc)) refl (outermost (open_at l.code g.pc)) refl h
      ] refl kind e
    where
      by_section : is_inside l below ≡ false → (o : Option ℕ) → outermost (open_at l.code f.pc) ≡ o → (p : Option ℕ) → outermost (open_at l.code g.pc) ≡ p → option_map Inside p ≡ Some r → (option_map Inside o ≡ Some r) × IsIn l r f.function f.pc
      by_section out o was None now h = cc
      by_section out None was (Some m) now h =
          let bad : None ≡ Some m = sym (ap outermost (none out (none_outermost (open_at l.code f.pc) was))) ∙ now in
          cc
      by_section out (Some n) was (Some m) now h =
          elim (outermost_inside l lay f.function f.pc n body was) [
            | inl isin ↦
                let apart : release_of l n ≡ Some f.pc → ⊥ = λ end. (let at_end : isin.is.release ≡ f.pc = same_Some isin.is.release f.pc (sym (ap (option_map (λ (s : Section). s.release)) isin.in_table) ∙ end) in let ahead = isin.ahead in omega (arith, ahead, at_end)) in
                let stays : n ≡ m = same_Some n m (sym (outermost_stays l lay f.pc g.pc n i at goes was apart) ∙ now) in
                let own : Some (Inside n) ≡ Some r = ap (λ q. Some (Inside q)) stays ∙ h in
                (own, subst (λ q. IsIn l q f.function f.pc) (same_Some (Inside n) r own) isin)
            | inr end ↦ (let bad : None ≡ Some m = sym (ap outermost (ends i g.pc n at goes end was)) ∙ now in cc)
          ]
