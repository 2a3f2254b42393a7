-- How many sections are open, instruction by instruction.
use Rattle.std.proofs.Common.{◌≡◌, ℕ, suc, ◌+◌, ◌<◌, ◌≤◌, inl, inr, IsTrue, List, [], ◌∷◌, length, get_or, Some, pos, slice_get, refl, sym, ap, ◌∙◌, subst, arith}
use Rattle.std.proofs.lemmas.Bool.{cases_lt}
use Rattle.std.proofs.lemmas.List.{nil_from_length}
use Rattle.std.proofs.lemmas.Option.{slice_get-get_or}
use Rattle.asl_code.specs.declared.instr.Instr.{Instr}
use Rattle.asl_code.specs.declared.instr.Instr.TheVariants as instr
use Rattle.asl_lower.specs.OpenSections.{open_at, open_behind, is_access}
use Rattle.asl_lower.specs.Reach.{depth_after, IsOutsideAccess}

-- the depth counts the open sections
length_after : (i : Instr) (opened : List ℕ) → length (open_behind (Some i) opened) ≡ depth_after i (length opened)
length_after (instr.Acquire s) opened = refl
length_after instr.Release [] = refl
length_after instr.Release (s ∷ opened) = omega arith
length_after (instr.SetInt a b) opened = refl
length_after (instr.SetNull a) opened = refl
length_after (instr.Move a b) opened = refl
length_after (instr.Add a b c) opened = refl
length_after (instr.Subtract a b c) opened = refl
length_after (instr.LessThan a b c) opened = refl
length_after (instr.Equals a b c) opened = refl
length_after (instr.GlobalAddress a b) opened = refl
length_after (instr.FieldAddress a b c) opened = refl
length_after (instr.Load a b) opened = refl
length_after (instr.Store a b) opened = refl
length_after (instr.New a b c) opened = refl
length_after (instr.Jump a) opened = refl
length_after (instr.JumpIfZero a b) opened = refl
length_after (instr.Call a b c) opened = refl
length_after (instr.Return a) opened = refl
length_after (instr.Output a) opened = refl

-- what indexing gives past the end, where nothing is read
abbrev pub no_instr : Instr
no_instr = instr.SetInt 0 (pos 0)

pub stands_at : (code : List Instr) (pc : ℕ) → pc < length code → slice_get code pc ≡ Some (get_or code pc no_instr)
stands_at code pc low = slice_get-get_or code pc no_instr low

-- a section more at most
pub depth_grows : (i : Instr) (depth : ℕ) → depth_after i depth ≤ depth + 1
depth_grows (instr.Acquire s) depth = omega arith
depth_grows instr.Release depth = omega arith
depth_grows (instr.SetInt a b) depth = omega arith
depth_grows (instr.SetNull a) depth = omega arith
depth_grows (instr.Move a b) depth = omega arith
depth_grows (instr.Add a b c) depth = omega arith
depth_grows (instr.Subtract a b c) depth = omega arith
depth_grows (instr.LessThan a b c) depth = omega arith
depth_grows (instr.Equals a b c) depth = omega arith
depth_grows (instr.GlobalAddress a b) depth = omega arith
depth_grows (instr.FieldAddress a b c) depth = omega arith
depth_grows (instr.Load a b) depth = omega arith
depth_grows (instr.Store a b) depth = omega arith
depth_grows (instr.New a b c) depth = omega arith
depth_grows (instr.Jump a) depth = omega arith
depth_grows (instr.JumpIfZero a b) depth = omega arith
depth_grows (instr.Call a b c) depth = omega arith
depth_grows (instr.Return a) depth = omega arith
depth_grows (instr.Output a) depth = omega arith

-- the depth before the instruction at a pc
pub record IsDepth (code : List Instr) (pc depth : ℕ) : Type 0 where
  pub count : depth ≡ length (open_at code pc)
  pub bound : depth ≤ pc

pub depth_more : (code : List Instr) (pc depth next : ℕ) (i : Instr) → slice_get code pc ≡ Some i → IsDepth code pc depth → next ≡ depth_after i depth → IsDepth code (pc + 1) next
depth_more code pc depth next i stands d e =
    let one : suc pc ≡ pc + 1 = omega arith in
    record {
      count = e
          ∙ ap (depth_after i) d.count
          ∙ sym (length_after i (open_at code pc))
          ∙ ap (λ o. length (open_behind o (open_at code pc))) (sym stands)
          ∙ ap (λ (n : ℕ). length (open_at code n)) one;
      bound = omega (arith, depth_grows i depth, e, d.bound);
    }

pub outside : (code : List Instr) (pc depth : ℕ) → IsDepth code pc depth → depth ≡ 0 → open_at code pc ≡ []
outside code pc depth d e = nil_from_length (open_at code pc) (sym d.count ∙ e)

pub no_depth : (code : List Instr) (pc depth : ℕ) → IsDepth code pc depth → open_at code pc ≡ [] → depth ≡ 0
no_depth code pc depth d e = d.count ∙ ap length e

-- one instruction more, with no access outside all sections
no_access_more : (code : List Instr) (from pc : ℕ) (i : Instr) → slice_get code pc ≡ Some i → (open_at code pc ≡ [] → IsTrue (is_access i) → ⊥) → ((n : ℕ) → from ≤ n → n < pc → ¬ IsOutsideAccess code n) → (n : ℕ) → from ≤ n → n < pc + 1 → ¬ IsOutsideAccess code n
no_access_more code from pc i stands none h n low high a =
    elim (cases_lt n pc) [
      | inl before ↦ h n low before a
      | inr past ↦ (let here : n ≡ pc = omega arith in
          let q : Some a.instruction ≡ Some i = sym a.stands ∙ ap (slice_get code) here ∙ stands in
          let same : a.instruction ≡ i = cc in
          let P : Instr → Type 0 = λ j. IsTrue (is_access j) in
          none (ap (open_at code) (sym here) ∙ a.outside) (subst P same a.access))
    ]
