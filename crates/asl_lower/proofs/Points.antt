-- What stands at a pc of a program, where control continues from it, and which sections are open there.
use Rattle.std.proofs.Common.{◌≡◌, ℕ, suc, ◌<◌, ◌≤◌, ◌⊎◌, inl, inr, IsTrue, List, Some, slice_get, refl, sym, ap, ◌∙◌, subst, arith}
use Rattle.std.proofs.lemmas.Bool.{cases_lt, false≢true}
use Rattle.asl_code.specs.declared.instr.Instr.{Instr}
use Rattle.asl_code.specs.declared.instr.Instr.TheVariants as instr
use Rattle.asl_syntax.specs.Tree.{Function, Item}
use Rattle.asl_lower.specs.Names.{Scope, scope_of, register}
use Rattle.asl_lower.specs.Place.{Place, past_block}
use Rattle.asl_lower.specs.Lowered.{Lowered}
use Rattle.asl_lower.specs.OpenSections.{open_at, open_behind, FlowsTo}
use Rattle.asl_lower.proofs.Stands.{is_plain, Stands, Plainly, Makes, Invokes, Jumps, Tests, Enters, Leaves, block_stands}
use Rattle.asl_lower.proofs.Bodies.{Body}

-- a plain instruction continues to the next and keeps what is open
pub plain_goes : (i : Instr) (pc to : ℕ) → IsTrue (is_plain i) → FlowsTo i pc to → to ≡ suc pc
plain_goes (instr.New r c n) pc to t g = absurd (false≢true t)
plain_goes (instr.Jump n) pc to t g = absurd (false≢true t)
plain_goes (instr.JumpIfZero r n) pc to t g = absurd (false≢true t)
plain_goes (instr.Call r a n) pc to t g = absurd (false≢true t)
plain_goes (instr.Return r) pc to t g = absurd (false≢true t)
plain_goes (instr.Acquire n) pc to t g = absurd (false≢true t)
plain_goes instr.Release pc to t g = absurd (false≢true t)
plain_goes i pc to t g = g

pub plain_keeps : (i : Instr) (os : List ℕ) → IsTrue (is_plain i) → open_behind (Some i) os ≡ os
plain_keeps (instr.New r c n) os t = absurd (false≢true t)
plain_keeps (instr.Jump n) os t = absurd (false≢true t)
plain_keeps (instr.JumpIfZero r n) os t = absurd (false≢true t)
plain_keeps (instr.Call r a n) os t = absurd (false≢true t)
plain_keeps (instr.Return r) os t = absurd (false≢true t)
plain_keeps (instr.Acquire n) os t = absurd (false≢true t)
plain_keeps instr.Release os t = absurd (false≢true t)
plain_keeps i os t = refl

-- control continues between two places, and what is open there is what the instruction leaves open
pub record Motion (l : Lowered) (lo hi : Place) (pc to : ℕ) (i : Instr) : Type 0 where
  pub low : lo.pc ≤ to
  pub high : to ≤ hi.pc
  pub opened : open_at l.code to ≡ open_behind (Some i) (open_at l.code pc)

-- on to the next instruction
onward : (l : Lowered) (lo hi : Place) (pc to : ℕ) (i : Instr) → lo.pc ≤ pc → pc < hi.pc → slice_get l.code pc ≡ Some i → to ≡ suc pc → Motion l lo hi pc to i
onward l lo hi pc to i low high h e =
    record { low = omega arith; high = omega arith; opened = ap (λ (n : ℕ). open_at l.code n) e ∙ ap (λ v. open_behind v (open_at l.code pc)) h }

-- to a target
leap : (l : Lowered) (lo hi : Place) (pc to target : ℕ) (i : Instr) → ((os : List ℕ) → open_behind (Some i) os ≡ os) → lo.pc ≤ target → target ≤ hi.pc → open_at l.code target ≡ open_at l.code pc → to ≡ target → Motion l lo hi pc to i
leap l lo hi pc to target i k low high o e =
    record { low = omega arith; high = omega arith; opened = ap (λ (n : ℕ). open_at l.code n) e ∙ o ∙ sym (k (open_at l.code pc)) }

-- where control continues from what stands at a pc
moves_at : (sc : Scope) (l : Lowered) (lo hi : Place) (pc to : ℕ) → lo.pc ≤ pc → pc < hi.pc → Stands sc l lo hi pc → (i : Instr) × (slice_get l.code pc ≡ Some i) × (FlowsTo i pc to → Motion l lo hi pc to i)
moves_at sc l lo hi pc to low high (Plainly i e t) =
    (i, e, λ g. onward l lo hi pc to i low high e (plain_goes i pc to t g))
moves_at sc l lo hi pc to low high (Makes r c n e f g k) =
    (instr.New r c n, e, λ g. onward l lo hi pc to _ low high e g)
moves_at sc l lo hi pc to low high (Invokes r a n e) =
    (instr.Call r a n, e, λ g. onward l lo hi pc to _ low high e g)
moves_at sc l lo hi pc to low high (Jumps n e f g o) =
    (instr.Jump n, e, λ h. leap l lo hi pc to n _ (λ _. refl) f g o h)
moves_at sc l lo hi pc to low high (Tests r n e f g o) = (
  instr.JumpIfZero r n,
  e,
  λ h. elim h [
    | inl there ↦ leap l lo hi pc to n _ (λ _. refl) f g o there
    | inr on ↦ onward l lo hi pc to _ low high e on
  ],
)
moves_at sc l lo hi pc to low high (Enters n w e) =
    let h : slice_get l.code pc ≡ Some (instr.Acquire n) = ap (slice_get l.code) (sym e) ∙ w.enters in
    (instr.Acquire n, h, λ g. onward l lo hi pc to _ low high h g)
moves_at sc l lo hi pc to low high (Leaves n w e) =
    let h : slice_get l.code pc ≡ Some instr.Release = ap (slice_get l.code) (sym e) ∙ w.leaves in
    (instr.Release, h, λ g. onward l lo hi pc to _ low high h g)

-- the end of the statements of a body, where its `ret` stands
abbrev pub last_of : (f : Function) → Place → Place
last_of f p = past_block f.body p

-- what stands at a pc of a body: something of its statements, or its `ret`
pub body_stands : (is : List Item) (l : Lowered) (n pc : ℕ) → (b : Body is l n pc) → Stands (scope_of is n b.placed.function) l b.placed.place (last_of b.placed.function b.placed.place) pc ⊎ (pc ≡ (last_of b.placed.function b.placed.place).pc)
body_stands is l n pc b =
    let w = b.placed in
    elim (cases_lt pc (last_of w.function w.place).pc) [
      | inl inside ↦ inl (block_stands (scope_of is n w.function) l w.function.body w.place w.lowered.body w.counted pc b.low inside)
      | inr past ↦ inr (omega (arith, b.high))
    ]

-- control stays in the body, before or at its `ret`
pub body_moves : (is : List Item) (l : Lowered) (n pc to : ℕ) (i : Instr) → (b : Body is l n pc) → slice_get l.code pc ≡ Some i → FlowsTo i pc to → Motion l b.placed.place (last_of b.placed.function b.placed.place) pc to i
body_moves is l n pc to i b e g =
    let w = b.placed in
    let Goal : Instr → Type 0 = λ j. Motion l w.place (last_of w.function w.place) pc to j in
    let Goes : Instr → Type 0 = λ j. FlowsTo j pc to in
    elim (body_stands is l n pc b) [
      | inl s ↦ elim (cases_lt pc (last_of w.function w.place).pc) [
        | inl inside ↦ (let m = moves_at (scope_of is n w.function) l w.place (last_of w.function w.place) pc to b.low inside s in
            let same : m.0 ≡ i = cc in
            subst Goal same (m.2 (subst Goes (sym same) g)))
        | inr past ↦ (let at : pc ≡ (last_of w.function w.place).pc = omega (arith, b.high) in
            let r : slice_get l.code pc ≡ Some (instr.Return (register (scope_of is n w.function) w.function.returned)) = ap (slice_get l.code) at ∙ w.lowered.returns in
            let same : i ≡ instr.Return (register (scope_of is n w.function) w.function.returned) = cc in
            absurd (subst Goes same g))
      ]
      | inr at ↦ (let r : slice_get l.code pc ≡ Some (instr.Return (register (scope_of is n w.function) w.function.returned)) = ap (slice_get l.code) at ∙ w.lowered.returns in
          let same : i ≡ instr.Return (register (scope_of is n w.function) w.function.returned) = cc in
          absurd (subst Goes same g))
    ]
