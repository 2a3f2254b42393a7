-- The sections that `open_at` has at a pc are those that are open there by the table.
use Rattle.std.proofs.Common.{◌≡◌, ℕ, zero, suc, ◌<◌, ◌≤◌, inl, inr, List, ◌∷◌, length, Some, slice_get, sym, ap, ◌∙◌, subst, arith}
use Rattle.std.specs.List.{Contains}
use Rattle.std.proofs.lemmas.Bool.{cases_lt}
use Rattle.std.proofs.lemmas.Option.{slice_get_within}
use Rattle.asl_code.specs.declared.instr.Instr.{Instr}
use Rattle.asl_code.specs.declared.instr.Instr.TheVariants as instr
use Rattle.asl_syntax.specs.Tree.{Item}
use Rattle.asl_lower.specs.declared.section.Section.{Section}
use Rattle.asl_lower.specs.Lowered.{Lowered, IsLowering}
use Rattle.asl_lower.specs.OpenSections.{open_at, open_behind, without_innermost, InSection, IsSection}
use Rattle.asl_lower.proofs.SectionSteps.{here, there, member_cases, no_member, section_there, Kind, Keeps, Opens, Closes, kind_at}

-- the sections that `open_at` has at a pc are those that are open there by the table
pub record Points (l : Lowered) (pc : ℕ) : Type 0 where
  pub inside : (s : ℕ) → Contains (open_at l.code pc) s → InSection l s pc
  pub opened : (s : ℕ) → InSection l s pc → Contains (open_at l.code pc) s

-- all sections of the table are there
abbrev AllThere : Lowered → Type 0
AllThere l = (s : ℕ) → s < length l.sections → IsSection l s

-- what is known of a section of the table
record Known (l : Lowered) (s : ℕ) (c : Section) : Type 0 where
  enters : slice_get l.code c.acquire ≡ Some (instr.Acquire s)
  leaves : slice_get l.code c.release ≡ Some instr.Release
  before : c.acquire < c.release
  around : open_at l.code c.release ≡ s ∷ open_at l.code c.acquire

known : (l : Lowered) → AllThere l → (s : ℕ) (c : Section) → slice_get l.sections s ≡ Some c → Known l s c
known l all s c e =
    let w : IsSection l s = all s (slice_get_within l.sections s c e) in
    let same : w.section ≡ c = (let q : Some w.section ≡ Some c = sym w.in_table ∙ e in cc) in
    let P : Section → Type 0 = λ d. Known l s d in
    subst P same (record { enters = w.enters; leaves = w.leaves; before = w.before; around = w.around })

-- equal instructions at equal places
stands_same : (l : Lowered) (a b : ℕ) (i j : Instr) → a ≡ b → slice_get l.code a ≡ Some i → slice_get l.code b ≡ Some j → i ≡ j
stands_same l a b i j e f g = let q : Some i ≡ Some j = sym f ∙ ap (slice_get l.code) e ∙ g in cc

head_same : (a b : ℕ) (xs ys os : List ℕ) → os ≡ a ∷ xs → os ≡ b ∷ ys → a ≡ b
head_same a b xs ys os e f = cc

-- one step over an instruction of each kind
keeps_points : (l : Lowered) → AllThere l → (pc : ℕ) (i : Instr) → slice_get l.code pc ≡ Some i → open_at l.code (suc pc) ≡ open_at l.code pc → ((s : ℕ) → i ≡ instr.Acquire s → ⊥) → (i ≡ instr.Release → ⊥) → Points l pc → Points l (suc pc)
keeps_points l all pc i e o a r h =
    record {
      inside = λ s c.
          let P : List ℕ → Type 0 = λ os. Contains os s in
          let q : InSection l s pc = h.inside s (subst P o c) in
          let k : Known l s q.0 = known l all s q.0 q.1 in
          let other : q.0.release ≡ pc → ⊥ = λ at. r (stands_same l pc q.0.release i instr.Release (sym at) e k.leaves) in
          (q.0, q.1, record { behind = omega (arith, q.2.behind); within = omega (arith, q.2.within, other) });
      opened = λ s q.
          let k : Known l s q.0 = known l all s q.0 q.1 in
          let other : q.0.acquire ≡ pc → ⊥ = λ at. a s (stands_same l pc q.0.acquire i (instr.Acquire s) (sym at) e k.enters) in
          let P : List ℕ → Type 0 = λ os. Contains os s in
          subst P (sym o) (h.opened s (q.0, q.1, record { behind = omega (arith, q.2.behind, other); within = omega (arith, q.2.within) }));
    }

opens_points : (l : Lowered) → AllThere l → (pc n : ℕ) → (w : IsSection l n) → w.section.acquire ≡ pc → Points l pc → Points l (suc pc)
opens_points l all pc n w at h =
    let e : slice_get l.code pc ≡ Some (instr.Acquire n) = ap (slice_get l.code) (sym at) ∙ w.enters in
    let o : open_at l.code (suc pc) ≡ n ∷ open_at l.code pc = ap (λ v. open_behind v (open_at l.code pc)) e in
    record {
      inside = λ s c.
          let P : List ℕ → Type 0 = λ os. Contains os s in
          elim (member_cases s n (open_at l.code pc) (subst P o c)) [
            | inl same ↦ (let Q : ℕ → Type 0 = λ m. InSection l m (suc pc) in
                subst Q same (w.section, w.in_table, record { behind = omega arith; within = omega (arith, w.before) }))
            | inr old ↦ (let q : InSection l s pc = h.inside s old in
                let k : Known l s q.0 = known l all s q.0 q.1 in
                let other : q.0.release ≡ pc → ⊥ = λ here. (let x = stands_same l pc q.0.release (instr.Acquire n) instr.Release (sym here) e k.leaves in cc) in
                (q.0, q.1, record { behind = omega (arith, q.2.behind); within = omega (arith, q.2.within, other) }))
          ];
      opened = λ s q.
          let k : Known l s q.0 = known l all s q.0 q.1 in
          let P : List ℕ → Type 0 = λ os. Contains os s in
          subst P (sym o) (elim (cases_lt q.0.acquire pc) [
            | inl below ↦ there s n (open_at l.code pc) (h.opened s (q.0, q.1, record { behind = below; within = omega (arith, q.2.within) }))
            | inr past ↦ (let here_now : pc ≡ q.0.acquire = omega (arith, q.2.behind) in
                let x = stands_same l pc q.0.acquire (instr.Acquire n) (instr.Acquire s) here_now e k.enters in
                let same : n ≡ s = cc in
                let Q : ℕ → Type 0 = λ m. Contains (m ∷ open_at l.code pc) s in
                subst Q (sym same) (here s (open_at l.code pc)))
          ]);
    }

closes_points : (l : Lowered) → AllThere l → (pc n : ℕ) → (w : IsSection l n) → w.section.release ≡ pc → Points l w.section.acquire → Points l pc → Points l (suc pc)
closes_points l all pc n w at h0 h =
    let e : slice_get l.code pc ≡ Some instr.Release = ap (slice_get l.code) (sym at) ∙ w.leaves in
    let around : open_at l.code pc ≡ n ∷ open_at l.code w.section.acquire = ap (open_at l.code) (sym at) ∙ w.around in
    let o : open_at l.code (suc pc) ≡ open_at l.code w.section.acquire = ap (λ v. open_behind v (open_at l.code pc)) e ∙ ap without_innermost around in
    record {
      inside = λ s c.
          let P : List ℕ → Type 0 = λ os. Contains os s in
          let old : Contains (open_at l.code w.section.acquire) s = subst P o c in
          let q : InSection l s pc = h.inside s (subst P (sym around) (there s n (open_at l.code w.section.acquire) old)) in
          let k : Known l s q.0 = known l all s q.0 q.1 in
          let other : q.0.release ≡ pc → ⊥ = λ here_now.
          (let same : n ≡ s = head_same n s _ _ (open_at l.code pc) around (ap (open_at l.code) (sym here_now) ∙ k.around) in
          let q0 : InSection l s w.section.acquire = h0.inside s old in
          let t : slice_get l.sections s ≡ Some w.section = ap (slice_get l.sections) (sym same) ∙ w.in_table in
          let u : q0.0 ≡ w.section = (let v : Some q0.0 ≡ Some w.section = sym q0.1 ∙ t in cc) in
          let v : q0.0.acquire ≡ w.section.acquire = ap (λ (d : Section). d.acquire) u in
          omega (arith, q0.2.behind, v)) in
          (q.0, q.1, record { behind = omega (arith, q.2.behind); within = omega (arith, q.2.within, other) });
      opened = λ s q.
          let k : Known l s q.0 = known l all s q.0 q.1 in
          let other : q.0.acquire ≡ pc → ⊥ = λ here_now. (let x = stands_same l pc q.0.acquire instr.Release (instr.Acquire s) (sym here_now) e k.enters in cc) in
          let P : List ℕ → Type 0 = λ os. Contains os s in
          let c : Contains (n ∷ open_at l.code w.section.acquire) s = subst P around (h.opened s (q.0, q.1, record { behind = omega (arith, q.2.behind, other); within = omega (arith, q.2.within) })) in
          subst P (sym o) (elim (member_cases s n (open_at l.code w.section.acquire) c) [
            | inl same ↦ (let t : slice_get l.sections s ≡ Some w.section = ap (slice_get l.sections) (sym same) ∙ w.in_table in
                let u : q.0 ≡ w.section = (let v : Some q.0 ≡ Some w.section = sym q.1 ∙ t in cc) in
                let v : q.0.release ≡ w.section.release = ap (λ (d : Section). d.release) u in
                absurd (omega (arith, q.2.within, v, at)))
            | inr old ↦ old
          ]);
    }

points_step : (l : Lowered) → AllThere l → (pc : ℕ) → Kind l pc → ((k : ℕ) → k ≤ pc → Points l k) → Points l (suc pc)
points_step l all pc (Keeps i e o a r) h = keeps_points l all pc i e o a r (h pc (omega arith))
points_step l all pc (Opens n w at) h = opens_points l all pc n w at (h pc (omega arith))
points_step l all pc (Closes n w at) h =
    closes_points l all pc n w at (h w.section.acquire (omega (arith, w.before))) (h pc (omega arith))

points_start : (l : Lowered) → Points l 0
points_start l =
    record { inside = λ s c. absurd (no_member s c); opened = λ s q. absurd (omega (arith, q.2.behind)) }

-- so they are at each pc, from the first on
points_to : (is : List Item) (l : Lowered) → IsLowering is l → (top : ℕ) → top ≤ length l.code → (pc : ℕ) → pc ≤ top → Points l pc
points_to is l h zero t pc low = let e : 0 ≡ pc = omega arith in
    let P : ℕ → Type 0 = λ n. Points l n in
    subst P e (points_start l)
points_to is l h (suc top) t pc low =
    elim (cases_lt top pc) [
      | inr below ↦ points_to is l h top (omega arith) pc below
      | inl above ↦ (let e : suc top ≡ pc = omega arith in
          let P : ℕ → Type 0 = λ n. Points l n in
          subst P e (points_step l (section_there is l h) top (kind_at is l h top (omega arith)) (points_to is l h top (omega arith))))
    ]

-- the sections that `open_at` has at a pc are those that are open there by the table
pub points : (is : List Item) (l : Lowered) → IsLowering is l → (pc : ℕ) → pc ≤ length l.code → Points l pc
points is l h pc low = points_to is l h (length l.code) (omega arith) pc low
