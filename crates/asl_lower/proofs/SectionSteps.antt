-- Each section of the table has its `acq` and its `rel` in the code, and each instruction opens a section, closes one, or keeps
-- what is open.
use Rattle.std.proofs.Common.{◌≡◌, ℕ, zero, suc, ◌<◌, ◌≤◌, ◌⊎◌, inl, inr, true, false, ◌||◌, ◌==◌, IsTrue, List, [], ◌∷◌, length, Some, slice_get, refl, sym, ap, ◌∙◌, subst, arith}
use Rattle.std.specs.List.{Contains}
use Rattle.std.proofs.lemmas.Bool.{cases_lt, false≢true, or_left, or_right, eq-eqb, eqb-true}
use Rattle.asl_code.specs.declared.instr.Instr.{Instr}
use Rattle.asl_code.specs.declared.instr.Instr.TheVariants as instr
use Rattle.asl_syntax.specs.Tree.{Function, Item, functions_of}
use Rattle.asl_lower.specs.Names.{scope_of, register}
use Rattle.asl_lower.specs.Place.{Place, origin, past_function}
use Rattle.asl_lower.specs.Lowered.{Lowered, IsLowering, end_of}
use Rattle.asl_lower.specs.OpenSections.{open_at, open_behind, is_among, InBody, IsSection}
use Rattle.asl_lower.proofs.Grows.{Precedes, joined}
use Rattle.asl_lower.proofs.Stands.{is_plain, Sectioned, Stands, Plainly, Makes, Invokes, Jumps, Tests, Enters, Leaves}
use Rattle.asl_lower.proofs.Sections.{block_sectioned}
use Rattle.asl_lower.proofs.Bodies.{Placed, Begins, begins, next_begins, in_body, pc_inhabited}
use Rattle.asl_lower.proofs.Points.{plain_keeps, last_of, body_stands}
use Rattle.asl_lower.specs.Lowered.{AreLoweredFunctions}
use Rattle.asl_lower.specs.Place.{past_functions}
use Rattle.asl_lower.proofs.Grows.{itself, by_function, by_functions}

-- members of a list with one more in front
pub here : (x : ℕ) (xs : List ℕ) → Contains (x ∷ xs) x
here x xs = (0, omega arith, refl)

pub there : (x y : ℕ) (xs : List ℕ) → Contains xs x → Contains (y ∷ xs) x
there x y xs c = (suc c.0, omega (arith, c.1), c.2)

pub member_cases : (x y : ℕ) (xs : List ℕ) → Contains (y ∷ xs) x → (y ≡ x) ⊎ Contains xs x
member_cases x y xs (zero, low, e) = inl e
member_cases x y xs (suc k, low, e) = inr (k, omega arith, e)

pub no_member : (x : ℕ) → Contains [] x → ⊥
no_member x c = omega (arith, c.1)

-- the test says whether a number is a member
pub among : (xs : List ℕ) (n : ℕ) → Contains xs n → IsTrue (is_among xs n)
among [] n c = absurd (no_member n c)
among (x ∷ xs) n c =
    elim (member_cases n x xs c) [ inl e ↦ or_left (x == n) (is_among xs n) (eq-eqb x n e) | inr old ↦ or_right (x == n) (is_among xs n) (among xs n old) ]

pub contained : (xs : List ℕ) (n : ℕ) → IsTrue (is_among xs n) → Contains xs n
contained [] n e = cc
contained (x ∷ xs) n e =
    elim (x == n) as (λ b. (x == n) ≡ b → IsTrue (b || is_among xs n) → Contains (x ∷ xs) n) [
      | true ↦ λ is t. (let same = eqb-true x n is in let P : ℕ → Type 0 = λ m. Contains (x ∷ xs) m in subst P same (here x xs))
      | false ↦ λ is t. there n x xs (contained xs n t)
    ] refl e

-- the section of a statement of a function, as one of the program
abbrev pub section_of_body : (is : List Item) (l : Lowered) (n s : ℕ) → (w : Placed is l origin (end_of is) n) → Sectioned (scope_of is n w.function) l w.place (last_of w.function w.place) s → IsSection l s
section_of_body is l n s w c =
    let In : ℕ → Type 0 = λ f. InBody l f c.section.acquire in
    let Out : ℕ → Type 0 = λ f. InBody l f c.section.release in
    record {
      section = c.section;
      in_table = c.in_table;
      enters = c.enters;
      leaves = c.leaves;
      before = c.before;
      first_inside = subst In (sym c.function) (in_body is l n c.section.acquire (record { placed = w; low = c.above; high = omega (arith, c.before, c.below) }));
      last_inside = subst Out (sym c.function) (in_body is l n c.section.release (record { placed = w; low = omega (arith, c.above, c.before); high = omega (arith, c.below) }));
      around = c.around;
    }

-- the section of a number among functions
pub record Owned (is : List Item) (l : Lowered) (s : ℕ) : Type 0 where
  pub number : ℕ
  pub placed : Placed is l origin (end_of is) number
  pub sectioned : Sectioned (scope_of is number placed.function) l placed.place (last_of placed.function placed.place) s

owned_from : (is : List Item) (l : Lowered) (n : ℕ) (fs : List Function) (p : Place) → Precedes origin p → Precedes (past_functions fs p) (end_of is) → AreLoweredFunctions is l n fs p → Begins l n p → (s : ℕ) → p.section ≤ s → s < (past_functions fs p).section → Owned is l s
owned_from is l n [] p a z h b s low high = absurd (omega arith)
owned_from is l n (f ∷ fs) p a z h b s low high =
    elim (cases_lt s (past_function f p).section) [
      | inl inside ↦ record {
        number = n;
        placed = record { function = f; place = p; lowered = h.0; start = b.start; before = a; after = joined (by_functions fs (past_function f p)) z; none_open = b.none_open; counted = b.counted };
        sectioned = block_sectioned (scope_of is n f) l f.body p h.0.body b.counted s low inside;
      }
      | inr past ↦ owned_from is l (suc n) fs (past_function f p) (joined a (by_function f p)) z h.1 (next_begins is l n f p h.0 b) s past high
    ]

pub section_owned : (is : List Item) (l : Lowered) → IsLowering is l → (s : ℕ) → s < length l.sections → Owned is l s
section_owned is l h s low =
    owned_from is l 0 (functions_of is) origin (itself origin) (itself (end_of is)) h.bodies (begins l) s (omega arith) (omega (arith, h.sections))

-- each section of the table is there
pub section_there : (is : List Item) (l : Lowered) → IsLowering is l → (s : ℕ) → s < length l.sections → IsSection l s
section_there is l h s low =
    let o = section_owned is l h s low in
    section_of_body is l o.number s o.placed o.sectioned

-- what an instruction does to what is open
pub data Kind (l : Lowered) (pc : ℕ) : Type 0 where
  Keeps : (i : Instr) → slice_get l.code pc ≡ Some i → open_at l.code (suc pc) ≡ open_at l.code pc → ((s : ℕ) → i ≡ instr.Acquire s → ⊥) → (i ≡ instr.Release → ⊥) → Kind l pc
  Opens : (s : ℕ) → (w : IsSection l s) → w.section.acquire ≡ pc → Kind l pc
  Closes : (s : ℕ) → (w : IsSection l s) → w.section.release ≡ pc → Kind l pc

plain_no_acquire : (i : Instr) (s : ℕ) → IsTrue (is_plain i) → i ≡ instr.Acquire s → ⊥
plain_no_acquire i s t e = let P : Instr → Type 0 = λ j. IsTrue (is_plain j) in false≢true (subst P e t)

plain_no_release : (i : Instr) → IsTrue (is_plain i) → i ≡ instr.Release → ⊥
plain_no_release i t e = let P : Instr → Type 0 = λ j. IsTrue (is_plain j) in false≢true (subst P e t)

-- an instruction that opens nothing and closes nothing
kept : (l : Lowered) (pc : ℕ) (i : Instr) → slice_get l.code pc ≡ Some i → ((os : List ℕ) → open_behind (Some i) os ≡ os) → ((s : ℕ) → i ≡ instr.Acquire s → ⊥) → (i ≡ instr.Release → ⊥) → Kind l pc
kept l pc i e k a r = Keeps i e (ap (λ v. open_behind v (open_at l.code pc)) e ∙ k (open_at l.code pc)) a r

kind_of : (is : List Item) (l : Lowered) (n pc : ℕ) → (w : Placed is l origin (end_of is) n) → Stands (scope_of is n w.function) l w.place (last_of w.function w.place) pc → Kind l pc
kind_of is l n pc w (Plainly i e t) =
    kept l pc i e (λ os. plain_keeps i os t) (λ s. plain_no_acquire i s t) (plain_no_release i t)
kind_of is l n pc w (Makes r c m e f g k) = kept l pc _ e (λ os. refl) (λ s q. cc) (λ q. cc)
kind_of is l n pc w (Invokes r a m e) = kept l pc _ e (λ os. refl) (λ s q. cc) (λ q. cc)
kind_of is l n pc w (Jumps m e f g o) = kept l pc _ e (λ os. refl) (λ s q. cc) (λ q. cc)
kind_of is l n pc w (Tests r m e f g o) = kept l pc _ e (λ os. refl) (λ s q. cc) (λ q. cc)
kind_of is l n pc w (Enters s c e) = Opens s (section_of_body is l n s w c) e
kind_of is l n pc w (Leaves s c e) = Closes s (section_of_body is l n s w c) e

-- so of each instruction of the code it is known what it does
pub kind_at : (is : List Item) (l : Lowered) → IsLowering is l → (pc : ℕ) → pc < length l.code → Kind l pc
kind_at is l h pc low =
    let b = pc_inhabited is l h pc low in
    let w = b.placed in
    elim (body_stands is l b.number pc (record { placed = w; low = b.low; high = b.high })) [
      | inl s ↦ kind_of is l b.number pc w s
      | inr at ↦ (let r : slice_get l.code pc ≡ Some (instr.Return (register (scope_of is b.number w.function) w.function.returned)) = ap (slice_get l.code) at ∙ w.lowered.returns in
          kept l pc _ r (λ os. refl) (λ s q. cc) (λ q. cc))
    ]
