-- Where threads stand: the depth of a thread is the number of the sections that are open at its frames, line by line.
use Rattle.std.proofs.Common.{◌≡◌, ◌≢◌, ℕ, suc, ◌+◌, ◌-◌, ◌<◌, ◌||◌, true, false, List, [], ◌∷◌, Some, length, slice_get, refl, ap, ap₂, sym, ◌∙◌, subst, arith}
use Rattle.std.specs.Prelude.{IsTrue}
use Rattle.std.proofs.lemmas.Bool.{or_parts}
use Rattle.std.proofs.lemmas.List.{nil_from_length}
use Rattle.asl_code.specs.declared.image.Function as entry
use Rattle.asl_code.specs.declared.instr.Instr.{Instr}
use Rattle.asl_code.specs.declared.instr.Instr.TheVariants as instr
use Rattle.asl_lower.specs.Lowered.{Lowered}
use Rattle.asl_lower.specs.OpenSections.{open_at, open_behind, without_innermost, is_acquire, CalledOutside, CalledInside, CalledByInner, InBody, CallsAt, FlowsTo, start_of, IsBareAccess, is_access}
use Rattle.asl_lower.specs.Facts.{IsNested}
use Rattle.asl_machine.specs.State.{Frame, Activity}
use Rattle.asl_machine.specs.Step.{placed_at, going_on, returned}
use Rattle.asl_soundness.specs.Nested.{is_some_open, is_inside, opened, IsOfKind, AreOfKinds, IsNestedAt}

-- ---- none, some

pub not_open : (xs : List ℕ) → is_some_open xs ≡ false → xs ≡ []
not_open [] e = refl
not_open (x ∷ xs) e = cc

is_open : (xs : List ℕ) → is_some_open xs ≡ true → xs ≢ []
is_open [] e f = cc
is_open (x ∷ xs) e f = let g = ap is_some_open f in cc

some_left : (xs : List ℕ) → xs ≢ [] → length xs ≡ suc (length (without_innermost xs))
some_left [] ne = absurd (ne refl)
some_left (x ∷ xs) ne = refl

-- where no section is open at any frame, none of them is in one, and back
pub none_opened : (l : Lowered) (fs : List Frame) → opened l fs ≡ 0 → is_inside l fs ≡ false
none_opened l [] e = refl
none_opened l (f ∷ fs) e =
    let here : length (open_at l.code f.pc) ≡ 0 = omega (arith, e) in
    ap₂ (λ xs y. is_some_open xs || y) (nil_from_length (open_at l.code f.pc) here) (none_opened l fs (omega (arith, e)))

pub none_inside : (l : Lowered) (fs : List Frame) → is_inside l fs ≡ false → opened l fs ≡ 0
none_inside l [] e = refl
none_inside l (f ∷ fs) e =
    let parts = or_parts (is_some_open (open_at l.code f.pc)) (is_inside l fs) e in
    let rest = none_inside l fs parts.1 in
    let here = ap (length {A = ℕ}) (not_open (open_at l.code f.pc) parts.0) in
    omega (arith, rest, here)

-- a thread of some depth is in a section
pub some_inside : (l : Lowered) (a : Activity) → IsNestedAt l a → 0 < a.depth → is_inside l (a.top ∷ a.below) ≡ true
some_inside l a nested lt =
    let d = nested.depth in
    elim (is_inside l (a.top ∷ a.below)) as (λ b. is_inside l (a.top ∷ a.below) ≡ b → b ≡ true) [
      | true ↦ λ e. refl
      | false ↦ λ e. absurd (let z = none_inside l (a.top ∷ a.below) e in omega (arith, z, d, lt))
    ] refl

-- an instruction other than `acq` opens nothing where nothing is open
pub closed_behind : (i : Instr) → is_acquire i ≡ false → open_behind (Some i) [] ≡ []
closed_behind (instr.Acquire s) e = cc
closed_behind i e = refl

-- ---- one line

module _ (l : Lowered) (nests : IsNested l) (a : Activity) (nested : IsNestedAt l a) where
  -- the top frame continues at another place of its body, the depth with what is open there
  pub goes_on : (depth : ℕ) (top : Frame) → top.function ≡ a.top.function → depth + length (open_at l.code a.top.pc) ≡ a.depth + length (open_at l.code top.pc) → IsNestedAt l (going_on a depth top)
  goes_on depth top same e =
      let d = nested.depth in
      record { depth = omega (arith, d, e); kinds = (subst (IsOfKind l (is_inside l a.below)) (sym same) nested.kinds.0, nested.kinds.1) }

  -- neither `acq` nor `rel`
  pub plain : (i : Instr) (top : Frame) → top.function ≡ a.top.function → slice_get l.code a.top.pc ≡ Some i → FlowsTo i a.top.pc top.pc → ((xs : List ℕ) → open_behind (Some i) xs ≡ xs) → IsNestedAt l (going_on a a.depth top)
  plain i top same at goes keeps =
      goes_on a.depth top same (ap (λ xs. a.depth + length {A = ℕ} xs) (sym (nests.steps a.top.pc top.pc i at goes ∙ keeps (open_at l.code a.top.pc))))

  pub acquires : (n next : ℕ) → slice_get l.code a.top.pc ≡ Some (instr.Acquire n) → next ≡ suc a.top.pc → IsNestedAt l (going_on a (a.depth + 1) (placed_at next a.top))
  acquires n next at goes =
      let e = ap (length {A = ℕ}) (nests.steps a.top.pc next (instr.Acquire n) at goes) in
      goes_on (a.depth + 1) (placed_at next a.top) refl (omega (arith, e))

  -- a `rel` never finds the thread in no section
  pub never_no_section : slice_get l.code a.top.pc ≡ Some instr.Release → a.depth ≢ 0
  never_no_section at z =
      let k = some_left (open_at l.code a.top.pc) (nests.leaves a.top.pc at) in
      let d = nested.depth in
      omega (arith, k, d, z)

  pub releases : (next : ℕ) → slice_get l.code a.top.pc ≡ Some instr.Release → next ≡ suc a.top.pc → IsNestedAt l (going_on a (a.depth - 1) (placed_at next a.top))
  releases next at goes =
      let e = ap (length {A = ℕ}) (nests.steps a.top.pc next instr.Release at goes) in
      let k = some_left (open_at l.code a.top.pc) (nests.leaves a.top.pc at) in
      let d = nested.depth in
      goes_on (a.depth - 1) (placed_at next a.top) refl (omega (arith, e, k, d))

  -- a `ret` of the last frame never finds the thread in a section
  pub never_open : (from : ℕ) → slice_get l.code a.top.pc ≡ Some (instr.Return from) → a.below ≡ [] → a.depth ≡ 0
  never_open from at last =
      let e = ap (length {A = ℕ}) (nests.returns a.top.pc from at) in
      let b = ap (opened l) last in
      let d = nested.depth in
      omega (arith, e, b, d)

  pub returns : (from : ℕ) (top caller : Frame) (others : List Frame) → slice_get l.code a.top.pc ≡ Some (instr.Return from) → a.below ≡ caller ∷ others → top.pc ≡ caller.pc → top.function ≡ caller.function → IsNestedAt l (returned a top others)
  returns from top caller others at below pc function =
      let e = ap (length {A = ℕ}) (nests.returns a.top.pc from at) in
      let b = ap (opened l) below in
      let p = ap (λ n. length (open_at l.code n)) pc in
      let d = nested.depth in
      let kinds : AreOfKinds l (caller ∷ others) = subst (AreOfKinds l) below nested.kinds.1 in
      record { depth = omega (arith, e, b, d, p); kinds = (subst (IsOfKind l (is_inside l others)) (sym function) kinds.0, kinds.1) }

  -- the callee is of its kind
  callee_kind : (g : ℕ) → InBody l a.top.function a.top.pc → CallsAt l a.top.pc g → IsOfKind l (is_inside l (a.top ∷ a.below)) g
  callee_kind g body calls =
      elim (is_some_open (open_at l.code a.top.pc)) as (λ x. is_some_open (open_at l.code a.top.pc) ≡ x → IsOfKind l (x || is_inside l a.below) g) [
        | true ↦ λ o. CalledInside a.top.pc g calls (is_open _ o)
        | false ↦ λ o. elim (is_inside l a.below) as (λ b. IsOfKind l b a.top.function → IsOfKind l b g) [
          | true ↦ λ k. CalledByInner a.top.function a.top.pc g k body calls
          | false ↦ λ k. CalledOutside a.top.function a.top.pc g k body calls (not_open _ o)
        ] nested.kinds.0
      ] refl

  pub calls : (to first g next : ℕ) (callee : entry.Function) (new : Frame) → slice_get l.code a.top.pc ≡ Some (instr.Call to first g) → next ≡ suc a.top.pc → InBody l a.top.function a.top.pc → slice_get l.functions g ≡ Some callee →
      new.function ≡ g → new.pc ≡ start_of l.functions g → IsNestedAt l (record { depth = a.depth; top = new; below = placed_at next a.top ∷ a.below; fresh = a.fresh })
  calls to first g next callee new at goes body there is begins =
      let same : open_at l.code next ≡ open_at l.code a.top.pc = nests.steps a.top.pc next (instr.Call to first g) at goes in
      let e = ap (length {A = ℕ}) (ap (open_at l.code) begins ∙ nests.starts g callee there) in
      let s = ap (length {A = ℕ}) same in
      let d = nested.depth in
      record {
        depth = omega (arith, e, s, d);
        kinds = (
          subst (λ f. IsOfKind l (is_some_open (open_at l.code next) || is_inside l a.below) f) (sym is)
              (subst (λ xs. IsOfKind l (is_some_open xs || is_inside l a.below) g) (sym same) (callee_kind g body (to, first, at))),
          (nested.kinds.0, nested.kinds.1),
        );
      }

  -- an access is never outside all sections: in a bare function some section is open where it stands
  pub access_inside : ((g q : ℕ) → ¬ IsBareAccess l g q) → (i : Instr) → InBody l a.top.function a.top.pc → slice_get l.code a.top.pc ≡ Some i → IsTrue (is_access i) → 0 < a.depth
  access_inside none i body at access =
      let d = nested.depth in
      elim (is_inside l a.below) as (λ b. is_inside l a.below ≡ b → IsOfKind l b a.top.function → 0 < a.depth) [
        | true ↦ λ is k.
            let some : opened l a.below ≢ 0 = λ z. (let f = none_opened l a.below z in cc) in omega (arith, d, some)
        | false ↦ λ is bare.
            let here : open_at l.code a.top.pc ≢ [] = λ e. none a.top.function a.top.pc (record { bare = bare; inside = body; instruction = i; stands = at; access = access; outside = e }) in
            let k = some_left (open_at l.code a.top.pc) here in
            omega (arith, d, k)
      ] refl nested.kinds.0
