-- The facts of bodies hold of each lowering: they part the code, sections nest in them, and each ends with its only `ret`.
use Rattle.std.proofs.Common.{◌≡◌, ℕ, suc, ◌+◌, ◌-◌, ◌<◌, ◌≤◌, inl, inr, IsTrue, List, [], ◌∷◌, length, take, Some, slice_get, sym, ap, ◌∙◌, subst, arith}
use Rattle.std.specs.List.{sum_by}
use Rattle.std.proofs.lemmas.Bool.{cases_order, false≢true}
use Rattle.std.proofs.lemmas.Option.{slice_get_within}
use Rattle.asl_code.specs.declared.image.Function as entry
use Rattle.asl_code.specs.declared.instr.Instr.{Instr}
use Rattle.asl_code.specs.declared.instr.Instr.TheVariants as instr
use Rattle.asl_syntax.specs.Tree.{Function, Item, functions_of}
use Rattle.asl_lower.specs.Names.{Scope, scope_of, register}
use Rattle.std.proofs.lemmas.List.{take-take, take_all}
use Rattle.std.proofs.lemmas.List.Sums.{sum_by-take-le}
use Rattle.asl_lower.specs.Place.{Place, origin, past_function, past_functions}
use Rattle.asl_lower.specs.Lowered.{Lowered, IsLowering, AreLoweredFunctions, end_of, entry_of}
use Rattle.asl_lower.specs.OpenSections.{open_at, open_behind, start_of, returned, returned_by, InBody, FlowsTo}
use Rattle.asl_lower.specs.Facts.{IsParted, IsNested, ReturnsLast}
use Rattle.asl_lower.proofs.Grows.{Precedes, by_function}
use Rattle.asl_lower.proofs.Counts.{sum_more}
use Rattle.asl_lower.proofs.Balance.{block_balance}
use Rattle.asl_lower.proofs.Stands.{is_plain, Stands, Plainly, Makes, Invokes, Jumps, Tests, Enters, Leaves}
use Rattle.asl_lower.proofs.Bodies.{Placed, Body, Begins, begins, next_begins, body_of, in_body, number_placed, pc_inhabited}
use Rattle.asl_lower.proofs.Points.{last_of, body_stands, body_moves}
use Rattle.asl_lower.proofs.SectionSteps.{Kind, Keeps, Opens, Closes, kind_at, among, contained}
use Rattle.asl_lower.proofs.Opened.{points}
use Rattle.asl_lower.proofs.Owner.{owner_is}

-- the body of a pc of the code
pub body_at : (is : List Item) (l : Lowered) → IsLowering is l → (pc : ℕ) → pc < length l.code → (number : ℕ) × Body is l number pc
body_at is l h pc low =
    let b = pc_inhabited is l h pc low in
    (b.number, record { placed = b.placed; low = b.low; high = b.high })

-- the `ret` of a function
return_at : (is : List Item) (l : Lowered) (n : ℕ) → (w : Placed is l origin (end_of is) n) → slice_get l.code (last_of w.function w.place).pc ≡ Some (instr.Return (register (scope_of is n w.function) w.function.returned))
return_at is l n w = w.lowered.returns

body_in_code : (is : List Item) (l : Lowered) → IsLowering is l → (n pc : ℕ) → Body is l n pc → pc < length l.code
body_in_code is l h n pc b = omega (arith, b.high, b.placed.after.pc, h.code)

-- the steps inside a body
nested_steps : (is : List Item) (l : Lowered) → IsLowering is l → (pc to : ℕ) (i : Instr) → slice_get l.code pc ≡ Some i → FlowsTo i pc to → open_at l.code to ≡ open_behind (Some i) (open_at l.code pc)
nested_steps is l h pc to i e g =
    let b = body_at is l h pc (slice_get_within l.code pc i e) in
    (body_moves is l b.0 pc to i b.1 e g).opened

-- a `ret` stands where the statements of its body end
return_place : (is : List Item) (l : Lowered) (n pc from : ℕ) → (b : Body is l n pc) → slice_get l.code pc ≡ Some (instr.Return from) → pc ≡ (last_of b.placed.function b.placed.place).pc
return_place is l n pc from b e =
    elim (body_stands is l n pc b) [
      | inr at ↦ at
      | inl s ↦ absurd (no_return _ l _ _ pc from e s)
    ]
  where
    no_return : (sc : Scope) (l : Lowered) (lo hi : Place) (pc from : ℕ) → slice_get l.code pc ≡ Some (instr.Return from) → Stands sc l lo hi pc → ⊥
    no_return sc l lo hi pc from e (Plainly i f t) = (let same : i ≡ instr.Return from = cc in
        let P : Instr → Type 0 = λ j. IsTrue (is_plain j) in false≢true (subst P same t))
    no_return sc l lo hi pc from e (Makes r c n f g k x) = cc
    no_return sc l lo hi pc from e (Invokes r a n f) = cc
    no_return sc l lo hi pc from e (Jumps n f g k o) = cc
    no_return sc l lo hi pc from e (Tests r n f g k o) = cc
    no_return sc l lo hi pc from e (Enters n w at) =
        (let f : slice_get l.code pc ≡ Some (instr.Acquire n) = ap (slice_get l.code) (sym at) ∙ w.enters in cc)
    no_return sc l lo hi pc from e (Leaves n w at) =
        (let f : slice_get l.code pc ≡ Some instr.Release = ap (slice_get l.code) (sym at) ∙ w.leaves in cc)

-- nothing is open where the statements of a body end
end_opened : (is : List Item) (l : Lowered) (n : ℕ) → (w : Placed is l origin (end_of is) n) → open_at l.code (last_of w.function w.place).pc ≡ []
end_opened is l n w =
    block_balance (scope_of is n w.function) l w.function.body w.place w.lowered.body ∙ w.none_open

empty_points : (l : Lowered) (pc : ℕ) (n : ℕ) (xs : List ℕ) → open_at l.code pc ≡ n ∷ xs → open_at l.code pc ≡ [] → ⊥
empty_points l pc n xs e f = cc

pub lowering_nested : (is : List Item) (l : Lowered) → IsLowering is l → IsNested l
lowering_nested is l h =
    record {
      steps = nested_steps is l h;
      leaves = λ pc e none. leaves_nothing pc e none (kind_at is l h pc (slice_get_within l.code pc instr.Release e));
      starts = λ number f e.
          let w = number_placed is l h number (slice_get_within l.functions number f e) in
          ap (open_at l.code) w.start ∙ w.none_open;
      returns = λ pc from e.
          let b = body_at is l h pc (slice_get_within l.code pc (instr.Return from) e) in
          ap (open_at l.code) (return_place is l b.0 pc from b.1 e) ∙ end_opened is l b.0 b.1.placed;
      opened = λ pc number low.
          let p = points is l h pc (omega arith) in
          (λ e. p.inside number (contained (open_at l.code pc) number e), λ q. among (open_at l.code pc) number (p.opened number q));
    }
  where
    leaves_nothing : (pc : ℕ) → slice_get l.code pc ≡ Some instr.Release → open_at l.code pc ≡ [] → Kind l pc → ⊥
    leaves_nothing pc e none (Keeps i f o a r) = r (let q : Some i ≡ Some instr.Release = sym f ∙ e in cc)
    leaves_nothing pc e none (Opens n w at) = (let f : slice_get l.code pc ≡ Some (instr.Acquire n) = ap (slice_get l.code) (sym at) ∙ w.enters in cc)
    leaves_nothing pc e none (Closes n w at) = empty_points l pc n _ (ap (open_at l.code) (sym at) ∙ w.around) none

-- where the last function ends
ended : (is : List Item) (l : Lowered) (n : ℕ) (fs : List Function) (p : Place) → AreLoweredFunctions is l n fs p → Begins l n p → Begins l (n + length fs) (past_functions fs p)
ended is l n [] p h b =
    let e : n ≡ n + 0 = omega arith in
    let P : ℕ → Type 0 = λ m. Begins l m p in
    subst P e b
ended is l n (f ∷ fs) p h b =
    let e : suc n + length fs ≡ n + suc (length fs) = omega arith in
    let P : ℕ → Type 0 = λ m. Begins l m (past_functions fs (past_function f p)) in
    subst P e (ended is l (suc n) fs (past_function f p) h.1 (next_begins is l n f p h.0 b))

pub all_ended : (is : List Item) (l : Lowered) → IsLowering is l → Begins l (length l.functions) (end_of is)
all_ended is l h =
    let P : ℕ → Type 0 = λ m. Begins l m (end_of is) in
    let e : 0 + length (functions_of is) ≡ length l.functions = omega (arith, h.functions) in
    subst P e (ended is l 0 (functions_of is) origin h.bodies (begins l))

-- the bodies before a number have no more instructions than those before a greater one
starts_rise : (l : Lowered) (a b : ℕ) → a ≤ b → start_of l.functions a ≤ start_of l.functions b
starts_rise l a b low =
    let len : entry.Function → ℕ = λ f. f.len in
    let e : take a (take b l.functions) ≡ take a l.functions = take-take a b l.functions low in
    let f : sum_by len (take a (take b l.functions)) ≤ sum_by len (take b l.functions) = sum_by-take-le len (take b l.functions) a in
    omega (arith, f, ap (sum_by len) e)

-- the body of a lower number ends where that of a greater one begins, or before
apart : (l : Lowered) (a b pc : ℕ) → a < b → InBody l a pc → InBody l b pc → ⊥
apart l a b pc low x y =
    let len : entry.Function → ℕ = λ f. f.len in
    let e : start_of l.functions (suc a) ≡ start_of l.functions a + x.function.len = sum_more len l.functions a x.function x.in_table in
    let f : start_of l.functions (suc a) ≤ start_of l.functions b = starts_rise l (suc a) b low in
    omega (arith, x.before_end, y.start)

pub lowering_parted : (is : List Item) (l : Lowered) → IsLowering is l → IsParted l
lowering_parted is l h =
    record {
      total = ap (sum_by (λ (f : entry.Function). f.len)) (sym (take_all (length l.functions) l.functions (omega arith))) ∙ (all_ended is l h).start ∙ sym h.code;
      owned = λ pc low.
          let b = body_at is l h pc low in
          let x : InBody l b.0 pc = in_body is l b.0 pc b.1 in
          let P : ℕ → Type 0 = λ n. InBody l n pc in
          subst P (sym (owner_is l.functions b.0 pc x.function x.in_table x.start x.before_end)) x;
      one_body = λ pc a b x y. elim (cases_order a b) [
        | inl same ↦ same
        | inr other ↦ elim other [ inl less ↦ absurd (apart l a b pc less x y) | inr more ↦ absurd (apart l b a pc more y x) ]
      ];
      in_code = λ pc number x. body_in_code is l h number pc (body_of is l h number pc x);
    }

-- the place and the length of a function of the table
entry_is : (is : List Item) (l : Lowered) → IsLowering is l → (n : ℕ) (f : entry.Function) → slice_get l.functions n ≡ Some f → (w : Placed is l origin (end_of is) n) × (start_of l.functions n + f.len ≡ (past_function w.function w.place).pc)
entry_is is l h n f e =
    let w = number_placed is l h n (slice_get_within l.functions n f e) in
    let g : Precedes w.place (past_function w.function w.place) = by_function w.function w.place in
    let q : Some f ≡ Some (entry_of w.function w.place) = sym e ∙ w.lowered.in_table in
    let same : f ≡ entry_of w.function w.place = cc in
    let n : f.len ≡ (past_function w.function w.place).pc - w.place.pc = ap (λ (x : entry.Function). x.len) same in
    (w, omega (arith, w.start, n, g.pc))

pub lowering_returns : (is : List Item) (l : Lowered) → IsLowering is l → ReturnsLast l
lowering_returns is l h =
    record {
      there = λ number last f e end.
          let w = entry_is is l h number f e in
          let at : last ≡ (last_of w.0.function w.0.place).pc = omega (arith, w.1, end) in
          let here : slice_get l.code last ≡ Some (instr.Return (register (scope_of is number w.0.function) w.0.function.returned)) = ap (slice_get l.code) at ∙ w.0.lowered.returns in
          let next : start_of l.functions (suc number) ≡ start_of l.functions number + f.len = sum_more (λ (x : entry.Function). x.len) l.functions number f e in
          let back : start_of l.functions (suc number) - 1 ≡ last = omega (arith, next, end) in
          let told : returned l number ≡ register (scope_of is number w.0.function) w.0.function.returned = ap (λ n. returned_by (slice_get l.code n)) back ∙ ap returned_by here in
          here ∙ ap (λ r. Some (instr.Return r)) (sym told);
      only_there = λ pc number from f e x r.
          let b = body_of is l h number pc x in
          let w = entry_is is l h number f e in
          let at : pc ≡ (last_of b.placed.function b.placed.place).pc = return_place is l number pc from b r in
          let q : Some x.function ≡ Some f = sym x.in_table ∙ e in
          let same : x.function ≡ f = cc in
          let v : Some x.function ≡ Some (entry_of b.placed.function b.placed.place) = sym x.in_table ∙ b.placed.lowered.in_table in
          let u : x.function ≡ entry_of b.placed.function b.placed.place = cc in
          let n : f.len ≡ (past_function b.placed.function b.placed.place).pc - b.placed.place.pc = ap (λ (y : entry.Function). y.len) (sym same ∙ u) in
          let g : Precedes b.placed.place (past_function b.placed.function b.placed.place) = by_function b.placed.function b.placed.place in
          omega (arith, at, n, g.pc, b.placed.start);
    }
