-- What calls lead to: the callees of a body, and the kinds of functions.
use Rattle.std.proofs.Common.{◌≡◌, ◌≢◌, ℕ, suc, ◌+◌, ◌<◌, ◌≤◌, ◌⊎◌, inl, inr, Bool, true, false, List, [], ◌∷◌, length, replicate, get_or, Some, slice_get, slice_set, refl, sym, ap, ◌∙◌, subst, arith}
use Rattle.std.proofs.lemmas.Bool.{cases_lt}
use Rattle.std.proofs.lemmas.Option.{slice_get_within, slice_get-get_or}
use Rattle.std.proofs.lemmas.List.{nil_from_length}
use Rattle.std.proofs.lemmas.List.Sums.{sum_by-take-le}
use Rattle.asl_code.specs.declared.image.Function as entry
use Rattle.asl_code.specs.declared.instr.Instr.{Instr}
use Rattle.asl_code.specs.declared.instr.Instr.TheVariants as instr
use Rattle.asl_lower.specs.Lowered.{Lowered}
use Rattle.asl_lower.specs.OpenSections.{open_at, start_of, owner_of, InBody, CallsAt, IsBare, Main, CalledOutside, IsInner, CalledInside, CalledByInner}
use Rattle.asl_lower.specs.Operands.{HasOperands}
use Rattle.asl_lower.specs.Facts.{HasLayout}
use Rattle.asl_lower.proofs.Counts.{sum_more}
use Rattle.asl_lower.proofs.Marks.{set_kept, set_here, set_cases, none_marked}
use Rattle.asl_lower.proofs.Depths.{IsDepth}
use Rattle.asl_lower.specs.Reach.{Where, Outside, Inside, Anywhere, AreAtDepth, IsSuchCall, IsCalled, IsMarked, KeepsMarks, IsFollowed, AreFollowed, Reached, First, Follow}

-- a callee is in the table
pub callee_there : (l : Lowered) → HasLayout l → (pc callee : ℕ) → CallsAt l pc callee → callee < length l.functions
callee_there l lay pc callee k =
    let b = lay.parted.owned pc (slice_get_within l.code pc (instr.Call k.0 k.1 callee) k.2) in
    let o : HasOperands l b.function.regs (instr.Call k.0 k.1 callee) = lay.operands pc (owner_of l.functions pc) b.function (instr.Call k.0 k.1 callee) b b.in_table k.2 in
    slice_get_within l.functions callee o.1.0.function o.1.0.in_table

-- one instruction more
pub called_more : (l : Lowered) (c : Where) (from pc callee : ℕ) → IsCalled l c from (pc + 1) callee → IsCalled l c from pc callee ⊎ IsSuchCall l c pc callee
called_more l c from pc callee k =
    elim (cases_lt k.pc pc) [
      | inl before ↦ inl (record { pc = k.pc; low = k.low; high = before; call = k.call })
      | inr past ↦ (let here : k.pc ≡ pc = omega (arith, k.high) in
          let P : ℕ → Type 0 = λ n. IsSuchCall l c n callee in
          inr (subst P here k.call))
    ]

pub called_on : (l : Lowered) (c : Where) (from pc end callee : ℕ) → pc ≤ end → IsCalled l c from pc callee → IsCalled l c from end callee
called_on l c from pc end callee low k =
    record { pc = k.pc; low = k.low; high = omega (arith, k.high); call = k.call }

-- what was called by the instructions from a pc up to another has a mark, and nothing else has a new one
pub record AreCallees (l : Lowered) (c : Where) (from pc : ℕ) (old now : List Bool) : Type 0 where
  pub kept : KeepsMarks old now
  pub called : (callee : ℕ) → IsCalled l c from pc callee → IsMarked now callee
  pub only : (callee : ℕ) → IsMarked now callee → IsMarked old callee ⊎ IsCalled l c from pc callee

pub callees_begin : (l : Lowered) (c : Where) (from : ℕ) (marks : List Bool) → AreCallees l c from from marks marks
callees_begin l c from marks =
    record { kept = λ f h. h; called = λ callee k. absurd (omega (arith, k.low, k.high)); only = λ callee h. inl h }

pub callees_more : (l : Lowered) (c : Where) (from pc callee : ℕ) (old now new : List Bool) → from ≤ pc → IsSuchCall l c pc callee → callee < length now → new ≡ slice_set now callee true → AreCallees l c from pc old now → AreCallees l c from (pc + 1) old new
callees_more l c from pc callee old now new low call there e a =
    let P : List Bool → Type 0 = λ marks. AreCallees l c from (pc + 1) old marks in
    subst P (sym e) (record {
      kept = λ f h. set_kept now callee f (a.kept f h);
      called = λ g k. elim (called_more l c from pc g k) [
        | inl before ↦ set_kept now callee g (a.called g before)
        | inr here ↦ (let same : callee ≡ g = one_callee l c pc callee g call here in
            let Q : ℕ → Type 0 = λ n. IsMarked (slice_set now callee true) n in
            subst Q same (set_here now callee there))
      ];
      only = λ g h. elim (set_cases now callee g h) [
        | inl same ↦ (let Q : ℕ → Type 0 = λ n. IsSuchCall l c pc n in
            inr (record { pc = pc; low = low; high = omega arith; call = subst Q (sym same) call }))
        | inr old ↦ elim (a.only g old) [ inl first ↦ inl first | inr k ↦ inr (called_on l c from pc (pc + 1) g (omega arith) k) ]
      ];
    })
  where
    one_callee : (l : Lowered) (c : Where) (pc a b : ℕ) → IsSuchCall l c pc a → IsSuchCall l c pc b → a ≡ b
    one_callee l c pc a b x y =
        let q : Some (instr.Call x.stands.0 x.stands.1 a) ≡ Some (instr.Call y.stands.0 y.stands.1 b) = sym x.stands.2 ∙ y.stands.2 in
        cc

pub callees_same : (l : Lowered) (c : Where) (from pc : ℕ) (old now : List Bool) → ((callee : ℕ) → IsSuchCall l c pc callee → ⊥) → AreCallees l c from pc old now → AreCallees l c from (pc + 1) old now
callees_same l c from pc old now none a =
    record {
      kept = a.kept;
      called = λ g k. elim (called_more l c from pc g k) [ inl before ↦ a.called g before | inr here ↦ absurd (none g here) ];
      only = λ g h. elim (a.only g h) [ inl first ↦ inl first | inr k ↦ inr (called_on l c from pc (pc + 1) g (omega arith) k) ];
    }

pub callees_end : (l : Lowered) (c : Where) (from pc end : ℕ) (old now : List Bool) → pc ≤ end → end ≤ pc → AreCallees l c from pc old now → AreCallees l c from end old now
callees_end l c from pc end old now low high a =
    let P : ℕ → Type 0 = λ n. AreCallees l c from n old now in
    let e : pc ≡ end = omega arith in
    subst P e a

-- the instruction is such a call, or none
pub such_call : (l : Lowered) (c : Where) (pc depth to first callee : ℕ) (i : Instr) → slice_get l.code pc ≡ Some i → IsDepth l.code pc depth → AreAtDepth c depth → i ≡ instr.Call to first callee → IsSuchCall l c pc callee
such_call l c pc depth to first callee i stands d at e =
    let P : ℕ → Type 0 = λ n. AreAtDepth c n in
    record { stands = (to, first, stands ∙ ap Some e); depth = subst P d.count at }

pub no_such_call : (l : Lowered) (c : Where) (pc depth : ℕ) (i : Instr) → slice_get l.code pc ≡ Some i → IsDepth l.code pc depth → ((to first callee : ℕ) → AreAtDepth c depth → ¬ (i ≡ instr.Call to first callee)) → (callee : ℕ) → IsSuchCall l c pc callee → ⊥
no_such_call l c pc depth i stands d none callee k =
    let P : ℕ → Type 0 = λ n. AreAtDepth c n in
    let e : i ≡ instr.Call k.stands.0 k.stands.1 callee = (let q : Some i ≡ Some (instr.Call k.stands.0 k.stands.1 callee) = sym stands ∙ k.stands.2 in cc) in
    none k.stands.0 k.stands.1 callee (subst P (sym d.count) k.depth) e

-- what is read at a place of a list stands there
pub read_at : {A : Type 0} (xs : List A) (n : ℕ) (x : A) → n < length xs → x ≡ get_or xs n x → slice_get xs n ≡ Some x
read_at xs n x low e = slice_get-get_or xs n x low ∙ ap Some (sym e)

-- a body ends within the code
pub body_within : (l : Lowered) → HasLayout l → (number : ℕ) (f : entry.Function) → slice_get l.functions number ≡ Some f → start_of l.functions number + f.len ≤ length l.code
body_within l lay number f e =
    let len : entry.Function → ℕ = λ g. g.len in
    omega (arith, sum_more len l.functions number f e, sum_by-take-le len l.functions (suc number), lay.parted.total)

-- the functions that were followed, and what they call
pub record AreDone (l : Lowered) (c : Where) (old now followed : List Bool) : Type 0 where
  pub kept : KeepsMarks old now
  pub done : (function : ℕ) → IsMarked followed function → IsFollowed l c now function
  pub only : (function : ℕ) → IsMarked now function → Reached l c old function

pub done_begin : (l : Lowered) (c : Where) (n : ℕ) (marks : List Bool) → AreDone l c marks marks (replicate n false)
done_begin l c n marks =
    record { kept = λ f h. h; done = λ f h. absurd (none_marked n f h); only = First }

-- one function more
pub done_more : (l : Lowered) (c : Where) (f : ℕ) (body : entry.Function) (start end : ℕ) (old now new followed next : List Bool) → slice_get l.functions f ≡ Some body → start ≡ start_of l.functions f → end ≡ start + body.len → IsMarked now f → next ≡ slice_set followed f true → AreCallees l c start end now new → AreDone l c old now followed → AreDone l c old new next
done_more l c f body start end old now new followed next e s z marked is a d =
    let P : List Bool → Type 0 = λ marks. AreDone l c old new marks in
    subst P (sym is) (record {
      kept = λ g h. a.kept g (d.kept g h);
      done = λ g h pc callee b call. elim (set_cases followed f g h) [
        | inl same ↦ (let Q : ℕ → Type 0 = λ n. InBody l n pc in
            let x : InBody l f pc = subst Q same b in
            let one : x.function ≡ body = (let q : Some x.function ≡ Some body = sym x.in_table ∙ e in cc) in
            a.called callee (record { pc = pc; low = omega (arith, s, x.start); high = omega (arith, s, z, x.before_end, ap (λ (g : entry.Function). g.len) one); call = call }))
        | inr before ↦ a.kept callee (d.done g before pc callee b call)
      ];
      only = λ g h. elim (a.only g h) [
        | inl before ↦ d.only g before
        | inr k ↦ Follow f k.pc g (d.only f marked) (record { function = body; in_table = e; start = omega (arith, s, k.low); before_end = omega (arith, s, z, k.high) }) k.call
      ];
    })

-- where each function with a mark was followed
pub all_done : (l : Lowered) (c : Where) (n : ℕ) (old now followed : List Bool) → n ≡ length l.functions → AreDone l c old now followed → ((f : ℕ) → f < n → IsMarked now f → IsMarked followed f) → AreFollowed l c now
all_done l c n old now followed e d none f h pc callee b call =
    d.done f (none f (omega (arith, e, slice_get_within l.functions f b.function b.in_table)) h) pc callee b call

-- bare functions
pub bare_from_reached : (l : Lowered) (marks : List Bool) → ((f : ℕ) → IsMarked marks f → f ≡ l.main) → (f : ℕ) → Reached l Outside marks f → IsBare l f
bare_from_reached l marks first _ (First f h) =
    let P : ℕ → Type 0 = λ n. IsBare l n in
    subst P (sym (first f h)) Main
bare_from_reached l marks first _ (Follow f pc g r b k) =
    CalledOutside f pc g (bare_from_reached l marks first f r) b k.stands (nil_from_length (open_at l.code pc) k.depth)

pub bare_marked : (l : Lowered) (marks : List Bool) → IsMarked marks l.main → AreFollowed l Outside marks → (f : ℕ) → IsBare l f → IsMarked marks f
bare_marked l marks main followed _ Main = main
bare_marked l marks main followed _ (CalledOutside f pc g b body k none) =
    followed f (bare_marked l marks main followed f b) pc g body (record { stands = k; depth = ap length none })

-- inner functions
some_length : (xs : List ℕ) → xs ≢ [] → 0 < length xs
some_length [] h = absurd (h refl)
some_length (x ∷ xs) h = omega arith

no_length : (xs : List ℕ) → 0 < length xs → xs ≢ []
no_length xs h e = omega (arith, h, ap length e)

pub inner_from_reached : (l : Lowered) (marks : List Bool) → ((f : ℕ) → IsMarked marks f → IsCalled l Inside 0 (length l.code) f) → (f : ℕ) → Reached l Anywhere marks f → IsInner l f
inner_from_reached l marks first _ (First f h) =
    let k = first f h in CalledInside k.pc f k.call.stands (no_length (open_at l.code k.pc) k.call.depth)
inner_from_reached l marks first _ (Follow f pc g r b k) =
    CalledByInner f pc g (inner_from_reached l marks first f r) b k.stands

pub inner_marked : (l : Lowered) (marks : List Bool) → ((f : ℕ) → IsCalled l Inside 0 (length l.code) f → IsMarked marks f) → AreFollowed l Anywhere marks → (f : ℕ) → IsInner l f → IsMarked marks f
inner_marked l marks first followed _ (CalledInside pc g k some) =
    first g (record { pc = pc; low = omega arith; high = slice_get_within l.code pc (instr.Call k.0 k.1 g) k.2; call = record { stands = k; depth = some_length (open_at l.code pc) some } })
inner_marked l marks first followed _ (CalledByInner f pc g b body k) =
    followed f (inner_marked l marks first followed f b) pc g body (record { stands = k; depth = tt })
