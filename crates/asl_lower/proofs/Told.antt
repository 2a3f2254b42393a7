-- What the calls of a `Lowering` tell: places of bodies, owners, returned registers, and where control continues.
use Rattle.std.proofs.Common.{◌≡◌, ℕ, suc, ◌+◌, ◌-◌, ◌<◌, ◌≤◌, inl, inr, nat_lt, List, [], ◌∷◌, length, get_or, drop, Some, slice_get, sym, ap, ◌∙◌, subst, arith}
use Rattle.std.specs.List.{Contains}
use Rattle.std.proofs.lemmas.Bool.{cond-true, lt-ltb}
use Rattle.std.proofs.lemmas.List.{at_drop_more, at_drop_all}
use Rattle.std.proofs.lemmas.List.Sums.{sum_by-take-le}
use Rattle.asl_code.specs.declared.image.Function as entry
use Rattle.asl_code.specs.declared.instr.Instr.{Instr}
use Rattle.asl_code.specs.declared.instr.Instr.TheVariants as instr
use Rattle.asl_lower.specs.Lowered.{Lowered}
use Rattle.asl_lower.specs.OpenSections.{start_of, owner_of, returned, InBody, FlowsTo, successors}
use Rattle.asl_lower.specs.Facts.{HasLayout}
use Rattle.std.proofs.lemmas.Option.{slice_get_within, slice_get-get_or}
use Rattle.asl_lower.proofs.Reaching.{body_within}
use Rattle.asl_lower.proofs.SectionSteps.{here, there, member_cases, no_member}

-- a body begins within the code
pub start_within : (l : Lowered) → HasLayout l → (number : ℕ) → start_of l.functions number ≤ length l.code
start_within l lay number =
    let len : entry.Function → ℕ = λ f. f.len in
    omega (arith, sum_by-take-le len l.functions number, lay.parted.total)

-- the owner of a place, in one of the bodies and after them all
pub owner_found : (fs : List entry.Function) (i number left pc : ℕ) (d : entry.Function) → i < length fs → left < (get_or fs i d).len → number + owner_of (drop i fs) left ≡ owner_of fs pc → number ≡ owner_of fs pc
owner_found fs i number left pc d low inside e =
    let f = get_or fs i d in
    let step : owner_of (drop i fs) left ≡ owner_of (f ∷ drop (i + 1) fs) left = at_drop_more (λ gs. owner_of gs left) fs i d low in
    let at = cond-true (nat_lt left f.len) 0 (suc (owner_of (drop (i + 1) fs) (left - f.len))) (lt-ltb left f.len inside) in
    omega (arith, step, at, e)

pub owner_after : (fs : List entry.Function) (i number left pc : ℕ) → length fs ≤ i → number + owner_of (drop i fs) left ≡ owner_of fs pc → number ≡ owner_of fs pc
owner_after fs i number left pc past e =
    let none : owner_of (drop i fs) left ≡ owner_of [] left = at_drop_all (λ gs. owner_of gs left) fs i past in
    omega (arith, none, e)

pub owner_body : (l m : Lowered) (fs : List entry.Function) (pc number : ℕ) → HasLayout l → l ≡ m → fs ≡ l.functions → pc < length m.code → number ≡ owner_of fs pc → InBody m number pc
owner_body l m fs pc number lay same table low e =
    let within : pc < length l.code = omega (arith, low, ap (λ (x : Lowered). length x.code) same) in
    let P : ℕ → Type 0 = λ n. InBody l n pc in
    let Q : Lowered → Type 0 = λ x. InBody x number pc in
    subst Q same (subst P (sym (e ∙ ap (λ gs. owner_of gs pc) table)) (lay.parted.owned pc within))

-- where a body ends, its `ret` stands
pub record EndsBody (l : Lowered) (number start len : ℕ) : Type 0 where
  pub some : 1 ≤ start + len
  pub within : start + len ≤ length l.code
  pub stands : slice_get l.code (start + len - 1) ≡ Some (instr.Return (returned l number))

pub body_ends : (l : Lowered) → HasLayout l → (number start : ℕ) (f : entry.Function) → slice_get l.functions number ≡ Some f → start ≡ start_of l.functions number → EndsBody l number start f.len
body_ends l lay number start f e s =
    let low : number < length l.functions = slice_get_within l.functions number f e in
    let fits = lay.limits.functions number f low in
    let same : get_or l.functions number f ≡ f = (let q : Some (get_or l.functions number f) ≡ Some f = sym (slice_get-get_or l.functions number f low) ∙ e in cc) in
    let len : (get_or l.functions number f).len ≡ f.len = ap (λ (g : entry.Function). g.len) same in
    let some = fits.some_code in
    record {
      some = omega (arith, some, len);
      within = omega (arith, s, body_within l lay number f e);
      stands = lay.returns.there number (start + f.len - 1) f e (omega (arith, s, some, len));
    }

-- each `ret` of a body names the register that the function returns
pub returned_each : (l : Lowered) → HasLayout l → (number pc from : ℕ) → InBody l number pc → slice_get l.code pc ≡ Some (instr.Return from) → from ≡ returned l number
returned_each l lay number pc from b e =
    let end = lay.returns.only_there pc number from b.function b.in_table b e in
    let q : Some (instr.Return from) ≡ Some (instr.Return (returned l number)) = sym e ∙ lay.returns.there number pc b.function b.in_table (sym end) in
    cc

-- where control continues is what is listed
pub listed_goes : (i : Instr) (pc to : ℕ) → Contains (successors i pc) to → FlowsTo i pc to
listed_goes (instr.Jump target) pc to c =
    elim (member_cases to target [] c) [ inl e ↦ sym e | inr old ↦ absurd (no_member to old) ]
listed_goes (instr.JumpIfZero test target) pc to c =
    elim (member_cases to target (suc pc ∷ []) c) [
      | inl e ↦ inl (sym e)
      | inr on ↦ elim (member_cases to (suc pc) [] on) [ inl e ↦ inr (omega (arith, e)) | inr old ↦ absurd (no_member to old) ]
    ]
listed_goes (instr.Return from) pc to c = absurd (no_member to c)
listed_goes i pc to c =
    elim (member_cases to (suc pc) [] c) [ inl e ↦ omega (arith, e) | inr old ↦ absurd (no_member to old) ]

member : (x y : ℕ) (xs : List ℕ) → y ≡ x → Contains (y ∷ xs) x
member x y xs e = let P : ℕ → Type 0 = λ n. Contains (n ∷ xs) x in subst P (sym e) (here x xs)

pub goes_listed : (i : Instr) (pc to : ℕ) → FlowsTo i pc to → Contains (successors i pc) to
goes_listed (instr.Jump target) pc to g = member to target [] (sym g)
goes_listed (instr.JumpIfZero test target) pc to g =
    elim g [
      | inl e ↦ member to target (suc pc ∷ []) (sym e)
      | inr on ↦ there to target (suc pc ∷ []) (member to (suc pc) [] (omega (arith, on)))
    ]
goes_listed (instr.Return from) pc to g = absurd g
goes_listed i pc to g = member to (suc pc) [] (omega (arith, g))
