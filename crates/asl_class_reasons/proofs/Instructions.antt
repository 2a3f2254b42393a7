-- What is owed to an instruction is what classes owe to it, and the steps that it makes are instances of the conditions.
use Rattle.std.proofs.Common.{◌≡◌, ℕ, zero, suc, ◌+◌, ◌-◌, ◌<◌, ◌≤◌, ◌⊎◌, inl, inr, List, [], ◌∷◌, ◌++◌, length, Option, None, Some, get_or, slice_get, refl, sym, ap, ◌∙◌, subst, arith, length-append, append_assoc}
use Rattle.std.proofs.lemmas.List.{append-nil}
use Rattle.std.specs.Prelude.{MatchOption}
use Rattle.std.proofs.lemmas.Bool.{cases_eq, cases_lt}
use Rattle.std.proofs.lemmas.List.{get_or_append_left, get_or-append_right}
use Rattle.std.proofs.lemmas.Option.{slice_get-get_or, slice_get_within, get_or_from_slice_get}
use Rattle.asl_code.specs.declared.image.Function as entry
use Rattle.asl_code.specs.declared.instr.Instr.{Instr}
use Rattle.asl_code.specs.declared.instr.Instr.TheVariants as instr
use Rattle.asl_lower.specs.Lowered.{Lowered}
use Rattle.asl_lower.specs.OpenSections.{start_of, returned, InBody}
use Rattle.asl_lower.specs.Operands.{HasOperands}
use Rattle.asl_lower.specs.Limits.{FitsTable}
use Rattle.asl_lower.specs.Facts.{HasLayout}
use Rattle.asl_lower.specs.LegalLowering.{IsLegalLowering}
use Rattle.asl_points_to.specs.Flows.{Stands}
use Rattle.asl_points_to.proofs.BodyFacts.{facts}
use Rattle.asl_points_to.specs.Classes.{Classed, to, Gives, IsLegalAt}
use Rattle.asl_class_reasons.specs.declared.flow.Flow.{Flow}
use Rattle.asl_class_reasons.specs.declared.flow.Owed.{Owed}
use Rattle.asl_class_reasons.specs.Draft.{Holds, HasFlow, MakesDue, IsOf, AreOwed, AreOwedAt, IsOwedAll, plain_flow, passed_one, passed, returned_one}
use Rattle.asl_class_reasons.proofs.Linking.{slice_get_more, slice_get_last}

-- an element of two lists, one after the other
pub slice_get_parts : {X : Type 0} (xs ys : List X) (n : ℕ) (x : X) → slice_get (xs ++ ys) n ≡ Some x → (slice_get xs n ≡ Some x) ⊎ (slice_get ys (n - length xs) ≡ Some x)
slice_get_parts xs ys n x e =
    let lt = slice_get_within (xs ++ ys) n x e in
    let is = get_or_from_slice_get (xs ++ ys) n x x e in
    let len = length-append xs ys in
    elim (cases_lt n (length xs)) [
      | inl low ↦ inl (slice_get-get_or xs n x low ∙ ap Some (sym (get_or_append_left xs ys x n low) ∙ is))
      | inr high ↦ inr (slice_get-get_or ys (n - length xs) x (omega arith) ∙ ap Some (sym (get_or-append_right xs ys (length xs) n x refl high) ∙ is))
    ]

pub slice_get_behind : {X : Type 0} (xs ys : List X) (n k : ℕ) (x : X) → length xs ≡ n → slice_get ys k ≡ Some x → slice_get (xs ++ ys) (n + k) ≡ Some x
slice_get_behind xs ys n k x len e =
    let lt = slice_get_within ys k x e in
    let at : (n + k) - n ≡ k = omega arith in
    slice_get-get_or (xs ++ ys) (n + k) x (omega (arith, length-append xs ys))
    ∙ ap Some (get_or-append_right xs ys n (n + k) x len (omega arith) ∙ ap (λ (j : ℕ). get_or ys j x) at ∙ get_or_from_slice_get ys k x x e)

-- what one flow owes, if there is one
abbrev HoldsIf : Classed → Option Flow → Type 0
HoldsIf c o = MatchOption o (Unit {0}) (Holds c)

abbrev HasIf : Lowered → Option Flow → Type 0
HasIf l o = MatchOption o (Unit {0}) (HasFlow l)

abbrev DueIf : Lowered → ℕ → Option Flow → Type 0
DueIf l pc o = MatchOption o (Unit {0}) (MakesDue l pc)

-- an instruction that is no call
abbrev pub IsNoCall : Instr → Type 0
IsNoCall (instr.Call a b g) = ⊥
IsNoCall i = Unit {0}

plain_legal : (l : Lowered) (c : Classed) (f : ℕ) (i : Instr) → IsNoCall i → length c.globals ≡ l.globals → HoldsIf c (plain_flow l.globals f i) → IsLegalAt l c f i
plain_legal l c f (instr.Move a b) p h k = k
plain_legal l c f (instr.FieldAddress a b d) p h k = k
plain_legal l c f (instr.GlobalAddress a g) p h k = λ x e. k x (slice_get_more c.globals c.sites g x e)
plain_legal l c f (instr.New a m s) p h k = λ x e. k x (slice_get_behind c.globals c.sites l.globals s x h e)
plain_legal l c f (instr.Load a b) p h k = k
plain_legal l c f (instr.Store a b) p h k = k
plain_legal l c f (instr.Call a b g) p h k = absurd p
plain_legal l c f i p h k = tt

plain_has : (l : Lowered) (f n : ℕ) (i : Instr) → f < length l.functions → n ≤ 64 → HasOperands l n i → HasIf l (plain_flow l.globals f i)
plain_has l f n (instr.Move a b) lt few o = let x = o.0 in let y = o.1.0 in ((lt, omega arith), (lt, omega arith))
plain_has l f n (instr.FieldAddress a b d) lt few o = let x = o.0 in let y = o.1.0 in ((lt, omega arith), (lt, omega arith))
plain_has l f n (instr.GlobalAddress a g) lt few o = let x = o.0 in let y = o.1.0 in (omega arith, (lt, omega arith))
plain_has l f n (instr.New a m s) lt few o = let x = o.0 in let y = o.1.1.0 in (omega arith, (lt, omega arith))
plain_has l f n (instr.Load a b) lt few o = let x = o.0 in let y = o.1.0 in ((lt, omega arith), (lt, omega arith))
plain_has l f n (instr.Store a b) lt few o = let x = o.0 in let y = o.1.0 in ((lt, omega arith), (lt, omega arith))
plain_has l f n i lt few o = tt

plain_due : (l : Lowered) (f pc n : ℕ) (i : Instr) → InBody l f pc → slice_get l.code pc ≡ Some i → HasOperands l n i → DueIf l pc (plain_flow l.globals f i)
plain_due l f pc n (instr.Move a b) body e o = λ es. (f, instr.Move a b, body, e, (refl, refl))
plain_due l f pc n (instr.FieldAddress a b d) body e o = λ es. (f, instr.FieldAddress a b d, body, e, (refl, refl))
plain_due l f pc n (instr.GlobalAddress a g) body e o = λ es. (f, instr.GlobalAddress a g, body, e, (refl, o.1.0, refl))
plain_due l f pc n (instr.New a m s) body e o = λ es. (f, instr.New a m s, body, e, (refl, o.1.1.0, refl))
plain_due l f pc n (instr.Load a b) body e o = λ es m low j. (f, instr.Load a b, body, e, (m, refl, refl, (low, j)))
plain_due l f pc n (instr.Store a b) body e o = λ es m low j. (f, instr.Store a b, body, e, (m, refl, refl, (low, j)))
plain_due l f pc n i body e o = tt

-- the one element of a list
only : {X : Type 0} (x : X) (n : ℕ) (y : X) → slice_get (x ∷ []) n ≡ Some y → y ≡ x
only x n y e = elim (slice_get_last [] x n y e) [ inl none ↦ absurd (let n : None ≡ Some y = none in cc) | inr is ↦ is.1 ]

-- what is owed to a plain instruction, by one flow and by none
pub owed_one : (l : Lowered) (f pc n : ℕ) (i : Instr) (w : Flow) → IsNoCall i → f < length l.functions → n ≤ 64 → HasOperands l n i → InBody l f pc → slice_get l.code pc ≡ Some i → plain_flow l.globals f i ≡ Some w → AreOwedAt l f pc i (record { pc = pc; flow = w } ∷ [])
owed_one l f pc n i w p lt few o body e is =
    let one : Owed = record { pc = pc; flow = w } in
    record {
      each = λ k x at. subst (λ (y : Owed). IsOf l y) (sym (only one k x at)) (record {
        there = subst (HasIf l) is (plain_has l f n i lt few o);
        due = subst (DueIf l pc) is (plain_due l f pc n i body e o);
      });
      here = λ k x at. ap (λ (y : Owed). y.pc) (only one k x at);
      all = λ c h held. plain_legal l c f i p h (subst (HoldsIf c) (sym is) (held 0 one refl));
    }

pub owed_none : (l : Lowered) (f pc : ℕ) (i : Instr) → IsNoCall i → plain_flow l.globals f i ≡ None → AreOwedAt l f pc i []
owed_none l f pc i p is = record {
  each = λ k x at. absurd (let n : None ≡ Some x = at in cc);
  here = λ k x at. absurd (let n : None ≡ Some x = at in cc);
  all = λ c h held. plain_legal l c f i p h (subst (HoldsIf c) (sym is) tt);
}

-- what is owed for arguments
length_passed : (pc f first g n : ℕ) → length (passed pc f first g n) ≡ n
length_passed pc f first g zero = refl
length_passed pc f first g (suc n) = omega (arith, length-append (passed pc f first g n) (passed_one pc f first g n ∷ []), length_passed pc f first g n)

passed_is : (pc f first g n k : ℕ) (o : Owed) → slice_get (passed pc f first g n) k ≡ Some o → (k < n) × (o ≡ passed_one pc f first g k)
passed_is pc f first g zero k o e = absurd (let no : None ≡ Some o = e in cc)
passed_is pc f first g (suc n) k o e = elim (slice_get_last (passed pc f first g n) (passed_one pc f first g n) k o e) [
  | inl old ↦ (let h = passed_is pc f first g n k o old in (omega (arith, h.0), h.1))
  | inr new ↦ (
      let at : k ≡ n = new.0 ∙ length_passed pc f first g n in
      (omega arith, new.1 ∙ ap (λ (j : ℕ). passed_one pc f first g j) (sym at)))
]

passed_at : (pc f first g n k : ℕ) → k < n → slice_get (passed pc f first g n) k ≡ Some (passed_one pc f first g k)
passed_at pc f first g n k lt =
    let d : Owed = passed_one pc f first g k in
    let there = slice_get-get_or (passed pc f first g n) k d (omega (arith, length_passed pc f first g n)) in
    there ∙ ap Some (passed_is pc f first g n k (get_or (passed pc f first g n) k d) there).1

-- where a body ends, and what is returned there
pub ends : (l : Lowered) → HasLayout l → (g : ℕ) (fn : entry.Function) → slice_get l.functions g ≡ Some fn → (last : ℕ) × InBody l g last × (slice_get l.code last ≡ Some (instr.Return (returned l g)))
ends l h g fn e =
    let fits : FitsTable fn = (let P : entry.Function → Type 0 = λ x. FitsTable x in subst P (get_or_from_slice_get l.functions g fn fn e) (h.limits.functions g fn (slice_get_within l.functions g fn e))) in
    let some = fits.some_code in
    let last : ℕ = start_of l.functions g + fn.len - 1 in
    (last, record { function = fn; in_table = e; start = omega arith; before_end = omega arith }, h.returns.there g last fn e (omega arith))

pub returned_is : (l : Lowered) → HasLayout l → (g pc r : ℕ) → InBody l g pc → slice_get l.code pc ≡ Some (instr.Return r) → r ≡ returned l g
returned_is l h g pc r b e =
    let there = h.returns.there g pc b.function b.in_table (sym (h.returns.only_there pc g r b.function b.in_table b e)) in
    let same : Some (instr.Return r) ≡ Some (instr.Return (returned l g)) = sym e ∙ there in
    cc

-- what a call is and has
pub record IsCall (l : Lowered) (f pc a first g : ℕ) (fn : entry.Function) : Type 0 where
  pub layout : HasLayout l
  pub body : InBody l f pc
  pub there : slice_get l.code pc ≡ Some (instr.Call a first g)
  pub low : f < length l.functions
  pub result : a < 256
  pub in_table : slice_get l.functions g ≡ Some fn
  pub arguments : first + fn.params < 256

abbrev pub call_owed : ℕ → ℕ → ℕ → ℕ → ℕ → ℕ → ℕ → List Owed
call_owed pc f a first g n r = passed pc f first g n ++ returned_one pc f a g r ∷ []

owed_passed : (l : Lowered) (f pc a first g k : ℕ) (fn : entry.Function) → IsCall l f pc a first g fn → k < fn.params → IsOf l (passed_one pc f first g k)
owed_passed l f pc a first g k fn h lt =
    let low = slice_get_within l.functions g fn h.in_table in
    record {
      there = ((h.low, omega (arith, h.arguments)), (low, omega (arith, h.arguments)));
      due = λ es. (f, instr.Call a first g, h.body, h.there, inl (fn, k, h.in_table, lt, refl, refl));
    }

owed_returned : (l : Lowered) (f pc a first g : ℕ) (fn : entry.Function) → IsCall l f pc a first g fn → returned l g < 256 → IsOf l (returned_one pc f a g (returned l g))
owed_returned l f pc a first g fn h few =
    let low = slice_get_within l.functions g fn h.in_table in
    let end = ends l h.layout g fn h.in_table in
    record {
      there = ((low, few), (h.low, h.result));
      due = λ es. (f, instr.Call a first g, h.body, h.there, inr (end.0, returned l g, end.1, end.2, refl, refl));
    }

pub owed_call : (l : Lowered) (f pc a first g : ℕ) (fn : entry.Function) → IsCall l f pc a first g fn → returned l g < 256 → AreOwedAt l f pc (instr.Call a first g) (call_owed pc f a first g fn.params (returned l g))
owed_call l f pc a first g fn h few =
    let args : List Owed = passed pc f first g fn.params in
    let result : Owed = returned_one pc f a g (returned l g) in
    record {
      each = λ k x at. elim (slice_get_last args result k x at) [
        | inl old ↦ (let p = passed_is pc f first g fn.params k x old in subst (λ (y : Owed). IsOf l y) (sym p.1) (owed_passed l f pc a first g k fn h p.0))
        | inr new ↦ subst (λ (y : Owed). IsOf l y) (sym new.1) (owed_returned l f pc a first g fn h few)
      ];
      here = λ k x at. elim (slice_get_last args result k x at) [
        | inl old ↦ ap (λ (y : Owed). y.pc) (passed_is pc f first g fn.params k x old).1
        | inr new ↦ ap (λ (y : Owed). y.pc) new.1
      ];
      all = λ c len held. record {
        passed = λ fun n at low. (
            let same : fn ≡ fun = (let s : Some fn ≡ Some fun = sym h.in_table ∙ at in cc) in
            let lt : n < fn.params = omega (arith, ap (λ (x : entry.Function). x.params) same) in
            held n (passed_one pc f first g n) (slice_get_more args (result ∷ []) n (passed_one pc f first g n) (passed_at pc f first g fn.params n lt)));
        returned = λ at r b e. (
            let P : ℕ → Type 0 = λ x. Gives (to c g x) (to c f a) in
            subst P (sym (returned_is l h.layout g at r b e)) (held (length args + 0) result (slice_get_behind args (result ∷ []) (length args) 0 result refl refl)));
      };
    }

-- what is owed before a pc, and what is owed at it
pub owed_nothing : (l : Lowered) → AreOwed l 0 []
owed_nothing l = record {
  each = λ k x at. absurd (let n : None ≡ Some x = at in cc);
  all = λ f at i lt b e c h held. absurd (omega arith);
}

pub owed_more : (l : Lowered) → HasLayout l → (f pc : ℕ) (i : Instr) (old new : List Owed) → InBody l f pc → slice_get l.code pc ≡ Some i → AreOwed l pc old → AreOwedAt l f pc i new → AreOwed l (pc + 1) (old ++ new)
owed_more l h f pc i old new b e was adds = record {
  each = λ n o at. elim (slice_get_parts old new n o at) [ inl x ↦ was.each n o x | inr x ↦ adds.each (n - length old) o x ];
  all = λ g at j lt bj ej c len held. elim (cases_eq at pc) [
    | inl same ↦ (
        let In : ℕ → Type 0 = λ x. InBody l g x in
        let owner : f ≡ g = h.parted.one_body pc f g b (subst In same bj) in
        let is : i ≡ j = (let s : Some i ≡ Some j = sym e ∙ ap (slice_get l.code) (sym same) ∙ ej in cc) in
        let P : ℕ → Type 0 = λ x. IsLegalAt l c x j in
        let Q : Instr → Type 0 = λ x. IsLegalAt l c f x in
        subst P owner (subst Q is (adds.all c len (λ n o x. held (length old + n) o (slice_get_behind old new (length old) n o refl x) (adds.here n o x ∙ sym same)))))
    | inr ne ↦ was.all g at j (omega arith) bj ej c len (λ n o x. held n o (slice_get_more old new n o x))
  ];
}

-- all that is owed to all instructions
pub owed_all : (l : Lowered) → HasLayout l → (owed : List Owed) → AreOwed l (length l.code) owed → IsOwedAll l owed
owed_all l h owed was = record {
  each = was.each;
  all = λ c globals sites held. record {
    globals = globals;
    sites = sites;
    instrs = λ f pc i b e. was.all f pc i (h.parted.in_code pc f b) b e c globals (λ n o x at. held n o x);
  };
}

-- what the code that lists it adds for an instruction: for a call, for another one, and where nothing is owed
is_no_call : (i : Instr) → ((a b g : ℕ) → i ≡ instr.Call a b g → ⊥) → IsNoCall i
is_no_call (instr.Call a b g) h = h a b g refl
is_no_call i h = tt

stands : (l : Lowered) (f pc : ℕ) (i : Instr) → InBody l f pc → slice_get l.code pc ≡ Some i → Stands l f i
stands l f pc i b e = record { pc = pc; inside = b; there = e }

returned_few : (l : Lowered) → IsLegalLowering l → (h : HasLayout l) → (g : ℕ) (fn : entry.Function) → slice_get l.functions g ≡ Some fn → returned l g < 256
returned_few l k h g fn e =
    let end = ends l h g fn e in
    let x = facts l g (instr.Return (returned l g)) k (stands l g end.0 (instr.Return (returned l g)) end.1 end.2) in
    let low = x.operands.0 in
    let few = x.few in
    omega arith

pub call_more : (l : Lowered) (f pc a first g r : ℕ) (i : Instr) (fn : entry.Function) (old mid new : List Owed) → IsLegalLowering l → InBody l f pc → slice_get l.code pc ≡ Some i → i ≡ instr.Call a first g → slice_get l.functions g ≡ Some fn → first + fn.params < 256 → r ≡ returned l g → mid ≡ old ++ passed pc f first g fn.params → new ≡ mid ++ returned_one pc f a g r ∷ [] → AreOwed l pc old → AreOwed l (pc + 1) new
call_more l f pc a first g r i fn old mid new k b e is table few re em en was =
    let there : slice_get l.code pc ≡ Some (instr.Call a first g) = e ∙ ap Some is in
    let x = facts l f (instr.Call a first g) k (stands l f pc (instr.Call a first g) b there) in
    let low = x.operands.0 in
    let small = x.few in
    let h : IsCall l f pc a first g fn = record { layout = x.layout; body = b; there = there; low = x.low; result = omega arith; in_table = table; arguments = few } in
    let adds = owed_call l f pc a first g fn h (returned_few l k x.layout g fn table) in
    let result : List Owed = returned_one pc f a g (returned l g) ∷ [] in
    let all : new ≡ old ++ (passed pc f first g fn.params ++ result) = en ∙ ap (λ (n : ℕ). mid ++ returned_one pc f a g n ∷ []) re ∙ ap (λ (xs : List Owed). xs ++ result) em ∙ append_assoc old (passed pc f first g fn.params) result in
    subst (λ (xs : List Owed). AreOwed l (pc + 1) xs) (sym all) (owed_more l x.layout f pc (instr.Call a first g) old (passed pc f first g fn.params ++ result) b there was adds)

pub plain_more : (l : Lowered) (f pc : ℕ) (i : Instr) (w : Flow) (old new : List Owed) → IsLegalLowering l → InBody l f pc → slice_get l.code pc ≡ Some i → ((a b g : ℕ) → i ≡ instr.Call a b g → ⊥) → plain_flow l.globals f i ≡ Some w → new ≡ old ++ record { pc = pc; flow = w } ∷ [] → AreOwed l pc old → AreOwed l (pc + 1) new
plain_more l f pc i w old new k b e other is en was =
    let x = facts l f i k (stands l f pc i b e) in
    let one : Owed = record { pc = pc; flow = w } in
    subst (λ (xs : List Owed). AreOwed l (pc + 1) xs) (sym en) (owed_more l x.layout f pc i old (one ∷ []) b e was (owed_one l f pc x.function.regs i w (is_no_call i other) x.low x.few x.operands b e is))

pub none_more : (l : Lowered) (f pc : ℕ) (i : Instr) (old : List Owed) → IsLegalLowering l → InBody l f pc → slice_get l.code pc ≡ Some i → ((a b g : ℕ) → i ≡ instr.Call a b g → ⊥) → plain_flow l.globals f i ≡ None → AreOwed l pc old → AreOwed l (pc + 1) old
none_more l f pc i old k b e other is was =
    let x = facts l f i k (stands l f pc i b e) in
    let all : old ++ [] ≡ old = append-nil old in
    subst (λ (xs : List Owed). AreOwed l (pc + 1) xs) all (owed_more l x.layout f pc i old [] b e was (owed_none l f pc i (is_no_call i other) is))
