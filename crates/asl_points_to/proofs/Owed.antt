-- The flows of an instruction are what classes owe to it: classes are legal there where its flows hold in them. So the flows of all
-- instructions are what legal classes owe to the program.
use Rattle.std.proofs.Common.{◌≡◌, ℕ, zero, suc, ◌+◌, ◌-◌, ◌<◌, inl, inr, List, [], ◌∷◌, ◌++◌, length, Option, None, Some, MatchOption, get_or, slice_get, sym, ap, ◌∙◌, subst, arith}
use Rattle.std.specs.List.{All}
use Rattle.std.proofs.lemmas.Bool.{cases_eq}
use Rattle.std.proofs.lemmas.List.{get_or_append_left, get_or-append-add}
use Rattle.std.proofs.lemmas.List.Elements.{All-nil, All-append, All-push, All-contains, Contains-append_left, Contains-append_right, Contains-push, Contains-get_or}
use Rattle.std.proofs.lemmas.Option.{slice_get-get_or, slice_get_within, get_or_from_slice_get}
use Rattle.asl_code.specs.declared.image.Function as entry
use Rattle.asl_code.specs.declared.instr.Instr.{Instr}
use Rattle.asl_code.specs.declared.instr.Instr.TheVariants as instr
use Rattle.asl_lower.specs.Lowered.{Lowered}
use Rattle.asl_lower.specs.OpenSections.{start_of, returned, InBody}
use Rattle.asl_lower.specs.Operands.{HasOperands}
use Rattle.asl_lower.specs.Limits.{FitsTable}
use Rattle.asl_lower.specs.Facts.{HasLayout}
use Rattle.asl_points_to.specs.declared.value_flow.Flow.{Flow}
use Rattle.asl_points_to.specs.declared.value_flow.Flow.TheVariants as flow
use Rattle.asl_points_to.specs.Classes.{Classed, to, members, Gives, IsLegalAt}
use Rattle.asl_points_to.specs.Draft.{class_in, Holds, IsThere}
use Rattle.asl_points_to.specs.Flows.{place, plain_flow, argument_flows, call_flows, HasMembers, AreThere, AddsFlows, AreFlows}

-- the flow, if there is one
abbrev HoldsIf : Classed → Option Flow → Type 0
HoldsIf c o = MatchOption o (Unit {0}) (Holds c)

abbrev IsThereIf : Lowered → Option Flow → Type 0
IsThereIf l o = MatchOption o (Unit {0}) (IsThere (length l.functions) (l.globals + l.sites))

-- an instruction that is no call
abbrev pub IsPlain : Instr → Type 0
IsPlain (instr.Call a b g) = ⊥
IsPlain i = Unit {0}

-- the class of a global, and of a site, among the members
of_global : (l : Lowered) (c : Classed) (g : ℕ) → HasMembers l c → g < l.globals → slice_get c.globals g ≡ Some (class_in c g)
of_global l c g h lt =
    let low : g < length c.globals = omega (arith, h.globals) in
    slice_get-get_or c.globals g 0 low ∙ ap Some (sym (get_or_append_left c.globals c.sites 0 g low))

of_site : (l : Lowered) (c : Classed) (s : ℕ) → HasMembers l c → s < l.sites → slice_get c.sites s ≡ Some (class_in c (l.globals + s))
of_site l c s h lt =
    slice_get-get_or c.sites s 0 (omega (arith, h.sites))
    ∙ ap Some (sym (get_or-append-add c.globals c.sites s 0) ∙ ap (λ (n : ℕ). get_or (members c) (n + s) 0) h.globals)

-- where classes are legal at a plain instruction, its flow holds in them, and the other way round
plain_holds : (l : Lowered) (c : Classed) (f n : ℕ) (i : Instr) → HasMembers l c → HasOperands l n i → IsLegalAt l c f i → HoldsIf c (plain_flow l.globals f i)
plain_holds l c f n (instr.Move a b) h o k = k
plain_holds l c f n (instr.FieldAddress a b d) h o k = k
plain_holds l c f n (instr.GlobalAddress a g) h o k = k (class_in c g) (of_global l c g h o.1.0)
plain_holds l c f n (instr.New a m s) h o k = k (class_in c (l.globals + s)) (of_site l c s h o.1.1.0)
plain_holds l c f n (instr.Load a b) h o k = k
plain_holds l c f n (instr.Store a b) h o k = k
plain_holds l c f n i h o k = tt

plain_legal : (l : Lowered) (c : Classed) (f n : ℕ) (i : Instr) → IsPlain i → HasMembers l c → HasOperands l n i → HoldsIf c (plain_flow l.globals f i) → IsLegalAt l c f i
plain_legal l c f n (instr.Move a b) p h o k = k
plain_legal l c f n (instr.FieldAddress a b d) p h o k = k
plain_legal l c f n (instr.GlobalAddress a g) p h o k = λ x e. k ∙ sym (of_global l c g h o.1.0) ∙ e
plain_legal l c f n (instr.New a m s) p h o k = λ x e. k ∙ sym (of_site l c s h o.1.1.0) ∙ e
plain_legal l c f n (instr.Load a b) p h o k = k
plain_legal l c f n (instr.Store a b) p h o k = k
plain_legal l c f n (instr.Call a b g) p h o k = absurd p
plain_legal l c f n i p h o k = tt

-- the flow is between places that there are
plain_there : (l : Lowered) (f n : ℕ) (i : Instr) → f < length l.functions → HasOperands l n i → IsThereIf l (plain_flow l.globals f i)
plain_there l f n (instr.Move a b) lt o = (lt, lt)
plain_there l f n (instr.FieldAddress a b d) lt o = (lt, lt)
plain_there l f n (instr.GlobalAddress a g) lt o = let h = o.1.0 in (omega arith, lt)
plain_there l f n (instr.New a m s) lt o = let h = o.1.1.0 in (omega arith, lt)
plain_there l f n (instr.Load a b) lt o = (lt, lt)
plain_there l f n (instr.Store a b) lt o = (lt, lt)
plain_there l f n i lt o = tt

-- a plain instruction, with a flow and with none
pub adds_one : (l : Lowered) (f n : ℕ) (i : Instr) (x : Flow) (old : List Flow) → IsPlain i → f < length l.functions → HasOperands l n i → plain_flow l.globals f i ≡ Some x → AddsFlows l f i old (old ++ x ∷ [])
adds_one l f n i x old p lt o e = record {
  there = λ h. All-push (IsThere (length l.functions) (l.globals + l.sites)) old x h (subst (IsThereIf l) e (plain_there l f n i lt o));
  holds = λ c m h k. All-push (Holds c) old x h (subst (HoldsIf c) e (plain_holds l c f n i m o k));
  held = λ c h y d low. All-contains (Holds c) (old ++ x ∷ []) (get_or old y d) h (Contains-append_left old (x ∷ []) (get_or old y d) (Contains-get_or old y d low));
  legal = λ c m h. plain_legal l c f n i p m o (subst (HoldsIf c) (sym e) (All-contains (Holds c) (old ++ x ∷ []) x h (Contains-push old x)));
}

pub adds_none : (l : Lowered) (f n : ℕ) (i : Instr) (old : List Flow) → IsPlain i → HasOperands l n i → plain_flow l.globals f i ≡ None → AddsFlows l f i old old
adds_none l f n i old p o e = record {
  there = λ h. h;
  holds = λ c m h k. h;
  held = λ c h. h;
  legal = λ c m h. plain_legal l c f n i p m o (subst (HoldsIf c) (sym e) tt);
}

-- the arguments of a call
front : {X : Type 0} (P : X → Type 0) (xs ys : List X) → All P (xs ++ ys) → All P xs
front P xs ys h k d low = All-contains P (xs ++ ys) (get_or xs k d) h (Contains-append_left xs ys (get_or xs k d) (Contains-get_or xs k d low))

back : {X : Type 0} (P : X → Type 0) (xs ys : List X) → All P (xs ++ ys) → All P ys
back P xs ys h k d low = All-contains P (xs ++ ys) (get_or ys k d) h (Contains-append_right xs ys (get_or ys k d) (Contains-get_or ys k d low))

-- the flows of the arguments hold where each argument gives to its parameter, and the other way round
arguments_hold : (c : Classed) (f first callee n : ℕ) → ((k : ℕ) → k < n → Gives (to c f (first + k)) (to c callee k)) → All (Holds c) (argument_flows f first callee n)
arguments_hold c f first callee zero h = All-nil (Holds c)
arguments_hold c f first callee (suc n) h =
    All-push (Holds c) (argument_flows f first callee n) (flow.Copy (place f (first + n)) (place callee n))
    (arguments_hold c f first callee n (λ k lt. h k (omega arith))) (h n (omega arith))

arguments_given : (c : Classed) (f first callee n : ℕ) → All (Holds c) (argument_flows f first callee n) → (k : ℕ) → k < n → Gives (to c f (first + k)) (to c callee k)
arguments_given c f first callee zero h k lt = absurd (omega arith)
arguments_given c f first callee (suc n) h k lt =
    elim (cases_eq k n) [
      | inl e ↦ (
          let P : ℕ → Type 0 = λ m. Gives (to c f (first + m)) (to c callee m) in
          subst P (sym e) (All-contains (Holds c) (argument_flows f first callee (suc n)) (flow.Copy (place f (first + n)) (place callee n)) h (Contains-push (argument_flows f first callee n) (flow.Copy (place f (first + n)) (place callee n)))))
      | inr ne ↦ arguments_given c f first callee n (front (Holds c) (argument_flows f first callee n) (flow.Copy (place f (first + n)) (place callee n) ∷ []) h) k (omega arith)
    ]

-- they are between places that there are
arguments_there : (l : Lowered) (f first callee n : ℕ) → f < length l.functions → callee < length l.functions → AreThere l (argument_flows f first callee n)
arguments_there l f first callee zero a b = All-nil (IsThere (length l.functions) (l.globals + l.sites))
arguments_there l f first callee (suc n) a b =
    All-push (IsThere (length l.functions) (l.globals + l.sites)) (argument_flows f first callee n) (flow.Copy (place f (first + n)) (place callee n))
    (arguments_there l f first callee n a b) (a, b)

-- where a body ends, and what is returned there
ends : (l : Lowered) → HasLayout l → (g : ℕ) (fn : entry.Function) → slice_get l.functions g ≡ Some fn → (last : ℕ) × InBody l g last × (slice_get l.code last ≡ Some (instr.Return (returned l g)))
ends l h g fn e =
    let fits : FitsTable fn = (let P : entry.Function → Type 0 = λ x. FitsTable x in subst P (get_or_from_slice_get l.functions g fn fn e) (h.limits.functions g fn (slice_get_within l.functions g fn e))) in
    let some = fits.some_code in
    let last : ℕ = start_of l.functions g + fn.len - 1 in
    (last, record { function = fn; in_table = e; start = omega arith; before_end = omega arith }, h.returns.there g last fn e (omega arith))

-- each return of a function returns that register
returned_is : (l : Lowered) → HasLayout l → (g pc r : ℕ) → InBody l g pc → slice_get l.code pc ≡ Some (instr.Return r) → r ≡ returned l g
returned_is l h g pc r b e =
    let there = h.returns.there g pc b.function b.in_table (sym (h.returns.only_there pc g r b.function b.in_table b e)) in
    let same : Some (instr.Return r) ≡ Some (instr.Return (returned l g)) = sym e ∙ there in
    cc

-- a call adds the flows of its arguments and of its result
pub adds_call : (l : Lowered) → HasLayout l → (f a first g : ℕ) (fn : entry.Function) (old : List Flow) → f < length l.functions → slice_get l.functions g ≡ Some fn → AddsFlows l f (instr.Call a first g) old (old ++ call_flows f a first g fn.params (returned l g))
adds_call l h f a first g fn old lt e =
    let args : List Flow = argument_flows f first g fn.params in
    let result : Flow = flow.Copy (place g (returned l g)) (place f a) in
    let there : g < length l.functions = slice_get_within l.functions g fn e in
    record {
      there = λ k. All-append (IsThere (length l.functions) (l.globals + l.sites)) old (args ++ result ∷ []) k (All-push (IsThere (length l.functions) (l.globals + l.sites)) args result (arguments_there l f first g fn.params lt there) (there, lt));
      holds = λ c m k legal. (
          let end = ends l h g fn e in
          All-append (Holds c) old (args ++ result ∷ []) k (All-push (Holds c) args result (arguments_hold c f first g fn.params (λ n low. legal.passed fn n e low)) (legal.returned end.0 (returned l g) end.1 end.2)));
      held = λ c k. front (Holds c) old (args ++ result ∷ []) k;
      legal = λ c m k. (
          let new = back (Holds c) old (args ++ result ∷ []) k in
          record {
            passed = λ fun n at low. (
                let same : fn ≡ fun = (let s : Some fn ≡ Some fun = sym e ∙ at in cc) in
                arguments_given c f first g fn.params (front (Holds c) args (result ∷ []) new) n (omega (arith, ap (λ (x : entry.Function). x.params) same)));
            returned = λ pc r b at. (
                let P : ℕ → Type 0 = λ x. Gives (to c g x) (to c f a) in
                subst P (sym (returned_is l h g pc r b at)) (All-contains (Holds c) (args ++ result ∷ []) result new (Contains-push args result)));
          });
    }

-- the flows of no instruction, of one more, and of all
pub flows_of_none : (l : Lowered) → AreFlows l 0 []
flows_of_none l = record {
  there = All-nil (IsThere (length l.functions) (l.globals + l.sites));
  hold = λ c m h. All-nil (Holds c);
  legal = λ c m h f at i lt b e. absurd (omega arith);
}

pub flows_more : (l : Lowered) → HasLayout l → (f pc : ℕ) (i : Instr) (old new : List Flow) → InBody l f pc → slice_get l.code pc ≡ Some i → AreFlows l pc old → AddsFlows l f i old new → AreFlows l (pc + 1) new
flows_more l h f pc i old new b e was adds = record {
  there = adds.there was.there;
  hold = λ c m legal. adds.holds c m (was.hold c m (λ g at j lt bj ej. legal g at j (omega arith) bj ej)) (legal f pc i (omega arith) b e);
  legal = λ c m held g at j lt bj ej. elim (cases_eq at pc) [
    | inl same ↦ (
        let In : ℕ → Type 0 = λ x. InBody l g x in
        let owner : f ≡ g = h.parted.one_body pc f g b (subst In same bj) in
        let is : i ≡ j = (let s : Some i ≡ Some j = sym e ∙ ap (slice_get l.code) (sym same) ∙ ej in cc) in
        let P : ℕ → Type 0 = λ x. IsLegalAt l c x j in
        let Q : Instr → Type 0 = λ x. IsLegalAt l c f x in
        subst P owner (subst Q is (adds.legal c m held)))
    | inr ne ↦ was.legal c m (adds.held c held) g at j (omega arith) bj ej
  ];
}
