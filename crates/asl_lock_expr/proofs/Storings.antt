-- The rows of stores and of calls are those of the program, and the classes that they tell are those that a call may store to.
use Rattle.std.proofs.Common.{◌≡◌, ℕ, ◌+◌, ◌<◌, ◌≤◌, ◌⊎◌, ◌↔◌, Bool, List, [], length, get_or, Option, None, Some, slice_get, refl, ap, sym, ◌∙◌, subst, inl, inr, arith}
use Rattle.std.proofs.lemmas.Bool.{cases_lt}
use Rattle.std.proofs.lemmas.Option.{slice_get-get_or}
use Rattle.asl_code.specs.declared.instr.Instr.{Instr}
use Rattle.asl_code.specs.declared.instr.Instr.TheVariants as instr
use Rattle.asl_lower.specs.Lowered.{Lowered}
use Rattle.asl_lower.specs.OpenSections.{InBody, owner_of}
use Rattle.asl_lower.specs.LegalLowering.{IsLegalLowering}
use Rattle.asl_lower.proofs.Owner.{owner_is}
use Rattle.asl_points_to.specs.Classes.{Classed, to}
use Rattle.asl_lock_expr.specs.ClassOf.{MayStore, Itself, ByCall, TellsStores}
use Rattle.asl_lock_expr.specs.Stores.{stores}
use Rattle.asl_lock_expr.specs.Storing.{IsMarked, IsIn, row, stored_class, called, AreListed, ListsOneMore, Reaches, Listed, Calling}
use Rattle.asl_lock_expr.proofs.RowNumbers.{in_from_test, in_to_test, row_there, there}

-- one instruction more, with an entry or none
pub listed_more : (entry : ℕ → Instr → Option ℕ) (l : Lowered) (pc f at : ℕ) (i : Instr) (rows new : List (List ℕ)) → f ≡ owner_of l.functions pc → slice_get l.code pc ≡ Some i → entry f i ≡ Some at →
    ((a n : ℕ) → IsIn (row new a) n ↔ (IsIn (row rows a) n ⊎ ((a ≡ at) × (n ≡ f)))) → AreListed entry l pc rows → AreListed entry l (pc + 1) new
listed_more entry l pc f at i rows new owner stands enters added listed a n = (
  λ h. elim ((added a n).0 h) [
    | inl p ↦ (let r = (listed a n).0 p in record { pc = r.pc; before = omega (arith, r.before); instruction = r.instruction; owner = r.owner; stands = r.stands; entered = r.entered })
    | inr q ↦ record { pc = pc; before = omega arith; instruction = i; owner = sym owner ∙ sym q.1; stands = stands; entered = ap (λ m. entry m i) q.1 ∙ enters ∙ ap Some (sym q.0) }
  ],
  λ r. elim (cases_lt r.pc pc) [
    | inl less ↦ (added a n).1 (inl ((listed a n).1 (record { pc = r.pc; before = less; instruction = r.instruction; owner = r.owner; stands = r.stands; entered = r.entered })))
    | inr past ↦
        let here : r.pc ≡ pc = omega (arith, r.before) in
        let same_f : n ≡ f = sym r.owner ∙ ap (owner_of l.functions) here ∙ sym owner in
        let instrs : Some r.instruction ≡ Some i = sym r.stands ∙ ap (slice_get l.code) here ∙ stands in
        let same_i : r.instruction ≡ i = cc in
        let entries : Some a ≡ Some at = sym r.entered ∙ ap (λ m. entry m r.instruction) same_f ∙ ap (entry f) same_i ∙ enters in
        let same_a : a ≡ at = cc in
        (added a n).1 (inr (same_a, same_f))
  ],
)

-- one instruction more that enters nothing
pub listed_same : (entry : ℕ → Instr → Option ℕ) (l : Lowered) (pc f : ℕ) (i : Instr) (rows : List (List ℕ)) → f ≡ owner_of l.functions pc → slice_get l.code pc ≡ Some i → entry f i ≡ None →
    AreListed entry l pc rows → AreListed entry l (pc + 1) rows
listed_same entry l pc f i rows owner stands none listed a n = (
  λ h. (let r = (listed a n).0 h in record { pc = r.pc; before = omega (arith, r.before); instruction = r.instruction; owner = r.owner; stands = r.stands; entered = r.entered }),
  λ r. elim (cases_lt r.pc pc) [
    | inl less ↦ (listed a n).1 (record { pc = r.pc; before = less; instruction = r.instruction; owner = r.owner; stands = r.stands; entered = r.entered })
    | inr past ↦
        let here : r.pc ≡ pc = omega (arith, r.before) in
        let same_f : n ≡ f = sym r.owner ∙ ap (owner_of l.functions) here ∙ sym owner in
        let instrs : Some r.instruction ≡ Some i = sym r.stands ∙ ap (slice_get l.code) here ∙ stands in
        let same_i : r.instruction ≡ i = cc in
        let entries : Some a ≡ None = sym r.entered ∙ ap (λ m. entry m r.instruction) same_f ∙ ap (entry f) same_i ∙ none in
        cc
  ],
)

-- the same of all programs in which the instruction stands in a body of the function
pub one_more : (entry : ℕ → Instr → Option ℕ) (f at : ℕ) (i : Instr) (rows new : List (List ℕ)) → entry f i ≡ Some at → ((a n : ℕ) → IsIn (row new a) n ↔ (IsIn (row rows a) n ⊎ ((a ≡ at) × (n ≡ f)))) →
    (length rows ≤ 65536 → length new ≤ 65536) → ListsOneMore entry f i rows new
one_more entry f at i rows new enters added few = record {
  listed = λ l pc owner stands listed. listed_more entry l pc f at i rows new (sym owner) stands enters added listed;
  few = few;
}

pub none_more : (entry : ℕ → Instr → Option ℕ) (f : ℕ) (i : Instr) (rows : List (List ℕ)) → entry f i ≡ None → ListsOneMore entry f i rows rows
none_more entry f i rows none = record {
  listed = λ l pc owner stands listed. listed_same entry l pc f i rows (sym owner) stands none listed;
  few = λ h. h;
}

-- no instruction enters nothing in no rows
pub listed_none : (entry : ℕ → Instr → Option ℕ) (l : Lowered) → AreListed entry l 0 []
listed_none entry l a n = (λ h. absurd h, λ r. absurd (omega (arith, r.before)))

pub rows_none : (entry : ℕ → Instr → Option ℕ) (l : Lowered) (rows : List (List ℕ)) → rows ≡ [] → AreListed entry l 0 rows
rows_none entry l rows none = subst (AreListed entry l 0) (sym none) (listed_none entry l)

-- ---- what the rows say of the program

-- an instruction that stores to a class, and one that calls a function
stored_from : (c : Classed) (f x : ℕ) (i : Instr) → stored_class c f i ≡ Some x → (a b : ℕ) × (i ≡ instr.Store a b) × (to c f a ≡ Some x)
stored_from c f x (instr.Store a b) e = (a, b, refl, e)
stored_from c f x i e = cc

called_from : (g : ℕ) (i : Instr) → called i ≡ Some g → (to first : ℕ) × (i ≡ instr.Call to first g)
called_from g (instr.Call to first h) e = (let same : h ≡ g = cc in (to, first, ap (instr.Call to first) same))
called_from g i e = cc

-- a place of the code is in the body of its owner
in_body : (l : Lowered) (f pc : ℕ) → IsLegalLowering l → pc < length l.code → owner_of l.functions pc ≡ f → InBody l f pc
in_body l f pc kept lt e = subst (λ n. InBody l n pc) e (kept.layout.parted.owned pc lt)

body_owner : (l : Lowered) (f pc : ℕ) → InBody l f pc → owner_of l.functions pc ≡ f
body_owner l f pc b = owner_is l.functions f pc b.function b.in_table b.start b.before_end

-- the rows that are found for a program
pub record AreRows (l : Lowered) (c : Classed) (own callers : List (List ℕ)) : Type 0 where
  pub kept : IsLegalLowering l
  pub stores : AreListed (stored_class c) l (length l.code) own
  pub calls : AreListed (λ _. called) l (length l.code) callers

-- what is found by the rows may store to the class
reaches_may : (l : Lowered) (c : Classed) (own callers : List (List ℕ)) (x : ℕ) → AreRows l c own callers → (f : ℕ) → Reaches (length l.functions) callers (row own x) f → MayStore l c f x
reaches_may l c own callers x r _ (Listed f lt i) =
    let h = (r.stores x f).0 i in
    let s = stored_from c f x h.instruction h.entered in
    Itself f h.pc s.0 s.1 x (in_body l f h.pc r.kept h.before h.owner) (h.stands ∙ ap Some s.2) s.3
reaches_may l c own callers x r _ (Calling f g lt i more) =
    let h = (r.calls g f).0 i in
    let s = called_from g h.instruction h.entered in
    ByCall f h.pc g x (in_body l f h.pc r.kept h.before h.owner) (s.0, s.1, h.stands ∙ ap Some s.2) (reaches_may l c own callers x r g more)

-- what may store to the class is found by the rows
may_reaches : (l : Lowered) (c : Classed) (own callers : List (List ℕ)) → AreRows l c own callers → (f x : ℕ) → MayStore l c f x → (x < length own) × Reaches (length l.functions) callers (row own x) f
may_reaches l c own callers r _ _ (Itself f pc a b x body stands points) =
    let i : IsIn (row own x) f = (r.stores x f).1 (record { pc = pc; before = there l.code pc (instr.Store a b) stands; instruction = instr.Store a b; owner = body_owner l f pc body; stands = stands; entered = points }) in
    (row_there own x f i, Listed f (there l.functions f body.function body.in_table) i)
may_reaches l c own callers r _ _ (ByCall f pc g x body calls more) =
    let i : IsIn (row callers g) f = (r.calls g f).1 (record { pc = pc; before = there l.code pc (instr.Call calls.0 calls.1 g) calls.2; instruction = instr.Call calls.0 calls.1 g; owner = body_owner l f pc body; stands = calls.2; entered = refl }) in
    let h = may_reaches l c own callers r g x more in
    (h.0, Calling f g (there l.functions f body.function body.in_table) i h.1)

-- the lists of the classes below a number
abbrev pub AreBelow : ℕ → List (List ℕ) → List (List ℕ) → List (List ℕ) → ℕ → Type 0
AreBelow count own callers lists k = (f x : ℕ) → IsIn (row lists f) x ↔ ((x < k) × Reaches count callers (row own x) f)

pub below_none : (count : ℕ) (own callers : List (List ℕ)) → AreBelow count own callers [] 0
below_none count own callers f x = (λ h. absurd h, λ h. absurd (omega (arith, h.0)))

-- the lists after one class more
pub below_one : (count : ℕ) (own callers lists new : List (List ℕ)) (marks : List Bool) (k : ℕ) (listed : List ℕ) → listed ≡ row own k → ((f : ℕ) → IsMarked marks f ↔ Reaches count callers listed f) →
    ((f x : ℕ) → IsIn (row new f) x ↔ (IsIn (row lists f) x ⊎ (IsMarked marks f × (x ≡ k)))) → AreBelow count own callers lists k → AreBelow count own callers new (k + 1)
below_one count own callers lists new marks k listed is marked added below f x = (
  λ h. elim ((added f x).0 h) [
    | inl p ↦ (let r = (below f x).0 p in (omega (arith, r.0), r.1))
    | inr q ↦ (omega (arith, q.1), subst (λ (xs : List ℕ). Reaches count callers xs f) (is ∙ ap (row own) (sym q.1)) ((marked f).0 q.0))
  ],
  λ h. elim (cases_lt x k) [
    | inl less ↦ (added f x).1 (inl ((below f x).1 (less, h.1)))
    | inr past ↦
        let here : x ≡ k = omega (arith, h.0) in
        (added f x).1 (inr ((marked f).1 (subst (λ (xs : List ℕ). Reaches count callers xs f) (ap (row own) here ∙ sym is) h.1), here))
  ],
)

-- so the lists of all classes tell what may be stored
pub tells : (l : Lowered) (c : Classed) (own callers lists : List (List ℕ)) (k : ℕ) → AreRows l c own callers → length own ≤ k → AreBelow (length l.functions) own callers lists k → TellsStores l c (stores lists)
tells l c own callers lists k r all below f x = (
  λ h. reaches_may l c own callers x r f ((below f x).0 (in_from_test (row lists f) x h)).1,
  λ m. (let h = may_reaches l c own callers r f x m in in_to_test (row lists f) x ((below f x).1 (omega (arith, h.0), h.1))),
)

-- an instruction that is read
pub instr_read : (code now : List Instr) (pc : ℕ) (d : Instr) → now ≡ code → pc < length now → slice_get code pc ≡ Some (get_or now pc d)
instr_read code now pc d e lt = ap (λ (is : List Instr). slice_get is pc) (sym e) ∙ slice_get-get_or now pc d lt
