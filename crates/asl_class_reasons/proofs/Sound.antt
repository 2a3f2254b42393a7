-- Reasons are sound: where a chain of them leads from one place to another, both point to one class in all legal classes. And
-- where a draft is settled, members that share a class are joined.
use Rattle.std.proofs.Common.{◌≡◌, ℕ, zero, suc, ◌+◌, ◌-◌, ◌<◌, inl, inr, List, [], ◌∷◌, ◌++◌, length, take, Option, Some, get_or, slice_get, sym, ap, ◌∙◌, arith, length-append}
use Rattle.std.specs.Prelude.{option_and_then}
use Rattle.std.proofs.lemmas.List.{get_or_append_left, get_or-append_right, get_or-take, length-take}
use Rattle.std.proofs.lemmas.Option.{slice_get-get_or, slice_get_within, get_or_from_slice_get}
use Rattle.asl_code.specs.declared.instr.Instr.{Instr}
use Rattle.asl_code.specs.declared.instr.Instr.TheVariants as instr
use Rattle.asl_lower.specs.Lowered.{Lowered}
use Rattle.asl_points_to.specs.Classes.{Classed, inside, members, Share, IsLegal, IsLegalAt, AreClasses}
use Rattle.asl_class_reasons.specs.declared.place.Place.{Place}
use Rattle.asl_class_reasons.specs.declared.place.Place.TheVariants as place
use Rattle.asl_class_reasons.specs.declared.place.Cause.{Cause}
use Rattle.asl_class_reasons.specs.declared.place.Cause.TheVariants as cause
use Rattle.asl_class_reasons.specs.declared.place.Step.{Step}
use Rattle.asl_class_reasons.specs.declared.place.Link.{Link}
use Rattle.asl_class_reasons.specs.declared.draft.Draft.{Draft}
use Rattle.asl_class_reasons.specs.Reasons.{points, Leads, IsChain, Joined, IsMember, IsOwed, IsDue, IsReasoned, AreReasons}
use Rattle.asl_class_reasons.specs.Draft.{IsSettled, label, drafted}
use Rattle.asl_class_reasons.proofs.Drafted.{member_at}

-- both places of the step point to one class
abbrev pub Meets : Classed → Step → Type 0
Meets d s = (x : ℕ) × (points d s.from ≡ Some x) × (points d s.into ≡ Some x)

abbrev pub AllMeet : Classed → List Step → Type 0
AllMeet d es = (n : ℕ) (s : Step) → slice_get es n ≡ Some s → Meets d s

leads_meet : (d : Classed) (s : Step) (a b : Place) → Meets d s → Leads s a b → points d a ≡ points d b
leads_meet d s a b m h = elim h [
  | inl p ↦ sym (ap (points d) p.0) ∙ m.1 ∙ sym m.2 ∙ ap (points d) p.1
  | inr p ↦ sym (ap (points d) p.0) ∙ m.2 ∙ sym m.1 ∙ ap (points d) p.1
]

pub chain_meets : (d : Classed) (es : List Step) → AllMeet d es → (ks : List Link) (a b : Place) → IsChain es a ks b → points d a ≡ points d b
chain_meets d es all [] a b e = ap (points d) e
chain_meets d es all (k ∷ ks) a b h = leads_meet d h.0 a k.into (all k.step h.0 h.1) h.2 ∙ chain_meets d es all ks k.into b h.3

joined_meet : (d : Classed) (es : List Step) → AllMeet d es → (a b : Place) → Joined es a b → points d a ≡ points d b
joined_meet d es all a b j = chain_meets d es all j.0 a b j.1

-- each member has a class
pub has_class : (l : Lowered) (d : Classed) → IsLegal l d → (m : ℕ) → IsMember l m → (x : ℕ) × (slice_get (members d) m ≡ Some x)
has_class l d h m low = (get_or (members d) m 0, slice_get-get_or (members d) m 0 (omega (arith, length-append d.globals d.sites, h.globals, h.sites)))

front : (xs ys : List ℕ) (n x : ℕ) → n < length xs → slice_get (xs ++ ys) n ≡ Some x → slice_get xs n ≡ Some x
front xs ys n x lt e =
    slice_get-get_or xs n 0 lt ∙ ap Some (sym (get_or_append_left xs ys 0 n lt) ∙ get_or_from_slice_get (xs ++ ys) n x 0 e)

tail : (xs ys : List ℕ) (k n x : ℕ) → length xs ≡ k → slice_get (xs ++ ys) (k + n) ≡ Some x → slice_get ys n ≡ Some x
tail xs ys k n x len e =
    let lt = slice_get_within (xs ++ ys) (k + n) x e in
    let at : (k + n) - k ≡ n = omega arith in
    slice_get-get_or ys n 0 (omega (arith, length-append xs ys))
    ∙ ap Some (sym (get_or-append_right xs ys k (k + n) 0 len (omega arith) ∙ ap (λ (j : ℕ). get_or ys j 0) at) ∙ get_or_from_slice_get (xs ++ ys) (k + n) x 0 e)

-- an instance of a condition: where the first place points, the other points in all legal classes
owed_meets : (l : Lowered) (es : List Step) (d : Classed) → IsLegal l d → AllMeet d es → (f : ℕ) (i : Instr) (a b : Place) (x : ℕ) → IsLegalAt l d f i → IsOwed l es f i a b → points d a ≡ Some x → points d b ≡ Some x
owed_meets l es d h all f (instr.Move u v) a b x k o e = ap (points d) o.1 ∙ k x (sym (ap (points d) o.0) ∙ e)
owed_meets l es d h all f (instr.FieldAddress u v n) a b x k o e = ap (points d) o.1 ∙ k x (sym (ap (points d) o.0) ∙ e)
owed_meets l es d h all f (instr.GlobalAddress u g) a b x k o e =
    let lt = o.1 in
    ap (points d) o.2 ∙ k x (front d.globals d.sites g x (omega (arith, h.globals)) (sym (ap (points d) o.0) ∙ e))
owed_meets l es d h all f (instr.New u n s) a b x k o e =
    ap (points d) o.2 ∙ k x (tail d.globals d.sites l.globals s x h.globals (sym (ap (points d) o.0) ∙ e))
owed_meets l es d h all f (instr.Load u v) a b x k o e =
    let m = has_class l d h o.0 o.3.0 in
    let in_x : inside d m.0 ≡ Some x = sym (ap (λ (y : Option ℕ). option_and_then (inside d) y) m.1) ∙ sym (ap (points d) o.1) ∙ e in
    ap (points d) o.2 ∙ k m.0 x (joined_meet d es all (place.Register f v) (place.Member o.0) o.3.1 ∙ m.1) in_x
owed_meets l es d h all f (instr.Store u v) a b x k o e =
    let m = has_class l d h o.0 o.3.0 in
    ap (points d) o.2 ∙ ap (λ (y : Option ℕ). option_and_then (inside d) y) m.1
    ∙ k m.0 x (joined_meet d es all (place.Register f u) (place.Member o.0) o.3.1 ∙ m.1) (sym (ap (points d) o.1) ∙ e)
owed_meets l es d h all f (instr.Call u first g) a b x k o e = elim o [
  | inl p ↦ ap (points d) p.5 ∙ k.passed p.0 p.1 p.2 p.3 x (sym (ap (points d) p.4) ∙ e)
  | inr r ↦ ap (points d) r.5 ∙ k.returned r.0 r.1 r.2 r.3 x (sym (ap (points d) r.4) ∙ e)
]
owed_meets l es d h all f i a b x k o e = absurd o

due_meets : (l : Lowered) (es : List Step) (d : Classed) → IsLegal l d → AllMeet d es → (why : Cause) (a b : Place) (x : ℕ) → IsDue l es why a b → points d a ≡ Some x → points d b ≡ Some x
due_meets l es d h all (cause.Instruction pc) a b x o e = owed_meets l es d h all o.0 o.1 a b x (h.instrs o.0 pc o.1 o.2 o.3) o.4 e
due_meets l es d h all cause.SameClass a b x o e =
    let same = joined_meet d es all (place.Member o.0) (place.Member o.1) o.6 in
    ap (points d) o.3 ∙ sym (ap (λ (y : Option ℕ). option_and_then (inside d) y) same) ∙ sym (ap (points d) o.2) ∙ e

pub step_meets : (l : Lowered) (es : List Step) (d : Classed) → IsLegal l d → AllMeet d es → (s : Step) → IsReasoned l es s → Meets d s
step_meets l es d h all s r =
    let m = has_class l d h r.filled.0 r.filled.1 in
    let from : points d s.from ≡ Some m.0 = joined_meet d es all s.from (place.Member r.filled.0) r.filled.2 ∙ m.1 in
    (m.0, from, due_meets l es d h all s.cause s.from s.into m.0 r.due from)

-- an element of the first of a list
pub take_at : {X : Type 0} (es : List X) (n k : ℕ) (t : X) → slice_get (take n es) k ≡ Some t → (k < n) × (slice_get es k ≡ Some t)
take_at es n k t e =
    let lt = slice_get_within (take n es) k t e in
    let len = length-take n es in
    let low : k < n = omega arith in
    let high : k < length es = omega arith in
    (low, slice_get-get_or es k t high ∙ ap Some (sym (get_or-take n es k t low) ∙ get_or_from_slice_get (take n es) k t t e))

meets_below : (l : Lowered) (es : List Step) (d : Classed) → AreReasons l es → IsLegal l d → (bound n : ℕ) (s : Step) → n < bound → slice_get es n ≡ Some s → Meets d s
meets_below l es d r h zero n s lt e = absurd (omega arith)
meets_below l es d r h (suc bound) n s lt e =
    step_meets l (take n es) d h (λ k t at. (
    let p = take_at es n k t at in
    let low : k < bound = (let q = p.0 in omega arith) in
    meets_below l es d r h bound k t low p.1)) s (r n s e)

pub all_meet : (l : Lowered) (es : List Step) (d : Classed) → AreReasons l es → IsLegal l d → AllMeet d es
all_meet l es d r h = λ n s e. meets_below l es d r h (suc n) n s (omega arith) e

-- a chain of reasons from one member to another: they share a class in all legal classes
pub chain_shares : (l : Lowered) (es : List Step) (d : Classed) → AreReasons l es → IsLegal l d → (m n : ℕ) → IsMember l m → Joined es (place.Member m) (place.Member n) → Share d m n
chain_shares l es d r h m n low j =
    let x = has_class l d h m low in
    (x.0, x.1, sym (joined_meet d es (all_meet l es d r h) (place.Member m) (place.Member n) j) ∙ x.1)

-- members that share a class have a chain
pub settled_joined : (l : Lowered) (s : Draft) → IsSettled l s → (c : Classed) → AreClasses l c → (m n : ℕ) → Share c m n → Joined s.steps.items (place.Member m) (place.Member n)
settled_joined l s h c k m n share =
    let g = k.least.least (drafted l s) h.legal in
    let len : length (members c) ≡ s.members = omega (arith, length-append c.globals c.sites, k.least.legal.globals, k.least.legal.sites, h.founded.members) in
    let lm : m < s.members = omega (arith, slice_get_within (members c) m share.0 share.1) in
    let ln : n < s.members = omega (arith, slice_get_within (members c) n share.0 share.2) in
    let em : Some (label s (place.Member m)) ≡ Some (g.into share.0) = sym (member_at l s h.sized h.founded m lm) ∙ g.members_go m share.0 share.1 in
    let en : Some (label s (place.Member n)) ≡ Some (g.into share.0) = sym (member_at l s h.sized h.founded n ln) ∙ g.members_go n share.0 share.2 in
    h.founded.joined (place.Member m) (place.Member n) lm ln (let e : label s (place.Member m) ≡ label s (place.Member n) = cc in e)
