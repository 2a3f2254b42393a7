-- Straight chains: drafts made again of steps, and where places are joined first.
use Rattle.std.proofs.Common.{◌≡◌, ℕ, zero, suc, ◌+◌, ◌-◌, ◌<◌, ◌≤◌, inl, inr, List, [], ◌∷◌, ◌++◌, length, take, Some, get_or, slice_get, refl, sym, ap, ◌∙◌, subst, arith}
use Rattle.std.proofs.lemmas.List.{get_or-take, length-take, take_all, take_more}
use Rattle.std.proofs.lemmas.Option.{slice_get-get_or, slice_get_within, get_or_from_slice_get}
use Rattle.asl_code.specs.declared.instr.Instr.{Instr}
use Rattle.asl_code.specs.declared.instr.Instr.TheVariants as instr
use Rattle.asl_lower.specs.Lowered.{Lowered}
use Rattle.asl_points_to.specs.Classes.{Classed, IsLegal, Share}
use Rattle.asl_class_reasons.specs.declared.place.Place.{Place}
use Rattle.asl_class_reasons.specs.declared.place.Place.TheVariants as place
use Rattle.asl_class_reasons.specs.declared.place.Cause.{Cause}
use Rattle.asl_class_reasons.specs.declared.place.Cause.TheVariants as cause
use Rattle.asl_class_reasons.specs.declared.place.Step.{Step}
use Rattle.asl_class_reasons.specs.declared.straight.StraightChain.{StraightChain}
use Rattle.asl_class_reasons.specs.Reasons.{Joined, IsMember, IsOwed, IsDue, IsReasoned, AreReasons, AreReasonedBy, IsStraight}
use Rattle.asl_class_reasons.specs.declared.draft.Draft.{Draft}
use Rattle.asl_class_reasons.specs.Draft.{Has, IsThere}
use Rattle.asl_class_reasons.specs.Chains.{AreStepsThere}
use Rattle.asl_class_reasons.proofs.Linking.{Extends, joined_within, slice_get_last}
use Rattle.asl_class_reasons.proofs.Sound.{AllMeet, all_meet, step_meets, chain_meets, has_class, take_at}

-- an element of the first of a list is one of the list; and those before it are
pub reasons_taken : (l : Lowered) (es : List Step) (k : ℕ) → AreReasons l es → AreReasons l (take k es)
reasons_taken l es k r n s e =
    let at = take_at es k n s e in
    subst (λ (xs : List Step). IsReasoned l xs s) (sym (taken_twice es n k (let lt = at.0 in omega arith))) (r n s at.1)
  where
    taken_twice : (xs : List Step) (n k : ℕ) → n ≤ k → take n (take k xs) ≡ take n xs
    taken_twice xs zero k le = refl
    taken_twice xs (suc n) zero le = absurd (omega arith)
    taken_twice [] (suc n) (suc k) le = refl
    taken_twice (x ∷ xs) (suc n) (suc k) le = ap (λ (ys : List Step). x ∷ ys) (taken_twice xs n k (omega arith))

-- the first step, and so on
pub step_there : (m f : ℕ) (es : List Step) (n : ℕ) (d : Step) → AreStepsThere m f es → n < length es → Has m f (get_or es n d).from × Has m f (get_or es n d).into
step_there m f es n d h lt = h n (get_or es n d) (slice_get-get_or es n d lt)

pub step_reasoned : (l : Lowered) (es : List Step) (n : ℕ) (d : Step) → AreReasons l es → n < length es → IsReasoned l (take n es) (get_or es n d)
step_reasoned l es n d r lt = r n (get_or es n d) (slice_get-get_or es n d lt)

pub steps_more : (xs old new : List Step) (n : ℕ) (d x : Step) → n < length xs → x ≡ get_or xs n d → old ≡ take n xs → new ≡ old ++ x ∷ [] → new ≡ take (n + 1) xs
steps_more xs old new n d x lt is was grows =
    grows ∙ ap (λ (ys : List Step). ys ++ x ∷ []) was ∙ ap (λ (y : Step). take n xs ++ y ∷ []) is ∙ sym (take_more xs n d lt)

pub reasoned_at : (p : Lowered) (xs old : List Step) (n : ℕ) (d x : Step) → n < length xs → x ≡ get_or xs n d → old ≡ take n xs → AreReasons p xs → IsReasoned p old x
reasoned_at p xs old n d x lt is was r =
    subst (λ (ys : List Step). IsReasoned p ys x) (sym was) (subst (λ (y : Step). IsReasoned p (take n xs) y) (sym is) (step_reasoned p xs n d r lt))

pub there_at : (s : Draft) (m f : ℕ) (xs : List Step) (n : ℕ) (d : Step) → s.members ≡ m → s.functions ≡ f → AreStepsThere m f xs → n < length xs → IsThere s (get_or xs n d).from × IsThere s (get_or xs n d).into
there_at s m f xs n d em ef h lt =
    let x : Step = get_or xs n d in
    let both = step_there m f xs n d h lt in
    (there_in s m f x.from em ef both.0, there_in s m f x.into em ef both.1)
  where
    there_in : (s : Draft) (m f : ℕ) (p : Place) → s.members ≡ m → s.functions ≡ f → Has m f p → IsThere s p
    there_in s m f p em ef h = subst (λ (x : ℕ). Has s.members x p) (sym ef) (subst (λ (x : ℕ). Has x f p) (sym em) h)

-- more steps reason what fewer do
pub extends_taken : (es : List Step) (n k : ℕ) → n ≤ k → Extends (take n es) (take k es)
extends_taken es n k le = record {
  steps = λ i s e. (
      let at = take_at es n i s e in
      let low = at.0 in
      let within = slice_get_within es i s at.1 in
      let len = length-take k es in
      let there : i < length (take k es) = omega arith in
      slice_get-get_or (take k es) i s there ∙ ap Some (get_or-take k es i s (omega arith) ∙ get_or_from_slice_get es i s s at.1));
}

-- no steps join no two places
pub none_join : (es : List Step) (a b : Place) → (a ≡ b → ⊥) → Joined (take 0 es) a b → ⊥
none_join es a b ne ([], e) = ne e
none_join es a b ne (k ∷ ks, c) = no_step k.step c.0 c.1
  where
    no_step : (n : ℕ) (s : Step) → slice_get (take 0 es) n ≡ Some s → ⊥
    no_step n s e = let lt = slice_get_within (take 0 es) n s e in let len = length-take 0 es in omega arith

-- so some steps are there where two are joined
pub some_join : (es : List Step) (n : ℕ) (a b : Place) → (a ≡ b → ⊥) → Joined (take n es) a b → 0 < n
some_join es zero a b ne j = absurd (none_join es a b ne j)
some_join es (suc n) a b ne j = omega arith

-- all steps are the first so many
pub all_join : (es : List Step) (n : ℕ) (a b : Place) → n ≡ length es → Joined es a b → Joined (take n es) a b
all_join es n a b is j = subst (λ (xs : List Step). Joined xs a b) (sym (take_all n es (omega arith))) j

owed_within : (l : Lowered) (es fs : List Step) → Extends es fs → (f : ℕ) (i : Instr) (a b : Place) → IsOwed l es f i a b → IsOwed l fs f i a b
owed_within l es fs x f (instr.Move u v) a b o = o
owed_within l es fs x f (instr.FieldAddress u v n) a b o = o
owed_within l es fs x f (instr.GlobalAddress u g) a b o = o
owed_within l es fs x f (instr.New u n s) a b o = o
owed_within l es fs x f (instr.Load u v) a b o = (o.0, o.1, o.2, (o.3.0, joined_within es fs x (place.Register f v) (place.Member o.0) o.3.1))
owed_within l es fs x f (instr.Store u v) a b o = (o.0, o.1, o.2, (o.3.0, joined_within es fs x (place.Register f u) (place.Member o.0) o.3.1))
owed_within l es fs x f (instr.Call u first g) a b o = o
owed_within l es fs x f i a b o = absurd o

due_within : (l : Lowered) (es fs : List Step) → Extends es fs → (why : Cause) (a b : Place) → IsDue l es why a b → IsDue l fs why a b
due_within l es fs x (cause.Instruction pc) a b d = (d.0, d.1, d.2, d.3, owed_within l es fs x d.0 d.1 a b d.4)
due_within l es fs x cause.SameClass a b d = (d.0, d.1, d.2, d.3, d.4, d.5, joined_within es fs x (place.Member d.0) (place.Member d.1) d.6)

pub reasoned_within : (l : Lowered) (es fs : List Step) (s : Step) → Extends es fs → IsReasoned l es s → IsReasoned l fs s
reasoned_within l es fs s x r = record {
  filled = (r.filled.0, r.filled.1, joined_within es fs x s.from (place.Member r.filled.0) r.filled.2);
  due = due_within l es fs x s.cause s.from s.into r.due;
}

-- each of the first steps is reasoned by all of them but the last
pub firsts_reasoned : (l : Lowered) (es : List Step) (k : ℕ) → AreReasons l es → AreReasonedBy l (take (k - 1) es) (take k es)
firsts_reasoned l es k r = λ n s e. (
    let at = take_at es k n s e in
    let low = at.0 in
    reasoned_within l (take n es) (take (k - 1) es) s (extends_taken es n (k - 1) (omega arith)) (r n s at.1))

-- one step more that is reasoned
pub one_reasoned : (l : Lowered) (es more : List Step) (s : Step) → AreReasonedBy l es more → IsReasoned l es s → AreReasonedBy l es (more ++ s ∷ [])
one_reasoned l es more s h r = λ n t e. elim (slice_get_last more s n t e) [
  | inl old ↦ h n t old
  | inr new ↦ subst (λ (x : Step). IsReasoned l es x) (sym new.1) r
]

pub one_more_there : (m f : ℕ) (more : List Step) (s : Step) → AreStepsThere m f more → Has m f s.from × Has m f s.into → AreStepsThere m f (more ++ s ∷ [])
one_more_there m f more s h r = λ n t e. elim (slice_get_last more s n t e) [
  | inl old ↦ h n t old
  | inr new ↦ subst (λ (x : Step). Has m f x.from × Has m f x.into) (sym new.1) r
]

-- a straight chain puts its ends together in all legal classes
pub straight_shares : (l : Lowered) (es : List Step) → AreReasons l es → (m n : ℕ) → IsMember l m → (c : StraightChain) → IsStraight l es (place.Member m) (place.Member n) c → (d : Classed) → IsLegal l d → Share d m n
straight_shares l es r m n low c t d h =
    let x = has_class l d h m low in
    let all : AllMeet d c.steps.items = λ i s e. step_meets l (take c.before es) d h (all_meet l (take c.before es) d (reasons_taken l es c.before r) h) s (t.reasoned i s e) in
    (x.0, x.1, sym (chain_meets d c.steps.items all c.links.items (place.Member m) (place.Member n) t.chain) ∙ x.1)
