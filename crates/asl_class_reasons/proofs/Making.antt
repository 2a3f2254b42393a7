-- Drafts that functions make: the first, one with a step more between places that are joined, and one settled.
use Rattle.std.proofs.Common.{◌≡◌, ℕ, ◌+◌, ◌*◌, ◌^◌, ◌<◌, ◌≤◌, inl, inr, List, [], ◌∷◌, ◌++◌, length, sum, get_or, take, drop, None, Some, slice_get, refl, sym, ap, ◌∙◌, subst, arith, length-drop}
use Rattle.std.specs.List.{range_with_len}
use Rattle.std.proofs.lemmas.Bool.{cases_eq}
use Rattle.std.proofs.lemmas.List.{length-take-le}
use Rattle.std.proofs.lemmas.List.FromFn.{get_or-range_with_len, length-range_with_len}
use Rattle.std.proofs.lemmas.Option.{slice_get-get_or, get_or_from_slice_get}
use Rattle.asl_lower.specs.Lowered.{Lowered}
use Rattle.asl_points_to.specs.Classes.{Classed, IsLegal}
use Rattle.asl_class_reasons.specs.declared.place.Place.{Place}
use Rattle.asl_class_reasons.specs.declared.place.Place.TheVariants as place
use Rattle.asl_class_reasons.specs.declared.place.Cause.TheVariants as cause
use Rattle.asl_class_reasons.specs.declared.place.Step.{Step}
use Rattle.asl_class_reasons.specs.declared.flow.Owed.{Owed}
use Rattle.asl_class_reasons.specs.declared.draft.Draft.{Draft}
use Rattle.asl_class_reasons.specs.Reasons.{Joined, IsReasoned, AreAllReasons}
use Rattle.asl_class_reasons.specs.Draft.{number, IsThere, IsThereFlow, IsSized, IsFounded, IsGrown, IsHead, IsSettled, IsOf, AreOf, AreThere, IsOwedAll, HoldAll, Holds, label, drafted}
use Rattle.asl_class_reasons.proofs.Linking.{extends_more, joined_within, reasons_more, slice_get_last}
use Rattle.asl_class_reasons.proofs.Labels.{own_number, founded_new, number_low, there_before, there_after}
use Rattle.asl_class_reasons.proofs.Owing.{head_points, there_flow}
use Rattle.asl_class_reasons.proofs.Sound.{settled_joined}

-- a draft without steps, each place in a set of its own
pub record IsNew (members functions n : ℕ) (s : Draft) : Type 0 where
  pub few_members : members < 2 ^ 20
  pub few_functions : functions ≤ 65536
  pub members_are : s.members ≡ members
  pub functions_are : s.functions ≡ functions
  pub size : n ≡ members + members + functions * 256
  pub sets : s.sets ≡ range_with_len 0 n
  pub none : s.steps.items ≡ []

pub new_sized : (m f n : ℕ) (s : Draft) → IsNew m f n s → IsSized s
new_sized m f n s h = record {
  members = omega (arith, h.members_are, h.few_members);
  functions = omega (arith, h.functions_are, h.few_functions);
  size = ap length h.sets ∙ length-range_with_len 0 n ∙ h.size ∙ ap (λ (x : ℕ). x + x + f * 256) (sym h.members_are) ∙ ap (λ (x : ℕ). s.members + s.members + x * 256) (sym h.functions_are);
  steps = λ k t e. absurd (let no : None ≡ Some t = ap (λ (es : List Step). slice_get es k) (sym h.none) ∙ e in cc);
}

pub new_founded : (l : Lowered) (m f n : ℕ) (s : Draft) → IsNew m f n s → m ≡ l.globals + l.sites → f ≡ length l.functions → IsFounded l s
new_founded l m f n s h em ef =
    let z = new_sized m f n s h in
    let own : (p : Place) → IsThere s p → label s p ≡ number s.members p = λ p t. (
    let low : number s.members p < n = omega (arith, number_low s z p t, ap length h.sets, length-range_with_len 0 n) in
    ap (λ (xs : List ℕ). get_or xs (number s.members p) 0) h.sets ∙ get_or-range_with_len 0 n (number s.members p) 0 low ∙ omega arith) in
    founded_new l s (h.members_are ∙ em) (h.functions_are ∙ ef) h.none (λ p q tp tq e. own_number s.members s.functions p q tp tq (sym (own p tp) ∙ e ∙ own q tq))

-- a step more
pub record IsLonger (old new : Draft) (s : Step) : Type 0 where
  pub members : new.members ≡ old.members
  pub functions : new.functions ≡ old.functions
  pub sets : new.sets ≡ old.sets
  pub steps : new.steps.items ≡ old.steps.items ++ s ∷ []
  pub there : IsThere old s.from × IsThere old s.into

pub longer_sized : (old new : Draft) (s : Step) → IsSized old → IsLonger old new s → IsSized new
longer_sized old new s z h = record {
  members = omega (arith, h.members, z.members);
  functions = omega (arith, h.functions, z.functions);
  size = ap length h.sets ∙ z.size ∙ ap (λ (m : ℕ). m + m + old.functions * 256) (sym h.members) ∙ ap (λ (f : ℕ). new.members + new.members + f * 256) (sym h.functions);
  steps = λ n t e. (
      let At : List Step → Type 0 = λ es. slice_get es n ≡ Some t in
      elim (slice_get_last old.steps.items s n t (subst At h.steps e)) [
        | inl was ↦ (let x = z.steps n t was in (there_after old new h.members h.functions t.from x.0, there_after old new h.members h.functions t.into x.1))
        | inr is ↦ (
            let Both : Step → Type 0 = λ x. IsThere new x.from × IsThere new x.into in
            subst Both (sym is.1) (there_after old new h.members h.functions s.from h.there.0, there_after old new h.members h.functions s.into h.there.1))
      ]);
}

pub longer_made : (old mid new : Draft) (s : Step) → mid ≡ old → IsThere old s.from × IsThere old s.into → new.members ≡ mid.members → new.functions ≡ mid.functions → new.sets ≡ mid.sets → new.steps.items ≡ mid.steps.items ++ s ∷ [] → IsLonger old new s
longer_made old mid new s same there m f xs grows = record {
  members = m ∙ ap (λ (d : Draft). d.members) same;
  functions = f ∙ ap (λ (d : Draft). d.functions) same;
  sets = xs ∙ ap (λ (d : Draft). d.sets) same;
  steps = grows ∙ ap (λ (d : Draft). d.steps.items ++ s ∷ []) same;
  there = there;
}

pub longer_grown : (old new : Draft) (s : Step) → IsSized old → IsLonger old new s → IsGrown old new
longer_grown old new s z h = record {
  sized = longer_sized old new s z h;
  members = h.members;
  functions = h.functions;
  lower = omega (arith, ap sum h.sets);
}

pub longer_founded : (l : Lowered) (old new : Draft) (s : Step) → IsFounded l old → IsReasoned l old.steps.items s → IsLonger old new s → IsFounded l new
longer_founded l old new s f r h = record {
  members = h.members ∙ f.members;
  functions = h.functions ∙ f.functions;
  reasons = (
      let More : List Step → Type 0 = λ es. (n : ℕ) (t : Step) → slice_get es n ≡ Some t → IsReasoned l (take n es) t in
      subst More (sym h.steps) (reasons_more l old.steps.items s f.reasons r));
  joined = λ p q tp tq e. (
      let a = there_before old new h.members h.functions p tp in
      let b = there_before old new h.members h.functions q tq in
      let was : (x : Place) → label new x ≡ label old x = λ x. ap (λ (m : ℕ). get_or new.sets (number m x) 0) h.members ∙ ap (λ (xs : List ℕ). get_or xs (number old.members x) 0) h.sets in
      let one : label old p ≡ label old q = sym (was p) ∙ e ∙ was q in
      subst (λ (es : List Step). Joined es p q) (sym h.steps) (joined_within old.steps.items (old.steps.items ++ s ∷ []) (extends_more old.steps.items s) p q (f.joined p q a b one)));
}

pub same_drafted : (l : Lowered) (a b : Draft) → a.members ≡ b.members → a.functions ≡ b.functions → a.sets ≡ b.sets → drafted l a ≡ drafted l b
same_drafted l a b m f xs =
    let of : ℕ → ℕ → List ℕ → Classed = λ x y ys. drafted l (record { members = x; functions = y; sets = ys; steps = a.steps }) in
    ap (λ (x : ℕ). of x a.functions a.sets) m ∙ ap (λ (y : ℕ). of b.members y a.sets) f ∙ ap (λ (ys : List ℕ). of b.members b.functions ys) xs

pub longer_settled : (l : Lowered) (old new : Draft) (s : Step) → IsSettled l old → IsReasoned l old.steps.items s → IsLonger old new s → IsSettled l new
longer_settled l old new s k r h = record {
  sized = longer_sized old new s k.sized h;
  founded = longer_founded l old new s k.founded r h;
  legal = subst (λ (c : Classed). IsLegal l c) (sym (same_drafted l new old h.members h.functions h.sets)) k.legal;
}

-- the cells of a member and of the first member of its class
pub cells_reasoned : (l : Lowered) (s : Draft) → IsFounded l s → (m first n : ℕ) → m < s.members → IsHead s (place.Member m) first → IsHead s (place.Cells m) n → IsReasoned l s.steps.items (record { cause = cause.SameClass; from = place.Cells m; into = place.Cells first })
cells_reasoned l s f m first n low h k =
    let one = head_points l s f (place.Member m) first low h in
    let full = head_points l s f (place.Cells m) n low k in
    record {
      filled = (n, full.0, full.1);
      due = (m, first, refl, refl, omega (arith, f.members), one.0, one.1);
    }

-- what is owed has its places in each draft of the program
pub owed_there : (l : Lowered) (s : Draft) → IsFounded l s → (owed : List Owed) → AreOf l owed → AreThere s owed
owed_there l s f owed h = λ n o e. there_flow l s f o.flow (h n o e).there

-- a founded draft whose classes have all that is owed is settled
pub is_settled : (l : Lowered) (s : Draft) (owed : List Owed) → IsOwedAll l owed → IsSized s → IsFounded l s → HoldAll (drafted l s) owed → IsSettled l s
is_settled l s owed h z f held =
    let globals : length (drafted l s).globals ≡ l.globals = length-take-le l.globals s.sets (omega (arith, z.size, f.members)) in
    let len = length-drop l.globals s.sets in
    let sites : length (drafted l s).sites ≡ l.sites = length-take-le l.sites (drop l.globals s.sets) (omega (arith, z.size, f.members)) in
    record { sized = z; founded = f; legal = h.all (drafted l s) globals sites held }

pub all_reasons : (l : Lowered) (s : Draft) → IsSettled l s → AreAllReasons l s.steps.items
all_reasons l s h = record { reasons = h.founded.reasons; all = λ c k m n share. settled_joined l s h c k m n share }

-- what is owed first, second and so on
pub one_of : (l : Lowered) (owed : List Owed) → AreOf l owed → (n : ℕ) (d : Owed) → n < length owed → IsOf l (get_or owed n d)
one_of l owed h n d lt = h n (get_or owed n d) (slice_get-get_or owed n d lt)

pub one_there : (l : Lowered) (s : Draft) → IsFounded l s → (owed : List Owed) → AreOf l owed → (n : ℕ) (d : Owed) → n < length owed → IsThereFlow s (get_or owed n d).flow
one_there l s f owed h n d lt = there_flow l s f (get_or owed n d).flow (one_of l owed h n d lt).there

-- one more holds
pub one_holds : (c : Classed) (owed : List Owed) (index : ℕ) (d : Owed) → ((n : ℕ) (o : Owed) → n < index → slice_get owed n ≡ Some o → Holds c o.flow) → Holds c (get_or owed index d).flow → (n : ℕ) (o : Owed) → n < index + 1 → slice_get owed n ≡ Some o → Holds c o.flow
one_holds c owed index d below here n o lt e = elim (cases_eq n index) [
  | inl same ↦ subst (λ (x : Owed). Holds c x.flow) (get_or_from_slice_get owed index o d (ap (slice_get owed) (sym same) ∙ e)) here
  | inr ne ↦ below n o (omega arith) e
]
