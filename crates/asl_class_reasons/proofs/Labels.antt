-- The labels of places, and what they are after a step.
use Rattle.std.proofs.Common.{◌≡◌, ◌≢◌, ℕ, ◌+◌, ◌*◌, ◌<◌, ◌≤◌, ◌⊎◌, inl, inr, List, [], ◌∷◌, ◌++◌, length, map, sum, take, min, max, get_or, slice_get, None, Some, zero, suc, eqb, refl, sym, ap, ◌∙◌, subst, arith}
use Rattle.std.specs.Prelude.{slice_index}
use Rattle.std.proofs.lemmas.Bool.{cases_eq, cond-true, cond-false, eq-eqb, ne_eqb}
use Rattle.std.proofs.lemmas.List.{get_or-map, length-map}
use Rattle.std.proofs.lemmas.List.Sums.{sum_by-cons}
use Rattle.asl_lower.specs.Lowered.{Lowered}
use Rattle.asl_points_to.specs.Sets.{joined}
use Rattle.asl_class_reasons.specs.declared.place.Place.{Place}
use Rattle.asl_class_reasons.specs.declared.place.Place.TheVariants as place
use Rattle.asl_class_reasons.specs.declared.place.Step.{Step}
use Rattle.asl_class_reasons.specs.declared.flow.Flow.{Flow}
use Rattle.asl_class_reasons.specs.declared.flow.Flow.TheVariants as flow
use Rattle.asl_class_reasons.specs.declared.draft.Draft.{Draft}
use Rattle.asl_class_reasons.specs.Reasons.{Joined, IsReasoned}
use Rattle.asl_class_reasons.specs.Draft.{number, Has, IsThere, IsThereFlow, IsSized, IsFounded, IsGrown, label}
use Rattle.asl_class_reasons.proofs.Linking.{extends_more, joined_within, joined_self, joined_on, joined_back, joined_last, reasons_more, slice_get_last}

pub joined_gone : (k g x : ℕ) → x ≡ g → joined k g x ≡ k
joined_gone k g x e = cond-true (eqb x g) k x (eq-eqb x g e)

pub joined_other : (k g x : ℕ) → x ≢ g → joined k g x ≡ x
joined_other k g x ne = cond-false (eqb x g) k x (ne_eqb x g ne)

-- labels that are one after a step were one, or are those that the step joins
pub joined_cases : (k g x y : ℕ) → joined k g x ≡ joined k g y → (x ≡ y) ⊎ (((x ≡ k) × (y ≡ g)) ⊎ ((x ≡ g) × (y ≡ k)))
joined_cases k g x y e = elim (cases_eq x g) [
  | inl p ↦ elim (cases_eq y g) [
    | inl q ↦ inl (p ∙ sym q)
    | inr q ↦ inr (inr (p, sym (sym (joined_gone k g x p) ∙ e ∙ joined_other k g y q)))
  ]
  | inr p ↦ elim (cases_eq y g) [
    | inl q ↦ inr (inl (sym (joined_other k g x p) ∙ e ∙ joined_gone k g y q, q))
    | inr q ↦ inl (sym (joined_other k g x p) ∙ e ∙ joined_other k g y q)
  ]
]

joined_low : (k g x : ℕ) → k ≤ g → joined k g x ≤ x
joined_low k g x le = elim (cases_eq x g) [
  | inl p ↦ (let e = joined_gone k g x p in omega arith)
  | inr p ↦ (let e = joined_other k g x p in omega arith)
]

pub sum_low : (k g : ℕ) → k ≤ g → (xs : List ℕ) → sum (map (joined k g) xs) ≤ sum xs
sum_low k g le [] = omega arith
sum_low k g le (x ∷ xs) =
    let head = joined_low k g x le in
    let tail = sum_low k g le xs in
    omega (arith, sum_by-cons (λ (n : ℕ). n) x xs, sum_by-cons (λ (n : ℕ). n) (joined k g x) (map (joined k g) xs))

pub sum_less : (k g : ℕ) → k < g → (xs : List ℕ) (i : ℕ) → i < length xs → get_or xs i 0 ≡ g → sum (map (joined k g) xs) < sum xs
sum_less k g lt [] i low e = absurd (omega arith)
sum_less k g lt (x ∷ xs) zero low e =
    let head = joined_gone k g x e in
    let same : x ≡ g = e in
    let tail = sum_low k g (omega arith) xs in
    omega (arith, sum_by-cons (λ (n : ℕ). n) x xs, sum_by-cons (λ (n : ℕ). n) (joined k g x) (map (joined k g) xs))
sum_less k g lt (x ∷ xs) (suc i) low e =
    let head = joined_low k g x (omega arith) in
    let tail = sum_less k g lt xs i (omega arith) e in
    omega (arith, sum_by-cons (λ (n : ℕ). n) x xs, sum_by-cons (λ (n : ℕ). n) (joined k g x) (map (joined k g) xs))

-- each place has its entry
pub number_low : (s : Draft) → IsSized s → (p : Place) → IsThere s p → number s.members p < length s.sets
number_low s z (place.Member m) h = omega (arith, z.size)
number_low s z (place.Cells m) h = omega (arith, z.size)
number_low s z (place.Register f r) h = omega (arith, z.size, h.0, h.1)

-- a draft, and the draft after a step that joins the labels of its places
pub record IsStep (old new : Draft) (s : Step) (k g : ℕ) : Type 0 where
  pub members : new.members ≡ old.members
  pub functions : new.functions ≡ old.functions
  pub steps : new.steps.items ≡ old.steps.items ++ s ∷ []
  pub sets : new.sets ≡ map (joined k g) old.sets
  pub less : k < g
  pub ends : ((label old s.from ≡ k) × (label old s.into ≡ g)) ⊎ ((label old s.from ≡ g) × (label old s.into ≡ k))
  pub from_there : IsThere old s.from
  pub into_there : IsThere old s.into

pub there_before : (old new : Draft) → new.members ≡ old.members → new.functions ≡ old.functions → (p : Place) → IsThere new p → IsThere old p
there_before old new m f p h = subst (λ x. Has old.members x p) f (subst (λ x. Has x new.functions p) m h)

pub there_after : (old new : Draft) → new.members ≡ old.members → new.functions ≡ old.functions → (p : Place) → IsThere old p → IsThere new p
there_after old new m f p h = subst (λ x. Has new.members x p) (sym f) (subst (λ x. Has x old.functions p) (sym m) h)

pub label_after : (old new : Draft) (s : Step) (k g : ℕ) → IsSized old → IsStep old new s k g → (p : Place) → IsThere old p → label new p ≡ joined k g (label old p)
label_after old new s k g z h p there =
    ap (λ m. get_or new.sets (number m p) 0) h.members
    ∙ ap (λ (xs : List ℕ). get_or xs (number old.members p) 0) h.sets
    ∙ get_or-map (joined k g) old.sets (number old.members p) 0 0 (number_low old z p there)

step_joins : (l : Lowered) (old new : Draft) (s : Step) (k g : ℕ) → IsSized old → IsFounded l old → IsStep old new s k g → (p q : Place) → IsThere old p → IsThere old q → label new p ≡ label new q → Joined (old.steps.items ++ s ∷ []) p q
step_joins l old new s k g z f h p q tp tq e =
    let es : List Step = old.steps.items in
    let fs : List Step = es ++ s ∷ [] in
    let was : (a b : Place) → IsThere old a → IsThere old b → label old a ≡ label old b → Joined fs a b = λ a b ta tb ab. joined_within es fs (extends_more es s) a b (f.joined a b ta tb ab) in
    let on : Joined fs s.from s.into = joined_last es s in
    let forth : (a b : Place) → IsThere old a → IsThere old b → label old a ≡ label old s.from → label old b ≡ label old s.into → Joined fs a b = λ a b ta tb ea eb. joined_on fs a s.from b (was a s.from ta h.from_there ea) (joined_on fs s.from s.into b on (was s.into b h.into_there tb (sym eb))) in
    let one = sym (label_after old new s k g z h p tp) ∙ e ∙ label_after old new s k g z h q tq in
    elim (joined_cases k g (label old p) (label old q) one) [
      | inl same ↦ was p q tp tq same
      | inr apart ↦ elim apart [
        | inl kg ↦ elim h.ends [
          | inl x ↦ forth p q tp tq (kg.0 ∙ sym x.0) (kg.1 ∙ sym x.1)
          | inr x ↦ joined_back fs q p (forth q p tq tp (kg.1 ∙ sym x.0) (kg.0 ∙ sym x.1))
        ]
        | inr gk ↦ elim h.ends [
          | inl x ↦ joined_back fs q p (forth q p tq tp (gk.1 ∙ sym x.0) (gk.0 ∙ sym x.1))
          | inr x ↦ forth p q tp tq (gk.0 ∙ sym x.0) (gk.1 ∙ sym x.1)
        ]
      ]
    ]

pub founded_step : (l : Lowered) (old new : Draft) (s : Step) (k g : ℕ) → IsSized old → IsFounded l old → IsReasoned l old.steps.items s → IsStep old new s k g → IsFounded l new
founded_step l old new s k g z f r h = record {
  members = h.members ∙ f.members;
  functions = h.functions ∙ f.functions;
  reasons = (
      let More : List Step → Type 0 = λ es. (n : ℕ) (t : Step) → slice_get es n ≡ Some t → IsReasoned l (take n es) t in
      subst More (sym h.steps) (reasons_more l old.steps.items s f.reasons r));
  joined = λ p q tp tq e. (
      let a = there_before old new h.members h.functions p tp in
      let b = there_before old new h.members h.functions q tq in
      subst (λ (es : List Step). Joined es p q) (sym h.steps) (step_joins l old new s k g z f h p q a b e));
}

pub grown_step : (old new : Draft) (s : Step) (k g : ℕ) → IsSized old → IsStep old new s k g → IsGrown old new
grown_step old new s k g z h = record {
  sized = record {
    members = omega (arith, h.members, z.members);
    functions = omega (arith, h.functions, z.functions);
    steps = λ n t e. (
        let At : List Step → Type 0 = λ es. slice_get es n ≡ Some t in
        elim (slice_get_last old.steps.items s n t (subst At h.steps e)) [
          | inl was ↦ (let x = z.steps n t was in (there_after old new h.members h.functions t.from x.0, there_after old new h.members h.functions t.into x.1))
          | inr is ↦ (
              let Both : Step → Type 0 = λ x. IsThere new x.from × IsThere new x.into in
              subst Both (sym is.1) (there_after old new h.members h.functions s.from h.from_there, there_after old new h.members h.functions s.into h.into_there))
        ]);
    size = ap length h.sets ∙ length-map old.sets (joined k g) ∙ z.size ∙ ap (λ m. m + m + old.functions * 256) (sym h.members) ∙ ap (λ f. new.members + new.members + f * 256) (sym h.functions);
  };
  members = h.members;
  functions = h.functions;
  lower = omega (arith, ap sum h.sets, sum_low k g (omega (arith, h.less)) old.sets);
}

-- which is kept, and which is gone
pub ends_are : (a b k g : ℕ) → k ≡ min a b → g ≡ max a b → ((a ≡ k) × (b ≡ g)) ⊎ ((a ≡ g) × (b ≡ k))
ends_are a b k g x y = elim (cases_eq a k) [
  | inl e ↦ inl (e, omega arith)
  | inr ne ↦ inr (omega arith, omega arith)
]

-- the step that `join` makes
pub step_made : (old new : Draft) (s : Step) (na nb a b k g : ℕ) (sa sb : List ℕ) → new.members ≡ old.members → new.functions ≡ old.functions → new.steps.items ≡ old.steps.items ++ s ∷ [] → na ≡ number old.members s.from → a ≡ slice_index old.sets na → sa ≡ old.sets → nb ≡ number old.members s.into → b ≡ slice_index sa nb → sb ≡ sa → a ≢ b → k ≡ min a b → g ≡ max a b → new.sets ≡ map (joined k g) sb → IsThere old s.from × IsThere old s.into → IsStep old new s k g
step_made old new s na nb a b k g sa sb m f steps ena ea esa enb eb esb ne ek eg sets there =
    let la : label old s.from ≡ a = sym (ea ∙ ap (slice_index old.sets) ena) in
    let lb : label old s.into ≡ b = sym (eb ∙ ap (λ (xs : List ℕ). slice_index xs nb) esa ∙ ap (slice_index old.sets) enb) in
    record {
      members = m;
      functions = f;
      steps = steps;
      sets = sets ∙ ap (map (joined k g)) (esb ∙ esa);
      less = omega arith;
      ends = elim (ends_are a b k g ek eg) [
        | inl x ↦ inl (la ∙ x.0, lb ∙ x.1)
        | inr x ↦ inr (la ∙ x.0, lb ∙ x.1)
      ];
      from_there = there.0;
      into_there = there.1;
    }

-- it makes the sum of all labels less
pub step_lower : (old new : Draft) (s : Step) (k g : ℕ) → IsSized old → IsStep old new s k g → sum new.sets < sum old.sets
step_lower old new s k g z h =
    let low : (p : Place) → IsThere old p → label old p ≡ g → sum (map (joined k g) old.sets) < sum old.sets = λ p t e. sum_less k g h.less old.sets (number old.members p) (number_low old z p t) e in
    let less : sum (map (joined k g) old.sets) < sum old.sets = elim h.ends [ inl x ↦ low s.into h.into_there x.1 | inr x ↦ low s.from h.from_there x.0 ] in
    subst (λ (n : ℕ). n < sum old.sets) (sym (ap sum h.sets)) less

-- drafts after one another
pub grown_self : (s : Draft) → IsSized s → IsGrown s s
grown_self s z = record { sized = z; members = refl; functions = refl; lower = omega arith }

pub grown_on : (a b c : Draft) → IsGrown a b → IsGrown b c → IsGrown a c
grown_on a b c x y = record {
  sized = y.sized;
  members = y.members ∙ x.members;
  functions = y.functions ∙ x.functions;
  lower = omega (arith, x.lower, y.lower);
}

pub flow_after : (old new : Draft) → IsGrown old new → (w : Flow) → IsThereFlow old w → IsThereFlow new w
flow_after old new g (flow.Copy a b) h = (there_after old new g.members g.functions a h.0, there_after old new g.members g.functions b h.1)
flow_after old new g (flow.Load a b) h = (there_after old new g.members g.functions a h.0, there_after old new g.members g.functions b h.1)
flow_after old new g (flow.Store a b) h = (there_after old new g.members g.functions a h.0, there_after old new g.members g.functions b h.1)

-- a draft without steps
pub founded_new : (l : Lowered) (s : Draft) → s.members ≡ l.globals + l.sites → s.functions ≡ length l.functions → s.steps.items ≡ [] → ((p q : Place) → IsThere s p → IsThere s q → label s p ≡ label s q → p ≡ q) → IsFounded l s
founded_new l s m f none own = record {
  members = m;
  functions = f;
  reasons = λ n t e. absurd (let no : None ≡ Some t = ap (λ (es : List Step). slice_get es n) (sym none) ∙ e in cc);
  joined = λ p q tp tq e. joined_self s.steps.items p q (own p q tp tq e);
}

same_register : (f g r k : ℕ) → f ≡ g → r ≡ k → place.Register f r ≡ place.Register g k
same_register f g r k x y = ap (λ n. place.Register n r) x ∙ ap (λ n. place.Register g n) y

-- each place has a number of its own
pub own_number : (members functions : ℕ) (p q : Place) → Has members functions p → Has members functions q → number members p ≡ number members q → p ≡ q
own_number m n (place.Member a) (place.Member b) h k e = ap place.Member e
own_number m n (place.Member a) (place.Cells b) h k e = absurd (omega arith)
own_number m n (place.Member a) (place.Register f r) h k e = absurd (omega arith)
own_number m n (place.Cells a) (place.Member b) h k e = absurd (omega arith)
own_number m n (place.Cells a) (place.Cells b) h k e = ap place.Cells (let x : a ≡ b = omega arith in x)
own_number m n (place.Cells a) (place.Register f r) h k e = absurd (omega arith)
own_number m n (place.Register f r) (place.Member b) h k e = absurd (omega arith)
own_number m n (place.Register f r) (place.Cells b) h k e = absurd (omega arith)
own_number m n (place.Register f r) (place.Register g s) h k e =
    let x = h.1 in
    let y = k.1 in
    same_register f g r s (omega arith) (omega arith)
