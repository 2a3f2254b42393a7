-- The step that is owed in a draft, and that the classes of a draft have what is owed where it joins nothing.
use Rattle.std.proofs.Common.{◌≡◌, ℕ, Option, Some, None, refl, sym, ap, ◌∙◌, subst, arith}
use Rattle.std.specs.Prelude.{IfSome, MatchOption}
use Rattle.asl_lower.specs.Lowered.{Lowered}
use Rattle.asl_points_to.specs.Classes.{inside}
use Rattle.asl_class_reasons.specs.declared.place.Place.{Place}
use Rattle.asl_class_reasons.specs.declared.place.Place.TheVariants as place
use Rattle.asl_class_reasons.specs.declared.place.Cause.TheVariants as cause
use Rattle.asl_class_reasons.specs.declared.place.Step.{Step}
use Rattle.asl_class_reasons.specs.declared.flow.Flow.{Flow}
use Rattle.asl_class_reasons.specs.declared.flow.Flow.TheVariants as flow
use Rattle.asl_class_reasons.specs.declared.flow.Owed.{Owed}
use Rattle.asl_class_reasons.specs.declared.draft.Draft.{Draft}
use Rattle.asl_class_reasons.specs.Reasons.{IsFilled, PointsTo, IsReasoned}
use Rattle.asl_class_reasons.specs.Draft.{IsThere, IsThereFlow, IsSized, IsFounded, HasFlow, IsHead, IsOf, MakesDue, Holds, label, target, drafted}
use Rattle.asl_class_reasons.proofs.Drafted.{inside_at, plain_there, points_at, target_low}

abbrev pub step_of : ℕ → Place → Place → Step
step_of pc a b = record { cause = cause.Instruction pc; from = a; into = b }

-- what is so where there is a step, for the step
pub step_if : (r : Option Step) (t : Step) (P : Step → Type 0) (H : Type 0) → IfSome r (λ x. x ≡ t) → IfSome r (λ x. H) → (H → P t) → IfSome r P
step_if None t P H e h g = tt
step_if (Some x) t P H e h g = subst P (sym e) (g h)

pub step_all : (r : Option Step) (t : Step) (P : Step → Type 0) → IfSome r (λ x. x ≡ t) → P t → IfSome r P
step_all None t P e h = tt
step_all (Some x) t P e h = subst P (sym e) h

pub step_or : (r : Option Step) (t : Step) (P : Type 0) (Q : Step → Type 0) (H N : Type 0) → IfSome r (λ x. x ≡ t) → IfSome r (λ x. H) → (r ≡ None → N) → (N → P) → (H → Q t) → MatchOption r P Q
step_or None t P Q H N e h n g k = g (n refl)
step_or (Some x) t P Q H N e h n g k = subst Q (sym e) (k h)

pub there_flow : (l : Lowered) (s : Draft) → IsFounded l s → (w : Flow) → HasFlow l w → IsThereFlow s w
there_flow l s f (flow.Copy a b) h = (plain_there l s f a h.0, plain_there l s f b h.1)
there_flow l s f (flow.Load a b) h = (plain_there l s f a h.0, plain_there l s f b h.1)
there_flow l s f (flow.Store a b) h = (plain_there l s f a h.0, plain_there l s f b h.1)

pub head_points : (l : Lowered) (s : Draft) → IsFounded l s → (p : Place) (m : ℕ) → IsThere s p → IsHead s p m → PointsTo l s.steps.items p m
head_points l s f p m tp h = (omega (arith, f.members, h.low), f.joined p (place.Member m) tp h.low (h.first ∙ sym h.own))

head_filled : (l : Lowered) (s : Draft) → IsFounded l s → (p : Place) → IsThere s p → (h : (m : ℕ) × IsHead s p m) → IsFilled l s.steps.items p
head_filled l s f p tp h = (let k = head_points l s f p h.0 tp h.1 in (h.0, k.0, k.1))

-- the steps that are owed are reasoned
pub copy_reasoned : (l : Lowered) (s : Draft) → IsFounded l s → (o : Owed) → IsOf l o → (a b : Place) → o.flow ≡ flow.Copy a b → IsThere s a → (h : (m : ℕ) × IsHead s a m) → IsReasoned l s.steps.items (step_of o.pc a b)
copy_reasoned l s f o of a b e ta h =
    let due : MakesDue l o.pc (flow.Copy a b) = subst (λ (w : Flow). MakesDue l o.pc w) e of.due in
    record { filled = head_filled l s f a ta h; due = due s.steps.items }

pub load_reasoned : (l : Lowered) (s : Draft) → IsFounded l s → (o : Owed) → IsOf l o → (a b : Place) (m : ℕ) → o.flow ≡ flow.Load a b → IsThere s a → IsHead s a m → (h : (n : ℕ) × IsHead s (place.Cells m) n) → IsReasoned l s.steps.items (step_of o.pc (place.Cells m) b)
load_reasoned l s f o of a b m e ta k h =
    let due : MakesDue l o.pc (flow.Load a b) = subst (λ (w : Flow). MakesDue l o.pc w) e of.due in
    let there = head_points l s f a m ta k in
    record { filled = head_filled l s f (place.Cells m) k.low h; due = due s.steps.items m there.0 there.1 }

pub store_reasoned : (l : Lowered) (s : Draft) → IsFounded l s → (o : Owed) → IsOf l o → (a b : Place) (m : ℕ) → o.flow ≡ flow.Store a b → IsThere s a → IsThere s b → IsHead s a m → (h : (n : ℕ) × IsHead s b n) → IsReasoned l s.steps.items (step_of o.pc b (place.Cells m))
store_reasoned l s f o of a b m e ta tb k h =
    let due : MakesDue l o.pc (flow.Store a b) = subst (λ (w : Flow). MakesDue l o.pc w) e of.due in
    let there = head_points l s f a m ta k in
    record { filled = head_filled l s f b tb h; due = due s.steps.items m there.0 there.1 }

-- the classes have what is owed: where a place points nowhere, and where the places of the step are one
nowhere : (o : Option ℕ) (x : ℕ) → o ≡ None → o ≡ Some x → ⊥
nowhere o x n e = cc

pub copy_idle : (l : Lowered) (s : Draft) → IsSized s → IsFounded l s → (o : Owed) → IsOf l o → (a b : Place) → o.flow ≡ flow.Copy a b → target s a ≡ None → Holds (drafted l s) o.flow
copy_idle l s z f o of a b e none =
    let has : HasFlow l (flow.Copy a b) = subst (λ (w : Flow). HasFlow l w) e of.there in
    subst (λ (w : Flow). Holds (drafted l s) w) (sym e) (λ x ex. absurd (nowhere (target s a) x none (sym (points_at l s z f a has.0) ∙ ex)))

pub copy_holds : (l : Lowered) (s : Draft) → IsSized s → IsFounded l s → (o : Owed) → IsOf l o → (a b : Place) → o.flow ≡ flow.Copy a b → (h : (m : ℕ) × IsHead s a m) → label s a ≡ label s b → Holds (drafted l s) o.flow
copy_holds l s z f o of a b e h same =
    let has : HasFlow l (flow.Copy a b) = subst (λ (w : Flow). HasFlow l w) e of.there in
    subst (λ (w : Flow). Holds (drafted l s) w) (sym e) (λ x ex. (
    let is : Some h.0 ≡ Some x = sym h.1.points ∙ sym (points_at l s z f a has.0) ∙ ex in
    points_at l s z f b has.1 ∙ target_low s b h.0 h.1.low (sym same ∙ h.1.first) ∙ is))

pub address_idle : (l : Lowered) (s : Draft) → IsSized s → IsFounded l s → (o : Owed) → IsOf l o → (a b : Place) → o.flow ≡ flow.Load a b → target s a ≡ None → Holds (drafted l s) o.flow
address_idle l s z f o of a b e none =
    let has : HasFlow l (flow.Load a b) = subst (λ (w : Flow). HasFlow l w) e of.there in
    subst (λ (w : Flow). Holds (drafted l s) w) (sym e) (λ x y ex ey. absurd (nowhere (target s a) x none (sym (points_at l s z f a has.0) ∙ ex)))

pub load_idle : (l : Lowered) (s : Draft) → IsSized s → IsFounded l s → (o : Owed) → IsOf l o → (a b : Place) (m : ℕ) → o.flow ≡ flow.Load a b → IsHead s a m → target s (place.Cells m) ≡ None → Holds (drafted l s) o.flow
load_idle l s z f o of a b m e k none =
    let has : HasFlow l (flow.Load a b) = subst (λ (w : Flow). HasFlow l w) e of.there in
    subst (λ (w : Flow). Holds (drafted l s) w) (sym e) (λ x y ex ey. (
    let is : Some m ≡ Some x = sym k.points ∙ sym (points_at l s z f a has.0) ∙ ex in
    let mx : m ≡ x = cc in
    absurd (nowhere (target s (place.Cells m)) y none (sym (inside_at l s m k.low) ∙ ap (inside (drafted l s)) mx ∙ ey))))

pub load_holds : (l : Lowered) (s : Draft) → IsSized s → IsFounded l s → (o : Owed) → IsOf l o → (a b : Place) (m : ℕ) → o.flow ≡ flow.Load a b → IsHead s a m → (h : (n : ℕ) × IsHead s (place.Cells m) n) → label s (place.Cells m) ≡ label s b → Holds (drafted l s) o.flow
load_holds l s z f o of a b m e k h same =
    let has : HasFlow l (flow.Load a b) = subst (λ (w : Flow). HasFlow l w) e of.there in
    subst (λ (w : Flow). Holds (drafted l s) w) (sym e) (λ x y ex ey. (
    let is : Some m ≡ Some x = sym k.points ∙ sym (points_at l s z f a has.0) ∙ ex in
    let mx : m ≡ x = cc in
    let in_y : Some h.0 ≡ Some y = sym h.1.points ∙ sym (inside_at l s m k.low) ∙ ap (inside (drafted l s)) mx ∙ ey in
    points_at l s z f b has.1 ∙ target_low s b h.0 h.1.low (sym same ∙ h.1.first) ∙ in_y))

pub store_idle : (l : Lowered) (s : Draft) → IsSized s → IsFounded l s → (o : Owed) → IsOf l o → (a b : Place) → o.flow ≡ flow.Store a b → target s a ≡ None → Holds (drafted l s) o.flow
store_idle l s z f o of a b e none =
    let has : HasFlow l (flow.Store a b) = subst (λ (w : Flow). HasFlow l w) e of.there in
    subst (λ (w : Flow). Holds (drafted l s) w) (sym e) (λ x y ex ey. absurd (nowhere (target s a) x none (sym (points_at l s z f a has.0) ∙ ex)))

pub stored_idle : (l : Lowered) (s : Draft) → IsSized s → IsFounded l s → (o : Owed) → IsOf l o → (a b : Place) → o.flow ≡ flow.Store a b → target s b ≡ None → Holds (drafted l s) o.flow
stored_idle l s z f o of a b e none =
    let has : HasFlow l (flow.Store a b) = subst (λ (w : Flow). HasFlow l w) e of.there in
    subst (λ (w : Flow). Holds (drafted l s) w) (sym e) (λ x y ex ey. absurd (nowhere (target s b) y none (sym (points_at l s z f b has.1) ∙ ey)))

pub store_holds : (l : Lowered) (s : Draft) → IsSized s → IsFounded l s → (o : Owed) → IsOf l o → (a b : Place) (m : ℕ) → o.flow ≡ flow.Store a b → IsHead s a m → (h : (n : ℕ) × IsHead s b n) → label s b ≡ label s (place.Cells m) → Holds (drafted l s) o.flow
store_holds l s z f o of a b m e k h same =
    let has : HasFlow l (flow.Store a b) = subst (λ (w : Flow). HasFlow l w) e of.there in
    subst (λ (w : Flow). Holds (drafted l s) w) (sym e) (λ x y ex ey. (
    let is : Some m ≡ Some x = sym k.points ∙ sym (points_at l s z f a has.0) ∙ ex in
    let mx : m ≡ x = cc in
    let ny : Some h.0 ≡ Some y = sym h.1.points ∙ sym (points_at l s z f b has.1) ∙ ey in
    ap (inside (drafted l s)) (sym mx) ∙ inside_at l s m k.low ∙ target_low s (place.Cells m) h.0 h.1.low (sym same ∙ h.1.first) ∙ ny))
