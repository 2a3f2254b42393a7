use Rattle.std.proofs.Common.{◌≡◌, ℕ, Option, None, sym, subst}
use Rattle.std.specs.Prelude.{IfSome}
use Rattle.asl_class_reasons.specs.declared.place.Place.{Place}
use Rattle.asl_class_reasons.specs.declared.place.Place.TheVariants as place
use Rattle.asl_class_reasons.specs.declared.place.Step.{Step}
use Rattle.asl_class_reasons.specs.declared.flow.Flow.{Flow}
use Rattle.asl_class_reasons.specs.declared.draft.Draft.{Draft}
use Rattle.asl_class_reasons.specs.Reasons.{IsReasoned}
use Rattle.asl_class_reasons.specs.Draft.{IsThereFlow, IsHead, Holds, label, target, drafted}
use Rattle.asl_class_reasons.proofs.Owing.{step_of, step_if, step_or, copy_reasoned, load_reasoned, store_reasoned, copy_idle, copy_holds, address_idle, load_idle, load_holds, store_idle, stored_idle, store_holds}
use Rattle.asl_class_reasons.proofs.draft.Draft.due.Goals as goal

there : (s : Draft) (w x : Flow) → w ≡ x → IsThereFlow s w → IsThereFlow s x
there s w x e h = subst (λ (y : Flow). IsThereFlow s y) e h

head_in : (s t : Draft) (p : Place) (r : Option Step) → s ≡ t → IfSome r (λ x. (m : ℕ) × IsHead s p m) → IfSome r (λ x. (m : ℕ) × IsHead t p m)
head_in s t p r e h = subst (λ (y : Draft). IfSome r (λ x. (m : ℕ) × IsHead y p m)) e h

none_in : (s t : Draft) (p : Place) (r : Option Step) → s ≡ t → (r ≡ None → target s p ≡ None) → r ≡ None → target t p ≡ None
none_in s t p r e h n = subst (λ (y : Draft). target y p ≡ None) e (h n)

pub returns-in-Copy-clause-reasoned : goal.returns-in-Copy-clause-reasoned
returns-in-Copy-clause-reasoned c = λ l f of. (
    let s : Draft = c.args.self.now in
    let a : Place = c.in-Copy.from in
    let b : Place = c.in-Copy.into in
    step_if c.step.result (step_of c.args.owed.pc a b) (λ t. IsReasoned l s.steps.items t) ((m : ℕ) × IsHead s a m) c.step.ensures.step c.step.ensures.head
    (copy_reasoned l s f c.args.owed of a b c.in-Copy.is (there s c.args.owed.flow _ c.in-Copy.is c.requires.there).0))

pub returns-in-Copy-clause-holds : goal.returns-in-Copy-clause-holds
returns-in-Copy-clause-holds c = λ l f of. (
    let s : Draft = c.args.self.now in
    let a : Place = c.in-Copy.from in
    let b : Place = c.in-Copy.into in
    step_or c.step.result (step_of c.args.owed.pc a b) (Holds (drafted l s) c.args.owed.flow) (λ t. label s t.from ≡ label s t.into → Holds (drafted l s) c.args.owed.flow) ((m : ℕ) × IsHead s a m) (target s a ≡ None) c.step.ensures.step c.step.ensures.head c.step.ensures.none
    (copy_idle l s c.requires.sized f c.args.owed of a b c.in-Copy.is) (copy_holds l s c.requires.sized f c.args.owed of a b c.in-Copy.is))

pub returns-in-Some-clause-reasoned : goal.returns-in-Some-clause-reasoned
returns-in-Some-clause-reasoned c = λ l f of. (
    let s : Draft = c.args.self.now in
    let a : Place = c.in-Load.address in
    let b : Place = c.in-Load.into in
    let m : ℕ = c.in-Some.member in
    let cells : Place = place.Cells m in
    step_if c.step-in-Some.result (step_of c.args.owed.pc cells b) (λ t. IsReasoned l s.steps.items t) ((n : ℕ) × IsHead s cells n) c.step-in-Some.ensures.step (head_in c.target.new.self s cells c.step-in-Some.result c.target.ensures.same c.step-in-Some.ensures.head)
    (load_reasoned l s f c.args.owed of a b m c.in-Load.is (there s c.args.owed.flow _ c.in-Load.is c.requires.there).0 c.in-Some.ensures.head))

pub returns-in-Some-clause-holds : goal.returns-in-Some-clause-holds
returns-in-Some-clause-holds c = λ l f of. (
    let s : Draft = c.args.self.now in
    let a : Place = c.in-Load.address in
    let b : Place = c.in-Load.into in
    let m : ℕ = c.in-Some.member in
    let cells : Place = place.Cells m in
    step_or c.step-in-Some.result (step_of c.args.owed.pc cells b) (Holds (drafted l s) c.args.owed.flow) (λ t. label s t.from ≡ label s t.into → Holds (drafted l s) c.args.owed.flow) ((n : ℕ) × IsHead s cells n) (target s cells ≡ None) c.step-in-Some.ensures.step (head_in c.target.new.self s cells c.step-in-Some.result c.target.ensures.same c.step-in-Some.ensures.head) (none_in c.target.new.self s cells c.step-in-Some.result c.target.ensures.same c.step-in-Some.ensures.none)
    (load_idle l s c.requires.sized f c.args.owed of a b m c.in-Load.is c.in-Some.ensures.head) (load_holds l s c.requires.sized f c.args.owed of a b m c.in-Load.is c.in-Some.ensures.head))

pub returns-in-None-clause-holds : goal.returns-in-None-clause-holds
returns-in-None-clause-holds c = λ l f of. address_idle l c.args.self.now c.requires.sized f c.args.owed of c.in-Load.address c.in-Load.into c.in-Load.is (sym c.in-None.ensures.target)

pub returns-in-Some-target-clause-reasoned : goal.returns-in-Some-target-clause-reasoned
returns-in-Some-target-clause-reasoned c = λ l f of. (
    let s : Draft = c.args.self.now in
    let a : Place = c.in-Store.address in
    let b : Place = c.in-Store.from in
    let m : ℕ = c.in-Some-target.member in
    let t = there s c.args.owed.flow _ c.in-Store.is c.requires.there in
    step_if c.step-in-Some-target.result (step_of c.args.owed.pc b (place.Cells m)) (λ t. IsReasoned l s.steps.items t) ((n : ℕ) × IsHead s b n) c.step-in-Some-target.ensures.step (head_in c.target-in-Store.new.self s b c.step-in-Some-target.result c.target-in-Store.ensures.same c.step-in-Some-target.ensures.head)
    (store_reasoned l s f c.args.owed of a b m c.in-Store.is t.0 t.1 c.in-Some-target.ensures.head))

pub returns-in-Some-target-clause-holds : goal.returns-in-Some-target-clause-holds
returns-in-Some-target-clause-holds c = λ l f of. (
    let s : Draft = c.args.self.now in
    let a : Place = c.in-Store.address in
    let b : Place = c.in-Store.from in
    let m : ℕ = c.in-Some-target.member in
    step_or c.step-in-Some-target.result (step_of c.args.owed.pc b (place.Cells m)) (Holds (drafted l s) c.args.owed.flow) (λ t. label s t.from ≡ label s t.into → Holds (drafted l s) c.args.owed.flow) ((n : ℕ) × IsHead s b n) (target s b ≡ None) c.step-in-Some-target.ensures.step (head_in c.target-in-Store.new.self s b c.step-in-Some-target.result c.target-in-Store.ensures.same c.step-in-Some-target.ensures.head) (none_in c.target-in-Store.new.self s b c.step-in-Some-target.result c.target-in-Store.ensures.same c.step-in-Some-target.ensures.none)
    (stored_idle l s c.requires.sized f c.args.owed of a b c.in-Store.is) (store_holds l s c.requires.sized f c.args.owed of a b m c.in-Store.is c.in-Some-target.ensures.head))

pub returns-in-None-target-clause-holds : goal.returns-in-None-target-clause-holds
returns-in-None-target-clause-holds c = λ l f of. store_idle l c.args.self.now c.requires.sized f c.args.owed of c.in-Store.address c.in-Store.from c.in-Store.is (sym c.in-None-target.ensures.target)
