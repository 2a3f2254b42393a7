use Rattle.std.proofs.Common.{◌≡◌, ℕ, Some, sym, ap, ◌∙◌, subst}
use Rattle.asl_points_to.specs.declared.class_draft.ClassDraft.{ClassDraft}
use Rattle.asl_points_to.specs.declared.value_flow.Flow.{Flow}
use Rattle.asl_points_to.specs.Draft.{entry, class_in, pointed, inner, Holds, HasFlowed, IsForced, Keeps}
use Rattle.asl_points_to.proofs.Flowing.{at_some, loads, load_forced}
use Rattle.asl_points_to.proofs.class_draft.ClassDraft.flow.Goals as goal

pub returns-in-Load-clause-flowed : goal.returns-in-Load-clause-flowed
returns-in-Load-clause-flowed c = λ so. (
    let s = c.args.self.now in
    let new = c.copy-in-Load.new.self in
    let done = c.copy-in-Load.ensures.flowed so in
    let K : ClassDraft → Type 0 = λ d. Keeps d new in
    let Flowed : Flow → Type 0 = λ f. HasFlowed new f in
    let source = at_some c.loaded-source.result (λ m. (a : ℕ) × (pointed s c.in-Load.address ≡ Some a) × (inner s a ≡ Some m)) c.loaded-source.ensures.some done.0 done.1 in
    subst Flowed (sym c.in-Load.is) (loads s new (subst K c.loaded-source.ensures.same c.copy-in-Load.ensures.keeps) c.in-Load.address c.in-Load.into source.0 done.0 source.1 source.2 done.2))

pub returns-in-Load-clause-forced : goal.returns-in-Load-clause-forced
returns-in-Load-clause-forced c = λ classes f h. (
    let s = c.args.self.now in
    let F : ClassDraft → Type 0 = λ d. IsForced classes d in
    let H : Flow → Type 0 = λ g. Holds classes g in
    c.copy-in-Load.ensures.forced classes (subst F (sym c.loaded-source.ensures.same) f) (λ m e. (
    let source = at_some c.loaded-source.result (λ k. (a : ℕ) × (pointed s c.in-Load.address ≡ Some a) × (inner s a ≡ Some k)) c.loaded-source.ensures.some m e in
    load_forced classes s c.requires.draft f c.in-Load.address c.in-Load.into source.0 m source.1 source.2 (subst H c.in-Load.is h))))

pub returns-in-Store-clause-forced : goal.returns-in-Store-clause-forced
returns-in-Store-clause-forced c = λ classes f h. (
    let s = c.args.self.now in
    let H : Flow → Type 0 = λ g. Holds classes g in
    let g = subst H c.in-Store.is h in
    c.store.ensures.forced classes f (λ a m ea em.
    g (class_in classes a) (class_in classes m)
    (f.registers c.in-Store.address a (ap (λ rows. entry rows c.in-Store.address) (sym c.deref-in-Store.ensures.value) ∙ sym c.pointed-address.ensures ∙ ea))
    (f.registers c.in-Store.from m (ap (λ rows. entry rows c.in-Store.from) (sym c.deref-in-Store-2.ensures.value) ∙ sym c.pointed-source-in-Store.ensures ∙ em))))
