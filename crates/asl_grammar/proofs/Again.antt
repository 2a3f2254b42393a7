-- A text that is read again with each block taken for that of an `if` is read as before, but for what may follow a block.
use Rattle.std.proofs.Common.{◌≡◌, ◌⊎◌, inl, inr, List, [], ◌∷◌, Option, Some, None, length, refl, sym, ap, ◌∙◌, subst}
use Rattle.asl_grammar.specs.declared.token.Mark.TheVariants as mark
use Rattle.asl_grammar.specs.declared.control.Kind.{Kind}
use Rattle.asl_grammar.specs.declared.control.Kind.TheVariants.{Body, Then, Inner}
use Rattle.asl_grammar.specs.Token.{Token, Fixed}
use Rattle.asl_grammar.specs.Automaton.{Opening, OfIf, OfElse, OfWhile, OfAtomic, Control, StatementStart, AfterThen, Act, Begin, Close, step}
use Rattle.asl_grammar.specs.Seen.{Place, innermost, settled, settled_by, opening_kind, outer_kinds, kinds_after, placed, step_at, next_place}
use Rattle.asl_grammar.specs.Recent.{taken_kind}

-- no open block is the body
abbrev pub AreOpened : List Kind → Type 0
AreOpened [] = Unit {0}
AreOpened (Body ∷ ks) = ⊥
AreOpened (k ∷ ks) = AreOpened ks

-- the control that is seen for another: after a block an `else` may follow, or not
abbrev pub IsSeenAs : Control → Control → Type 0
IsSeenAs c seen = (seen ≡ c) ⊎ ((c ≡ StatementStart) × (seen ≡ AfterThen))

outer_opened : (ks : List Kind) → AreOpened ks → AreOpened (outer_kinds ks)
outer_opened [] h = h
outer_opened (Body ∷ ks) h = absurd h
outer_opened (Then ∷ ks) h = h
outer_opened (Inner ∷ ks) h = h

more_opened : (o : Opening) (ks : List Kind) → AreOpened ks → AreOpened (opening_kind o ∷ ks)
more_opened (OfIf x) ks h = h
more_opened OfElse ks h = h
more_opened (OfWhile x) ks h = h
more_opened OfAtomic ks h = h

pub still_opened : (a : Act) (ks : List Kind) → AreOpened ks → AreOpened (kinds_after a ks)
still_opened (Begin o) ks h = more_opened o ks h
still_opened Close ks h = outer_opened ks h
still_opened _ ks h = h

-- a step that is seen for another
pub record IsSeenStep (c : Control) (a : Act) (o : Option (Control × Act)) : Type 0 where
  pub control : Control
  pub does : o ≡ Some (control, a)
  pub seen : IsSeenAs c control

same_step : (c : Control) (a : Act) (o : Option (Control × Act)) → o ≡ Some (c, a) → IsSeenStep c a o
same_step c a o e = record { control = c; does = e; seen = inl refl }

-- in a block that is taken for that of an `if`
taken_step : (b : Control) (ks : List Kind) (t : Token) (c : Control) (a : Act) → AreOpened ks → step b (innermost ks) t ≡ Some (c, a) → IsSeenStep c a (step b (taken_kind (length ks)) t)
taken_step StatementStart [] (Fixed mark.Return) c a o h = same_step c a _ h
taken_step StatementStart (Body ∷ ks) (Fixed mark.Return) c a o h = absurd o
taken_step StatementStart (Then ∷ ks) (Fixed mark.Return) c a o h = cc
taken_step StatementStart (Inner ∷ ks) (Fixed mark.Return) c a o h = cc
taken_step StatementStart [] (Fixed mark.CloseBrace) c a o h = cc
taken_step StatementStart (Body ∷ ks) (Fixed mark.CloseBrace) c a o h = absurd o
taken_step StatementStart (Then ∷ ks) (Fixed mark.CloseBrace) c a o h = same_step c a _ h
taken_step StatementStart (Inner ∷ ks) (Fixed mark.CloseBrace) c a o h =
    let same : (StatementStart, Close) ≡ (c, a) = cc in
    let d : StatementStart ≡ c = ap (λ (w : Control × Act). w.0) same in
    let e : Close ≡ a = ap (λ (w : Control × Act). w.1) same in
    record { control = AfterThen; does = ap (λ (x : Act). Some (AfterThen, x)) e; seen = inr (sym d, refl) }
taken_step StatementStart ks t c a o h = same_step c a _ h
taken_step b ks t c a o h = same_step c a _ h

-- where a step is made, a control and what is seen for it become the same
settled_start : (k : Kind) (t : Token) (c : Control) (a : Act) → step StatementStart k t ≡ Some (c, a) → settled_by t ≡ StatementStart
settled_start k (Fixed mark.Else) c a h = cc
settled_start k t c a h = refl

settled_seen : (b seen : Control) (k : Kind) (t : Token) (c : Control) (a : Act) → IsSeenAs b seen → step (settled b t) k t ≡ Some (c, a) → settled seen t ≡ settled b t
settled_seen b seen k t c a (inl e) h = ap (λ (d : Control). settled d t) e
settled_seen b seen k t c a (inr e) h =
    let g : step StatementStart k t ≡ Some (c, a) = ap (λ (d : Control). step (settled d t) k t) (sym e.0) ∙ h in
    ap (λ (d : Control). settled d t) e.1 ∙ settled_start k t c a g ∙ ap (λ (d : Control). settled d t) (sym e.0)

pub seen_step : (b seen : Control) (ks : List Kind) (t : Token) (c : Control) (a : Act) → IsSeenAs b seen → AreOpened ks → step (settled b t) (innermost ks) t ≡ Some (c, a) → IsSeenStep c a (step (settled seen t) (taken_kind (length ks)) t)
seen_step b seen ks t c a s o h =
    let P : Control → Type 0 = λ d. IsSeenStep c a (step d (taken_kind (length ks)) t) in
    subst P (sym (settled_seen b seen (innermost ks) t c a s h)) (taken_step (settled b t) ks t c a o h)

-- the step that leads to a place
pub record Leads (p q : Place) (t : Token) : Type 0 where
  pub act : Act
  pub step : step_at p t ≡ Some (q.control, act)
  pub kinds : q.kinds ≡ kinds_after act p.kinds

leads_by : (p q : Place) (t : Token) (o : Option (Control × Act)) → step_at p t ≡ o → placed o p.kinds ≡ Some q → Leads p q t
leads_by p q t None e h = cc
leads_by p q t (Some (c, a)) e h =
    let same : record { control = c; kinds = kinds_after a p.kinds } ≡ q = cc in
    let d : c ≡ q.control = ap (λ (w : Place). w.control) same in
    record {
      act = a;
      step = e ∙ ap (λ (x : Control). Some (x, a)) d;
      kinds = sym (ap (λ (w : Place). w.kinds) same);
    }

pub leads : (p q : Place) (t : Token) → next_place p t ≡ Some q → Leads p q t
leads p q t h = leads_by p q t (step_at p t) refl h
