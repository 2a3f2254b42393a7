-- Which names are known after some mentions: those that one of them declares, and of parameters those of the function that goes on.
use Rattle.std.proofs.Common.{◌≡◌, ◌⊎◌, inl, inr, ℕ, List, [], ◌∷◌, ◌++◌, true, Some, bytes_eq, refl, ap, ◌∙◌}
use Rattle.std.proofs.lemmas.Bool.{false≢true, or_cases, or_left, or_right}
use Rattle.std.proofs.lemmas.Slice.Eq.{bytes_eq-Decides}
use Rattle.asl_syntax.specs.declared.names.Space.{Space}
use Rattle.asl_syntax.specs.Mentions.{Mention, DeclaresGlobal, DeclaresFunction, DeclaresParameter, AssignsLocal, UsesLocal, UsesGlobal, CallsFunction}
use Rattle.asl_syntax.specs.Rules.{Names, no_name, with_name, declared_in, with_declared}
use Rattle.asl_syntax.proofs.Among.{Among}
use Rattle.asl_syntax.proofs.Declarers.{Declares, same_bytes, declared_here, more_declared, one_declared}

-- ---- what is known after some mentions

-- the globals or functions that are known after the mentions
abbrev pub after : Space → List Mention → Names → Names
after sp [] known = known
after sp (m ∷ ms) known = after sp ms (with_declared (declared_in sp m) known)

-- a function begins with no parameter
abbrev pub step_parameters : Mention → Names → Names
step_parameters (DeclaresFunction y) ps = no_name
step_parameters (DeclaresParameter y) ps = with_name y ps
step_parameters _ ps = ps

-- the parameters that are
abbrev pub after_parameters : List Mention → Names → Names
after_parameters [] ps = ps
after_parameters (m ∷ ms) ps = after_parameters ms (step_parameters m ps)

-- ---- globals and functions that are known

after_from : (sp : Space) (ms : List Mention) (known : Names) (x : List ℕ) → after sp ms known x ≡ true → (known x ≡ true) ⊎ Declares sp ms x
after_from sp [] known x e = inl e
after_from sp (m ∷ ms) known x e =
    elim (after_from sp ms (with_declared (declared_in sp m) known) x e) [
      | inl k ↦ elim (declared_here (declared_in sp m) known x k) [ inl here ↦ inr (m, inl refl, here) | inr old ↦ inl old ]
      | inr k ↦ inr (k.0, inr k.1, k.2)
    ]

after_old : (sp : Space) (ms : List Mention) (known : Names) (x : List ℕ) → known x ≡ true → after sp ms known x ≡ true
after_old sp [] known x e = e
after_old sp (m ∷ ms) known x e =
    after_old sp ms (with_declared (declared_in sp m) known) x (more_declared (declared_in sp m) known x e)

pub after_new : (sp : Space) (ms : List Mention) (known : Names) (m : Mention) (x : List ℕ) → Among ms m → declared_in sp m ≡ Some x → after sp ms known x ≡ true
after_new sp [] known m x h e = absurd h
after_new sp (n ∷ ms) known m x (inl same) e =
    after_old sp ms (with_declared (declared_in sp n) known) x (one_declared (declared_in sp n) known x (ap (declared_in sp) same ∙ e))
after_new sp (n ∷ ms) known m x (inr there) e =
    after_new sp ms (with_declared (declared_in sp n) known) m x there e

pub after_none : (sp : Space) (ms : List Mention) (x : List ℕ) → after sp ms no_name x ≡ true → Declares sp ms x
after_none sp ms x e =
    elim (after_from sp ms no_name x e) [ inl k ↦ absurd (false≢true k) | inr k ↦ k ]

-- ---- parameters that are known

abbrev NoFunction : List Mention → Type 0
NoFunction ms = (y : List ℕ) → Among ms (DeclaresFunction y) → ⊥

-- as IsOwnParameter
abbrev Own : List Mention → List ℕ → Type 0
Own ms x =
    (before : List Mention) × (behind : List Mention) × (ms ≡ before ++ DeclaresParameter x ∷ behind) × NoFunction behind

none_more : (m : Mention) (ms : List Mention) → ((y : List ℕ) → m ≡ DeclaresFunction y → ⊥) → NoFunction ms → NoFunction (m ∷ ms)
none_more m ms other none y (inl same) = other y same
none_more m ms other none y (inr there) = none y there

own_here : (m : Mention) (ms : List Mention) (ps : Names) (x : List ℕ) → step_parameters m ps x ≡ true → NoFunction ms → ((ps x ≡ true) × NoFunction (m ∷ ms)) ⊎ Own (m ∷ ms) x
own_here (DeclaresGlobal y) ms ps x e none = inl (e, none_more (DeclaresGlobal y) ms (λ z k. cc) none)
own_here (DeclaresFunction y) ms ps x e none = absurd (false≢true e)
own_here (DeclaresParameter y) ms ps x e none =
    elim (or_cases (bytes_eq y x) (ps x) e) [
      | inl same ↦ inr ([], ms, ap (λ (z : List ℕ). DeclaresParameter z ∷ ms) (same_bytes y x same), none)
      | inr old ↦ inl (old, none_more (DeclaresParameter y) ms (λ z k. cc) none)
    ]
own_here (AssignsLocal y) ms ps x e none = inl (e, none_more (AssignsLocal y) ms (λ z k. cc) none)
own_here (UsesLocal y) ms ps x e none = inl (e, none_more (UsesLocal y) ms (λ z k. cc) none)
own_here (UsesGlobal y) ms ps x e none = inl (e, none_more (UsesGlobal y) ms (λ z k. cc) none)
own_here (CallsFunction y n) ms ps x e none = inl (e, none_more (CallsFunction y n) ms (λ z k. cc) none)

pub own_from : (ms : List Mention) (ps : Names) (x : List ℕ) → after_parameters ms ps x ≡ true → ((ps x ≡ true) × NoFunction ms) ⊎ Own ms x
own_from [] ps x e = inl (e, λ y h. h)
own_from (m ∷ ms) ps x e =
    elim (own_from ms (step_parameters m ps) x e) [
      | inl k ↦ own_here m ms ps x k.0 k.1
      | inr k ↦ inr (m ∷ k.0, k.1, ap (λ l. m ∷ l) k.2, k.3)
    ]

stays_own : (m : Mention) (ps : Names) (x : List ℕ) → ((y : List ℕ) → m ≡ DeclaresFunction y → ⊥) → ps x ≡ true → step_parameters m ps x ≡ true
stays_own (DeclaresGlobal y) ps x other e = e
stays_own (DeclaresFunction y) ps x other e = absurd (other y refl)
stays_own (DeclaresParameter y) ps x other e = or_right (bytes_eq y x) (ps x) e
stays_own (AssignsLocal y) ps x other e = e
stays_own (UsesLocal y) ps x other e = e
stays_own (UsesGlobal y) ps x other e = e
stays_own (CallsFunction y n) ps x other e = e

all_own : (ms : List Mention) (ps : Names) (x : List ℕ) → NoFunction ms → ps x ≡ true → after_parameters ms ps x ≡ true
all_own [] ps x none e = e
all_own (m ∷ ms) ps x none e =
    all_own ms (step_parameters m ps) x (λ y h. none y (inr h)) (stays_own m ps x (λ y same. none y (inl same)) e)

pub own_to : (before behind : List Mention) (ps : Names) (x : List ℕ) → NoFunction behind → after_parameters (before ++ DeclaresParameter x ∷ behind) ps x ≡ true
own_to [] behind ps x none =
    all_own behind (with_name x ps) x none (or_left (bytes_eq x x) (ps x) ((bytes_eq-Decides x x).1 refl))
own_to (m ∷ before) behind ps x none = own_to before behind (step_parameters m ps) x none
