-- A name that is found twice is that of the first declaration that repeats one.
use Rattle.std.proofs.Common.{◌≡◌, ◌⊎◌, inl, inr, ℕ, List, [], ◌∷◌, ◌++◌, Bool, true, false, Option, Some, if◌then◌else◌, refl, sym, ap, subst, ◌∙◌}
use Rattle.std.proofs.lemmas.Bool.{false≢true}
use Rattle.asl_syntax.specs.declared.names.Space.TheVariants.{Globals, Functions}
use Rattle.asl_syntax.specs.Tree.{Item}
use Rattle.asl_syntax.specs.Mentions.{Mention, DeclaresGlobal, DeclaresFunction, DeclaresParameter, AssignsLocal, UsesLocal, UsesGlobal, CallsFunction, mentions}
use Rattle.asl_syntax.specs.TokenNames.{mention_name}
use Rattle.asl_syntax.specs.Rules.{Names, no_name, with_name, declared_in, with_declared, first_twice, twice}
use Rattle.asl_syntax.specs.FirstFault.{IsOwnParameter, IsRepeated, IsFirstTwice}
use Rattle.asl_syntax.proofs.Among.{Among, among, contained}
use Rattle.asl_syntax.proofs.Declarers.{declares_global, declares_function}
use Rattle.asl_syntax.proofs.DeclaredBefore.{after, step_parameters, after_parameters, after_new, after_none, own_from, own_to}

-- the mention declares what is known after the mentions
abbrev Seen : Names → Names → Names → List Mention → Mention → Type 0
Seen gs fs ps ms (DeclaresGlobal x) = after Globals ms gs x ≡ true
Seen gs fs ps ms (DeclaresFunction x) = after Functions ms fs x ≡ true
Seen gs fs ps ms (DeclaresParameter x) = after_parameters ms ps x ≡ true
Seen gs fs ps ms _ = ⊥

-- what is known after one more mention
abbrev SeenLater : Names → Names → Names → Mention → List Mention → Mention → Type 0
SeenLater gs fs ps n ms m =
    Seen (with_declared (declared_in Globals n) gs) (with_declared (declared_in Functions n) fs) (step_parameters n ps) ms m

later_from : (gs fs ps : Names) (n : Mention) (ms : List Mention) (m : Mention) → Seen gs fs ps (n ∷ ms) m → SeenLater gs fs ps n ms m
later_from gs fs ps n ms (DeclaresGlobal x) h = h
later_from gs fs ps n ms (DeclaresFunction x) h = h
later_from gs fs ps n ms (DeclaresParameter x) h = h
later_from gs fs ps n ms (AssignsLocal x) h = h
later_from gs fs ps n ms (UsesLocal x) h = h
later_from gs fs ps n ms (UsesGlobal x) h = h
later_from gs fs ps n ms (CallsFunction x k) h = h

later_to : (gs fs ps : Names) (n : Mention) (ms : List Mention) (m : Mention) → SeenLater gs fs ps n ms m → Seen gs fs ps (n ∷ ms) m
later_to gs fs ps n ms (DeclaresGlobal x) h = h
later_to gs fs ps n ms (DeclaresFunction x) h = h
later_to gs fs ps n ms (DeclaresParameter x) h = h
later_to gs fs ps n ms (AssignsLocal x) h = h
later_to gs fs ps n ms (UsesLocal x) h = h
later_to gs fs ps n ms (UsesGlobal x) h = h
later_to gs fs ps n ms (CallsFunction x k) h = h

-- ---- the first mention that is so

record FirstSeen (gs fs ps : Names) (ms : List Mention) (x : List ℕ) : Type 0 where
  before : List Mention
  mention : Mention
  behind : List Mention
  split : ms ≡ before ++ mention ∷ behind
  seen : Seen gs fs ps before mention
  named : mention_name mention ≡ x
  none_before : (ns : List Mention) (m : Mention) (rest : List Mention) → before ≡ ns ++ m ∷ rest → Seen gs fs ps ns m → ⊥

no_part : (ns : List Mention) (m : Mention) (rest : List Mention) → [] ≡ ns ++ m ∷ rest → ⊥
no_part [] m rest e = cc
no_part (n ∷ ns) m rest e = cc

stops : (gs fs ps : Names) (m : Mention) (ms : List Mention) (x : List ℕ) → Seen gs fs ps [] m → mention_name m ≡ x → FirstSeen gs fs ps (m ∷ ms) x
stops gs fs ps m ms x h e = record {
  before = [];
  mention = m;
  behind = ms;
  split = refl;
  seen = h;
  named = e;
  none_before = λ ns n rest k _. no_part ns n rest k;
}

abbrev NoneBefore : Names → Names → Names → List Mention → Type 0
NoneBefore gs fs ps before =
    (ns : List Mention) (m : Mention) (rest : List Mention) → before ≡ ns ++ m ∷ rest → Seen gs fs ps ns m → ⊥

one_more : (gs fs ps : Names) (n : Mention) (before : List Mention) → (Seen gs fs ps [] n → ⊥) → NoneBefore (with_declared (declared_in Globals n) gs) (with_declared (declared_in Functions n) fs) (step_parameters n ps) before → NoneBefore gs fs ps (n ∷ before)
one_more gs fs ps n before new none [] m rest e h =
    let same : m ≡ n = cc in new (subst (Seen gs fs ps []) same h)
one_more gs fs ps n before new none (k ∷ ns) m rest e h =
    let same : k ≡ n = cc in
    let left : before ≡ ns ++ m ∷ rest = cc in
    none ns m rest left (later_from gs fs ps n ns m (subst (λ (l : Mention). Seen gs fs ps (l ∷ ns) m) same h))

goes_on : (gs fs ps : Names) (m : Mention) (ms : List Mention) (x : List ℕ) → (Seen gs fs ps [] m → ⊥) → FirstSeen (with_declared (declared_in Globals m) gs) (with_declared (declared_in Functions m) fs) (step_parameters m ps) ms x → FirstSeen gs fs ps (m ∷ ms) x
goes_on gs fs ps m ms x new k = record {
  before = m ∷ k.before;
  mention = k.mention;
  behind = k.behind;
  split = ap (λ l. m ∷ l) k.split;
  seen = later_to gs fs ps m k.before k.mention k.seen;
  named = k.named;
  none_before = one_more gs fs ps m k.before new k.none_before;
}

told_here : (b : Bool) (y x : List ℕ) (o : Option (List ℕ)) → (if b then Some y else o) ≡ Some x → ((b ≡ true) × (y ≡ x)) ⊎ ((b ≡ false) × (o ≡ Some x))
told_here true y x o e = inl (refl, cc)
told_here false y x o e = inr (refl, e)

new_name : (b : Bool) → b ≡ false → b ≡ true → ⊥
new_name b e f = false≢true (sym e ∙ f)

first_seen : (gs fs ps : Names) (ms : List Mention) (x : List ℕ) → first_twice gs fs ps ms ≡ Some x → FirstSeen gs fs ps ms x
first_seen gs fs ps [] x e = absurd cc
first_seen gs fs ps (DeclaresGlobal y ∷ ms) x e =
    elim (told_here (gs y) y x (first_twice (with_name y gs) fs ps ms) e) [
      | inl k ↦ stops gs fs ps (DeclaresGlobal y) ms x k.0 k.1
      | inr k ↦ goes_on gs fs ps (DeclaresGlobal y) ms x (new_name (gs y) k.0) (first_seen (with_name y gs) fs ps ms x k.1)
    ]
first_seen gs fs ps (DeclaresFunction y ∷ ms) x e =
    elim (told_here (fs y) y x (first_twice gs (with_name y fs) no_name ms) e) [
      | inl k ↦ stops gs fs ps (DeclaresFunction y) ms x k.0 k.1
      | inr k ↦ goes_on gs fs ps (DeclaresFunction y) ms x (new_name (fs y) k.0) (first_seen gs (with_name y fs) no_name ms x k.1)
    ]
first_seen gs fs ps (DeclaresParameter y ∷ ms) x e =
    elim (told_here (ps y) y x (first_twice gs fs (with_name y ps) ms) e) [
      | inl k ↦ stops gs fs ps (DeclaresParameter y) ms x k.0 k.1
      | inr k ↦ goes_on gs fs ps (DeclaresParameter y) ms x (new_name (ps y) k.0) (first_seen gs fs (with_name y ps) ms x k.1)
    ]
first_seen gs fs ps (AssignsLocal y ∷ ms) x e = goes_on gs fs ps (AssignsLocal y) ms x (λ h. h) (first_seen gs fs ps ms x e)
first_seen gs fs ps (UsesLocal y ∷ ms) x e = goes_on gs fs ps (UsesLocal y) ms x (λ h. h) (first_seen gs fs ps ms x e)
first_seen gs fs ps (UsesGlobal y ∷ ms) x e = goes_on gs fs ps (UsesGlobal y) ms x (λ h. h) (first_seen gs fs ps ms x e)
first_seen gs fs ps (CallsFunction y n ∷ ms) x e = goes_on gs fs ps (CallsFunction y n) ms x (λ h. h) (first_seen gs fs ps ms x e)

-- ---- what is known is repeated

own_parameter : (ms : List Mention) (x : List ℕ) → after_parameters ms no_name x ≡ true → IsOwnParameter ms x
own_parameter ms x e =
    elim (own_from ms no_name x e) [
      | inl k ↦ absurd (false≢true k.0)
      | inr k ↦ record { before = k.0; behind = k.1; split = k.2; no_function = λ y h. k.3 y (among k.1 (DeclaresFunction y) h) }
    ]

repeated_from : (ms : List Mention) (m : Mention) → Seen no_name no_name no_name ms m → IsRepeated ms m
repeated_from ms (DeclaresGlobal x) h =
    let k = after_none Globals ms x h in
    contained ms (DeclaresGlobal x) (subst (Among ms) (declares_global k.0 x k.2) k.1)
repeated_from ms (DeclaresFunction x) h =
    let k = after_none Functions ms x h in
    contained ms (DeclaresFunction x) (subst (Among ms) (declares_function k.0 x k.2) k.1)
repeated_from ms (DeclaresParameter x) h = own_parameter ms x h
repeated_from ms (AssignsLocal x) h = h
repeated_from ms (UsesLocal x) h = h
repeated_from ms (UsesGlobal x) h = h
repeated_from ms (CallsFunction x n) h = h

repeated_to : (ms : List Mention) (m : Mention) → IsRepeated ms m → Seen no_name no_name no_name ms m
repeated_to ms (DeclaresGlobal x) h =
    after_new Globals ms no_name (DeclaresGlobal x) x (among ms (DeclaresGlobal x) h) refl
repeated_to ms (DeclaresFunction x) h =
    after_new Functions ms no_name (DeclaresFunction x) x (among ms (DeclaresFunction x) h) refl
repeated_to ms (DeclaresParameter x) h =
    subst (λ (l : List Mention). after_parameters l no_name x ≡ true) (sym h.split) (own_to h.before h.behind no_name x (λ y a. h.no_function y (contained h.behind (DeclaresFunction y) a)))
repeated_to ms (AssignsLocal x) h = h
repeated_to ms (UsesLocal x) h = h
repeated_to ms (UsesGlobal x) h = h
repeated_to ms (CallsFunction x n) h = h

-- ---- the program

pub twice_first : (t : List Item) (x : List ℕ) → twice t ≡ Some x → IsFirstTwice t x
twice_first t x e =
    let k = first_seen no_name no_name no_name (mentions t) x e in
    record {
      before = k.before;
      mention = k.mention;
      behind = k.behind;
      split = k.split;
      repeated = repeated_from k.before k.mention k.seen;
      named = k.named;
      none_before = λ ms m ns e2 h. k.none_before ms m ns e2 (repeated_to ms m h);
    }
