-- The search among the mentions of one function: it goes past them all, or it finds the place of the first use that is unknown there.
use Rattle.std.proofs.Common.{◌≡◌, ◌≤◌, ℕ, List, [], ◌∷◌, ◌++◌, Bool, true, false, not, ◌&&◌, if◌then◌else◌, inl, inr, bytes_eq, Option, Some, None, length, drop, refl, sym, ap, ◌∙◌, arith}
use Rattle.std.specs.Option.{is_some}
use Rattle.std.proofs.lemmas.Bool.{cases_Bool}
use Rattle.std.proofs.lemmas.Slice.Eq.{bytes_eq-Decides}
use Rattle.asl_syntax.specs.Mentions.{Mention, DeclaresGlobal, DeclaresFunction, DeclaresParameter, AssignsLocal, UsesLocal, UsesGlobal, CallsFunction}
use Rattle.asl_syntax.specs.Rules.{Names, unknown_use, or_name, first_unknown_use}
use Rattle.asl_diagnose_text.specs.Unknown.{use_from}
use Rattle.asl_diagnose_text.specs.UsesView.{lacks}
use Rattle.asl_diagnose_text.proofs.Roles.{Told, said, all_said}
use Rattle.asl_diagnose_text.proofs.NameSearch.{fits, local, first}
use Rattle.asl_diagnose_text.proofs.ToldDeclarations.{and_false, NoFunction}

-- what a use of y is for the name x, where its name space has these names
known_use : (L : Names) (y x : List ℕ) → L y ≡ true → (bytes_eq y x && not (L x)) ≡ false
known_use L y x e = elim (cases_Bool (bytes_eq y x)) [
  | inl b ↦
      let same : y ≡ x = (bytes_eq-Decides y x).0 b in
      ap (λ (c : Bool). c && not (L x)) b ∙ ap not (ap L (sym same) ∙ e)
  | inr b ↦ ap (λ (c : Bool). c && not (L x)) b
]

lacking_use : (L : Names) (y x : List ℕ) → L y ≡ false → y ≡ x → (bytes_eq y x && not (L x)) ≡ true
lacking_use L y x e same =
    ap (λ (c : Bool). c && not (L x)) ((bytes_eq-Decides y x).1 same) ∙ ap not (ap L (sym same) ∙ e)

-- the search goes on past these mentions to what is told after them, or finds the place of one of them
abbrev Passes : List ℕ → Names → Names → Names → List Mention → List Told → List ℕ → Type 0
Passes x G F L ms us places =
    (first x (G x) (F x) (L x) (all_said ms ++ us) places ≡ first x (G x) (F x) (L x) us (drop (length ms) places)) × (use_from G F L ms places ≡ None)

pub record Finds (one other : Option ℕ) (at : ℕ) : Type 0 where
  pub found : one ≡ Some at
  pub is : other ≡ Some at

abbrev FindsIn : List ℕ → Names → Names → Names → List Mention → List Told → List ℕ → Type 0
FindsIn x G F L ms us places =
    (at : ℕ) × Finds (first x (G x) (F x) (L x) (all_said ms ++ us) places) (use_from G F L ms places) at

-- a mention that is no use, or a use of what is there
abbrev Skips : List ℕ → Names → Names → Names → Mention → Type 0
Skips x G F L m =
    ((said m).starts ≡ false) × (fits (lacks (G x) (F x) (L x)) x (said m) ≡ false) × (unknown_use G F L m ≡ None)

-- a use of the name, which is not there
abbrev Hits : List ℕ → Names → Names → Names → Mention → Type 0
Hits x G F L m =
    ((said m).starts ≡ false) × (fits (lacks (G x) (F x) (L x)) x (said m) ≡ true) × (is_some (unknown_use G F L m) ≡ true)

skip_first : (x : List ℕ) (G F L : Names) (m : Mention) (us : List Told) (at : ℕ) (places : List ℕ) → Skips x G F L m → first x (G x) (F x) (L x) (said m ∷ us) (at ∷ places) ≡ first x (G x) (F x) (L x) us places
skip_first x G F L m us at places h =
    ap (λ (b : Bool). if fits (lacks (G x) (F x) (if b then local x us else L x)) x (said m) then Some at else first x (G x) (F x) (if b then local x us else L x) us places) h.0
    ∙ ap (λ (b : Bool). if b then Some at else first x (G x) (F x) (L x) us places) h.1

hit_first : (x : List ℕ) (G F L : Names) (m : Mention) (us : List Told) (at : ℕ) (places : List ℕ) → Hits x G F L m → first x (G x) (F x) (L x) (said m ∷ us) (at ∷ places) ≡ Some at
hit_first x G F L m us at places h =
    ap (λ (b : Bool). if fits (lacks (G x) (F x) (if b then local x us else L x)) x (said m) then Some at else first x (G x) (F x) (if b then local x us else L x) us places) h.0
    ∙ ap (λ (b : Bool). if b then Some at else first x (G x) (F x) (L x) us places) h.1

-- which of both a mention is, where the first unknown use of some mentions is none or one of the name
none_here : (o rest : Option (List ℕ)) → or_name o rest ≡ None → (o ≡ None) × (rest ≡ None)
none_here None rest e = (refl, e)
none_here (Some y) rest e = absurd cc

known : (L : Names) (y : List ℕ) → (if L y then None else Some y) ≡ None → L y ≡ true
known L y e = elim (cases_Bool (L y)) [
  | inl t ↦ t
  | inr f ↦ (let n : Some y ≡ None = sym (ap (λ (b : Bool). if b then None else Some y) f) ∙ e in absurd cc)
]

skips : (x : List ℕ) (G F L : Names) (m : Mention) → NoFunction (m ∷ []) → unknown_use G F L m ≡ None → Skips x G F L m
skips x G F L (DeclaresGlobal y) n e = (refl, and_false (bytes_eq y x), e)
skips x G F L (DeclaresFunction y) n e = absurd n
skips x G F L (DeclaresParameter y) n e = (refl, and_false (bytes_eq y x), e)
skips x G F L (AssignsLocal y) n e = (refl, and_false (bytes_eq y x), e)
skips x G F L (UsesLocal y) n e = (refl, known_use L y x (known L y e), e)
skips x G F L (UsesGlobal y) n e = (refl, known_use G y x (known G y e), e)
skips x G F L (CallsFunction y k) n e = (refl, known_use F y x (known F y e), e)

-- the name of a use that is unknown
lacked : (L : Names) (y z : List ℕ) → (if L y then None else Some y) ≡ Some z → (L y ≡ false) × (y ≡ z)
lacked L y z e = elim (cases_Bool (L y)) [
  | inl t ↦ (let n : None ≡ Some z = sym (ap (λ (b : Bool). if b then None else Some y) t) ∙ e in absurd cc)
  | inr f ↦ (let n : Some y ≡ Some z = sym (ap (λ (b : Bool). if b then None else Some y) f) ∙ e in (f, cc))
]

hits : (x : List ℕ) (G F L : Names) (m : Mention) → unknown_use G F L m ≡ Some x → Hits x G F L m
hits x G F L (DeclaresGlobal y) e = absurd cc
hits x G F L (DeclaresFunction y) e = absurd cc
hits x G F L (DeclaresParameter y) e = absurd cc
hits x G F L (AssignsLocal y) e = absurd cc
hits x G F L (UsesLocal y) e = (let k = lacked L y x e in (refl, lacking_use L y x k.0 k.1, ap is_some e))
hits x G F L (UsesGlobal y) e = (let k = lacked G y x e in (refl, lacking_use G y x k.0 k.1, ap is_some e))
hits x G F L (CallsFunction y n) e = (let k = lacked F y x e in (refl, lacking_use F y x k.0 k.1, ap is_some e))

apart : (m : Mention) (ms : List Mention) → NoFunction (m ∷ ms) → NoFunction (m ∷ []) × NoFunction ms
apart (DeclaresGlobal x) ms h = (tt, h)
apart (DeclaresFunction x) ms h = absurd h
apart (DeclaresParameter x) ms h = (tt, h)
apart (AssignsLocal x) ms h = (tt, h)
apart (UsesLocal x) ms h = (tt, h)
apart (UsesGlobal x) ms h = (tt, h)
apart (CallsFunction x n) ms h = (tt, h)

no_use : (G F L : Names) (m : Mention) (ms : List Mention) (at : ℕ) (places : List ℕ) → unknown_use G F L m ≡ None → use_from G F L (m ∷ ms) (at ∷ places) ≡ use_from G F L ms places
no_use G F L m ms at places e =
    ap (λ (o : Option (List ℕ)). if is_some o then Some at else use_from G F L ms places) e

-- where no use is unknown, the search goes past the mentions
pub all_passed : (x : List ℕ) (G F L : Names) (ms : List Mention) (us : List Told) (places : List ℕ) → NoFunction ms → length ms ≤ length places → first_unknown_use G F L ms ≡ None → Passes x G F L ms us places
all_passed x G F L [] us places n few e = (refl, refl)
all_passed x G F L (m ∷ ms) us [] n few e = absurd (omega (arith, few))
all_passed x G F L (m ∷ ms) us (at ∷ places) n few e =
    let p = apart m ms n in
    let o = none_here (unknown_use G F L m) (first_unknown_use G F L ms) e in
    let k = all_passed x G F L ms us places p.1 (omega (arith, few)) o.1 in
    (skip_first x G F L m (all_said ms ++ us) at places (skips x G F L m p.0 o.0) ∙ k.0, no_use G F L m ms at places o.0 ∙ k.1)

found_at : (x : List ℕ) (G F L : Names) (m : Mention) (ms : List Mention) (us : List Told) (at : ℕ) (places : List ℕ) (o : Option (List ℕ)) → NoFunction (m ∷ ms) → unknown_use G F L m ≡ o → or_name o (first_unknown_use G F L ms) ≡ Some x
    → (first_unknown_use G F L ms ≡ Some x → FindsIn x G F L ms us places) → FindsIn x G F L (m ∷ ms) us (at ∷ places)
found_at x G F L m ms us at places None n u e later =
    let k = later e in (
      k.0,
      record {
        found = skip_first x G F L m (all_said ms ++ us) at places (skips x G F L m (apart m ms n).0 u) ∙ k.1.found;
        is = no_use G F L m ms at places u ∙ k.1.is;
      },
    )
found_at x G F L m ms us at places (Some y) n u e later =
    let h = hits x G F L m (u ∙ e) in (
      at,
      record {
        found = hit_first x G F L m (all_said ms ++ us) at places h;
        is = ap (λ (b : Bool). if b then Some at else use_from G F L ms places) h.2;
      },
    )

-- where a use is, the search finds its place
pub one_found : (x : List ℕ) (G F L : Names) (ms : List Mention) (us : List Told) (places : List ℕ) → NoFunction ms → length ms ≤ length places → first_unknown_use G F L ms ≡ Some x → FindsIn x G F L ms us places
one_found x G F L [] us places n few e = absurd cc
one_found x G F L (m ∷ ms) us [] n few e = absurd (omega (arith, few))
one_found x G F L (m ∷ ms) us (at ∷ places) n few e =
    found_at x G F L m ms us at places (unknown_use G F L m) n refl e (one_found x G F L ms us places (apart m ms n).1 (omega (arith, few)))
