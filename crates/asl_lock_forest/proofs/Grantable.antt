-- The test for a grant tells whether the request can be granted, and a request that cannot has a witness.
use Rattle.std.proofs.Common.{◌≡◌, ◌≢◌, ℕ, Bool, true, false, ◌||◌, ◌&&◌, List, [], ◌∷◌, None, Some, unwrap_or, refl, ap, sym, subst, ◌∙◌, inl, inr}
use Rattle.std.specs.Prelude.{is_some}
use Rattle.std.specs.FinMap as map
use Rattle.std.specs.List.{list_all, list_any}
use Rattle.std.specs.Ordering.{eq_by_cmp}
use Rattle.std.proofs.lemmas.Bool.{and_parts, and_from}
use Rattle.std.proofs.lemmas.Bool.Decides.{eqb_tells}
use Rattle.asl_mode_lanes.specs.declared.mode.Mode.TheVariants.{NL}
use Rattle.asl_mode_lanes.specs.Mode.{is_compatible, AreCompatible}
use Rattle.asl_mode_lanes.proofs.ModeLaws.{compatible-NL}
use Rattle.asl_lock_forest.specs.declared.node.Node.{Node}
use Rattle.asl_lock_forest.specs.Keys.{Key, key, key_cmp}
use Rattle.asl_lock_forest.specs.Holding.{Holding, held, Request, asked, CanGrant, goes_with, can_grant}
use Rattle.asl_lock_forest.specs.Request.{IsRefusedRequest}
use Rattle.asl_lock_forest.proofs.Laws.{tell_keys}

-- who is in the way keeps the request from being granted
pub refused_cannot : (h : Holding) (t : ℕ) (request : Request) → IsRefusedRequest h t request → CanGrant h t request → ⊥
refused_cannot h t request way can =
    let other = way.0 in
    let node = way.1 in
    let yes = can other node way.2.different in
    let no = way.2.clashes in
    cc

-- a key of another thread of which the test holds goes with the request
goes_there : (h : Holding) (t : ℕ) (request : Request) (k : Key) → goes_with h t request k ≡ true → k.thread ≢ t → AreCompatible (asked request k.node) (held h k.thread k.node)
goes_there h t request k goes apart = elim (eqb_tells k.thread t) [
  | inl own ↦ absurd (apart own.1)
  | inr other ↦ sym (ap (λ b. b || is_compatible (asked request k.node) (held h k.thread k.node)) other.0) ∙ goes
]

module _ (h : Holding) (t : ℕ) (request : Request) where
  -- where the test fails for some of a list, the first for which it does is in the way
  pub refused_by : {A : Type 0} (key_in : A → Key) (xs : List A) → list_all (λ x. goes_with h t request (key_in x)) xs ≡ false → IsRefusedRequest h t request
  refused_by key_in [] fails = let no = fails in cc
  refused_by key_in (x ∷ xs) fails =
      let k = key_in x in
      elim (eqb_tells k.thread t) [
        | inl own ↦ refused_by key_in xs
            (sym (ap (λ b. (b || is_compatible (asked request k.node) (held h k.thread k.node)) && list_all (λ y. goes_with h t request (key_in y)) xs) own.0) ∙ fails)
        | inr other ↦
            let goes = is_compatible (asked request k.node) (held h k.thread k.node) in
            let left : (goes && list_all (λ y. goes_with h t request (key_in y)) xs) ≡ false =
            sym (ap (λ b. (b || goes) && list_all (λ y. goes_with h t request (key_in y)) xs) other.0) ∙ fails in
            elim goes as (λ b. goes ≡ b → IsRefusedRequest h t request) [
              | true ↦ λ yes. refused_by key_in xs (sym (ap (λ b. b && list_all (λ y. goes_with h t request (key_in y)) xs) yes) ∙ left)
              | false ↦ λ clash. (k.thread, k.node, record { different = other.1; clashes = clash })
            ] refl
      ]

  -- where the request can be granted, the test holds of each key
  goes_everywhere : (ks : List Key) → CanGrant h t request → list_all (goes_with h t request) ks ≡ true
  goes_everywhere [] can = refl
  goes_everywhere (k ∷ ks) can = and_from _ _ here (goes_everywhere ks can)
    where
      here : goes_with h t request k ≡ true
      here = elim (eqb_tells k.thread t) [
        | inl own ↦ ap (λ b. b || is_compatible (asked request k.node) (held h k.thread k.node)) own.0
        | inr other ↦ ap (λ b. b || is_compatible (asked request k.node) (held h k.thread k.node)) other.0 ∙ can k.thread k.node other.1
      ]

  -- what holds of each key of a list holds of one that is among them
  among : (ks : List Key) (q : Key) → list_any (eq_by_cmp key_cmp q) ks ≡ true → list_all (goes_with h t request) ks ≡ true → goes_with h t request q ≡ true
  among [] q e all = let no = e in cc
  among (k ∷ ks) q e all = elim (tell_keys q k) [
    | inl same ↦ subst (λ x. goes_with h t request x ≡ true) (sym same.1) (and_parts _ _ all).0
    | inr other ↦ among ks q (sym (ap (λ b. b || list_any (eq_by_cmp key_cmp q) ks) other.0) ∙ e) (and_parts _ _ all).1
  ]

  -- at a node that nobody else holds, anything goes
  goes_unheld : (u : ℕ) (n : Node) → map.get h (key u n) ≡ None → AreCompatible (asked request n) (held h u n)
  goes_unheld u n none = subst (λ m. AreCompatible (asked request n) m) (sym (ap (λ o. unwrap_or o NL) none)) (compatible-NL (asked request n))

  -- a request of which the test holds can be granted
  pub can_grant-tells : can_grant h t request ≡ true → CanGrant h t request
  can_grant-tells e u n apart =
      elim (map.get h (key u n)) as (λ o. map.get h (key u n) ≡ o → AreCompatible (asked request n) (held h u n)) [
        | None ↦ λ none. goes_unheld u n none
        | Some m ↦ λ some.
            let there : list_any (eq_by_cmp key_cmp (key u n)) (map.keys h) ≡ true = sym (map.contains_key-keys h (key u n)) ∙ ap is_some some in
            goes_there h t request (key u n) (among (map.keys h) (key u n) there e) apart
      ] refl

  -- and the test holds of one that can be granted
  pub CanGrant-tested : CanGrant h t request → can_grant h t request ≡ true
  CanGrant-tested can = goes_everywhere (map.keys h) can

  -- a request of which the test fails has someone in its way
  pub can_grant-refused : can_grant h t request ≡ false → IsRefusedRequest h t request
  can_grant-refused e = refused_by (λ k. k) (map.keys h) e

  -- an answer that tells whether the request can be granted is that of the test
  pub answer_is : (all : Bool) → (all ≡ true → CanGrant h t request) → (CanGrant h t request → all ≡ true) → all ≡ can_grant h t request
  answer_is true told grants = sym (CanGrant-tested (told refl))
  answer_is false told grants =
      elim (can_grant h t request) as (λ b. can_grant h t request ≡ b → false ≡ b) [
        | true ↦ λ e. grants (can_grant-tells e)
        | false ↦ λ e. refl
      ] refl
