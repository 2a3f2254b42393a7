-- A try with care has one outcome: whether another thread covers a cell for writing can be told, since a holding is a finite map.
use Rattle.std.proofs.Common.{◌≡◌, ◌≢◌, ◌⊎◌, ℕ, zero, suc, ◌<◌, true, false, List, [], ◌∷◌, Option, Some, None, length, slice_get, refl, ap, sym, ◌∙◌, subst, inl, inr, arith}
use Rattle.std.specs.Prelude.{if◌then◌else◌}
use Rattle.std.proofs.lemmas.Option.{same_Some, slice_get_within}
use Rattle.std.proofs.Math.Nat.{eq-or-lt_of_le}
use Rattle.asl_code.specs.declared.lock.Lock.{Lock}
use Rattle.asl_code.specs.declared.value.Value.{Value}
use Rattle.asl_code.specs.declared.value.Cell.{Cell}
use Rattle.asl_code.specs.declared.value.Effect.TheVariants.{Write}
use Rattle.asl_mode_lanes.specs.declared.mode.Mode.{Mode}
use Rattle.asl_mode_lanes.specs.declared.mode.Mode.TheVariants.{NL, IS, IX, S, SIX, X}
use Rattle.asl_mode_lanes.specs.Mode.{AtMost, is_compatible}
use Rattle.asl_lock_forest.specs.declared.node.Node.{Node}
use Rattle.asl_lock_forest.specs.Holding.{Holding, Request, held, asked, CanGrant, can_grant}
use Rattle.asl_lock_forest.specs.Request.{IsRefusedRequest}
use Rattle.asl_lock_forest.proofs.Grantable.{can_grant-tells, can_grant-refused, CanGrant-tested}
use Rattle.asl_lock_forest.proofs.Laws.{tell_nodes}
use Rattle.asl_lock_forest.proofs.NinePairs.{Where, at_leaf, at_class, at_root, node_at, covered_at, covers_at}
use Rattle.asl_machine.specs.State.{Object, class_of}
use Rattle.asl_machine.specs.Request.{request_of}
use Rattle.asl_races.specs.Visits.{Visit, visit, visited}
use Rattle.asl_races.specs.Tries.{IsHeldByAnother, ComesTo, StopsAt, Outcome, Granted, Refused, Stopped, IsOutcome}
use Rattle.asl_races.proofs.TriesAfter.{only_X}

up_to : (n k : ℕ) → n < suc k → (n ≡ k) ⊎ (n < k)
up_to n k lt = eq-or-lt_of_le (omega (arith, lt))

-- ---- whether another thread holds a node in X, by a request for the node in IS

clashes_with_X : (m : Mode) → is_compatible IS m ≡ false → m ≡ X
clashes_with_X NL e = cc
clashes_with_X IS e = cc
clashes_with_X IX e = cc
clashes_with_X S e = cc
clashes_with_X SIX e = cc
clashes_with_X X e = refl

module _ (h : Holding) (thread : ℕ) where
  -- another thread holds the node in X
  abbrev HasX : Node → Type 0
  HasX node = (other : ℕ) × (other ≢ thread) × (held h other node ≡ X)

  abbrev looks : Node → Request
  looks node = (node, IS) ∷ []

  in_X : (node : Node) → IsRefusedRequest h thread (looks node) → HasX node
  in_X node way = elim (tell_nodes node way.1) [
    | inl same ↦
        let asks : asked (looks node) way.1 ≡ IS = ap (λ b. if b then IS else NL) same.0 in
        let clash : is_compatible IS (held h way.0 way.1) ≡ false = sym (ap (λ m. is_compatible m (held h way.0 way.1)) asks) ∙ way.2.clashes in
        (way.0, way.2.different, ap (held h way.0) same.1 ∙ clashes_with_X (held h way.0 way.1) clash)
    | inr apart ↦
        let asks : asked (looks node) way.1 ≡ NL = ap (λ b. if b then IS else NL) apart.0 in
        let clash : is_compatible NL (held h way.0 way.1) ≡ false = sym (ap (λ m. is_compatible m (held h way.0 way.1)) asks) ∙ way.2.clashes in
        absurd (let goes : is_compatible NL (held h way.0 way.1) ≡ true = anything (held h way.0 way.1) in cc)
  ]
    where
      anything : (m : Mode) → is_compatible NL m ≡ true
      anything NL = refl
      anything IS = refl
      anything IX = refl
      anything S = refl
      anything SIX = refl
      anything X = refl

  not_X : (node : Node) → CanGrant h thread (looks node) → ¬ HasX node
  not_X node can x =
      let asks : asked (looks node) node ≡ IS = elim (tell_nodes node node) [ inl same ↦ ap (λ b. if b then IS else NL) same.0 | inr apart ↦ absurd (apart.1 refl) ] in
      let goes : is_compatible (asked (looks node) node) (held h x.0 node) ≡ true = can x.0 node x.1 in
      let never : is_compatible IS X ≡ true = sym (ap (λ m. is_compatible m X) asks) ∙ (sym (ap (is_compatible (asked (looks node) node)) x.2) ∙ goes) in
      let no : false ≡ true = never in
      cc

  tell_X : (node : Node) → HasX node ⊎ (¬ HasX node)
  tell_X node = elim (can_grant h thread (looks node)) as (λ b. can_grant h thread (looks node) ≡ b → HasX node ⊎ (¬ HasX node)) [
    | true ↦ λ e. inr (not_X node (can_grant-tells h thread (looks node) e))
    | false ↦ λ e. inl (in_X node (can_grant-refused h thread (looks node) e))
  ] refl

-- ---- whether another thread covers a cell for writing

module _ (h : Holding) (objects : List Object) (thread : ℕ) where
  is_held : (cell : Cell) (class : ℕ) (w : Where) → class_of objects cell.object ≡ Some class → HasX h thread (node_at cell class w) → IsHeldByAnother h objects thread cell
  is_held cell class w of x = record {
    other = x.0;
    another = x.1;
    class = class;
    of = of;
    covers = covers_at h x.0 cell class Write w (subst (AtMost X) (sym x.2) refl);
  }

  none_held : (cell : Cell) (class : ℕ) → class_of objects cell.object ≡ Some class → ((w : Where) → ¬ HasX h thread (node_at cell class w)) → ¬ IsHeldByAnother h objects thread cell
  none_held cell class of none b =
      let same : b.class ≡ class = same_Some _ _ (sym b.of ∙ of) in
      let at = covered_at h b.other cell b.class Write b.covers in
      none at.0 (b.other, b.another, ap (λ k. held h b.other (node_at cell k at.0)) (sym same) ∙ only_X (held h b.other (node_at cell b.class at.0)) at.1)

  by_class : (cell : Cell) (class : ℕ) → class_of objects cell.object ≡ Some class → IsHeldByAnother h objects thread cell ⊎ (¬ IsHeldByAnother h objects thread cell)
  by_class cell class of = elim (tell_X h thread (node_at cell class at_leaf)) [
    | inl leaf ↦ inl (is_held cell class at_leaf of leaf)
    | inr no_leaf ↦ elim (tell_X h thread (node_at cell class at_class)) [
      | inl one ↦ inl (is_held cell class at_class of one)
      | inr no_class ↦ elim (tell_X h thread (node_at cell class at_root)) [
        | inl root ↦ inl (is_held cell class at_root of root)
        | inr no_root ↦ inr (none_held cell class of (nowhere no_leaf no_class no_root))
      ]
    ]
  ]
    where
      nowhere : ¬ HasX h thread (node_at cell class at_leaf) → ¬ HasX h thread (node_at cell class at_class) → ¬ HasX h thread (node_at cell class at_root) → (w : Where) → ¬ HasX h thread (node_at cell class w)
      nowhere leaf one root at_leaf = leaf
      nowhere leaf one root at_class = one
      nowhere leaf one root at_root = root

  tell_held : (cell : Cell) → IsHeldByAnother h objects thread cell ⊎ (¬ IsHeldByAnother h objects thread cell)
  tell_held cell = elim (class_of objects cell.object) as (λ o. class_of objects cell.object ≡ o → IsHeldByAnother h objects thread cell ⊎ (¬ IsHeldByAnother h objects thread cell)) [
    | None ↦ λ none. inr (λ b. (let e : None ≡ Some b.class = sym none ∙ b.of in cc))
    | Some class ↦ λ of. by_class cell class of
  ] refl

  -- ---- how far the evaluation comes

  module _ (regs : List Value) (locks : List Lock) where
    abbrev Comes : ℕ → Type 0
    Comes place = ComesTo h objects thread regs locks place

    -- where the next visit is none that reads a cell which another has for writing, it comes on
    further : (place : ℕ) → Comes place → ((cell : Cell) → slice_get (visited objects regs locks) place ≡ Some (visit cell true) → ¬ IsHeldByAnother h objects thread cell) → Comes (suc place)
    further place comes free n cell lt is = elim (up_to n place lt) [
      | inl same ↦ free cell (subst (λ k. slice_get (visited objects regs locks) k ≡ Some (visit cell true)) same is)
      | inr less ↦ comes n cell less is
    ]

    next : (place : ℕ) → Comes place → (o : Option Visit) → slice_get (visited objects regs locks) place ≡ o → Comes (suc place) ⊎ StopsAt h objects thread regs locks place
    next place comes None at = inl (further place comes (λ cell is. absurd (let e : None ≡ Some (visit cell true) = sym at ∙ is in cc)))
    next place comes (Some one) at = elim one.is_read as (λ b. one.is_read ≡ b → Comes (suc place) ⊎ StopsAt h objects thread regs locks place) [
      | false ↦ λ no. inl (further place comes (λ cell is. absurd (
          let same : one ≡ visit cell true = same_Some _ _ (sym at ∙ is) in
          let e : false ≡ true = sym no ∙ ap (λ (v : Visit). v.is_read) same in
          cc)))
      | true ↦ λ yes.
          let here : slice_get (visited objects regs locks) place ≡ Some (visit one.cell true) = at ∙ ap (λ b. Some (visit one.cell b)) yes in
          elim (tell_held one.cell) [
            | inl own ↦ inr (record { cell = one.cell; is = here; comes = comes; held = own })
            | inr free ↦ inl (further place comes (λ cell is.
                let same : one.cell ≡ cell = ap (λ (v : Visit). v.cell) (same_Some _ _ (sym here ∙ is)) in
                subst (λ c. ¬ IsHeldByAnother h objects thread c) same free))
          ]
    ] refl

    as_far : (place : ℕ) → Comes place ⊎ ((n : ℕ) × StopsAt h objects thread regs locks n)
    as_far zero = inl (λ n cell lt is. absurd (omega (arith, lt)))
    as_far (suc place) = elim (as_far place) [
      | inl comes ↦ elim (next place comes (slice_get (visited objects regs locks) place) refl) [ inl on ↦ inl on | inr stops ↦ inr (place, stops) ]
      | inr stops ↦ inr stops
    ]

    pub some_outcome : (outcome : Outcome) × IsOutcome h objects thread regs locks outcome
    some_outcome = elim (as_far (length (visited objects regs locks))) [
      | inr stops ↦ (Stopped stops.0, stops.1)
      | inl comes ↦ elim (can_grant h thread (request_of objects regs locks)) as (λ b. can_grant h thread (request_of objects regs locks) ≡ b → (outcome : Outcome) × IsOutcome h objects thread regs locks outcome) [
        | true ↦ λ e. (Granted, record { comes = comes; free = can_grant-tells h thread (request_of objects regs locks) e })
        | false ↦ λ e. (Refused, (comes, λ can. (let yes = CanGrant-tested h thread (request_of objects regs locks) can in let no : false ≡ true = sym e ∙ yes in cc)))
      ] refl
    ]

    -- ---- one alone

    not_past : (m n : ℕ) → StopsAt h objects thread regs locks m → Comes n → m < n → ⊥
    not_past m n stops comes lt = comes m stops.cell lt stops.is stops.held

    not_end : (m : ℕ) → StopsAt h objects thread regs locks m → Comes (length (visited objects regs locks)) → ⊥
    not_end m stops comes = not_past m (length (visited objects regs locks)) stops comes (slice_get_within (visited objects regs locks) m (visit stops.cell true) stops.is)

    one_stop : (m n : ℕ) → StopsAt h objects thread regs locks m → StopsAt h objects thread regs locks n → m ≡ n
    one_stop m n p q = elim (apart m n) [
      | inl same ↦ same
      | inr other ↦ elim other [ inl lt ↦ absurd (not_past m n p q.comes lt) | inr gt ↦ absurd (not_past n m q p.comes gt) ]
    ]
      where
        apart : (m n : ℕ) → (m ≡ n) ⊎ ((m < n) ⊎ (n < m))
        apart m n = grind arith

    pub one_outcome : (outcome other : Outcome) → IsOutcome h objects thread regs locks outcome → IsOutcome h objects thread regs locks other → outcome ≡ other
    one_outcome Granted Granted p q = refl
    one_outcome Granted Refused p q = absurd (q.1 p.free)
    one_outcome Granted (Stopped n) p q = absurd (not_end n q p.comes)
    one_outcome Refused Granted p q = absurd (p.1 q.free)
    one_outcome Refused Refused p q = refl
    one_outcome Refused (Stopped n) p q = absurd (not_end n q p.0)
    one_outcome (Stopped m) Granted p q = absurd (not_end m p q.comes)
    one_outcome (Stopped m) Refused p q = absurd (not_end m p q.0)
    one_outcome (Stopped m) (Stopped n) p q = ap (λ k. Stopped k) (one_stop m n p q)
