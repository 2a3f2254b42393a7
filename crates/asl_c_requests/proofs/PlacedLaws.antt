-- Laws of words that rise, with one more ask in its place.
use Rattle.std.proofs.Common.{◌≡◌, ◌+◌, ◌<◌, ◌≤◌, Bool, true, false, cond, not, [], ◌∷◌, ◌++◌, Option, None, Some, IsTrue, length, take, drop, get_or, set, suc, refl, sym, ap, subst, ◌∙◌, inl, inr, arith}
use Rattle.std.proofs.lemmas.Bool.{and_parts, and_from, cases_Bool}
use Rattle.asl_mode_lanes.specs.declared.mode.Mode.{Mode}
use Rattle.asl_mode_lanes.specs.declared.mode.Mode.TheVariants.{NL}
use Rattle.asl_mode_lanes.specs.Mode.{is_at_most, join_of}
use Rattle.asl_mode_lanes.proofs.ModeLaws.{at_most_trans, join_left}
use Rattle.asl_lock_forest.specs.declared.node.Node.{Node}
use Rattle.asl_lock_forest.specs.Node.{same_node}
use Rattle.asl_lock_forest.specs.Holding.{Request, asked}
use Rattle.asl_lock_forest.specs.Request.{asks_modes}
use Rattle.asl_lock_queue.specs.Order.{is_below, is_after, rises_after, is_rising}
use Rattle.asl_lock_queue.proofs.OrderLaws.{below_apart, below_total}
use Rattle.asl_lock_queue.proofs.RisingLaws.{asked_before, rises_alone}
use Rattle.asl_machine.specs.Request.{joined_with, joined_all}
use Rattle.asl_machine.proofs.LeastRequests.{asked-joined_with, same_is, same_self}
use Rattle.asl_c_requests.specs.Placed.{place_of, placed, placed_all}

-- ---- what is asked

-- behind a node that is below it the rest decides
below_step : (q r : Bool) (own m rest rest' : Mode) → (q ≡ true → r ≡ false) → rest' ≡ cond r (join_of rest m) rest →
    cond q own rest' ≡ cond r (join_of (cond q own rest) m) (cond q own rest)
below_step true true own m rest rest' s e = let h = s refl in cc
below_step true false own m rest rest' s e = refl
below_step false r own m rest rest' s e = e

same_step : (q r : Bool) (own m rest : Mode) → q ≡ r → cond q (join_of own m) rest ≡ cond r (join_of (cond q own rest) m) (cond q own rest)
same_step true true own m rest s = refl
same_step true false own m rest s = cc
same_step false true own m rest s = cc
same_step false false own m rest s = refl

new_step : (r : Bool) (m rest : Mode) → (r ≡ true → rest ≡ NL) → cond r m rest ≡ cond r (join_of rest m) rest
new_step true m rest s = let e = s refl in ap (λ o. join_of o m) (sym e)
new_step false m rest s = refl

-- a node that is the same as one is not the same as one below that
not_both : (a n x : Node) → is_below a n ≡ true → same_node a x ≡ true → same_node n x ≡ false
not_both a n x below same = elim (cases_Bool (same_node n x)) [
  | inl is ↦ absurd (below_apart a n below (same_is a x same ∙ sym (same_is n x is)))
  | inr isnt ↦ isnt
]

-- of two nodes that are not the same one is below the other
above : (a b : Node) → is_below a b ≡ false → same_node a b ≡ false → is_below b a ≡ true
above a b high apart = elim (cases_Bool (is_below b a)) [
  | inl is ↦ is
  | inr isnt ↦
      let e : a ≡ b = below_total a b high isnt in
      let same : same_node a b ≡ true = subst (λ k. same_node a k ≡ true) e (same_self a) in cc
]

-- the words ask one more mode at the node, joined with what was asked there, and at others what they asked
pub asked-placed : (words : Request) (n : Node) (m : Mode) (x : Node) → is_rising words ≡ true →
    asked (placed words n m) x ≡ cond (same_node n x) (join_of (asked words x) m) (asked words x)
asked-placed [] n m x rises = refl
asked-placed (ask ∷ others) n m x rises =
    let first : Request = ask ∷ placed others n m in
    let second : Request = (ask.0, join_of ask.1 m) ∷ others in
    let third : Request = (n, m) ∷ ask ∷ others in
    elim (cases_Bool (is_below ask.0 n)) [
      | inl below ↦
          ap (λ b. asked (cond b first (cond (same_node ask.0 n) second third)) x) below
          ∙ below_step (same_node ask.0 x) (same_node n x) ask.1 m (asked others x) (asked (placed others n m) x) (not_both ask.0 n x below)
          (asked-placed others n m x (rises_alone (Some ask.0) others rises))
      | inr high ↦ elim (cases_Bool (same_node ask.0 n)) [
        | inl same ↦
            ap (λ b. asked (cond b first (cond (same_node ask.0 n) second third)) x) high
            ∙ ap (λ b. asked (cond b second third) x) same
            ∙ same_step (same_node ask.0 x) (same_node n x) ask.1 m (asked others x) (ap (λ k. same_node k x) (same_is ask.0 n same))
        | inr apart ↦
            ap (λ b. asked (cond b first (cond (same_node ask.0 n) second third)) x) high
            ∙ ap (λ b. asked (cond b second third) x) apart
            ∙ new_step (same_node n x) m (asked (ask ∷ others) x) (λ is.
            let e : n ≡ x = same_is n x is in
            subst (λ k. asked (ask ∷ others) k ≡ NL) e (asked_before n (ask ∷ others) (and_from _ _ (above ask.0 n high apart) rises)))
      ]
    ]

-- ---- what rises

pub rises-placed : (last : Option Node) (words : Request) (n : Node) (m : Mode) → is_after last n ≡ true → rises_after last words ≡ true →
    rises_after last (placed words n m) ≡ true
rises-placed last [] n m after rises = and_from _ _ after refl
rises-placed last (ask ∷ others) n m after rises =
    let first : Request = ask ∷ placed others n m in
    let second : Request = (ask.0, join_of ask.1 m) ∷ others in
    let third : Request = (n, m) ∷ ask ∷ others in
    let parts = and_parts (is_after last ask.0) (rises_after (Some ask.0) others) rises in
    elim (cases_Bool (is_below ask.0 n)) [
      | inl below ↦
          ap (λ b. rises_after last (cond b first (cond (same_node ask.0 n) second third))) below
          ∙ and_from _ _ parts.0 (rises-placed (Some ask.0) others n m below parts.1)
      | inr high ↦ elim (cases_Bool (same_node ask.0 n)) [
        | inl same ↦
            ap (λ b. rises_after last (cond b first (cond (same_node ask.0 n) second third))) high
            ∙ ap (λ b. rises_after last (cond b second third)) same ∙ rises
        | inr apart ↦
            ap (λ b. rises_after last (cond b first (cond (same_node ask.0 n) second third))) high
            ∙ ap (λ b. rises_after last (cond b second third)) apart
            ∙ and_from _ _ after (and_from _ _ (above ask.0 n high apart) parts.1)
      ]
    ]

-- ---- modes

join_some : (a b : Mode) → IsTrue (not (is_at_most a NL)) → IsTrue (not (is_at_most (join_of a b) NL))
join_some a b h = off (is_at_most (join_of a b) NL) (is_at_most a NL) h (λ e. at_most_trans a (join_of a b) NL (join_left a b) e)
  where
    off : (x y : Bool) → IsTrue (not y) → (IsTrue x → IsTrue y) → IsTrue (not x)
    off false y h k = refl
    off true y h k = let e : y ≡ true = k refl in subst (λ b. IsTrue (not b)) e h

pub modes-placed : (words : Request) (n : Node) (m : Mode) → IsTrue (not (is_at_most m NL)) → IsTrue (asks_modes words) → IsTrue (asks_modes (placed words n m))
modes-placed [] n m some modes = and_from _ _ some refl
modes-placed (ask ∷ others) n m some modes =
    let parts = and_parts (not (is_at_most ask.1 NL)) (asks_modes others) modes in
    by_tests (is_below ask.0 n) (same_node ask.0 n) (ask ∷ placed others n m) ((ask.0, join_of ask.1 m) ∷ others) ((n, m) ∷ ask ∷ others)
    (and_from _ _ parts.0 (modes-placed others n m some parts.1)) (and_from _ _ (join_some ask.1 m parts.0) parts.1) (and_from _ _ some modes)
  where
    by_tests : (p q : Bool) (a b c : Request) → IsTrue (asks_modes a) → IsTrue (asks_modes b) → IsTrue (asks_modes c) → IsTrue (asks_modes (cond p a (cond q b c)))
    by_tests true q a b c x y z = x
    by_tests false true a b c x y z = y
    by_tests false false a b c x y z = z

-- ---- many asks

pub rises-placed_all : (asks words : Request) → is_rising words ≡ true → is_rising (placed_all words asks) ≡ true
rises-placed_all [] words rises = rises
rises-placed_all (ask ∷ asks) words rises = rises-placed_all asks (placed words ask.0 ask.1) (rises-placed None words ask.0 ask.1 refl rises)

pub modes-placed_all : (asks words : Request) → IsTrue (asks_modes asks) → IsTrue (asks_modes words) → IsTrue (asks_modes (placed_all words asks))
modes-placed_all [] words some modes = modes
modes-placed_all (ask ∷ asks) words some modes =
    let parts = and_parts (not (is_at_most ask.1 NL)) (asks_modes asks) some in
    modes-placed_all asks (placed words ask.0 ask.1) parts.1 (modes-placed words ask.0 ask.1 parts.0 modes)

-- where words that rise ask for what a request asks, they do so with more asks
pub same-placed_all : (asks words request : Request) → is_rising words ≡ true → ((x : Node) → asked words x ≡ asked request x) → (x : Node) →
    asked (placed_all words asks) x ≡ asked (joined_all request asks) x
same-placed_all [] words request rises same x = same x
same-placed_all (ask ∷ asks) words request rises same x =
    same-placed_all asks (placed words ask.0 ask.1) (joined_with request ask.0 ask.1) (rises-placed None words ask.0 ask.1 refl rises)
    (λ y. asked-placed words ask.0 ask.1 y rises ∙ ap (λ o. cond (same_node ask.0 y) (join_of o ask.1) o) (same y) ∙ sym (asked-joined_with request ask.0 ask.1 y)) x

-- ---- places

pub place_within : (words : Request) (n : Node) → place_of words n ≤ length words
place_within [] n = omega arith
place_within (ask ∷ others) n =
    let le = place_within others n in
    elim (is_below ask.0 n) as (λ b. cond b (1 + place_of others n) 0 ≤ length (ask ∷ others)) [ true ↦ omega arith | false ↦ omega arith ]

-- the ask at the place of the node is joined
pub placed_there : (words : Request) (n : Node) (m : Mode) (d : Node × Mode) → place_of words n < length words → same_node (get_or words (place_of words n) d).0 n ≡ true →
    placed words n m ≡ set words (place_of words n) (n, join_of (get_or words (place_of words n) d).1 m)
placed_there [] n m d lt same = absurd (omega arith)
placed_there (ask ∷ others) n m d lt same =
    elim (is_below ask.0 n) as (λ b. (let p = cond b (1 + place_of others n) 0 in
    p < length (ask ∷ others) → same_node (get_or (ask ∷ others) p d).0 n ≡ true →
    cond b (ask ∷ placed others n m) (cond (same_node ask.0 n) ((ask.0, join_of ask.1 m) ∷ others) ((n, m) ∷ ask ∷ others)) ≡ set (ask ∷ others) p (n, join_of (get_or (ask ∷ others) p d).1 m))) [
      | true ↦ λ l s.
          let lt' : place_of others n < length others = omega arith in
          let e : suc (place_of others n) ≡ 1 + place_of others n = omega arith in
          let s' : same_node (get_or others (place_of others n) d).0 n ≡ true = subst (λ p. same_node (get_or (ask ∷ others) p d).0 n ≡ true) (sym e) s in
          subst (λ p. ask ∷ placed others n m ≡ set (ask ∷ others) p (n, join_of (get_or (ask ∷ others) p d).1 m)) e
          (ap (λ (r : Request). ask ∷ r) (placed_there others n m d lt' s'))
      | false ↦ λ l s.
          ap (λ b. cond b ((ask.0, join_of ask.1 m) ∷ others) ((n, m) ∷ ask ∷ others)) s
          ∙ ap (λ k. (k, join_of ask.1 m) ∷ others) (same_is ask.0 n s)
    ] lt same

-- where there is none, the ask is put there
pub placed_new : (words : Request) (n : Node) (m : Mode) (d : Node × Mode) → (place_of words n < length words → same_node (get_or words (place_of words n) d).0 n ≡ false) →
    placed words n m ≡ take (place_of words n) words ++ (n, m) ∷ drop (place_of words n) words
placed_new [] n m d other = refl
placed_new (ask ∷ others) n m d other =
    elim (is_below ask.0 n) as (λ b. (let p = cond b (1 + place_of others n) 0 in
    (p < length (ask ∷ others) → same_node (get_or (ask ∷ others) p d).0 n ≡ false) →
    cond b (ask ∷ placed others n m) (cond (same_node ask.0 n) ((ask.0, join_of ask.1 m) ∷ others) ((n, m) ∷ ask ∷ others)) ≡ take p (ask ∷ others) ++ (n, m) ∷ drop p (ask ∷ others))) [
      | true ↦ λ o.
          let e : suc (place_of others n) ≡ 1 + place_of others n = omega arith in
          let o' : (place_of others n < length others → same_node (get_or others (place_of others n) d).0 n ≡ false) =
          λ lt. subst (λ p. same_node (get_or (ask ∷ others) p d).0 n ≡ false) (sym e) (o (omega arith)) in
          subst (λ p. ask ∷ placed others n m ≡ take p (ask ∷ others) ++ (n, m) ∷ drop p (ask ∷ others)) e
          (ap (λ (r : Request). ask ∷ r) (placed_new others n m d o'))
      | false ↦ λ o. ap (λ b. cond b ((ask.0, join_of ask.1 m) ∷ others) ((n, m) ∷ ask ∷ others)) (o (omega arith))
    ] other
