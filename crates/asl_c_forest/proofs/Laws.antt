-- Who does not hold the root holds nothing; what can be granted ask by ask can be granted as a whole.
use Rattle.std.proofs.Common.{◌≡◌, ◌≢◌, ℕ, ◌<◌, zero, suc, Bool, true, false, not, ◌&&◌, ◌||◌, IsTrue, List, [], ◌∷◌, length, map, Option, None, Some, unwrap_or, if◌then◌else◌, refl, sym, subst, ap, ◌∙◌, inl, inr, arith, true≢false, get_or, drop, ◌+◌}
use Rattle.asl_mode_lanes.specs.declared.mode.Mode.{Mode}
use Rattle.asl_mode_lanes.specs.declared.mode.Mode.TheVariants.{NL, IS, IX, S, SIX, X}
use Rattle.asl_mode_lanes.specs.Mode.{AtMost}
use Rattle.asl_lock_forest.specs.declared.node.Node.{Node}
use Rattle.asl_lock_forest.specs.declared.node.Node.TheVariants.{Root, Class, Leaf}
use Rattle.asl_mode_lanes.specs.Mode.{AreCompatible, is_compatible}
use Rattle.asl_lock_forest.specs.Node.{parent_mode, IsThere, same_node}
use Rattle.asl_lock_forest.specs.Keys.{key}
use Rattle.asl_lock_forest.specs.Holding.{Holding, Request, held, asked, HoldsNothing, CanGrant, IsLawful}
use Rattle.asl_lock_forest.specs.Request.{names, names_once, GoesWithOthers, IsKeptFrom, IsRefusedRequest, IsOfClasses}
use Rattle.asl_lock_forest.proofs.Laws.{tell_nodes}
use Rattle.asl_lock_queue.specs.declared.ask.Ask.{Ask}
use Rattle.asl_lock_queue.specs.Asks.{node_of, ask_of}
use Rattle.asl_c_forest.specs.Status.{is_there, has_classes}
use Rattle.asl_mode_lanes.specs.Row.{mode_of}
use Rattle.std.proofs.lemmas.List.{drop_more, get_or-map, length-map}
use Rattle.std.proofs.lemmas.List.Elements.{All-cons}
use Rattle.std.specs.FinMap as finite

-- below nothing is nothing
below : (m p : Mode) → p ≡ NL → AtMost (parent_mode m) p → m ≡ NL
below NL p e a = refl
below IS p e a = absurd (true≢false (sym (subst (λ q. AtMost IS q) e a)))
below IX p e a = absurd (true≢false (sym (subst (λ q. AtMost IX q) e a)))
below S p e a = absurd (true≢false (sym (subst (λ q. AtMost IS q) e a)))
below SIX p e a = absurd (true≢false (sym (subst (λ q. AtMost IX q) e a)))
below X p e a = absurd (true≢false (sym (subst (λ q. AtMost IX q) e a)))

class_unheld : (h : Holding) (thread : ℕ) → IsLawful h → held h thread Root ≡ NL → (class : ℕ) → held h thread (Class class) ≡ NL
class_unheld h thread lawful e class = below _ _ e (lawful.rooted thread (Class class) Root refl)

unheld : (h : Holding) (thread : ℕ) → IsLawful h → held h thread Root ≡ NL → (node : Node) → held h thread node ≡ NL
unheld h thread lawful e Root = e
unheld h thread lawful e (Class class) = class_unheld h thread lawful e class
unheld h thread lawful e (Leaf cell class) = below _ _ (class_unheld h thread lawful e class) (lawful.rooted thread (Leaf cell class) (Class class) refl)

none_of : (o : Option Mode) → unwrap_or o NL ≡ NL → o ≢ Some NL → o ≡ None
none_of None e n = refl
none_of (Some m) e n = absurd (n (ap Some e))

pub holds_nothing_of : (h : Holding) (thread : ℕ) → IsLawful h → held h thread Root ≡ NL → HoldsNothing h thread
holds_nothing_of h thread lawful e node = none_of (finite.get h (key thread node)) (unheld h thread lawful e node) (lawful.named (key thread node))

-- Requests, ask by ask.

and_parts : (a b : Bool) → IsTrue (a && b) → IsTrue a × IsTrue b
and_parts true b e = (refl, e)
and_parts false b e = absurd (true≢false (sym e))

or_right : (a b : Bool) → b ≡ true → (a || b) ≡ true
or_right true b e = refl
or_right false b e = e

itself : (names : Bool) → IsTrue (not names) → names ≡ false
itself true e = absurd (true≢false (sym e))
itself false e = refl

there_of : (classes : ℕ) (node : Node) → IsTrue (is_there classes node) → IsThere classes node
there_of classes Root e = tt
there_of classes (Class class) e = grind arith
there_of classes (Leaf cell class) e = grind arith

pub classes_of : (classes : ℕ) (asks : List Ask) → IsTrue (has_classes classes asks) → IsOfClasses classes (map ask_of asks)
classes_of classes [] e = λ k d there. absurd (omega arith)
classes_of classes (ask ∷ asks) e =
    let parts = and_parts (is_there classes (node_of ask)) (has_classes classes asks) e in
    All-cons (λ a. IsThere classes a.0) (ask_of ask) (map ask_of asks) (there_of classes (node_of ask) parts.0) (classes_of classes asks parts.1)

pub can_grant_none : (h : Holding) (thread : ℕ) → CanGrant h thread []
can_grant_none h thread other node apart = refl

-- one more node, in a mode that goes with what the others hold there
pub can_grant_more : (h : Holding) (thread : ℕ) (ask : Node × Mode) (rest : Request) → GoesWithOthers h thread ask.0 ask.1 → CanGrant h thread rest → CanGrant h thread (ask ∷ rest)
can_grant_more h thread ask rest goes can other node apart = elim (tell_nodes ask.0 node) [
  | inl same ↦
      subst (λ m. AreCompatible m (held h other node)) (sym (ap (λ b. if b then ask.1 else asked rest node) same.0))
      (subst (λ n. AreCompatible ask.1 (held h other n)) same.1 (goes other apart))
  | inr differs ↦ subst (λ m. AreCompatible m (held h other node)) (sym (ap (λ b. if b then ask.1 else asked rest node) differs.0)) (can other node apart)
]

same_itself : (n : Node) → same_node n n ≡ true
same_itself n = elim (tell_nodes n n) [ inl same ↦ same.0 | inr differs ↦ absurd (differs.1 refl) ]

named_at : (request : Request) (i : ℕ) (d : Node × Mode) → i < length request → names request (get_or request i d).0 ≡ true
named_at [] i d there = absurd (omega arith)
named_at (ask ∷ others) zero d there = ap (λ b. b || names others ask.0) (same_itself ask.0)
named_at (ask ∷ others) (suc i) d there =
    or_right (same_node ask.0 (get_or others i d).0) (names others (get_or others i d).0) (named_at others i d (omega arith))

-- the mode that a request asks at a node that it names once
pub asked_at : (request : Request) (i : ℕ) (d : Node × Mode) → IsTrue (names_once request) → i < length request
    → asked request (get_or request i d).0 ≡ (get_or request i d).1
asked_at [] i d once there = absurd (omega arith)
asked_at (ask ∷ others) zero d once there = ap (λ b. if b then ask.1 else asked others ask.0) (same_itself ask.0)
asked_at (ask ∷ others) (suc i) d once there =
    let parts = and_parts (not (names others ask.0)) (names_once others) once in
    elim (tell_nodes ask.0 (get_or others i d).0) [
      | inl same ↦
          let no : true ≡ false = sym (named_at others i d (omega arith)) ∙ ap (names others) (sym same.1) ∙ itself (names others ask.0) parts.0 in
          absurd (true≢false no)
      | inr differs ↦
          ap (λ b. if b then ask.1 else asked others (get_or others i d).0) differs.0
          ∙ asked_at others i d parts.1 (omega arith)
    ]

-- The request that asks make, at its i-th ask.

pub class_at : (classes : ℕ) (asks : List Ask) (i : ℕ) (d : Ask) → i < length asks → IsOfClasses classes (map ask_of asks) → IsThere classes (node_of (get_or asks i d))
class_at classes asks i d there all =
    subst (λ a. IsThere classes a.0) (get_or-map ask_of asks i d (ask_of d) there) (all i (ask_of d) (subst (λ n. i < n) (sym (length-map asks ask_of)) there))

pub can_grant_from : (h : Holding) (thread : ℕ) (asks : List Ask) (i : ℕ) (d : Ask) (node : Node) (mode : Mode)
    → i < length asks → node ≡ node_of (get_or asks i d) → mode ≡ mode_of (get_or asks i d).mode
    → GoesWithOthers h thread node mode → CanGrant h thread (map ask_of (drop (i + 1) asks)) → CanGrant h thread (map ask_of (drop i asks))
can_grant_from h thread asks i d node mode there node_is mode_is goes can =
    let ask = get_or asks i d in
    let here : GoesWithOthers h thread (node_of ask) (mode_of ask.mode) = subst (λ m. GoesWithOthers h thread (node_of ask) m) mode_is (subst (λ n. GoesWithOthers h thread n mode) node_is goes) in
    subst (λ xs. CanGrant h thread (map ask_of xs)) (sym (drop_more asks i d there)) (can_grant_more h thread (ask_of ask) (map ask_of (drop (i + 1) asks)) here can)

pub refused_at : (h : Holding) (thread : ℕ) (asks : List Ask) (i : ℕ) (d : Ask) (node : Node) (mode : Mode)
    → i < length asks → node ≡ node_of (get_or asks i d) → mode ≡ mode_of (get_or asks i d).mode
    → IsTrue (names_once (map ask_of asks)) → IsKeptFrom h thread node mode → IsRefusedRequest h thread (map ask_of asks)
refused_at h thread asks i d node mode there node_is mode_is once kept =
    let request = map ask_of asks in
    let named : asked request (node_of (get_or asks i d)) ≡ mode_of (get_or asks i d).mode =
    subst (λ a. asked request a.0 ≡ a.1) (get_or-map ask_of asks i d (ask_of d) there)
    (asked_at request i (ask_of d) once (subst (λ n. i < n) (sym (length-map asks ask_of)) there)) in
    let is : mode ≡ asked request node = sym (ap (asked request) node_is ∙ named ∙ sym mode_is) in
    (kept.0, node, record { different = kept.1; clashes = subst (λ m. is_compatible m (held h kept.0 node) ≡ false) is kept.2 })
