-- The request of a section's locks is the least map of nodes to modes that is at least every ask of its locks.
use Rattle.std.proofs.Common.{◌≡◌, Bool, true, false, cond, List, [], ◌∷◌, refl, sym, ap, ◌∙◌, subst, inl, inr}
use Rattle.std.specs.Cmp.Lexicographic.{nat_list_eq_equiv}
use Rattle.asl_code.specs.declared.value.Value.{Value}
use Rattle.asl_code.specs.declared.lock.Lock.{Lock}
use Rattle.asl_mode_lanes.specs.declared.mode.Mode.{Mode}
use Rattle.asl_mode_lanes.specs.Mode.{AtMost, join_of}
use Rattle.asl_mode_lanes.proofs.ModeLaws.{at_most_refl, at_most_trans, join_left, join_right, join_least}
use Rattle.asl_lock_forest.specs.declared.node.Node.{Node}
use Rattle.asl_lock_forest.specs.Node.{same_node, node_code}
use Rattle.asl_lock_forest.specs.Holding.{Request, asked}
use Rattle.asl_lock_forest.proofs.Laws.{tell_nodes}
use Rattle.asl_machine.specs.State.{Object}
use Rattle.asl_machine.specs.Request.{IsAsk, IsLeast, all_asks, joined_with, joined_all, request_of}

pub same_sym : (a b : Node) → same_node a b ≡ same_node b a
same_sym a b = nat_list_eq_equiv.symm (node_code a) (node_code b)

-- what is told of a node is told of one that is the same
same_along : (a b x : Node) → same_node a b ≡ true → same_node a x ≡ same_node b x
same_along a b x e = nat_list_eq_equiv.congr (node_code a) (node_code b) (node_code x) e

other_along : (a n x : Node) → same_node a n ≡ false → same_node a x ≡ true → same_node n x ≡ false
other_along a n x e q = same_sym n x ∙ sym (same_along a x n q) ∙ e

-- the step of the next lemma, by what the two tests of nodes tell
asked_step : (p q r : Bool) (own m rest rest' : Mode) → (p ≡ true → q ≡ r) → (p ≡ false → q ≡ true → r ≡ false) → rest' ≡ cond r (join_of rest m) rest →
    cond p (cond q (join_of own m) rest) (cond q own rest') ≡ cond r (join_of (cond q own rest) m) (cond q own rest)
asked_step true true true own m rest rest' s o e = refl
asked_step true true false own m rest rest' s o e = let h = s refl in cc
asked_step true false true own m rest rest' s o e = let h = s refl in cc
asked_step true false false own m rest rest' s o e = refl
asked_step false true true own m rest rest' s o e = let h = o refl refl in cc
asked_step false true false own m rest rest' s o e = refl
asked_step false false r own m rest rest' s o e = e

-- an ask more joins its mode at its node, and changes no other
pub asked-joined_with : (request : Request) (n : Node) (m : Mode) (x : Node) →
    asked (joined_with request n m) x ≡ cond (same_node n x) (join_of (asked request x) m) (asked request x)
asked-joined_with [] n m x = refl
asked-joined_with (ask ∷ others) n m x =
    let L : Request = (ask.0, join_of ask.1 m) ∷ others in
    let R : Request = ask ∷ joined_with others n m in
    let split : asked (cond (same_node ask.0 n) L R) x ≡ cond (same_node ask.0 n) (asked L x) (asked R x) =
    elim (same_node ask.0 n) as (λ p. asked (cond p L R) x ≡ cond p (asked L x) (asked R x)) [ true ↦ refl | false ↦ refl ] in
    split ∙ asked_step (same_node ask.0 n) (same_node ask.0 x) (same_node n x) ask.1 m (asked others x) (asked (joined_with others n m) x)
    (same_along ask.0 n x) (other_along ask.0 n x) (asked-joined_with others n m x)

-- a mode joined or not is at most what both are at most
at_most_cond : (b : Bool) (a m c : Mode) → AtMost a c → (b ≡ true → AtMost m c) → AtMost (cond b (join_of a m) a) c
at_most_cond true a m c h k = join_least a m c h (k refl)
at_most_cond false a m c h k = h

-- a mode joined or not is at least what it was
cond_at_least : (b : Bool) (a m : Mode) → AtMost a (cond b (join_of a m) a)
cond_at_least true a m = join_left a m
cond_at_least false a m = at_most_refl a

-- an ask more makes no node's mode less
pub grows_with : (request : Request) (n : Node) (m : Mode) (x : Node) → AtMost (asked request x) (asked (joined_with request n m) x)
grows_with request n m x = subst (AtMost (asked request x)) (sym (asked-joined_with request n m x)) (cond_at_least (same_node n x) (asked request x) m)

pub same_self : (n : Node) → same_node n n ≡ true
same_self n = nat_list_eq_equiv.refl (node_code n)

-- after an ask its node's mode is at least the mode asked
pub has_own : (request : Request) (n : Node) (m : Mode) → AtMost m (asked (joined_with request n m) n)
has_own request n m =
    subst (AtMost m) (sym (asked-joined_with request n m n ∙ ap (λ b. cond b (join_of (asked request n) m) (asked request n)) (same_self n))) (join_right (asked request n) m)

pub same_is : (a b : Node) → same_node a b ≡ true → a ≡ b
same_is a b e = elim (tell_nodes a b) [ inl t ↦ t.1 | inr t ↦ let h = t.0 in cc ]

-- where all were at most a mode, and the ask is, all are
pub below_with : (request : Request) (n : Node) (m : Mode) (x : Node) (c : Mode) → AtMost (asked request x) c → (n ≡ x → AtMost m c) → AtMost (asked (joined_with request n m) x) c
below_with request n m x c h k =
    subst (λ a. AtMost a c) (sym (asked-joined_with request n m x)) (at_most_cond (same_node n x) (asked request x) m c h (λ e. k (same_is n x e)))

-- ---- many asks

-- the same three of many asks
pub grows_all : (asks request : Request) (x : Node) → AtMost (asked request x) (asked (joined_all request asks) x)
grows_all [] request x = at_most_refl (asked request x)
grows_all (ask ∷ asks) request x =
    at_most_trans _ _ _ (grows_with request ask.0 ask.1 x) (grows_all asks (joined_with request ask.0 ask.1) x)

pub enough_all : (asks request : Request) (n : Node) (m : Mode) → IsAsk asks n m → AtMost m (asked (joined_all request asks) n)
enough_all [] request n m h = absurd h
enough_all (ask ∷ asks) request n m h =
    elim h [
      | inl e ↦
          at_most_trans _ _ _ (subst (λ x. AtMost m (asked (joined_with request x ask.1) n)) (sym e.0) (subst (λ o. AtMost m (asked (joined_with request n o) n)) (sym e.1) (has_own request n m)))
          (grows_all asks (joined_with request ask.0 ask.1) n)
      | inr later ↦ enough_all asks (joined_with request ask.0 ask.1) n m later
    ]

pub below_all : (asks request : Request) (x : Node) (c : Mode) → AtMost (asked request x) c → ((m : Mode) → IsAsk asks x m → AtMost m c) → AtMost (asked (joined_all request asks) x) c
below_all [] request x c h k = h
below_all (ask ∷ asks) request x c h k =
    below_all asks (joined_with request ask.0 ask.1) x c (below_with request ask.0 ask.1 x c h (λ e. k ask.1 (inl (e, refl)))) (λ m i. k m (inr i))

-- the request of a list is the least map that is at least every ask of its locks
pub request_is_least : (objects : List Object) (regs : List Value) (locks : List Lock) → IsLeast (all_asks objects regs locks) (request_of objects regs locks)
request_is_least objects regs locks = record {
  enough = λ n m h. enough_all (all_asks objects regs locks) [] n m h;
  least = λ map h n. below_all (all_asks objects regs locks) [] n (map n) refl (λ m i. h n m i);
}
