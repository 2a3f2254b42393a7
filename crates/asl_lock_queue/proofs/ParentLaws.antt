-- The classes of leaves, looked for in a rising request from where the last one was found.
use Rattle.std.proofs.Common.{not, take, drop, ◌-◌, ◌≡◌, ℕ, zero, suc, ◌<◌, ◌≤◌, true, false, All, IsTrue, List, [], ◌∷◌, Some, None, length, get_or, refl, ap, sym, subst, ◌∙◌, arith}
use Rattle.std.proofs.lemmas.List.{take_all, length-drop}
use Rattle.std.proofs.lemmas.Bool.{and_parts, and_from}
use Rattle.std.proofs.lemmas.List.Elements.{All-nil, All-cons, All-head, All-tail}
use Rattle.asl_mode_lanes.specs.declared.mode.Mode.{Mode}
use Rattle.asl_mode_lanes.specs.declared.mode.Mode.TheVariants.{NL, IS, IX, S, SIX, X}
use Rattle.asl_mode_lanes.specs.Mode.{is_at_most}
use Rattle.asl_lock_forest.specs.Node.{parent_of, parent_mode}
use Rattle.asl_lock_forest.specs.Request.{asks_parent_of}
use Rattle.asl_lock_forest.specs.declared.node.Node.{Node}
use Rattle.asl_lock_forest.specs.declared.node.Node.TheVariants.{Root, Class, Leaf}
use Rattle.asl_lock_forest.specs.Holding.{Request, asked}
use Rattle.asl_lock_queue.specs.Order.{is_below, rises_after, is_rising}
use Rattle.asl_lock_queue.specs.Front.{first_mode, starts_from}
use Rattle.asl_lock_queue.proofs.OrderLaws.{class_rises}
use Rattle.asl_lock_queue.proofs.RisingLaws.{rises_below, rises_on, first_is}

-- the class of the leaf, if it is one, is asked in the rest as in the whole
abbrev pub IsSought : Request → Request → Node → Type 0
IsSought whole rest Root = Unit {0}
IsSought whole rest (Class c) = Unit {0}
IsSought whole rest (Leaf x c) = asked rest (Class c) ≡ asked whole (Class c)

-- the classes of these leaves stand in what is left of the request from a place on
pub record Sought (request others : Request) (at : ℕ) : Type 0 where
  pub within : at ≤ length request
  pub rising : IsTrue (is_rising (drop at request))
  pub sought : All (λ ask. IsSought request (drop at request) ask.0) others

-- each leaf's class is asked in the whole as in the whole
pub sought_first : (whole request : Request) → All (λ ask. IsSought whole whole ask.0) request
sought_first whole request k d there = each (get_or request k d).0
  where
    each : (n : Node) → IsSought whole whole n
    each Root = tt
    each (Class c) = tt
    each (Leaf x c) = refl

-- after a leaf of this class, less of the whole will do, where only what is below the class is left out
pub sought_next : (whole rest shorter : Request) (n : Node) (x : _) (c : ℕ) (request : Request) → n ≡ Leaf x c → rises_after (Some n) request ≡ true
    → ((m : Node) → is_below m (Class c) ≡ false → asked shorter m ≡ asked rest m)
    → All (λ ask. IsSought whole rest ask.0) request → All (λ ask. IsSought whole shorter ask.0) request
sought_next whole rest shorter n x c [] is rises same sought = All-nil _
sought_next whole rest shorter n x c (ask ∷ others) is rises same sought =
    let parts = and_parts (is_below n ask.0) (rises_after (Some ask.0) others) rises in
    All-cons (λ (a : Node × Mode). IsSought whole shorter a.0) ask others
    (this ask.0 parts.0 (All-head (λ (a : Node × Mode). IsSought whole rest a.0) ask others sought))
    (sought_next whole rest shorter n x c others is (rises_below n ask.0 others parts.0 parts.1) same (All-tail (λ (a : Node × Mode). IsSought whole rest a.0) ask others sought))
  where
    this : (m : Node) → is_below n m ≡ true → IsSought whole rest m → IsSought whole shorter m
    this Root below was = tt
    this (Class d) below was = tt
    this (Leaf y d) below was = same (Class d) (class_rises n (Leaf y d) c d below x y is refl) ∙ was

-- what rises still rises where its front is left out
pub rises_drop : (i : ℕ) (request : Request) → is_rising request ≡ true → is_rising (drop i request) ≡ true
rises_drop zero request rises = rises
rises_drop (suc i) [] rises = refl
rises_drop (suc i) (ask ∷ others) rises = rises_drop i others (rises_on ask others rises)

starts_root : (request : Request) → starts_from Root request ≡ true
starts_root [] = refl
starts_root (ask ∷ others) = each ask.0
  where
    each : (n : Node) → not (is_below n Root) ≡ true
    each Root = refl
    each (Class c) = refl
    each (Leaf x c) = refl

all_at_most : (mode : Mode) → is_at_most (parent_mode mode) X ≡ true
all_at_most NL = refl
all_at_most IS = refl
all_at_most IX = refl
all_at_most S = refl
all_at_most SIX = refl
all_at_most X = refl

-- the mode that is found for a node's parent tells whether the parent is asked: of the root, of a class and of a leaf
pub told_root : (request : Request) (n : Node) (mode parent : Mode) → n ≡ Root → parent ≡ X → is_at_most (parent_mode mode) parent ≡ asks_parent_of request (parent_of n) mode
told_root request n mode parent is found =
    ap (is_at_most (parent_mode mode)) found ∙ all_at_most mode ∙ ap (λ m. asks_parent_of request (parent_of m) mode) (sym is)

pub told_class : (request : Request) (n : Node) (mode parent : Mode) (c : ℕ) → n ≡ Class c → is_rising request ≡ true → parent ≡ first_mode request Root
    → is_at_most (parent_mode mode) parent ≡ asks_parent_of request (parent_of n) mode
told_class request n mode parent c is rises found =
    ap (is_at_most (parent_mode mode)) (found ∙ first_is request Root rises (starts_root request))
    ∙ ap (λ m. asks_parent_of request (parent_of m) mode) (sym is)

pub told_leaf : (request rest : Request) (n : Node) (mode parent : Mode) (x : _) (c : ℕ) → n ≡ Leaf x c → is_rising rest ≡ true → starts_from (Class c) rest ≡ true
    → parent ≡ first_mode rest (Class c) → asked rest (Class c) ≡ asked request (Class c) → is_at_most (parent_mode mode) parent ≡ asks_parent_of request (parent_of n) mode
told_leaf request rest n mode parent x c is rises starts found same =
    ap (is_at_most (parent_mode mode)) (found ∙ first_is rest (Class c) rises starts ∙ same)
    ∙ ap (λ m. asks_parent_of request (parent_of m) mode) (sym is)

-- a request from a place on, as it is cut out
pub cut_is : (request : Request) (k : ℕ) → take (length request - k) (drop k request) ≡ drop k request
cut_is request k = take_all (length request - k) (drop k request) (let n = length-drop k request in omega (arith, n))
