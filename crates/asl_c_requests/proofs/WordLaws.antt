-- Words in memory, with one more ask in its place.
use Rattle.std.proofs.Common.{◌≡◌, ℕ, ◌+◌, ◌-◌, ◌<◌, ◌≤◌, true, false, List, ◌∷◌, ◌++◌, length, map, take, drop, get_or, set, Option, sym, ap, subst, ◌∙◌, inl, inr, arith}
use Rattle.std.specs.Option.{option_map_or}
use Rattle.std.proofs.Math.Seq.{take-set-lt}
use Rattle.std.proofs.lemmas.List.{take-map, drop-map, map-set, map-append, length-map, get_or-map, get_or-take, drop-drop, length-take-le}
use Rattle.std.proofs.lemmas.Option.{slice_get_cases, slice_get-get_or}
use Rattle.asl_mode_lanes.specs.declared.mode.Mode.{Mode}
use Rattle.asl_mode_lanes.specs.Mode.{join_of}
use Rattle.asl_mode_lanes.specs.Row.{mode_of}
use Rattle.asl_lock_forest.specs.declared.node.Node.{Node}
use Rattle.asl_lock_forest.specs.Node.{same_node}
use Rattle.asl_lock_forest.specs.Holding.{Request}
use Rattle.asl_lock_queue.specs.Asks.{node_of, ask_of}
use Rattle.asl_lock_queue.specs.declared.ask.Ask.{Ask}
use Rattle.asl_c_requests.specs.Placed.{named_at, place_of, placed}
use Rattle.asl_c_requests.proofs.PlacedLaws.{placed_there, placed_new}

-- what two lists have in common from one place on they have from a later one on
pub drop_further : {X : Type 0} (xs ys : List X) (m n : ℕ) → m ≤ n → drop m xs ≡ drop m ys → drop n xs ≡ drop n ys
drop_further xs ys m n le same =
    let e : m + (n - m) ≡ n = omega arith in
    ap (λ k. drop k xs) (sym e) ∙ sym (drop-drop (n - m) m xs) ∙ ap (drop (n - m)) same ∙ drop-drop (n - m) m ys ∙ ap (λ k. drop k ys) e

-- the word at a place that is of a node
pub at_within : (asks : List Ask) (place : ℕ) (node : Node) → named_at asks place node ≡ true → place < length asks
at_within asks place node e = elim ((slice_get_cases asks place).1) [
  | inl h ↦ h.1
  | inr h ↦ let none : named_at asks place node ≡ false = ap (λ (o : Option Ask). option_map_or (λ (ask : Ask). same_node (node_of ask) node) o false) h.1 in cc
]

-- the first words end where they are said to
pub at_count : (asks : List Ask) (count place : ℕ) (node : Node) → count ≤ length asks → named_at (take count asks) place node ≡ true → place < count
at_count asks count place node le e = let within = at_within (take count asks) place node e in let long = length-take-le count asks le in omega arith

at_is : (asks : List Ask) (place : ℕ) (node : Node) (d : Ask) → place < length asks → named_at asks place node ≡ same_node (node_of (get_or asks place d)) node
at_is asks place node d lt = ap (λ (o : Option Ask). option_map_or (λ (ask : Ask). same_node (node_of ask) node) o false) (slice_get-get_or asks place d lt)

-- a word that joins the one at its node
joined_words : (w : List Ask) (n : Node) (m : Mode) (d x : Ask) → named_at w (place_of (map ask_of w) n) n ≡ true →
    ask_of x ≡ (n, join_of (mode_of (get_or w (place_of (map ask_of w) n) d).mode) m) → map ask_of (set w (place_of (map ask_of w) n) x) ≡ placed (map ask_of w) n m
joined_words w n m d x named e =
    let W : Request = map ask_of w in
    let p : ℕ = place_of W n in
    let lt : p < length w = at_within w p n named in
    let there : p < length W = omega (arith, length-map w ask_of) in
    let is : get_or W p (ask_of d) ≡ ask_of (get_or w p d) = get_or-map ask_of w p d (ask_of d) lt in
    let same : same_node (get_or W p (ask_of d)).0 n ≡ true = ap (λ (a : Node × Mode). same_node a.0 n) is ∙ sym (at_is w p n d lt) ∙ named in
    let mode : mode_of (get_or w p d).mode ≡ (get_or W p (ask_of d)).1 = sym (ap (λ (a : Node × Mode). a.1) is) in
    map-set ask_of w p x ∙ ap (λ (a : Node × Mode). set W p a) (e ∙ ap (λ (o : Mode). (n, join_of o m)) mode) ∙ sym (placed_there W n m (ask_of d) there same)

pub joined_in : (asks : List Ask) (count p : ℕ) (n : Node) (m : Mode) (d x : Ask) → p ≡ place_of (map ask_of (take count asks)) n → named_at (take count asks) p n ≡ true → p < count →
    ask_of x ≡ (n, join_of (mode_of (get_or asks p d).mode) m) → map ask_of (take count (set asks p x)) ≡ placed (map ask_of (take count asks)) n m
joined_in asks count p n m d x is named lt e =
    let w : List Ask = take count asks in
    ap (map ask_of) (take-set-lt count asks p x lt) ∙ ap (λ k. map ask_of (set w k x)) is
    ∙ joined_words w n m d x (subst (λ k. named_at w k n ≡ true) is named)
    (subst (λ k. ask_of x ≡ (n, join_of (mode_of (get_or w k d).mode) m)) is (subst (λ (o : Ask). ask_of x ≡ (n, join_of (mode_of o.mode) m)) (sym (get_or-take count asks p d lt)) e))

-- a word that is put between others
pub inserted_in : (w new : List Ask) (p : ℕ) (n : Node) (m : Mode) (x : Ask) → p ≡ place_of (map ask_of w) n → named_at w p n ≡ false → ask_of x ≡ (n, m) →
    new ≡ take p w ++ x ∷ drop p w → map ask_of new ≡ placed (map ask_of w) n m
inserted_in w new p n m x is other e put =
    let W : Request = map ask_of w in
    let q : ℕ = place_of W n in
    let other' : named_at w q n ≡ false = subst (λ k. named_at w k n ≡ false) is other in
    ap (map ask_of) put ∙ map-append ask_of (take p w) (x ∷ drop p w)
    ∙ ap (λ (l : Request). l ++ ask_of x ∷ map ask_of (drop p w)) (sym (take-map ask_of p w))
    ∙ ap (λ (l : Request). take p W ++ ask_of x ∷ l) (sym (drop-map ask_of p w))
    ∙ ap (λ (a : Node × Mode). take p W ++ a ∷ drop p W) e
    ∙ ap (λ k. take k W ++ (n, m) ∷ drop k W) is
    ∙ sym (placed_new W n m (ask_of x) (λ lt.
    let within : q < length w = omega (arith, length-map w ask_of) in
    ap (λ (a : Node × Mode). same_node a.0 n) (get_or-map ask_of w q x (ask_of x) within) ∙ sym (at_is w q n x within) ∙ other'))
