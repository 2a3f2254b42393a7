-- What locks that do not name a node ask for there.
use Rattle.std.proofs.Common.{◌≡◌, ◌==◌, ℕ, List, [], ◌∷◌, ◌++◌, ◌⊎◌, ◌||◌, zero, suc, inl, inr, Bool, true, false, Option, None, Some, IsTrue, if◌then◌else◌, refl, sym, subst, ap, ◌∙◌}
use Rattle.std.specs.Prelude.{slice_get}
use Rattle.std.specs.List.{list_any}
use Rattle.std.specs.Option.{option_map_or}
use Rattle.std.proofs.lemmas.Bool.{eq-eqb}
use Rattle.asl_code.specs.declared.value.Value.{Value}
use Rattle.asl_code.specs.declared.value.Cell.{Cell}
use Rattle.asl_code.specs.declared.value.Effect.{Effect}
use Rattle.asl_code.specs.declared.value.Effect.TheVariants.{Read, Write}
use Rattle.asl_code.specs.declared.lock.Lock.{Lock}
use Rattle.asl_code.specs.declared.lock.Lock.TheVariants as lock
use Rattle.asl_mode_lanes.specs.Mode.{AtMost, AreCompatible}
use Rattle.asl_mode_lanes.specs.declared.mode.Mode.{Mode}
use Rattle.asl_mode_lanes.specs.declared.mode.Mode.TheVariants.{NL, IS, IX, S, SIX, X}
use Rattle.asl_lock_forest.specs.declared.node.Node.{Node}
use Rattle.asl_lock_forest.specs.declared.node.Node.TheVariants.{Root, Class, Leaf}
use Rattle.asl_lock_forest.specs.Holding.{Request, asked, covering_mode}
use Rattle.asl_machine.specs.State.{Object, class_of}
use Rattle.asl_machine.specs.Request.{IsAsk, IsLeast, all_asks, asks_of, cell_asks, leaf_asks, heap_of, request_of, upper_mode}
use Rattle.asl_expression.specs.Expression.{cell_denoted}
use Rattle.asl_code.specs.declared.image.Image.{Image}
use Rattle.asl_c_programs.specs.Nodes.{AsksForIntention}
use Rattle.asl_c_programs.specs.Tables.{is_of_class, is_root, some_list_has}

-- no two modes up to IX clash
pub together : (a b : Mode) → AtMost a IX → AtMost b IX → AreCompatible a b
together NL b p q = refl
together IS NL p q = refl
together IS IS p q = refl
together IS IX p q = refl
together IS S p q = absurd cc
together IS SIX p q = absurd cc
together IS X p q = absurd cc
together IX NL p q = refl
together IX IS p q = refl
together IX IX p q = refl
together IX S p q = absurd cc
together IX SIX p q = absurd cc
together IX X p q = absurd cc
together S b p q = absurd cc
together SIX b p q = absurd cc
together X b p q = absurd cc

all_at_most_x : (m : Mode) → AtMost m X
all_at_most_x NL = refl
all_at_most_x IS = refl
all_at_most_x IX = refl
all_at_most_x S = refl
all_at_most_x SIX = refl
all_at_most_x X = refl

-- the modes up to IX at the class, and all elsewhere
abbrev at_class : ℕ → Node → Mode
at_class class Root = X
at_class class (Class c) = if c == class then IX else X
at_class class (Leaf cell c) = X

-- and at the root
abbrev at_root : Node → Mode
at_root Root = IX
at_root (Class c) = X
at_root (Leaf cell c) = X

upper_at_most : (effect : Effect) (b : Bool) → AtMost (upper_mode effect) (if b then IX else X)
upper_at_most Read true = refl
upper_at_most Read false = refl
upper_at_most Write true = refl
upper_at_most Write false = refl

own_at_most : (effect : Effect) (b : Bool) → b ≡ false → AtMost (covering_mode effect) (if b then IX else X)
own_at_most effect true absent = absurd cc
own_at_most effect false absent = all_at_most_x (covering_mode effect)

-- each ask of the request is for a mode up to the map's
data Within (map : Node → Mode) : Request → Type 0 where
  Nothing : Within map []
  More : (node : Node) (mode : Mode) (asks : Request) → AtMost mode (map node) → Within map asks → Within map ((node, mode) ∷ asks)

within_at : (map : Node → Mode) (asks : Request) (node : Node) (mode : Mode) → Within map asks → IsAsk asks node mode → AtMost mode (map node)
within_at map [] node mode w is = absurd is
within_at map (ask ∷ asks) node mode (More n m rest at more) (inl here) =
    subst (λ (x : Node). AtMost mode (map x)) here.0 (subst (λ (x : Mode). AtMost x (map n)) here.1 at)
within_at map (ask ∷ asks) node mode (More n m rest at more) (inr later) = within_at map rest node mode more later

within_both : (map : Node → Mode) (asks others : Request) → Within map asks → Within map others → Within map (asks ++ others)
within_both map [] others w v = v
within_both map (ask ∷ asks) others (More n m rest at more) v = More n m (rest ++ others) at (within_both map rest others more v)

leaf_of_class : (class : ℕ) (cell : Cell) (effect : Effect) (c : ℕ) → Within (at_class class) (leaf_asks cell effect c)
leaf_of_class class cell effect c =
    More Root (upper_mode effect) _ (all_at_most_x (upper_mode effect))
    (More (Class c) (upper_mode effect) _ (upper_at_most effect (c == class)) (More (Leaf cell c) (covering_mode effect) [] (all_at_most_x (covering_mode effect)) Nothing))

leaf_of_root : (cell : Cell) (effect : Effect) (c : ℕ) → Within at_root (leaf_asks cell effect c)
leaf_of_root cell effect c =
    More Root (upper_mode effect) _ (upper_at_most effect true)
    (More (Class c) (upper_mode effect) _ (all_at_most_x (upper_mode effect)) (More (Leaf cell c) (covering_mode effect) [] (all_at_most_x (covering_mode effect)) Nothing))

some_leaf : (map : Node → Mode) (cell : Cell) (effect : Effect) (class : Option ℕ) → ((c : ℕ) → Within map (leaf_asks cell effect c)) → Within map (option_map_or (leaf_asks cell effect) class [])
some_leaf map cell effect None leaf = Nothing
some_leaf map cell effect (Some c) leaf = leaf c

some_cell : (map : Node → Mode) (objects : List Object) (effect : Effect) (cell : Option Cell) → ((at : Cell) (c : ℕ) → Within map (leaf_asks at effect c)) → Within map (cell_asks objects effect cell)
some_cell map objects effect None leaf = Nothing
some_cell map objects effect (Some cell) leaf = some_leaf map cell effect (class_of objects cell.object) (leaf cell)

lock_of_class : (objects : List Object) (regs : List Value) (class : ℕ) (l : Lock) → is_of_class class l ≡ false → Within (at_class class) (asks_of objects regs l)
lock_of_class objects regs class (lock.Root effect) absent = More Root (covering_mode effect) [] (all_at_most_x (covering_mode effect)) Nothing
lock_of_class objects regs class (lock.Class c effect) absent =
    More Root (upper_mode effect) _ (all_at_most_x (upper_mode effect)) (More (Class c) (covering_mode effect) [] (own_at_most effect (c == class) absent) Nothing)
lock_of_class objects regs class (lock.Expr expr effect) absent =
    some_cell (at_class class) objects effect (cell_denoted (heap_of objects) regs expr) (λ at c. leaf_of_class class at effect c)

lock_of_root : (objects : List Object) (regs : List Value) (l : Lock) → is_root l ≡ false → Within at_root (asks_of objects regs l)
lock_of_root objects regs (lock.Root effect) absent = absurd cc
lock_of_root objects regs (lock.Class c effect) absent =
    More Root (upper_mode effect) _ (upper_at_most effect true) (More (Class c) (covering_mode effect) [] (all_at_most_x (covering_mode effect)) Nothing)
lock_of_root objects regs (lock.Expr expr effect) absent =
    some_cell at_root objects effect (cell_denoted (heap_of objects) regs expr) (λ at c. leaf_of_root at effect c)

or_parts : (a b : Bool) → (a || b) ≡ false → (a ≡ false) × (b ≡ false)
or_parts true b absent = absurd cc
or_parts false b absent = (refl, absent)

locks_of_class : (objects : List Object) (regs : List Value) (class : ℕ) (ls : List Lock) → list_any (is_of_class class) ls ≡ false → Within (at_class class) (all_asks objects regs ls)
locks_of_class objects regs class [] absent = Nothing
locks_of_class objects regs class (l ∷ ls) absent =
    let parts = or_parts (is_of_class class l) (list_any (is_of_class class) ls) absent in
    within_both (at_class class) (asks_of objects regs l) (all_asks objects regs ls) (lock_of_class objects regs class l parts.0) (locks_of_class objects regs class ls parts.1)

locks_of_root : (objects : List Object) (regs : List Value) (ls : List Lock) → list_any is_root ls ≡ false → Within at_root (all_asks objects regs ls)
locks_of_root objects regs [] absent = Nothing
locks_of_root objects regs (l ∷ ls) absent =
    let parts = or_parts (is_root l) (list_any is_root ls) absent in
    within_both at_root (asks_of objects regs l) (all_asks objects regs ls) (lock_of_root objects regs l parts.0) (locks_of_root objects regs ls parts.1)

-- what no list has, this one has not
unlisted : (test : Lock → Bool) (lists : List (List Lock)) (n : ℕ) (locks : List Lock) → slice_get lists n ≡ Some locks → list_any (list_any test) lists ≡ false → list_any test locks ≡ false
unlisted test [] n locks is absent = absurd cc
unlisted test (x ∷ xs) zero locks is absent =
    let same : x ≡ locks = cc in
    let parts = or_parts (list_any test x) (list_any (list_any test) xs) absent in
    subst (λ (l : List Lock). list_any test l ≡ false) same parts.0
unlisted test (x ∷ xs) (suc n) locks is absent =
    let parts = or_parts (list_any test x) (list_any (list_any test) xs) absent in
    unlisted test xs n locks is parts.1

pub class_asks : (i : Image) (class : ℕ) → ((objects : List Object) (regs : List Value) (locks : List Lock) → IsLeast (all_asks objects regs locks) (request_of objects regs locks))
    → some_list_has (is_of_class class) i ≡ false → AsksForIntention i (Class class)
class_asks i class least absent objects regs n locks is =
    let none = unlisted (is_of_class class) i.lists n locks is absent in
    let within = locks_of_class objects regs class locks none in
    let most = (least objects regs locks).least (at_class class) (λ node mode ask. within_at (at_class class) (all_asks objects regs locks) node mode within ask) (Class class) in
    subst (λ (b : Bool). AtMost (asked (request_of objects regs locks) (Class class)) (if b then IX else X)) (eq-eqb class class refl) most

pub root_asks : (i : Image) → ((objects : List Object) (regs : List Value) (locks : List Lock) → IsLeast (all_asks objects regs locks) (request_of objects regs locks))
    → some_list_has is_root i ≡ false → AsksForIntention i Root
root_asks i least absent objects regs n locks is =
    let none = unlisted is_root i.lists n locks is absent in
    let within = locks_of_root objects regs locks none in
    (least objects regs locks).least at_root (λ node mode ask. within_at at_root (all_asks objects regs locks) node mode within ask) Root
