-- What other numbers for objects leave as it is, where no object is looked at: values, nodes, requests and what is held.
use Rattle.std.proofs.Common.{◌≡◌, ℕ, ◌==◌, ◌<◌, ◌++◌, ◌&&◌, ◌||◌, Bool, true, false, List, [], ◌∷◌, Option, Some, None, length, slice_get, unwrap_or, refl, ap, ap₂, sym, ◌∙◌, subst, inl, inr}
use Rattle.std.specs.Prelude.{if◌then◌else◌, map as each, option_map, nat_lt, All}
use Rattle.std.proofs.lemmas.List.Elements.{All-head, All-tail}
use Rattle.std.specs.FinMap as map
use Rattle.std.proofs.lemmas.Bool.Decides.{eqb_tells}
use Rattle.std.proofs.lemmas.Option.{slice_get-map}
use Rattle.std.proofs.lemmas.List.{map-append}
use Rattle.asl_code.specs.declared.value.Value.{Value}
use Rattle.asl_code.specs.declared.value.Value.TheVariants.{Int, Null, Addr}
use Rattle.asl_code.specs.declared.value.Cell.{Cell}
use Rattle.asl_code.specs.declared.value.Effect.{Effect}
use Rattle.asl_code.specs.declared.lock.Base.TheVariants.{Global}
use Rattle.asl_code.specs.declared.lock.Lock.{Lock}
use Rattle.asl_code.specs.declared.lock.Lock.TheVariants as lock
use Rattle.asl_code.specs.declared.image.Image.{Image}
use Rattle.asl_code.specs.declared.image.Function.{Function}
use Rattle.asl_code.specs.Fits.{FitsLock, FitsBase}
use Rattle.asl_code.specs.Versions.{has_fresh}
use Rattle.asl_mode_lanes.specs.declared.mode.Mode.{Mode}
use Rattle.asl_mode_lanes.specs.declared.mode.Mode.TheVariants.{NL}
use Rattle.asl_mode_lanes.specs.Mode.{AreCompatible, is_at_most, join_of}
use Rattle.asl_lock_forest.specs.declared.node.Node.{Node}
use Rattle.asl_lock_forest.specs.declared.node.Node.TheVariants.{Root, Class, Leaf}
use Rattle.asl_lock_forest.specs.Node.{same_node}
use Rattle.asl_lock_forest.specs.Keys.{key}
use Rattle.asl_lock_forest.specs.Holding.{Holding, Request, held, asked, grant, release, CanGrant, can_grant, covering_mode, is_covered}
use Rattle.asl_lock_forest.specs.Request.{names}
use Rattle.asl_lock_forest.proofs.Laws.{tell_nodes, get_release_own, get_release_other, get_grant_own, get_grant_other}
use Rattle.asl_lock_forest.proofs.Grantable.{CanGrant-tested, can_grant-tells}
use Rattle.asl_expression.specs.Expression.{pointed}
use Rattle.asl_machine.specs.State.{Object}
use Rattle.asl_machine.specs.Request.{joined_with, joined_all}
use Rattle.asl_machine.specs.Cover.{is_fresh}
use Rattle.asl_machine.specs.Step.{made_fresh}
use Rattle.asl_atomicity.specs.Renamed.{Renaming, value_by, cell_by, node_by, object_by}

-- ---- tests

pub same_test : (a b c d : ℕ) → (a ≡ b → c ≡ d) → (c ≡ d → a ≡ b) → (a == b) ≡ (c == d)
same_test a b c d to from = elim (eqb_tells a b) [
  | inl same ↦ elim (eqb_tells c d) [ inl also ↦ same.0 ∙ sym also.0 | inr apart ↦ absurd (apart.1 (to same.1)) ]
  | inr apart ↦ elim (eqb_tells c d) [ inl same ↦ absurd (apart.1 (from same.1)) | inr away ↦ apart.0 ∙ sym away.0 ]
]

same_bool : (a b : Bool) → (a ≡ true → b ≡ true) → (b ≡ true → a ≡ true) → a ≡ b
same_bool true b to from = sym (to refl)
same_bool false true to from = from refl
same_bool false false to from = refl

-- a request with other numbers
abbrev pub request_by : (ℕ → ℕ) → Request → Request
request_by f = each (λ (ask : Node × Mode). (node_by f ask.0, ask.1))

-- what is fresh after a `new`, with other numbers
pub made_fresh_by : (f : ℕ → ℕ) (version depth object : ℕ) (fresh : List ℕ) → made_fresh version depth (f object) (each f fresh) ≡ each f (made_fresh version depth object fresh)
made_fresh_by f version depth object fresh = by_test (has_fresh version && nat_lt 0 depth)
  where
    by_test : (b : Bool) → (if b then each f fresh ++ f object ∷ [] else each f fresh) ≡ each f (if b then fresh ++ object ∷ [] else fresh)
    by_test true = sym (map-append f fresh (object ∷ []))
    by_test false = refl

-- objects with other numbers
abbrev pub ObjectsBy : (ℕ → ℕ) → List Object → List Object → Type 0
ObjectsBy f one other = (n : ℕ) → slice_get other (f n) ≡ option_map (object_by f) (slice_get one n)

-- a holding with other numbers
abbrev pub HoldingBy : (ℕ → ℕ) → Holding → Holding → Type 0
HoldingBy f h g = (thread : ℕ) (node : Node) → map.get g (key thread (node_by f node)) ≡ map.get h (key thread node)

-- the bases of the locks are registers, and globals that are there
abbrev pub HasGlobals : ℕ → List Lock → Type 0
HasGlobals globals [] = Unit {0}
HasGlobals globals (lock.Root effect ∷ ls) = HasGlobals globals ls
HasGlobals globals (lock.Class class effect ∷ ls) = HasGlobals globals ls
HasGlobals globals (lock.Expr e effect ∷ ls) = ((g : ℕ) → e.base ≡ Global g → g < globals) × HasGlobals globals ls

pub has_globals : (image : Image) (n : ℕ) (function : Function) (ls : List Lock) → All (FitsLock image function) ls → HasGlobals (length image.globals) ls
has_globals image n function [] all = tt
has_globals image n function (lock.Root effect ∷ ls) all = has_globals image n function ls (All-tail (FitsLock image function) (lock.Root effect) ls all)
has_globals image n function (lock.Class class effect ∷ ls) all = has_globals image n function ls (All-tail (FitsLock image function) (lock.Class class effect) ls all)
has_globals image n function (lock.Expr e effect ∷ ls) all = (
  λ k is. subst (λ b. FitsBase image function b) is (All-head (FitsLock image function) (lock.Expr e effect) ls all),
  has_globals image n function ls (All-tail (FitsLock image function) (lock.Expr e effect) ls all),
)

-- ---- values and cells

pub pointed_by : (f : ℕ → ℕ) (v : Value) → pointed (value_by f v) ≡ option_map (cell_by f) (pointed v)
pointed_by f (Int n) = refl
pointed_by f Null = refl
pointed_by f (Addr o i) = refl

pub register_by : (f : ℕ → ℕ) (regs : List Value) (r : ℕ) → unwrap_or (slice_get (each (value_by f) regs) r) Null ≡ value_by f (unwrap_or (slice_get regs r) Null)
register_by f regs r = ap (λ o. unwrap_or o Null) (slice_get-map (value_by f) regs r) ∙ by_option (slice_get regs r)
  where
    by_option : (o : Option Value) → unwrap_or (option_map (value_by f) o) Null ≡ value_by f (unwrap_or o Null)
    by_option None = refl
    by_option (Some v) = refl

-- ---- nodes
module _ (p : Renaming) where
  pub new_back : (a b : ℕ) → p.new a ≡ p.new b → a ≡ b
  new_back a b e = sym (p.into a) ∙ ap p.old e ∙ p.into b

  node_back : (a b : Node) → node_by p.new a ≡ node_by p.new b → a ≡ b
  node_back Root Root e = refl
  node_back Root (Class d) e = cc
  node_back Root (Leaf y d) e = cc
  node_back (Class c) Root e = cc
  node_back (Class c) (Class d) e = (let k : c ≡ d = cc in ap Class k)
  node_back (Class c) (Leaf y d) e = cc
  node_back (Leaf x c) Root e = cc
  node_back (Leaf x c) (Class d) e = cc
  node_back (Leaf x c) (Leaf y d) e =
      let cells : cell_by p.new x ≡ cell_by p.new y = cc in
      let object : x.object ≡ y.object = new_back x.object y.object (ap (λ (z : Cell). z.object) cells) in
      let offset : x.offset ≡ y.offset = ap (λ (z : Cell). z.offset) cells in
      let class : c ≡ d = cc in
      λ i. Leaf (record { object = object i; offset = offset i }) (class i)

  pub node_onto : (n : Node) → node_by p.new (node_by p.old n) ≡ n
  node_onto Root = refl
  node_onto (Class c) = refl
  node_onto (Leaf x c) = ap (λ o. Leaf (record { object = o; offset = x.offset }) c) (p.onto x.object)

  same_node_by : (a b : Node) → same_node (node_by p.new a) (node_by p.new b) ≡ same_node a b
  same_node_by a b = elim (tell_nodes a b) [
    | inl same ↦ elim (tell_nodes (node_by p.new a) (node_by p.new b)) [ inl also ↦ also.0 ∙ sym same.0 | inr apart ↦ absurd (apart.1 (ap (node_by p.new) same.1)) ]
    | inr apart ↦ elim (tell_nodes (node_by p.new a) (node_by p.new b)) [ inl same ↦ absurd (apart.1 (node_back a b same.1)) | inr away ↦ away.0 ∙ sym apart.0 ]
  ]

  -- ---- fresh objects

  pub fresh_by : (fresh : List ℕ) (o : ℕ) → is_fresh (each p.new fresh) (p.new o) ≡ is_fresh fresh o
  fresh_by [] o = refl
  fresh_by (x ∷ fresh) o = ap₂ (λ a b. a || b) (same_test (p.new x) (p.new o) x o (new_back x o) (ap p.new)) (fresh_by fresh o)

  -- ---- requests

  names_by : (r : Request) (n : Node) → names (request_by p.new r) (node_by p.new n) ≡ names r n
  names_by [] n = refl
  names_by (ask ∷ r) n = ap (λ b. b || names (request_by p.new r) (node_by p.new n)) (same_node_by ask.0 n) ∙ ap (λ b. same_node ask.0 n || b) (names_by r n)

  pub asked_by : (r : Request) (n : Node) → asked (request_by p.new r) (node_by p.new n) ≡ asked r n
  asked_by [] n = refl
  asked_by (ask ∷ r) n = ap (λ b. if b then ask.1 else asked (request_by p.new r) (node_by p.new n)) (same_node_by ask.0 n) ∙ ap (λ m. if same_node ask.0 n then ask.1 else m) (asked_by r n)

  joined_with_by : (r : Request) (n : Node) (m : Mode) → joined_with (request_by p.new r) (node_by p.new n) m ≡ request_by p.new (joined_with r n m)
  joined_with_by [] n m = refl
  joined_with_by (ask ∷ r) n m =
      ap (λ b. if b then (node_by p.new ask.0, join_of ask.1 m) ∷ request_by p.new r else (node_by p.new ask.0, ask.1) ∷ joined_with (request_by p.new r) (node_by p.new n) m) (same_node_by ask.0 n)
      ∙ by_test (joined_with_by r n m) (same_node ask.0 n)
    where
      by_test : joined_with (request_by p.new r) (node_by p.new n) m ≡ request_by p.new (joined_with r n m) → (b : Bool) → (if b then (node_by p.new ask.0, join_of ask.1 m) ∷ request_by p.new r else (node_by p.new ask.0, ask.1) ∷ joined_with (request_by p.new r) (node_by p.new n) m)
          ≡ request_by p.new (if b then (ask.0, join_of ask.1 m) ∷ r else ask ∷ joined_with r n m)
      by_test rest true = refl
      by_test rest false = ap (λ z. (node_by p.new ask.0, ask.1) ∷ z) rest

  pub joined_all_by : (asks r : Request) → joined_all (request_by p.new r) (request_by p.new asks) ≡ request_by p.new (joined_all r asks)
  joined_all_by [] r = refl
  joined_all_by (ask ∷ asks) r = ap (λ z. joined_all z (request_by p.new asks)) (joined_with_by r ask.0 ask.1) ∙ joined_all_by asks (joined_with r ask.0 ask.1)

  -- ---- holdings
  module _ (h g : Holding) (same : HoldingBy p.new h g) where
    pub held_by : (t : ℕ) (n : Node) → held g t (node_by p.new n) ≡ held h t n
    held_by t n = ap (λ o. unwrap_or o NL) (same t n)

    pub release_by : (t : ℕ) → HoldingBy p.new (release h t) (release g t)
    release_by t u n = elim (eqb_tells u t) [
      | inl own ↦ get_release_own g t (key u (node_by p.new n)) own.1 ∙ sym (get_release_own h t (key u n) own.1)
      | inr other ↦ get_release_other g t (key u (node_by p.new n)) other.1 ∙ same u n ∙ sym (get_release_other h t (key u n) other.1)
    ]

    pub grant_by : (t : ℕ) (r : Request) → HoldingBy p.new (grant h t r) (grant g t (request_by p.new r))
    grant_by t r u n = elim (eqb_tells u t) [
      | inl own ↦ subst (λ z. map.get (grant g z (request_by p.new r)) (key u (node_by p.new n)) ≡ map.get (grant h z r) (key u n)) own.1 (granted u n)
      | inr other ↦ get_grant_other g t (request_by p.new r) (key u (node_by p.new n)) other.1 ∙ same u n ∙ sym (get_grant_other h t r (key u n) other.1)
    ]
      where
        granted : (u : ℕ) (n : Node) → map.get (grant g u (request_by p.new r)) (key u (node_by p.new n)) ≡ map.get (grant h u r) (key u n)
        granted u n =
            get_grant_own g u (request_by p.new r) (node_by p.new n)
            ∙ ap (λ b. if b then Some (asked (request_by p.new r) (node_by p.new n)) else map.get g (key u (node_by p.new n))) (names_by r n)
            ∙ ap (λ m. if names r n then Some m else map.get g (key u (node_by p.new n))) (asked_by r n)
            ∙ ap (λ o. if names r n then Some (asked r n) else o) (same u n)
            ∙ sym (get_grant_own h u r n)

    can_there : (t : ℕ) (r : Request) → CanGrant h t r → CanGrant g t (request_by p.new r)
    can_there t r can other node apart =
        let n = node_by p.old node in
        subst (λ z. AreCompatible (asked (request_by p.new r) z) (held g other z)) (node_onto node)
        (subst (λ m. AreCompatible m (held g other (node_by p.new n))) (sym (asked_by r n)) (subst (λ m. AreCompatible (asked r n) m) (sym (held_by other n)) (can other n apart)))

    can_back : (t : ℕ) (r : Request) → CanGrant g t (request_by p.new r) → CanGrant h t r
    can_back t r can other n apart =
        subst (λ m. AreCompatible m (held h other n)) (asked_by r n) (subst (λ m. AreCompatible (asked (request_by p.new r) (node_by p.new n)) m) (held_by other n) (can other (node_by p.new n) apart))

    pub can_grant_by : (t : ℕ) (r : Request) → can_grant g t (request_by p.new r) ≡ can_grant h t r
    can_grant_by t r =
        same_bool (can_grant g t (request_by p.new r)) (can_grant h t r)
        (λ e. CanGrant-tested h t r (can_back t r (can_grant-tells g t (request_by p.new r) e)))
        (λ e. CanGrant-tested g t (request_by p.new r) (can_there t r (can_grant-tells h t r e)))

    pub covered_by : (t : ℕ) (c : Cell) (class : ℕ) (effect : Effect) → is_covered g t (cell_by p.new c) class effect ≡ is_covered h t c class effect
    covered_by t c class effect =
        ap (λ m. is_at_most (covering_mode effect) m || is_at_most (covering_mode effect) (held g t (Class class)) || is_at_most (covering_mode effect) (held g t Root)) (held_by t (Leaf c class))
        ∙ ap (λ m. is_at_most (covering_mode effect) (held h t (Leaf c class)) || is_at_most (covering_mode effect) m || is_at_most (covering_mode effect) (held g t Root)) (held_by t (Class class))
        ∙ ap (λ m. is_at_most (covering_mode effect) (held h t (Leaf c class)) || is_at_most (covering_mode effect) (held h t (Class class)) || is_at_most (covering_mode effect) m) (held_by t Root)
