-- What the fields of a forest keep, after a release and after a grant.
use Rattle.std.proofs.Common.{◌≡◌, ℕ, ◌<◌, ◌≤◌, suc, zero, true, false, All, IsTrue, List, [], ◌∷◌, length, map as each, slice_index_or, slice_set, get_or, None, Some, if◌then◌else◌, ◌||◌, refl, ap, sym, subst, ◌∙◌, inl, inr, arith}
use Rattle.std.specs.FinMap as map
use Rattle.std.proofs.Common.{replicate}
use Rattle.std.proofs.lemmas.Bool.{cases_lt}
use Rattle.std.proofs.lemmas.List.{get_or-replicate, get_or_past, length-replicate}
use Rattle.asl_lock_forest.specs.Keys.{key_cmp}
use Rattle.asl_lock_forest.proofs.KeyLaws.{key_total, key_exact}
use Rattle.asl_lock_forest.specs.Holding.{no_holding}
use Rattle.asl_lock_forest.specs.Leaves.{zeros, width, IsWhole, IsKept, SameLeaves}
use Rattle.asl_lock_forest.specs.declared.leaves.Leaves.{Leaves}
use Rattle.asl_lock_forest.specs.declared.node.Node.TheVariants.{Root, Class, Leaf}
use Rattle.asl_lock_forest.specs.Request.{IsRefusedRequest, GoesWithOthers, IsKeptFrom}
use Rattle.asl_lock_forest.specs.Rows.{Blocks}
use Rattle.asl_mode_lanes.specs.Mode.{is_compatible}
use Rattle.std.specs.declared.result.Result.{Result}
use Rattle.std.specs.declared.result.Result.TheVariants.{Ok, Err}
use Rattle.std.specs.Result.{is_ok, OnOk, OnErr}
use Rattle.std.proofs.lemmas.Bool.Decides.{eqb_tells}
use Rattle.std.proofs.lemmas.List.{get_or-set_same, get_or-set_other, length-set}
use Rattle.asl_mode_lanes.specs.declared.mode.Mode.{Mode}
use Rattle.asl_mode_lanes.specs.declared.mode.Mode.TheVariants.{NL}
use Rattle.asl_mode_lanes.specs.Mode.{AreCompatible}
use Rattle.asl_mode_lanes.specs.Row.{mode_at, mode_of}
use Rattle.asl_mode_lanes.proofs.ModeLaws.{compatible_sym}
use Rattle.asl_lock_forest.specs.declared.node.Node.{Node}
use Rattle.asl_lock_forest.specs.declared.rows.Rows.{Rows}
use Rattle.asl_lock_forest.specs.Node.{IsThere}
use Rattle.asl_lock_forest.specs.Keys.{key}
use Rattle.asl_lock_forest.specs.Held.{IsForest}
use Rattle.asl_lock_forest.specs.Holding.{Holding, held, Request, asked, HoldsNothing, CanGrant}
use Rattle.asl_lock_forest.specs.Request.{names, asks_modes, asks_parents, IsOfClasses}
use Rattle.asl_lock_forest.specs.Lists.{holding_of}
use Rattle.asl_lock_forest.specs.Rows.{row_of, AreKept, IsFree, Grants, Clears}
use Rattle.asl_lock_forest.specs.Sound.{IsSound}
use Rattle.asl_lock_forest.proofs.Laws.{tell_nodes, asked_unnamed}
use Rattle.asl_lock_forest.proofs.Requests.{IsRooted-asked}
use Rattle.asl_lock_forest.proofs.Lawful.{lawful_empty, within_empty, lawful_grant, lawful_release, within_grant, within_release}
use Rattle.asl_lock_forest.proofs.ListLaws.{found, get_lists, held_lists, lists_released, lists_granted, unnamed_list}
use Rattle.asl_lock_forest.proofs.RequestRows.{named_at}

-- one element of a list is replaced
pub map_set : {X Y : Type 0} (f : X → Y) (xs : List X) (i : ℕ) (y : X) → each f (slice_set xs i y) ≡ slice_set (each f xs) i (f y)
map_set f [] i y = refl
map_set f (x ∷ xs) zero y = refl
map_set f (x ∷ xs) (suc i) y = ap (λ l. f x ∷ l) (map_set f xs i y)

of_holding : (classes threads : ℕ) (h k : Holding) → h ≡ k → IsForest (record { classes = classes; threads = threads; holding = k })
    → IsForest (record { classes = classes; threads = threads; holding = h })
of_holding classes threads h k same kept = subst (λ x. IsForest (record { classes = classes; threads = threads; holding = x })) (sym same) kept

module _ {classes threads : ℕ} {rows : Rows} {lists : List Request} (sound : IsSound classes threads rows lists) where
  -- the rows tell what is held
  pub mode_held : (t : ℕ) (node : Node) → mode_at (row_of rows node) t ≡ held (holding_of lists) t node
  mode_held t node = sound.told t node ∙ sym (held_lists lists t node)

  -- the nodes of a thread's list are there
  pub listed_there : (t k : ℕ) (d : Node × Mode) → k < length (slice_index_or lists t []) → IsThere (length rows.classes.items) (get_or (slice_index_or lists t []) k d).0
  listed_there t k d there =
      let own = slice_index_or lists t [] in
      let node = (get_or own k d).0 in
      let some : map.get (holding_of lists) (key t node) ≡ Some (asked own node) =
      get_lists lists t node ∙ ap (λ b. if b then Some (asked own node) else None) (named_at own k d there) in
      subst (λ n. IsThere n node) (sym sound.classes_there)
      (sound.forest.within.classes_there (key t node) (λ none. let no : Some (asked own node) ≡ None = sym some ∙ none in cc))

  pub sound_release : (t : ℕ) (new : Rows) (now : List Request) → t < threads → Clears rows t (slice_index_or lists t []) new
      → now ≡ slice_set lists t [] → IsSound classes threads new now
  sound_release t new now there clears is = record {
    forest = of_holding classes threads (holding_of now) _ (ap holding_of is ∙ lists_released lists t (let n = sound.lists_there in omega (arith, there, n)))
        (record { lawful = lawful_release (holding_of lists) t sound.forest.lawful; within = within_release classes threads (holding_of lists) t sound.forest.within });
    kept = clears.kept;
    classes_there = clears.classes ∙ sound.classes_there;
    lists_there = ap length is ∙ length-set lists t [] ∙ sound.lists_there;
    few = sound.few;
    told = λ u node. elim (eqb_tells u t) [
      | inl own ↦
          let empty : slice_index_or now t [] ≡ [] = ap (λ l. slice_index_or l t []) is ∙ get_or-set_same lists t [] [] (let n = sound.lists_there in omega (arith, there, n)) in
          subst (λ n. mode_at (row_of new node) n ≡ asked (slice_index_or now n []) node) (sym own.1)
          (clears.own node (sound.told t node) ∙ sym (ap (λ l. asked l node) empty))
      | inr other ↦
          clears.others u node other.1 ∙ sound.told u node
          ∙ sym (ap (λ l. asked l node) (ap (λ l. slice_index_or l u []) is ∙ get_or-set_other lists t u [] [] other.1))
    ];
  }

  -- a request that is free at each of its nodes can be granted
  pub free_can : (t : ℕ) (request : Request) → All (λ ask. IsFree rows t ask.0 ask.1) request → CanGrant (holding_of lists) t request
  free_can t request free other node apart =
      elim (names request node) as (λ b. names request node ≡ b → AreCompatible (asked request node) (held (holding_of lists) other node)) [
        | true ↦ λ named.
            let goes : IsFree rows t node (asked request node) = of_named request free node named in
            subst (λ m. AreCompatible (asked request node) m) (mode_held other node) (compatible_sym _ _ (goes other apart))
        | false ↦ λ unnamed. subst (λ m. AreCompatible m (held (holding_of lists) other node)) (sym (asked_unnamed request node unnamed)) refl
      ] refl
    where
      of_named : (request : Request) → All (λ ask. IsFree rows t ask.0 ask.1) request → (n : Node) → names request n ≡ true → IsFree rows t n (asked request n)
      of_named [] all n named = cc
      of_named (ask ∷ others) all n named = elim (tell_nodes ask.0 n) [
        | inl same ↦
            subst (IsFree rows t n) (sym (ap (λ b. if b then ask.1 else asked others n) same.0))
            (subst (λ x. IsFree rows t x ask.1) same.1 (all 0 ask (omega arith)))
        | inr far ↦
            subst (IsFree rows t n) (sym (ap (λ b. if b then ask.1 else asked others n) far.0))
            (of_named others (λ k d below. all (suc k) d (omega (arith, below))) n (sym (ap (λ b. b || names others n) far.0) ∙ named))
      ]

  pub sound_grant : (t : ℕ) (request : Request) (new : Rows) (now : List Request) → t < threads → HoldsNothing (holding_of lists) t
      → IsTrue (asks_modes request) → IsTrue (asks_parents request) → IsOfClasses classes request
      → CanGrant (holding_of lists) t request → Grants rows t request new → now ≡ slice_set lists t request
      → IsSound classes threads new now
  sound_grant t request new now there nothing modes parents of_classes free grants is = record {
    forest = of_holding classes threads (holding_of now) _ (ap holding_of is ∙ lists_granted lists t request (let n = sound.lists_there in omega (arith, there, n)) nothing)
        (record {
          lawful = lawful_grant (holding_of lists) t request sound.forest.lawful nothing modes (IsRooted-asked request parents) free;
          within = within_grant classes threads (holding_of lists) t request sound.forest.within there of_classes;
        });
    kept = grants.kept;
    classes_there = grants.classes ∙ sound.classes_there;
    lists_there = ap length is ∙ length-set lists t request ∙ sound.lists_there;
    few = sound.few;
    told = λ u node. elim (eqb_tells u t) [
      | inl own ↦
          let written : slice_index_or now t [] ≡ request = ap (λ l. slice_index_or l t []) is ∙ get_or-set_same lists t request [] (let n = sound.lists_there in omega (arith, there, n)) in
          subst (λ n. mode_at (row_of new node) n ≡ asked (slice_index_or now n []) node) (sym own.1)
          (grants.own node (sound.told t node ∙ asked_unnamed (slice_index_or lists t []) node (unnamed_list lists t nothing node)) ∙ sym (ap (λ l. asked l node) written))
      | inr other ↦
          grants.others u node other.1 ∙ sound.told u node
          ∙ sym (ap (λ l. asked l node) (ap (λ l. slice_index_or l u []) is ∙ get_or-set_other lists t u request [] other.1))
    ];
  }

-- where room is made for more rows
pub sound_reserved : {classes threads : ℕ} {rows : Rows} {lists : List Request} {leaves : Leaves} → IsSound classes threads rows lists → IsKept leaves
    → SameLeaves rows.leaves leaves → IsSound classes threads (record { root = rows.root; classes = rows.classes; leaves = leaves }) lists
sound_reserved {rows} {leaves} sound kept same = record {
  forest = sound.forest;
  kept = record { each = λ node. subst IsWhole (sym (row_same node)) (sound.kept.each node); leaves = kept };
  classes_there = sound.classes_there;
  lists_there = sound.lists_there;
  few = sound.few;
  told = λ t node. ap (λ r. mode_at r t) (row_same node) ∙ sound.told t node;
}
  where
    row_same : (node : Node) → row_of (record { root = rows.root; classes = rows.classes; leaves = leaves }) node ≡ row_of rows node
    row_same Root = refl
    row_same (Class c) = refl
    row_same (Leaf x c) = same (x.object, x.offset, c)

-- a list that names nothing is empty
pub nothing_named : (own : Request) → ((node : Node) → names own node ≡ false) → own ≡ []
nothing_named [] none = refl
nothing_named (ask ∷ others) none =
    let no : true ≡ false = sym (named_at (ask ∷ others) 0 ask (omega arith)) ∙ none ask.0 in
    cc

clash_sym : (a b : Mode) → is_compatible b a ≡ false → is_compatible a b ≡ false
clash_sym a b clash = elim (is_compatible a b) as (λ v. is_compatible a b ≡ v → v ≡ false) [
  | true ↦ λ yes. let no : true ≡ false = sym (compatible_sym a b yes) ∙ clash in cc
  | false ↦ λ _. refl
] refl

-- a node that is free is free of what others hold there
pub free_goes : {classes threads : ℕ} {rows : Rows} {lists : List Request} → IsSound classes threads rows lists → (t : ℕ) (node : Node) (want : Mode)
    → IsFree rows t node want → GoesWithOthers (holding_of lists) t node want
free_goes sound t node want free other apart =
    subst (λ m. AreCompatible want m) (mode_held sound other node) (compatible_sym _ _ (free other apart))

-- who blocks a node keeps the thread from it
pub blocked_kept : {classes threads : ℕ} {rows : Rows} {lists : List Request} → IsSound classes threads rows lists → (t : ℕ) (node : Node) (want : Mode)
    → Blocks rows t node want → IsKeptFrom (holding_of lists) t node want
blocked_kept {lists} sound t node want blocked =
    let other = blocked.0 in (
      other,
      blocked.1,
      clash_sym want (held (holding_of lists) other node)
          (subst (λ m. is_compatible m want ≡ false) (mode_held sound other node) blocked.2),
    )

-- who blocks a node is in the way there
pub blocked_refused : {classes threads : ℕ} {rows : Rows} {lists : List Request} → IsSound classes threads rows lists → (t : ℕ) (request : Request)
    → (node : Node) × Blocks rows t node (asked request node) → IsRefusedRequest (holding_of lists) t request
blocked_refused {lists} sound t request blocked =
    let node = blocked.0 in
    let other = blocked.1.0 in (
      other,
      node,
      record {
        different = blocked.1.1;
        clashes = clash_sym (asked request node) (held (holding_of lists) other node)
            (subst (λ m. is_compatible m (asked request node) ≡ false) (mode_held sound other node) blocked.1.2);
      },
    )

-- where nothing is held
abbrev no_asks : Request
no_asks = []

empty_at : (n t : ℕ) → slice_index_or (replicate n no_asks) t no_asks ≡ no_asks
empty_at n t = elim (cases_lt t n) [
  | inl below ↦ get_or-replicate n t no_asks no_asks below
  | inr past ↦ get_or_past (replicate n no_asks) t no_asks (omega (arith, past, length-replicate n no_asks))
]

pub nothing_listed : (n : ℕ) (lists : List Request) → lists ≡ replicate n no_asks → holding_of lists ≡ no_holding
nothing_listed n lists is = ap holding_of is ∙ map.same_map key_total key_exact _ _ (λ q.
    get_lists (replicate n no_asks) q.thread q.node ∙ ap (λ l. found l q.node) (empty_at n q.thread) ∙ sym (map.get-empty key_cmp q))

pub sound_new : (classes threads : ℕ) (rows : Rows) (lists : List Request) → threads ≤ width → AreKept rows → ((node : Node) → row_of rows node ≡ zeros)
    → length rows.classes.items ≡ classes → lists ≡ replicate threads no_asks → IsSound classes threads rows lists
sound_new classes threads rows lists few kept bare count is = record {
  forest = of_holding classes threads (holding_of lists) _ (nothing_listed threads lists is) (record { lawful = lawful_empty; within = within_empty classes threads });
  kept = kept;
  classes_there = count;
  lists_there = ap length is ∙ length-replicate threads no_asks;
  few = few;
  told = λ t node.
      ap (λ r. mode_at r t) (bare node) ∙ idle t
      ∙ sym (ap (λ l. asked l node) (ap (λ l. slice_index_or l t no_asks) is ∙ empty_at threads t));
}
  where
    idle : (t : ℕ) → mode_at zeros t ≡ NL
    idle t = elim (cases_lt t width) [
      | inl below ↦ ap mode_of (get_or-replicate width t 0 0 below)
      | inr past ↦ ap mode_of (get_or_past zeros t 0 past)
    ]

pub ok_says : {T E : Type 0} {P : Type 0} (r : Result T E) → (is_ok r ≡ true → P) → OnOk r P
ok_says (Ok x) says = says refl
ok_says (Err e) says = tt

pub err_says : {T E : Type 0} {P : Type 0} (r : Result T E) → (is_ok r ≡ false → P) → OnErr r P
err_says (Ok x) says = tt
err_says (Err e) says = says refl

-- where rows and lists are copied
pub sound_copied : {classes threads : ℕ} {rows new : Rows} {lists now : List Request} → IsSound classes threads rows lists → AreKept new
    → ((node : Node) → row_of new node ≡ row_of rows node) → length new.classes.items ≡ length rows.classes.items → now ≡ lists
    → IsSound classes threads new now
sound_copied {classes} {threads} {now} sound kept same count is = record {
  forest = of_holding classes threads (holding_of now) _ (ap holding_of is) sound.forest;
  kept = kept;
  classes_there = count ∙ sound.classes_there;
  lists_there = ap length is ∙ sound.lists_there;
  few = sound.few;
  told = λ t node. ap (λ r. mode_at r t) (same node) ∙ sound.told t node ∙ sym (ap (λ l. asked (slice_index_or l t []) node) is);
}
