-- The lists of the threads as the holding that they are: as the forest's own proofs have it, which it keeps to itself.
use Rattle.std.proofs.Common.{◌≡◌, ℕ, ◌+◌, ◌<◌, suc, zero, true, false, List, [], ◌∷◌, length, replicate, ◌||◌, slice_index_or, slice_set, Option, None, Some, unwrap_or, if◌then◌else◌, refl, ap, sym, ◌∙◌, inl, inr, arith}
use Rattle.std.specs.FinMap as map
use Rattle.std.proofs.lemmas.Bool.Decides.{eqb_tells}
use Rattle.std.proofs.lemmas.Bool.{cases_lt}
use Rattle.std.proofs.lemmas.List.{get_or-set_same, get_or-set_other, get_or-replicate, get_or_past, length-replicate}
use Rattle.asl_mode_lanes.specs.declared.mode.Mode.{Mode}
use Rattle.asl_mode_lanes.specs.declared.mode.Mode.TheVariants.{NL}
use Rattle.asl_lock_forest.specs.declared.node.Node.{Node}
use Rattle.asl_lock_forest.specs.Keys.{Key, key, key_cmp}
use Rattle.asl_lock_forest.proofs.KeyLaws.{key_total, key_exact}
use Rattle.asl_lock_forest.specs.Holding.{held, no_holding, Request, asked, grant, release, HoldsNothing}
use Rattle.asl_lock_forest.specs.Request.{names}
use Rattle.asl_lock_forest.specs.Lists.{holding_from, holding_of}
use Rattle.asl_lock_forest.proofs.Laws.{tell_nodes, get_release_own, get_release_other, get_grant_own, get_grant_other, asked_unnamed}

-- what a list tells of a node
abbrev pub found : Request → Node → Option Mode
found own node = if names own node then Some (asked own node) else None

-- threads before the first hold nothing
before_first : (first : ℕ) (lists : List Request) (k : Key) → k.thread < first → map.get (holding_from first lists) k ≡ None
before_first first [] k below = map.get-empty key_cmp k
before_first first (own ∷ others) k below =
    get_grant_other (holding_from (first + 1) others) first own k (λ same. absurd (omega (arith, below, same)))
    ∙ before_first (first + 1) others k (omega (arith, below))

-- at a thread and a node the holding has what the thread's list tells
get_from : (first : ℕ) (lists : List Request) (i : ℕ) (node : Node) → map.get (holding_from first lists) (key (first + i) node) ≡ found (slice_index_or lists i []) node
get_from first [] i node = map.get-empty key_cmp (key (first + i) node)
get_from first (own ∷ others) zero node =
    let rest = holding_from (first + 1) others in
    let here : first + zero ≡ first = omega arith in
    ap (λ n. map.get (grant rest first own) (key n node)) here
    ∙ get_grant_own rest first own node
    ∙ ap (λ o. if names own node then Some (asked own node) else o) (before_first (first + 1) others (key first node) (omega arith))
get_from first (own ∷ others) (suc i) node =
    let next : first + suc i ≡ first + 1 + i = omega arith in
    get_grant_other (holding_from (first + 1) others) first own (key (first + suc i) node) (λ same. absurd (omega (arith, same)))
    ∙ ap (λ n. map.get (holding_from (first + 1) others) (key n node)) next
    ∙ get_from (first + 1) others i node

pub get_lists : (lists : List Request) (t : ℕ) (node : Node) → map.get (holding_of lists) (key t node) ≡ found (slice_index_or lists t []) node
get_lists lists t node = let same : 0 + t ≡ t = omega arith in ap (λ n. map.get (holding_of lists) (key n node)) (sym same) ∙ get_from 0 lists t node

found_mode : (own : Request) (node : Node) → unwrap_or (found own node) NL ≡ asked own node
found_mode own node = elim (names own node) as (λ b. names own node ≡ b → unwrap_or (if b then Some (asked own node) else None) NL ≡ asked own node) [
  | true ↦ λ _. refl
  | false ↦ λ e. sym (asked_unnamed own node e)
] refl

-- the mode in which a thread holds a node is the mode that its list has there
pub held_lists : (lists : List Request) (t : ℕ) (node : Node) → held (holding_of lists) t node ≡ asked (slice_index_or lists t []) node
held_lists lists t node = ap (λ o. unwrap_or o NL) (get_lists lists t node) ∙ found_mode (slice_index_or lists t []) node

-- to empty a thread's list is to release what it holds
pub lists_released : (lists : List Request) (t : ℕ) → t < length lists → holding_of (slice_set lists t []) ≡ release (holding_of lists) t
lists_released lists t there = map.same_map key_total key_exact _ _ (λ q.
    get_lists (slice_set lists t []) q.thread q.node
    ∙ elim (eqb_tells q.thread t) [
      | inl own ↦
          let empty : slice_index_or (slice_set lists t []) q.thread [] ≡ [] =
          ap (λ n. slice_index_or (slice_set lists t []) n []) own.1 ∙ get_or-set_same lists t [] [] there in
          ap (λ l. found l q.node) empty ∙ sym (get_release_own (holding_of lists) t q own.1)
      | inr other ↦
          ap (λ l. found l q.node) (get_or-set_other lists t q.thread [] [] other.1)
          ∙ sym (get_lists lists q.thread q.node)
          ∙ sym (get_release_other (holding_of lists) t q other.1)
    ])

-- to write a request into the list of a thread that holds nothing is to grant it
pub lists_granted : (lists : List Request) (t : ℕ) (request : Request) → t < length lists → HoldsNothing (holding_of lists) t
    → holding_of (slice_set lists t request) ≡ grant (holding_of lists) t request
lists_granted lists t request there nothing = map.same_map key_total key_exact _ _ (λ q.
    get_lists (slice_set lists t request) q.thread q.node
    ∙ elim (eqb_tells q.thread t) [
      | inl own ↦
          let is : q ≡ key t q.node = λ i. key (own.1 i) q.node in
          let written : slice_index_or (slice_set lists t request) q.thread [] ≡ request =
          ap (λ n. slice_index_or (slice_set lists t request) n []) own.1 ∙ get_or-set_same lists t request [] there in
          ap (λ l. found l q.node) written
          ∙ sym (get_grant_own (holding_of lists) t request q.node ∙ ap (λ o. if names request q.node then Some (asked request q.node) else o) (nothing q.node))
          ∙ ap (map.get (grant (holding_of lists) t request)) (sym is)
      | inr other ↦
          ap (λ l. found l q.node) (get_or-set_other lists t q.thread request [] other.1)
          ∙ sym (get_lists lists q.thread q.node)
          ∙ sym (get_grant_other (holding_of lists) t request q other.1)
    ])

-- the list of a thread that holds nothing names nothing
pub unnamed_list : (lists : List Request) (t : ℕ) → HoldsNothing (holding_of lists) t → (node : Node) → names (slice_index_or lists t []) node ≡ false
unnamed_list lists t nothing node =
    let own = slice_index_or lists t [] in
    elim (names own node) as (λ b. names own node ≡ b → b ≡ false) [
      | true ↦ λ yes.
          let no : Some (asked own node) ≡ None = sym (ap (λ b. if b then Some (asked own node) else None) yes) ∙ sym (get_lists lists t node) ∙ nothing node in
          cc
      | false ↦ λ _. refl
    ] refl

-- a list that names nothing is empty
pub nothing_named : (own : Request) → ((node : Node) → names own node ≡ false) → own ≡ []
nothing_named [] none = refl
nothing_named (ask ∷ others) none = elim (tell_nodes ask.0 ask.0) [
  | inl same ↦
      let yes : names (ask ∷ others) ask.0 ≡ true = ap (λ b. b || names others ask.0) same.0 in
      let no : true ≡ false = sym yes ∙ none ask.0 in
      cc
  | inr apart ↦ absurd (apart.1 refl)
]

abbrev no_asks : Request
no_asks = []

pub empty_at : (n t : ℕ) → slice_index_or (replicate n no_asks) t no_asks ≡ no_asks
empty_at n t = elim (cases_lt t n) [
  | inl below ↦ get_or-replicate n t no_asks no_asks below
  | inr past ↦ get_or_past (replicate n no_asks) t no_asks (omega (arith, past, length-replicate n no_asks))
]

-- where each list is empty nothing is held
pub nothing_listed : (n : ℕ) (lists : List Request) → lists ≡ replicate n no_asks → holding_of lists ≡ no_holding
nothing_listed n lists is = ap holding_of is ∙ map.same_map key_total key_exact _ _ (λ q.
    get_lists (replicate n no_asks) q.thread q.node ∙ ap (λ l. found l q.node) (empty_at n q.thread) ∙ sym (map.get-empty key_cmp q))
