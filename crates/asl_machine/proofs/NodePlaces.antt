-- Chains of the places of nodes: what they find, and one more node.
use Rattle.std.proofs.Common.{◌≡◌, ◌≢◌, ℕ, suc, replicate, ◌<◌, ◌≤◌, ◌+◌, Bool, true, false, cond, ltb, Option, None, Some, List, [], ◌∷◌, ◌++◌, length, get_or, set, slice_index, refl, sym, ap, ◌∙◌, subst, inl, inr, arith}
use Rattle.std.proofs.lemmas.Bool.{cases_lt, lt-ltb, le-ltb, ltb-false}
use Rattle.std.proofs.lemmas.Bool.Decides.{eqb_tells}
use Rattle.std.proofs.lemmas.List.{get_or_append_left, get_or_push, get_or-replicate, length-append, length-replicate, length-set, get_or-set_same, get_or-set_other}
use Rattle.std.proofs.lemmas.List.Sums.{fails_before_first, position_or_len_is}
use Rattle.std.proofs.lemmas.List.Quantifiers.{position-Some}
use Rattle.std.specs.Prelude.{position}
use Rattle.std.specs.List.{position_or_len}
use Rattle.asl_mode_lanes.specs.declared.mode.Mode.{Mode}
use Rattle.asl_mode_lanes.specs.declared.mode.Mode.TheVariants.{NL}
use Rattle.asl_mode_lanes.specs.Mode.{join_of}
use Rattle.asl_lock_forest.specs.declared.node.Node.{Node}
use Rattle.asl_lock_forest.specs.declared.node.Node.TheVariants.{Root}
use Rattle.asl_lock_forest.specs.Node.{same_node}
use Rattle.asl_lock_forest.specs.Holding.{Request}
use Rattle.asl_machine.specs.declared.places.Places.{Places}
use Rattle.asl_machine.specs.Places.{ArePlaces, IsLast, IsSought, chain_of, node_at}
use Rattle.asl_machine.specs.Request.{joined_with}
use Rattle.asl_machine.proofs.Joins.{joined_found}
use Rattle.asl_machine.proofs.Asking.{not_true, same_is}

-- a node of another chain is another
differs : (a b : Node) → chain_of a ≢ chain_of b → same_node a b ≡ false
differs a b h = not_true (same_node a b) (λ e. h (ap chain_of (same_is a b e)))

-- places of no node
pub none_placed : (places : Places) → places.last ≡ replicate 512 0 → places.before ≡ replicate 768 0 → ArePlaces places []
none_placed places last before = record {
  few = omega arith;
  chains = ap (length {A = ℕ}) last ∙ length-replicate {A = ℕ} 512 0;
  room = ap (length {A = ℕ}) before ∙ length-replicate {A = ℕ} 768 0;
  last = λ chain low.
      let none : slice_index places.last chain ≡ 0 = ap (λ (l : List ℕ). slice_index l chain) last ∙ get_or-replicate {A = ℕ} 512 chain 0 0 low in
      record {
        within = omega (arith, none);
        own = λ place e. absurd (omega (arith, none, e));
        others = λ place from below. absurd (omega (arith, below));
      };
  before = λ place below. absurd (omega (arith, below));
  apart = λ i j less below. absurd (omega (arith, below));
}

-- a search begins with the last place of the chain
pub sought_first : (places : Places) (request : Request) (node : Node) (next : ℕ) → chain_of node < 512 → next ≡ slice_index places.last (chain_of node) → ArePlaces places request → IsSought request node next
sought_first places request node next low is h =
    let last : IsLast request (chain_of node) (length request) next = subst (IsLast request (chain_of node) (length request)) (sym is) (h.last (chain_of node) low) in
    record {
      within = last.within;
      own = last.own;
      none = λ place from below. differs (node_at request place) node (last.others place from below);
    }

-- and goes on with the place before in the chain
pub sought_next : (places : Places) (request : Request) (node : Node) (place next : ℕ) → next ≡ slice_index places.before place → ArePlaces places request
    → IsSought request node (suc place) → same_node (node_at request place) node ≡ false → IsSought request node next
sought_next places request node place next is h sought other =
    let there : place < length request = (let within = sought.within in omega (arith, within)) in
    let before : IsLast request (chain_of (node_at request place)) place next = subst (IsLast request (chain_of (node_at request place)) place) (sym is) (h.before place there) in
    let chain = sought.own place refl in
    record {
      within = (let low = before.within in omega (arith, low, there));
      own = λ at e. before.own at e ∙ chain;
      none = λ at from below. elim (cases_lt at place) [
        | inl less ↦ differs (node_at request at) node (λ e. before.others at from less (e ∙ sym chain))
        | inr more ↦ elim (eqb_tells at place) [
          | inl same ↦ subst (λ k. same_node (node_at request k) node ≡ false) (sym same.1) other
          | inr apart ↦ (let differ = apart.1 in sought.none at (omega (arith, more, differ)) below)
        ]
      ];
    }

-- which comes before
pub sought_smaller : (places : Places) (request : Request) (node : Node) (place next bound : ℕ) → bound ≡ suc place → next ≡ slice_index places.before place
    → ArePlaces places request → IsSought request node bound → next < bound
sought_smaller places request node place next bound same is h sought =
    let there : place < length request = (let within = sought.within in omega (arith, within, same)) in
    let low = (h.before place there).within in
    omega (arith, low, is, same)

-- the place of a search
at_place : (request : Request) (node : Node) (place : ℕ) → place < length request → position_or_len (λ ask. same_node ask.0 node) request ≡ place → Some place ≡ position (λ ask. same_node ask.0 node) request
at_place request node place there e =
    let n = position_or_len (λ ask. same_node ask.0 node) request in
    ap (λ b. cond b (Some place) None) (sym (lt-ltb place (length request) there))
    ∙ ap (λ k. cond (ltb k (length request)) (Some k) None) (sym e)

pub sought_found : (places : Places) (request : Request) (node : Node) (place : ℕ) → ArePlaces places request → place < length request → same_node (node_at request place) node ≡ true
    → Some place ≡ position (λ ask. same_node ask.0 node) request
sought_found places request node place h there e =
    let is = same_is (node_at request place) node e in
    at_place request node place there (position_or_len_is (λ ask. same_node ask.0 node) request place (Root, NL) (omega (arith, there))
    (λ k less. subst (λ n. same_node (node_at request k) n ≡ false) is (h.apart k place less there)) (λ _. e))

pub sought_none : (request : Request) (node : Node) → IsSought request node 0 → None ≡ position (λ ask. same_node ask.0 node) request
sought_none request node sought =
    let e = position_or_len_is (λ ask. same_node ask.0 node) request (length request) (Root, NL) (omega arith)
    (λ k less. sought.none k (omega arith) less) (λ less. absurd (omega (arith, less))) in
    ap (λ b. cond b (Some (length request)) None) (sym (le-ltb (length request) (length request) (omega arith)))
    ∙ ap (λ k. cond (ltb k (length request)) (Some k) None) (sym e)

-- ---- one more node

no_place : (b : Bool) (i : ℕ) → ◌≡◌ {A = Option ℕ} (cond b (Some i) None) None → b ≡ false
no_place true i e = cc
no_place false i e = refl

none_before : (request : Request) (node : Node) → position (λ ask. same_node ask.0 node) request ≡ None → (k : ℕ) → k < length request → same_node (node_at request k) node ≡ false
none_before request node e k less =
    let past = ltb-false (position_or_len (λ ask. same_node ask.0 node) request) (length request) (no_place _ _ e) in
    fails_before_first (λ ask. same_node ask.0 node) request k (Root, NL) (omega (arith, past, less))

module _ (request : Request) (node : Node) (mode : Mode) where
  abbrev more : Request
  more = request ++ (node, mode) ∷ []

  count : length more ≡ length request + 1
  count = length-append request ((node, mode) ∷ [])

  old_at : (k : ℕ) → k < length request → node_at more k ≡ node_at request k
  old_at k less = ap (λ (ask : Node × Mode). ask.0) (get_or_append_left request ((node, mode) ∷ []) (Root, NL) k less)

  new_at : node_at more (length request) ≡ node
  new_at = ap (λ (ask : Node × Mode). ask.0) (get_or_push request (node, mode) (Root, NL) (length request) refl)

  -- what is last below a bound stays so
  last_kept : (chain bound next : ℕ) → bound ≤ length request → IsLast request chain bound next → IsLast more chain bound next
  last_kept chain bound next low h = record {
    within = h.within;
    own = λ place e. ap chain_of (old_at place (let within = h.within in omega (arith, e, within, low))) ∙ h.own place e;
    others = λ place from below e. h.others place from below (ap chain_of (sym (old_at place (omega (arith, below, low)))) ∙ e);
  }

  -- the node is the last of its chain
  last_new : IsLast more (chain_of node) (length more) (length request + 1)
  last_new = record {
    within = omega (arith, count);
    own = λ place e. (let same : place ≡ length request = omega (arith, e) in ap (λ k. chain_of (node_at more k)) same ∙ ap chain_of new_at);
    others = λ place from below. absurd (omega (arith, from, below, count));
  }

  -- the other chains have the last that they had
  last_other : (chain next : ℕ) → chain ≢ chain_of node → IsLast request chain (length request) next → IsLast more chain (length more) next
  last_other chain next other h = record {
    within = (let within = h.within in omega (arith, within, count));
    own = λ place e. ap chain_of (old_at place (let within = h.within in omega (arith, e, within))) ∙ h.own place e;
    others = λ place from below e. elim (cases_lt place (length request)) [
      | inl less ↦ h.others place from less (ap chain_of (sym (old_at place less)) ∙ e)
      | inr past ↦
          let same : length request ≡ place = omega (arith, past, below, count) in
          other (sym e ∙ ap (λ k. chain_of (node_at more k)) (sym same) ∙ ap chain_of new_at)
    ];
  }

  pub noted : (old new : Places) (next : ℕ) → chain_of node < 512 → length request < 768 → next ≡ slice_index old.last (chain_of node)
      → new.last ≡ set old.last (chain_of node) (length request + 1) → new.before ≡ set old.before (length request) next
      → ArePlaces old request → position (λ ask. same_node ask.0 node) request ≡ None → ArePlaces new more
  noted old new next low few is last before h none = record {
    few = omega (arith, few, count);
    chains = ap (length {A = ℕ}) last ∙ length-set old.last (chain_of node) (length request + 1) ∙ h.chains;
    room = ap (length {A = ℕ}) before ∙ length-set old.before (length request) next ∙ h.room;
    last = λ chain small. elim (eqb_tells chain (chain_of node)) [
      | inl same ↦
          let now : slice_index new.last chain ≡ length request + 1 =
          ap (λ k. slice_index new.last k) same.1 ∙ ap (λ (l : List ℕ). slice_index l (chain_of node)) last
          ∙ get_or-set_same old.last (chain_of node) (length request + 1) 0 (let size = h.chains in omega (arith, size, low)) in
          subst (λ c. IsLast more c (length more) (slice_index new.last chain)) (sym same.1) (subst (IsLast more (chain_of node) (length more)) (sym now) last_new)
      | inr apart ↦
          let now : slice_index new.last chain ≡ slice_index old.last chain =
          ap (λ (l : List ℕ). slice_index l chain) last ∙ get_or-set_other old.last (chain_of node) chain (length request + 1) 0 apart.1 in
          subst (IsLast more chain (length more)) (sym now) (last_other chain (slice_index old.last chain) apart.1 (h.last chain small))
    ];
    before = λ place there. elim (cases_lt place (length request)) [
      | inl less ↦
          let now : slice_index new.before place ≡ slice_index old.before place =
          ap (λ (l : List ℕ). slice_index l place) before ∙ get_or-set_other old.before (length request) place next 0 (omega (arith, less)) in
          subst (λ c. IsLast more c place (slice_index new.before place)) (sym (ap chain_of (old_at place less)))
          (subst (IsLast more (chain_of (node_at request place)) place) (sym now)
          (last_kept (chain_of (node_at request place)) place (slice_index old.before place) (omega (arith, less)) (h.before place less)))
      | inr past ↦
          let same : place ≡ length request = omega (arith, past, there, count) in
          let now : slice_index new.before (length request) ≡ slice_index old.last (chain_of node) =
          ap (λ (l : List ℕ). slice_index l (length request)) before
          ∙ get_or-set_same old.before (length request) next 0 (let size = h.room in omega (arith, size, few)) ∙ is in
          subst (λ k. IsLast more (chain_of (node_at more k)) k (slice_index new.before k)) (sym same)
          (subst (λ c. IsLast more c (length request) (slice_index new.before (length request))) (sym (ap chain_of new_at))
          (subst (IsLast more (chain_of node) (length request)) (sym now)
          (last_kept (chain_of node) (length request) (slice_index old.last (chain_of node)) (omega arith) (h.last (chain_of node) low))))
    ];
    apart = λ i j less there. elim (cases_lt j (length request)) [
      | inl old ↦ ap (λ n. same_node n (node_at more j)) (old_at i (omega (arith, less, old))) ∙ ap (same_node (node_at request i)) (old_at j old) ∙ h.apart i j less old
      | inr past ↦
          let same : j ≡ length request = omega (arith, past, there, count) in
          let early : i < length request = omega (arith, less, same) in
          ap (λ n. same_node n (node_at more j)) (old_at i early)
          ∙ ap (λ k. same_node (node_at request i) (node_at more k)) same
          ∙ ap (same_node (node_at request i)) new_at
          ∙ none_before request node none i early
    ];
  }

-- ---- other modes

module _ (request other : Request) (same : (k : ℕ) → node_at other k ≡ node_at request k) (count : length other ≡ length request) where
  last_same : (chain bound next : ℕ) → IsLast request chain bound next → IsLast other chain bound next
  last_same chain bound next h = record {
    within = h.within;
    own = λ place e. ap chain_of (same place) ∙ h.own place e;
    others = λ place from below e. h.others place from below (ap chain_of (sym (same place)) ∙ e);
  }

  pub places_same : (places : Places) → ArePlaces places request → ArePlaces places other
  places_same places h = record {
    few = (let few = h.few in omega (arith, few, count));
    chains = h.chains;
    room = h.room;
    last = λ chain low. subst (λ n. IsLast other chain n (slice_index places.last chain)) (sym count) (last_same chain (length request) (slice_index places.last chain) (h.last chain low));
    before = λ place there.
        subst (λ n. IsLast other (chain_of n) place (slice_index places.before place)) (sym (same place))
        (last_same (chain_of (node_at request place)) place (slice_index places.before place) (h.before place (omega (arith, there, count))));
    apart = λ i j less there. ap (λ n. same_node n (node_at other j)) (same i) ∙ ap (same_node (node_at request i)) (same j) ∙ h.apart i j less (omega (arith, there, count));
  }

-- ---- a mode is joined

module _ (request : Request) (node : Node) (mode : Mode) (i : ℕ) (found : Some i ≡ position (λ ask. same_node ask.0 node) request) where
  there : i < length request
  there = (position-Some (λ ask. same_node ask.0 node) request i (Root, NL) (sym found)).0

  abbrev joined : Request
  joined = set request i ((get_or request i (Root, NL)).0, join_of (get_or request i (Root, NL)).1 mode)

  joined_at : (k : ℕ) → node_at joined k ≡ node_at request k
  joined_at k = elim (eqb_tells k i) [
    | inl same ↦ subst (λ m. node_at joined m ≡ node_at request m) (sym same.1)
        (ap (λ (ask : Node × Mode). ask.0) (get_or-set_same request i ((get_or request i (Root, NL)).0, join_of (get_or request i (Root, NL)).1 mode) (Root, NL) there))
    | inr apart ↦ ap (λ (ask : Node × Mode). ask.0) (get_or-set_other request i k ((get_or request i (Root, NL)).0, join_of (get_or request i (Root, NL)).1 mode) (Root, NL) apart.1)
  ]

  pub places_joined : (places : Places) → ArePlaces places request → ArePlaces places (joined_with request node mode)
  places_joined places h =
      subst (ArePlaces places) (sym (joined_found request node mode i (Root, NL) found))
      (places_same request joined joined_at (length-set request i ((get_or request i (Root, NL)).0, join_of (get_or request i (Root, NL)).1 mode)) places h)

-- a request with one more ask has one more at the most
pub joined_longer : (request : Request) (node : Node) (mode : Mode) → length (joined_with request node mode) ≤ length request + 1
joined_longer [] node mode = omega arith
joined_longer (ask ∷ others) node mode =
    elim (same_node ask.0 node) as (λ b. length (cond b ((ask.0, join_of ask.1 mode) ∷ others) (ask ∷ joined_with others node mode)) ≤ length (ask ∷ others) + 1) [
      | true ↦ omega arith
      | false ↦ let rest = joined_longer others node mode in omega (arith, rest)
    ]
