-- Laws of joining asks into a request.
use Rattle.std.proofs.Common.{◌≡◌, ℕ, ◌+◌, ◌<◌, ◌≤◌, Bool, true, false, cond, not, [], ◌∷◌, ◌++◌, length, get_or, set, refl, sym, ap, subst, suc, arith, ltb-true, ltb-false}
use Rattle.std.proofs.lemmas.Option.{cond_some}
use Rattle.std.specs.Prelude.{Option, None, Some, position}
use Rattle.std.specs.List.{position_or_len}
use Rattle.asl_mode_lanes.specs.declared.mode.Mode.{Mode}
use Rattle.asl_mode_lanes.specs.Mode.{join_of}
use Rattle.asl_lock_forest.specs.declared.node.Node.{Node}
use Rattle.asl_lock_forest.specs.Node.{same_node}
use Rattle.asl_lock_forest.specs.Holding.{Request}
use Rattle.asl_machine.specs.Request.{joined_with, joined_all}

-- the place of a node in a request, or the request's length
abbrev pub node_place : Request → Node → ℕ
node_place request node = position_or_len (λ ask. same_node ask.0 node) request

-- an ask at a node that is there joins the mode at its place
pub joined_there : (request : Request) (node : Node) (mode : Mode) (d : Node × Mode) → node_place request node < length request →
    joined_with request node mode ≡ set request (node_place request node) ((get_or request (node_place request node) d).0, join_of (get_or request (node_place request node) d).1 mode)
joined_there [] node mode d lt = absurd (omega arith)
joined_there (ask ∷ others) node mode d lt =
    elim (same_node ask.0 node) as (λ b. (let n = cond (not b) (1 + node_place others node) 0 in
    n < length (ask ∷ others) →
    (cond b ((ask.0, join_of ask.1 mode) ∷ others) (ask ∷ joined_with others node mode)) ≡ set (ask ∷ others) n ((get_or (ask ∷ others) n d).0, join_of (get_or (ask ∷ others) n d).1 mode))) [
      | true ↦ λ _. refl
      | false ↦ λ h.
          let lt' : node_place others node < length others = omega arith in
          let e : suc (node_place others node) ≡ 1 + node_place others node = omega arith in
          subst (λ n. ask ∷ joined_with others node mode ≡ set (ask ∷ others) n ((get_or (ask ∷ others) n d).0, join_of (get_or (ask ∷ others) n d).1 mode)) e
          (ap (λ (r : Request). ask ∷ r) (joined_there others node mode d lt'))
    ] lt

-- an ask at a node that is not there is added at the end
pub joined_new : (request : Request) (node : Node) (mode : Mode) → length request ≤ node_place request node →
    joined_with request node mode ≡ request ++ (node, mode) ∷ []
joined_new [] node mode le = refl
joined_new (ask ∷ others) node mode le =
    elim (same_node ask.0 node) as (λ b. length (ask ∷ others) ≤ cond (not b) (1 + node_place others node) 0 →
    cond b ((ask.0, join_of ask.1 mode) ∷ others) (ask ∷ joined_with others node mode) ≡ ask ∷ others ++ (node, mode) ∷ []) [
      | true ↦ λ h. absurd (omega arith)
      | false ↦ λ h.
          let le' : length others ≤ node_place others node = omega arith in
          ap (λ (r : Request). ask ∷ r) (joined_new others node mode le')
    ] le

-- the same, at the place that a search finds
pub joined_found : (request : Request) (node : Node) (mode : Mode) (i : ℕ) (d : Node × Mode) → Some i ≡ position (λ ask. same_node ask.0 node) request →
    joined_with request node mode ≡ set request i ((get_or request i d).0, join_of (get_or request i d).1 mode)
joined_found request node mode i d e =
    let found = cond_some _ _ _ (sym e) in
    subst (λ n. joined_with request node mode ≡ set request n ((get_or request n d).0, join_of (get_or request n d).1 mode)) found.1
    (joined_there request node mode d (ltb-true _ _ found.0))

no_place : (b : Bool) (i : ℕ) → ◌≡◌ {A = Option ℕ} None (cond b (Some i) None) → b ≡ false
no_place true i e = cc
no_place false i e = refl

-- the same, where a search finds none
pub joined_unfound : (request : Request) (node : Node) (mode : Mode) → None ≡ position (λ ask. same_node ask.0 node) request →
    joined_with request node mode ≡ request ++ (node, mode) ∷ []
joined_unfound request node mode e = joined_new request node mode (ltb-false _ _ (no_place _ _ e))

-- asks in two parts are joined one part after the other
pub joined_all-append : (request asks others : Request) → joined_all request (asks ++ others) ≡ joined_all (joined_all request asks) others
joined_all-append request [] others = refl
joined_all-append request (ask ∷ asks) others = joined_all-append (joined_with request ask.0 ask.1) asks others
