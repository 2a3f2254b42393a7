-- Who is in the way among those who hold: by the lists of what each holds.
use Rattle.std.proofs.Common.{◌≡◌, ◌≢◌, ℕ, ◌<◌, ◌≤◌, true, false, All, List, [], ◌∷◌, ◌++◌, None, length, slice_index_or, slice_set, refl, ap, sym, subst, ◌∙◌, inl, inr, arith}
use Rattle.std.specs.FinMap as map
use Rattle.std.proofs.lemmas.Bool.{cases_lt}
use Rattle.std.proofs.lemmas.Bool.Decides.{eqb_tells}
use Rattle.std.proofs.lemmas.List.{get_or_past, append-nil, append_assoc}
use Rattle.asl_mode_lanes.specs.declared.mode.Mode.{Mode}
use Rattle.asl_mode_lanes.specs.declared.mode.Mode.TheVariants.{NL}
use Rattle.asl_mode_lanes.specs.Mode.{AreCompatible, is_compatible}
use Rattle.asl_mode_lanes.proofs.ModeLaws.{compatible-NL}
use Rattle.asl_lock_forest.specs.declared.node.Node.{Node}
use Rattle.asl_lock_forest.specs.Keys.{key}
use Rattle.asl_lock_forest.specs.Holding.{Holding, held, Request, asked, grant, HoldsNothing, CanGrant}
use Rattle.asl_lock_forest.specs.Request.{IsInTheWay, IsRefusedRequest}
use Rattle.asl_lock_forest.specs.Lists.{holding_of}
use Rattle.asl_lock_forest.proofs.Laws.{held_nothing, held_grant_other}
use Rattle.asl_lock_queue.proofs.HoldingLists.{found, get_lists, held_lists, unnamed_list}
use Rattle.asl_lock_queue.proofs.HoldingLists.{nothing_named}
use Rattle.asl_lock_queue.specs.Waiting.{GoTogether, Clash, Waiter, IsKept, AreKept}
use Rattle.asl_lock_queue.proofs.TogetherLaws.{together_by}

-- a thread with an empty list holds nothing, and one that holds nothing has an empty list
pub empty_holds_nothing : (lists : List Request) (t : ℕ) → slice_index_or lists t [] ≡ [] → HoldsNothing (holding_of lists) t
empty_holds_nothing lists t empty node = get_lists lists t node ∙ ap (λ l. found l node) empty

pub nothing_empty_list : (lists : List Request) (t : ℕ) → HoldsNothing (holding_of lists) t → slice_index_or lists t [] ≡ []
nothing_empty_list lists t nothing = nothing_named (slice_index_or lists t []) (unnamed_list lists t nothing)

-- what goes with the list of each other thread can be granted
pub all_go : (lists : List Request) (t : ℕ) (request : Request) → ((k : ℕ) → k < length lists → k ≢ t → GoTogether request (slice_index_or lists k []))
    → CanGrant (holding_of lists) t request
all_go lists t request go other node apart = elim (cases_lt other (length lists)) [
  | inl there ↦ together_by _ _ _ _ refl (held_lists lists other node) (go other there apart node)
  | inr past ↦ together_by _ _ _ _ refl
      (held_lists lists other node ∙ ap (λ l. asked l node) (get_or_past lists other [] past))
      (compatible-NL (asked request node))
]

-- who holds what clashes is in the way
pub one_clashes : (lists : List Request) (t : ℕ) (request : Request) (k : ℕ) → k ≢ t → Clash request (slice_index_or lists k []) → IsRefusedRequest (holding_of lists) t request
one_clashes lists t request k apart clash = (
  k,
  clash.0,
  record {
    different = apart;
    clashes = subst (λ m. is_compatible (asked request clash.0) m ≡ false) (sym (held_lists lists k clash.0)) clash.1;
  },
)

-- who is in the way stays there when another gets something
pub refused_grant : (h : Holding) (t : ℕ) (r : Request) (u : ℕ) (q : Request) → HoldsNothing h t → IsRefusedRequest h u q → IsRefusedRequest (grant h t r) u q
refused_grant h t r u q nothing way =
    let other = way.0 in
    let node = way.1 in
    let clash = way.2.clashes in
    elim (eqb_tells other t) [
      | inl same ↦
          let none : held h other node ≡ NL = subst (λ x. held h x node ≡ NL) (sym same.1) (held_nothing h t node nothing) in
          let goes : AreCompatible (asked q node) (held h other node) = together_by _ _ _ _ refl none (compatible-NL (asked q node)) in
          cc
      | inr apart ↦ (
        other,
        node,
        record {
          different = way.2.different;
          clashes = subst (λ m. is_compatible (asked q node) m ≡ false) (sym (held_grant_other h t r other node apart.1)) clash;
        },
      )
    ]

-- who is kept stays so when another gets something
pub kept_grant : (h : Holding) (t : ℕ) (r : Request) (before later : List Waiter) → HoldsNothing h t → AreKept h before later → AreKept (grant h t r) before later
kept_grant h t r before [] nothing kept = tt
kept_grant h t r before (w ∷ later) nothing kept = (
  elim (kept.0) [
    | inl way ↦ inl (refused_grant h t r w.0 w.1 nothing way)
    | inr ahead ↦ inr ahead
  ],
  kept_grant h t r (before ++ w ∷ []) later nothing kept.1,
)

-- one more who is kept, at the end
pub kept_push : (h : Holding) (before later : List Waiter) (w : Waiter) → AreKept h before later → IsKept h (before ++ later) w.0 w.1 → AreKept h before (later ++ w ∷ [])
kept_push h before [] w kept last = (subst (λ l. IsKept h l w.0 w.1) (append-nil before) last, tt)
kept_push h before (v ∷ later) w kept last = (
  kept.0,
  kept_push h (before ++ v ∷ []) later w kept.1 (subst (λ l. IsKept h l w.0 w.1) (sym (append_assoc before (v ∷ []) later)) last),
)
