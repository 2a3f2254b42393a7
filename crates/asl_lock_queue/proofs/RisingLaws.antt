-- Laws of rising requests: what is asked at a node that is not there yet, or no more.
use Rattle.std.proofs.Common.{◌≡◌, ◌≢◌, ℕ, ◌<◌, suc, zero, true, false, not, [], ◌∷◌, Option, None, Some, length, get_or, drop, if◌then◌else◌, refl, ap, sym, subst, ◌∙◌, inl, inr, arith}
use Rattle.std.proofs.lemmas.Bool.{and_parts, and_from, not-true, cases_Bool}
use Rattle.asl_mode_lanes.specs.declared.mode.Mode.{Mode}
use Rattle.asl_mode_lanes.specs.declared.mode.Mode.TheVariants.{NL}
use Rattle.asl_lock_forest.specs.declared.node.Node.{Node}
use Rattle.asl_lock_forest.specs.Holding.{Request, asked}
use Rattle.asl_lock_forest.proofs.Laws.{tell_nodes}
use Rattle.asl_lock_queue.specs.Order.{is_below, rises_after, is_rising}
use Rattle.asl_lock_queue.specs.Front.{first_mode, starts_from}
use Rattle.asl_lock_queue.proofs.OrderLaws.{below_apart, below_trans, below_total}

-- what is asked at the first node, and at another
pub asked_first : (ask : Node × Mode) (others : Request) → asked (ask ∷ others) ask.0 ≡ ask.1
asked_first ask others = elim (tell_nodes ask.0 ask.0) [
  | inl same ↦ ap (λ b. if b then ask.1 else asked others ask.0) same.0
  | inr apart ↦ absurd (apart.1 refl)
]

pub asked_later : (ask : Node × Mode) (others : Request) (n : Node) → ask.0 ≢ n → asked (ask ∷ others) n ≡ asked others n
asked_later ask others n apart = elim (tell_nodes ask.0 n) [
  | inl same ↦ absurd (apart same.1)
  | inr other ↦ ap (λ b. if b then ask.1 else asked others n) other.0
]

-- what rises after a node rises after one that is below it
pub rises_below : (m n : Node) (request : Request) → is_below m n ≡ true → rises_after (Some n) request ≡ true → rises_after (Some m) request ≡ true
rises_below m n [] below rises = refl
rises_below m n (ask ∷ others) below rises =
    let parts = and_parts (is_below n ask.0) (rises_after (Some ask.0) others) rises in
    and_from _ _ (below_trans m n ask.0 below parts.0) parts.1

-- what rises after a node does not name it
pub asked_before : (n : Node) (request : Request) → rises_after (Some n) request ≡ true → asked request n ≡ NL
asked_before n [] rises = refl
asked_before n (ask ∷ others) rises =
    let parts = and_parts (is_below n ask.0) (rises_after (Some ask.0) others) rises in
    asked_later ask others n (λ same. below_apart n ask.0 parts.0 (sym same))
    ∙ asked_before n others (rises_below n ask.0 others parts.0 parts.1)

-- what rises after some node rises
pub rises_alone : (last : Option Node) (request : Request) → rises_after last request ≡ true → is_rising request ≡ true
rises_alone last [] rises = refl
rises_alone last (ask ∷ others) rises = (and_parts _ (rises_after (Some ask.0) others) rises).1

-- a rising request rises after its first node
pub rises_on : (ask : Node × Mode) (others : Request) → is_rising (ask ∷ others) ≡ true → is_rising others ≡ true
rises_on ask others rises = rises_alone (Some ask.0) others rises

-- each node of what rises after a node is above it
pub above_all : (n : Node) (request : Request) (k : ℕ) (d : Node × Mode) → rises_after (Some n) request ≡ true → k < length request → is_below n (get_or request k d).0 ≡ true
above_all n [] k d rises there = absurd (omega (arith, there))
above_all n (ask ∷ others) zero d rises there = (and_parts (is_below n ask.0) (rises_after (Some ask.0) others) rises).0
above_all n (ask ∷ others) (suc k) d rises there =
    let parts = and_parts (is_below n ask.0) (rises_after (Some ask.0) others) rises in
    above_all n others k d (rises_below n ask.0 others parts.0 parts.1) (omega (arith, there))

-- the node that stands at a place is asked in the mode that stands there
pub asked_there : (last : Option Node) (request : Request) (k : ℕ) (d : Node × Mode) → rises_after last request ≡ true → k < length request
    → asked request (get_or request k d).0 ≡ (get_or request k d).1
asked_there last [] k d rises there = absurd (omega (arith, there))
asked_there last (ask ∷ others) zero d rises there = asked_first ask others
asked_there last (ask ∷ others) (suc k) d rises there =
    let rest = (and_parts _ (rises_after (Some ask.0) others) rises).1 in
    asked_later ask others _ (below_apart ask.0 _ (above_all ask.0 others k d rest (omega (arith, there))))
    ∙ asked_there (Some ask.0) others k d rest (omega (arith, there))

-- where the first node is not below one, the mode that is asked first tells what is asked there
pub first_is : (request : Request) (n : Node) → is_rising request ≡ true → starts_from n request ≡ true → first_mode request n ≡ asked request n
first_is [] n rises starts = refl
first_is (ask ∷ others) n rises starts = elim (tell_nodes ask.0 n) [
  | inl same ↦ ap (λ b. if b then ask.1 else NL) same.0 ∙ sym (ap (λ b. if b then ask.1 else asked others n) same.0)
  | inr other ↦
      let below : is_below n ask.0 ≡ true = elim (cases_Bool (is_below n ask.0)) [
        | inl is ↦ is
        | inr isnt ↦ absurd (other.1 (below_total ask.0 n (not-true (is_below ask.0 n) starts) isnt))
      ] in
      ap (λ b. if b then ask.1 else NL) other.0 ∙ sym (asked_before n (ask ∷ others) (and_from _ _ below rises))
]

-- a node that is below another is not asked any more by what comes after it
pub asked_past : (ask : Node × Mode) (others : Request) (node n : Node) → is_below ask.0 node ≡ true → is_below n node ≡ false
    → asked (ask ∷ others) n ≡ asked others n
asked_past ask others node n below high = asked_later ask others n (λ same.
    let yes : is_below n node ≡ true = subst (λ m. is_below m node ≡ true) same below in cc)
