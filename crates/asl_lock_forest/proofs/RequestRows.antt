-- The rows while the nodes of a request are written one after another, and while those of a holding are cleared: the nodes that are
-- done have the modes that they should, and no other thread's modes change.
use Rattle.std.proofs.Common.{◌≡◌, ◌≢◌, ℕ, ◌<◌, suc, zero, Bool, true, false, not, ◌||◌, [], ◌∷◌, length, get_or, if◌then◌else◌, refl, ap, sym, subst, ◌∙◌, inl, inr, arith, ◌==◌, ◌^◌, IsBitSet}
use Rattle.std.specs.Int.{trailing_zeros, w128}
use Rattle.asl_lock_forest.specs.Leaves.{width}
use Rattle.std.proofs.lemmas.Nat.{bit_set_by_shift}
use Rattle.std.proofs.lemmas.Nat.Bits.{shr_and_one, bit_at-trailing_zeros}
use Rattle.asl_lock_forest.specs.declared.leaves.Leaves.{Leaves}
use Rattle.asl_lock_forest.specs.Leaves.{HasRoom}
use Rattle.std.proofs.lemmas.Bool.{not-true, and_parts}
use Rattle.std.proofs.lemmas.Bool.Decides.{eqb_tells}
use Rattle.asl_mode_lanes.specs.declared.mode.Mode.{Mode}
use Rattle.asl_mode_lanes.specs.declared.mode.Mode.TheVariants.{NL, IS, IX, S, SIX, X}
use Rattle.asl_mode_lanes.specs.Mode.{code_of, is_at_most}
use Rattle.asl_mode_lanes.specs.Row.{mode_at}
use Rattle.asl_mode_lanes.proofs.ModeLaws.{mode_of-code_of}
use Rattle.asl_lock_forest.specs.declared.node.Node.{Node}
use Rattle.asl_lock_forest.specs.declared.rows.Rows.{Rows}
use Rattle.asl_lock_forest.specs.Holding.{Request, asked}
use Rattle.asl_lock_forest.specs.Node.{same_node}
use Rattle.asl_lock_forest.specs.Request.{names, names_once, asks_modes}
use Rattle.asl_lock_forest.specs.Rows.{row_of, AreKept, Sets}
use Rattle.asl_lock_forest.proofs.Laws.{tell_nodes, asked_unnamed}
use Rattle.asl_lock_forest.proofs.RowsLaws.{mode_there, mode_elsewhere, mode_others}

-- Nodes written or cleared one after another, each named by what is left of a list.

-- the nodes that are named no more have their modes
pub record Granting (start now : Rows) (t : ℕ) (request left : Request) : Type 0 where
  pub kept : AreKept now
  pub classes : length now.classes.items ≡ length start.classes.items
  pub own : (node : Node) → mode_at (row_of start node) t ≡ NL → names left node ≡ false → mode_at (row_of now node) t ≡ asked request node
  pub others : (u : ℕ) (node : Node) → u ≢ t → mode_at (row_of now node) u ≡ mode_at (row_of start node) u

-- the nodes that are named no more hold nothing
pub record Clearing (start now : Rows) (t : ℕ) (named left : Request) : Type 0 where
  pub kept : AreKept now
  pub classes : length now.classes.items ≡ length start.classes.items
  pub own : (node : Node) → mode_at (row_of start node) t ≡ asked named node → names left node ≡ false → mode_at (row_of now node) t ≡ NL
  pub others : (u : ℕ) (node : Node) → u ≢ t → mode_at (row_of now node) u ≡ mode_at (row_of start node) u

-- at first all are named
pub clearing_first : (start : Rows) (t : ℕ) (named : Request) → AreKept start → Clearing start start t named named
clearing_first start t named kept = record {
  kept = kept;
  classes = refl;
  own = λ node is unnamed. is ∙ asked_unnamed named node unnamed;
  others = λ u node apart. refl;
}

pub granting_first : (start : Rows) (t : ℕ) (request : Request) → AreKept start → Granting start start t request request
granting_first start t request kept = record {
  kept = kept;
  classes = refl;
  own = λ node none unnamed. none ∙ sym (asked_unnamed request node unnamed);
  others = λ u node apart. refl;
}

-- one node more is done
pub clearing_step : (start now new : Rows) (t : ℕ) (named left : Request) (ask : Node × Mode) → t < width
    → Clearing start now t named (ask ∷ left) → Sets now t ask.0 0 new → Clearing start new t named left
clearing_step start now new t named left ask within before does = record {
  kept = does.kept;
  classes = does.classes ∙ before.classes;
  own = λ node is unnamed. elim (tell_nodes ask.0 node) [
    | inl own ↦ subst (λ n. mode_at (row_of new n) t ≡ NL) own.1 (mode_there now new t ask.0 0 within before.kept does)
    | inr other ↦
        mode_elsewhere now new t ask.0 0 within before.kept does node t (λ e. other.1 (sym e))
        ∙ before.own node is (ap (λ b. b || names left node) other.0 ∙ unnamed)
  ];
  others = λ u node apart. mode_others now new t ask.0 0 within before.kept does u node apart ∙ before.others u node apart;
}

pub granting_step : (start now new : Rows) (t : ℕ) (request left : Request) (ask : Node × Mode) → t < width
    → asked request ask.0 ≡ ask.1
    → Granting start now t request (ask ∷ left) → Sets now t ask.0 (code_of ask.1) new → Granting start new t request left
granting_step start now new t request left ask within is before does = record {
  kept = does.kept;
  classes = does.classes ∙ before.classes;
  own = λ node none unnamed. elim (tell_nodes ask.0 node) [
    | inl own ↦
        subst (λ n. mode_at (row_of new n) t ≡ asked request n) own.1
        (mode_there now new t ask.0 (code_of ask.1) within before.kept does ∙ mode_of-code_of ask.1 ∙ sym is)
    | inr other ↦
        mode_elsewhere now new t ask.0 (code_of ask.1) within before.kept does node t (λ e. other.1 (sym e))
        ∙ before.own node none (ap (λ b. b || names left node) other.0 ∙ unnamed)
  ];
  others = λ u node apart. mode_others now new t ask.0 (code_of ask.1) within before.kept does u node apart ∙ before.others u node apart;
}

-- The asks of a request that names no node twice.

itself : (n : Node) → same_node n n ≡ true
itself n = elim (tell_nodes n n) [ inl same ↦ same.0 | inr other ↦ absurd (other.1 refl) ]

-- each ask names its node, and asks there what is asked
pub named_at : (request : Request) (i : ℕ) (d : Node × Mode) → i < length request → names request (get_or request i d).0 ≡ true
named_at [] i d there = absurd (omega arith)
named_at (ask ∷ others) zero d there = ap (λ b. b || names others ask.0) (itself ask.0)
named_at (ask ∷ others) (suc i) d there =
    let rest = named_at others i d (omega arith) in
    or_right (same_node ask.0 (get_or others i d).0) (names others (get_or others i d).0) rest
  where
    or_right : (a b : Bool) → b ≡ true → (a || b) ≡ true
    or_right true b e = refl
    or_right false b e = e

pub asked_at : (request : Request) (i : ℕ) (d : Node × Mode) → names_once request ≡ true → i < length request
    → asked request (get_or request i d).0 ≡ (get_or request i d).1
asked_at [] i d once there = absurd (omega arith)
asked_at (ask ∷ others) zero d once there = ap (λ b. if b then ask.1 else asked others ask.0) (itself ask.0)
asked_at (ask ∷ others) (suc i) d once there =
    let unnamed : names others ask.0 ≡ false = not-true (names others ask.0) (and_parts (not (names others ask.0)) _ once).0 in
    elim (tell_nodes ask.0 (get_or others i d).0) [
      | inl same ↦
          let no : true ≡ false = sym (named_at others i d (omega arith)) ∙ ap (names others) (sym same.1) ∙ unnamed in
          cc
      | inr other ↦
          ap (λ b. if b then ask.1 else asked others (get_or others i d).0) other.0
          ∙ asked_at others i d (and_parts (not (names others ask.0)) _ once).1 (omega arith)
    ]

-- Room for some rows is capacity for fewer.
pub some_room : (leaves : Leaves) (n : ℕ) → 0 < n → HasRoom leaves n → HasRoom leaves 1
some_room leaves n some room = record { rows = let a = room.rows in omega (arith, a); index = let b = room.index in omega (arith, b) }

-- a mask that is not 0 has a bit
pub some_bit : (mask : ℕ) → mask < 2 ^ 128 → (mask == 0) ≡ false → (t : ℕ) × IsBitSet mask t
some_bit mask fits some =
    let above : 0 < mask = elim (eqb_tells mask 0) [ inl zero_mask ↦ let no : true ≡ false = sym zero_mask.0 ∙ some in cc | inr other ↦ omega (arith, other.1) ] in
    let low = bit_at-trailing_zeros w128 mask above fits in
    (trailing_zeros w128 mask, (bit_set_by_shift mask (trailing_zeros w128 mask)).0 (shr_and_one mask (trailing_zeros w128 mask) ∙ low.1))

-- A request that asks modes asks a code other than 0 at each place.
code_above : (m : Mode) → not (is_at_most m NL) ≡ true → code_of m ≢ 0
code_above NL some = cc
code_above IS some = λ e. absurd (omega (arith, e))
code_above IX some = λ e. absurd (omega (arith, e))
code_above S some = λ e. absurd (omega (arith, e))
code_above SIX some = λ e. absurd (omega (arith, e))
code_above X some = λ e. absurd (omega (arith, e))

pub code_asked : (request : Request) (i : ℕ) (d : Node × Mode) → asks_modes request ≡ true → i < length request → code_of (get_or request i d).1 ≢ 0
code_asked [] i d all there = absurd (omega arith)
code_asked (ask ∷ others) zero d all there = code_above ask.1 (and_parts (not (is_at_most ask.1 NL)) _ all).0
code_asked (ask ∷ others) (suc i) d all there = code_asked others i d (and_parts (not (is_at_most ask.1 NL)) _ all).1 (omega arith)
