-- What a thread asks for at the entry of a section is not changed by another's step inside one.
use Rattle.std.proofs.Common.{◌≡◌, ◌≢◌, ℕ, ◌==◌, ◌+◌, ◌⊎◌, ◌++◌, Bool, true, false, ◌<◌, List, [], ◌∷◌, Option, Some, None, unwrap_or, refl, ap, sym, ◌∙◌, subst, inl, inr}
use Rattle.std.specs.Prelude.{if◌then◌else◌, IsSome, nat_lt, option_and_then}
use Rattle.std.specs.Option.{option_map_or}
use Rattle.std.proofs.lemmas.Bool.Decides.{eqb_tells}
use Rattle.asl_code.specs.declared.value.Value.{Value}
use Rattle.asl_code.specs.declared.value.Value.TheVariants.{Addr}
use Rattle.asl_code.specs.declared.value.Cell.{Cell}
use Rattle.asl_code.specs.declared.value.Effect.{Effect}
use Rattle.asl_code.specs.declared.value.Effect.TheVariants.{Read}
use Rattle.asl_code.specs.declared.lock.Lock.{Lock}
use Rattle.asl_code.specs.declared.lock.Lock.TheVariants as lock
use Rattle.asl_code.specs.declared.path.Op.{Op}
use Rattle.asl_code.specs.declared.path.Op.TheVariants.{Deref, Off}
use Rattle.asl_mode_lanes.specs.declared.mode.Mode.{Mode}
use Rattle.asl_mode_lanes.specs.declared.mode.Mode.TheVariants.{NL}
use Rattle.asl_mode_lanes.specs.Mode.{AreCompatible}
use Rattle.asl_mode_lanes.proofs.ModeLaws.{compatible-NL}
use Rattle.asl_lock_forest.specs.declared.node.Node.{Node}
use Rattle.asl_lock_forest.specs.Holding.{Holding, Request, held, asked, release, CanGrant, Covers}
use Rattle.asl_lock_forest.specs.Keys.{key}
use Rattle.asl_lock_forest.proofs.Laws.{held_release_own}
use Rattle.asl_machine.specs.declared.fate.Fate.{Fate}
use Rattle.asl_machine.specs.declared.fate.Fate.TheVariants as fate
use Rattle.asl_machine.specs.State.{Object, cell_at, class_of, written}
use Rattle.asl_expression.specs.Expression.{cell_of, pointed, base_cell, walked, path_cell}
use Rattle.asl_machine.specs.Request.{heap_of, cell_asks, leaf_asks, asks_of, all_asks, joined_all, request_of}
use Rattle.asl_machine.specs.StepFunction.{holding_after, release_fate, holding_released}
use Rattle.asl_machine.specs.Fresh.{PointElsewhere}
use Rattle.asl_machine.proofs.Heaps.{class_there, class_of-written, size_of-written}
use Rattle.asl_atomicity.specs.Serial.{ReadsCovered, ListCovered}
use Rattle.asl_atomicity.proofs.Away.{IsAway, off_away, star_away, base_away}
use Rattle.asl_atomicity.proofs.Uniform.{HoldingEdit, After, Acquired, Released, edit}
use Rattle.asl_atomicity.proofs.HoldingEdits.{edit_other}
use Rattle.asl_atomicity.proofs.Unseen.{other_cell}
use Rattle.asl_atomicity.proofs.Renaming.{HasGlobals}

-- an evaluation that meets no object of others, and reads no cell that is stored to, goes as before: where a cell that is
-- covered for reading is not an object of others, it is another cell, and holds no address in one
module _ (objects : List Object) (c0 : Cell) (v : Value) (there : IsSome (cell_at objects c0)) (h : Holding) (u : ℕ) (others : ℕ → Type 0)
    (unread : (c : Cell) (class : ℕ) → ¬ others c.object → class_of objects c.object ≡ Some class → Covers h u c class Read → c0 ≢ c)
    (reads : (c : Cell) (class : ℕ) → ¬ others c.object → class_of objects c.object ≡ Some class → Covers h u c class Read → (o i : ℕ) → cell_at objects c ≡ Some (Addr o i) → ¬ others o)
    (class0 : ℕ) (of0 : class_of objects c0.object ≡ Some class0) where
  abbrev Away : Option Cell → Type 0
  Away o = IsAway others ⊥ o

  off_same : (places : ℕ) (o : Option Cell) → option_and_then (walked (heap_of (written objects c0 v)) (Off places)) o ≡ option_and_then (walked (heap_of objects) (Off places)) o
  off_same places None = refl
  off_same places (Some c) = ap (option_and_then (λ size. if nat_lt (c.offset + places) size then Some (cell_of c.object (c.offset + places)) else None)) (size_of-written objects c0 v c.object)

  star_same : (o : Option Cell) → Away o → ((c : Cell) (class : ℕ) → o ≡ Some c → class_of objects c.object ≡ Some class → Covers h u c class Read) →
      option_and_then (walked (heap_of (written objects c0 v)) Deref) o ≡ option_and_then (walked (heap_of objects) Deref) o
  star_same None away covered = refl
  star_same (Some c) away covered = ap (option_and_then pointed) (other_cell objects c0 c v apart there)
    where
      apart : c0 ≢ c
      apart same = let of = ap (λ (z : Cell). class_of objects z.object) (sym same) ∙ of0 in unread c class0 (away c refl) of (covered c class0 refl of) same

  reads_away : (o : Option Cell) → Away o → ((c : Cell) (class : ℕ) → o ≡ Some c → class_of objects c.object ≡ Some class → Covers h u c class Read) → Away (option_and_then (walked (heap_of objects) Deref) o)
  reads_away o away covered =
      star_away others ⊥ objects o (λ c e x k at. let of = class_there objects c (Addr x k) at in reads c of.0 (away c e) of.1 (covered c of.0 e of.1) x k at)

  path_same : (ops : List Op) (o : Option Cell) → Away o → ReadsCovered h u objects ops o → path_cell (heap_of (written objects c0 v)) ops o ≡ path_cell (heap_of objects) ops o
  path_same [] o away r = refl
  path_same (Off places ∷ ops) o away r =
      ap (path_cell (heap_of (written objects c0 v)) ops) (off_same places o) ∙ path_same ops (option_and_then (walked (heap_of objects) (Off places)) o) (off_away others ⊥ objects places o away) r
  path_same (Deref ∷ ops) o away r =
      ap (path_cell (heap_of (written objects c0 v)) ops) (star_same o away r.0) ∙ path_same ops (option_and_then (walked (heap_of objects) Deref) o) (reads_away o away r.0) r.1

  cell_asks_same : (effect : Effect) (o : Option Cell) → cell_asks (written objects c0 v) effect o ≡ cell_asks objects effect o
  cell_asks_same effect None = refl
  cell_asks_same effect (Some c) = ap (λ z. option_map_or (leaf_asks c effect) z []) (class_of-written objects c0 v c.object)

  -- what begins on registers that point to no object of others, and on globals, of which none is theirs
  module _ (globals : ℕ) (none : (g : ℕ) → g < globals → ¬ others g) (regs : List Value) (far : (o : ℕ) → others o → PointElsewhere o regs) where
    asks_same : (ls : List Lock) → HasGlobals globals ls → ListCovered h u objects regs ls → all_asks (written objects c0 v) regs ls ≡ all_asks objects regs ls
    asks_same [] known r = refl
    asks_same (lock.Root effect ∷ ls) known r = ap (λ z. asks_of objects regs (lock.Root effect) ++ z) (asks_same ls known r)
    asks_same (lock.Class class effect ∷ ls) known r = ap (λ z. asks_of objects regs (lock.Class class effect) ++ z) (asks_same ls known r)
    asks_same (lock.Expr e effect ∷ ls) known r =
        ap (λ z. cell_asks (written objects c0 v) effect z ++ all_asks (written objects c0 v) regs ls) (path_same e.path (base_cell regs e.base) (base_away others ⊥ regs e.base (λ g is. none g (known.0 g is)) (λ o k r at f. far o f r k at)) r.0)
        ∙ ap (λ z. z ++ all_asks (written objects c0 v) regs ls) (cell_asks_same effect (path_cell (heap_of objects) e.path (base_cell regs e.base)))
        ∙ ap (λ z. asks_of objects regs (lock.Expr e effect) ++ z) (asks_same ls known.1 r.1)

    pub request_same : (ls : List Lock) → HasGlobals globals ls → ListCovered h u objects regs ls → request_of (written objects c0 v) regs ls ≡ request_of objects regs ls
    request_same ls known r = ap (joined_all []) (asks_same ls known r)

-- a step that is not an entry leaves its thread what it held, or nothing
after_less : (f : Fate) (t : ℕ) (h : Holding) (n : Node) → (held (holding_after f t h) t n ≡ held h t n) ⊎ (held (holding_after f t h) t n ≡ NL)
after_less fate.Continues t h n = inl refl
after_less (fate.Shows v) t h n = inl refl
after_less (fate.Ends v) t h n = inl refl
after_less (fate.Fails f) t h n = inr (held_release_own h t n)
after_less fate.Waits t h n = inl refl

released_less : (b : Bool) (t : ℕ) (h : Holding) (n : Node) → (held (if b then release h t else h) t n ≡ held h t n) ⊎ (held (if b then release h t else h) t n ≡ NL)
released_less true t h n = inr (held_release_own h t n)
released_less false t h n = inl refl

pub edit_less : (e : HoldingEdit) (t : ℕ) (h : Holding) (n : Node) → ((d : ℕ) (f : Bool) (r : Request) → e ≢ Acquired d f r) → (held (edit e t h) t n ≡ held h t n) ⊎ (held (edit e t h) t n ≡ NL)
edit_less (After f) t h n none = after_less f t h n
edit_less (Acquired d f r) t h n none = absurd (none d f r refl)
edit_less (Released d) t h n none =
    elim (after_less (release_fate d) t (holding_released d t h) n) [
      | inl same ↦ elim (released_less (d == 1) t h n) [ inl k ↦ inl (same ∙ k) | inr k ↦ inr (same ∙ k) ]
      | inr gone ↦ inr gone
    ]

-- what could be granted still can
pub still_free : (e : HoldingEdit) (t u : ℕ) (h : Holding) (request : Request) → ((d : ℕ) (f : Bool) (r : Request) → e ≢ Acquired d f r) → CanGrant h u request → CanGrant (edit e t h) u request
still_free e t u h request none can other node apart = elim (eqb_tells other t) [
  | inl same ↦ elim (edit_less e t h node none) [
    | inl k ↦ subst (λ (m : Mode). AreCompatible (asked request node) m) (sym (ap (λ z. held (edit e t h) z node) same.1 ∙ k ∙ ap (λ z. held h z node) (sym same.1))) (can other node apart)
    | inr k ↦ subst (λ (m : Mode). AreCompatible (asked request node) m) (sym (ap (λ z. held (edit e t h) z node) same.1 ∙ k)) (compatible-NL (asked request node))
  ]
  | inr away ↦ subst (λ (m : Mode). AreCompatible (asked request node) m) (sym (ap (λ o. unwrap_or o NL) (edit_other e t h (key other node) away.1))) (can other node apart)
]
