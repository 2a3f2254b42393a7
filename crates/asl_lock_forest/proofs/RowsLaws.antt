-- The rows of all nodes: after a code is written at one node, where nothing is held, and copied.
use Rattle.std.proofs.Common.{◌≡◌, ◌≢◌, ℕ, ◌<◌, suc, zero, List, [], ◌∷◌, length, slice_index_or, slice_set, replicate, refl, ap, sym, subst, ◌∙◌, inl, inr, arith}
use Rattle.std.proofs.lemmas.Bool.{cases_lt}
use Rattle.std.proofs.lemmas.List.{get_or-replicate, length-replicate, get_or_past}
use Rattle.asl_lock_forest.proofs.LeafLaws.{zeros_codes}
use Rattle.asl_lock_forest.specs.Leaves.{IsBare, SameLeaves, IsWhole, width}
use Rattle.std.proofs.lemmas.List.{get_or-set_same, get_or-set_other, length-set}
use Rattle.std.proofs.lemmas.List.Elements.{All-set}
use Rattle.asl_mode_lanes.specs.declared.mode.Mode.{Mode}
use Rattle.asl_mode_lanes.specs.Mode.{code_of}
use Rattle.asl_mode_lanes.specs.Row.{IsCode, mode_at, mode_of}
use Rattle.asl_mode_lanes.proofs.ModeLaws.{mode_of-code_of}
use Rattle.asl_lock_forest.specs.declared.node.Node.{Node}
use Rattle.asl_lock_forest.specs.declared.node.Node.TheVariants.{Root, Class, Leaf}
use Rattle.asl_lock_forest.specs.declared.rows.Rows.{Rows}
use Rattle.asl_code.specs.declared.value.Cell.{Cell}
use Rattle.asl_lock_forest.specs.Leaves.{Leaf as LeafKey, IsKept, leaf_row, zeros}
use Rattle.asl_lock_forest.specs.Rows.{row_of, AreKept, Sets}
use Rattle.asl_lock_forest.proofs.Laws.{tell_nodes}

-- the code of a mode is a code
pub IsCode-mode : (m : Mode) → IsCode (code_of m)
IsCode-mode m = ap code_of (mode_of-code_of m)

-- the key of a leaf
abbrev pub leaf_key : Cell → ℕ → LeafKey
leaf_key x c = (x.object, x.offset, c)

-- at a place that is there no default is read
pub any_default : {X : Type 0} (xs : List X) (k : ℕ) (d e : X) → k < length xs → slice_index_or xs k d ≡ slice_index_or xs k e
any_default [] k d e there = absurd (omega arith)
any_default (x ∷ xs) zero d e there = refl
any_default (x ∷ xs) (suc k) d e there = any_default xs k d e (omega arith)

-- a code written at one node
pub sets : (old new : Rows) (t : ℕ) (node : Node) (code : ℕ) → AreKept old → IsCode code → IsKept new.leaves
    → length new.classes.items ≡ length old.classes.items
    → row_of new node ≡ slice_set (row_of old node) t code
    → ((other : Node) → other ≢ node → row_of new other ≡ row_of old other)
    → Sets old t node code new
sets old new t node code kept is leaves classes changed others = record {
  kept = record {
    each = λ n. elim (tell_nodes n node) [
      | inl own ↦
          let at : row_of new n ≡ slice_set (row_of old node) t code = ap (row_of new) own.1 ∙ changed in
          subst IsWhole (sym at)
          (length-set (row_of old node) t code ∙ (kept.each node).0, All-set IsCode (row_of old node) t code is (kept.each node).1)
      | inr other ↦ subst IsWhole (sym (others n other.1)) (kept.each n)
    ];
    leaves = leaves;
  };
  classes = classes;
  changed = changed;
  others = others;
}

module _ (old new : Rows) (t : ℕ) (code : ℕ) (kept : AreKept old) (is : IsCode code) where
  -- the write at the root, at a class and at a leaf
  pub sets_root : new.root ≡ slice_set old.root t code → new.classes.items ≡ old.classes.items → new.leaves ≡ old.leaves → Sets old t Root code new
  sets_root root classes leaves =
      sets old new t Root code kept is (subst IsKept (sym leaves) kept.leaves) (ap length classes) root (λ other apart. same other apart)
    where
      same : (other : Node) → other ≢ Root → row_of new other ≡ row_of old other
      same Root apart = absurd (apart refl)
      same (Class c) apart = ap (λ rows. slice_index_or rows c zeros) classes
      same (Leaf x c) apart = ap (λ l. leaf_row l (x.object, x.offset, c)) leaves

  pub sets_class : (class : ℕ) → class < length old.classes.items → new.root ≡ old.root
      → new.classes.items ≡ slice_set old.classes.items class (slice_set (slice_index_or old.classes.items class zeros) t code)
      → new.leaves ≡ old.leaves → Sets old t (Class class) code new
  sets_class class there root classes leaves =
      sets old new t (Class class) code kept is (subst IsKept (sym leaves) kept.leaves)
      (ap length classes ∙ length-set old.classes.items class (slice_set (slice_index_or old.classes.items class zeros) t code))
      (ap (λ rows. slice_index_or rows class zeros) classes ∙ get_or-set_same old.classes.items class (slice_set (slice_index_or old.classes.items class zeros) t code) zeros there)
      same
    where
      same : (other : Node) → other ≢ Class class → row_of new other ≡ row_of old other
      same Root apart = root
      same (Class c) apart =
          ap (λ rows. slice_index_or rows c zeros) classes
          ∙ get_or-set_other old.classes.items class c (slice_set (slice_index_or old.classes.items class zeros) t code) zeros (λ e. apart (ap (λ n. Class n) e))
      same (Leaf x c) apart = ap (λ l. leaf_row l (x.object, x.offset, c)) leaves

  pub sets_leaf : (cell : Cell) (class : ℕ) → new.root ≡ old.root → new.classes.items ≡ old.classes.items → IsKept new.leaves
      → leaf_row new.leaves (cell.object, cell.offset, class) ≡ slice_set (leaf_row old.leaves (cell.object, cell.offset, class)) t code
      → ((other : LeafKey) → other ≢ leaf_key cell class → leaf_row new.leaves other ≡ leaf_row old.leaves other)
      → Sets old t (Leaf cell class) code new
  sets_leaf cell class root classes leaves changed others =
      sets old new t (Leaf cell class) code kept is leaves (ap length classes) changed same
    where
      one : (x : Cell) (c : ℕ) → leaf_key x c ≡ leaf_key cell class → Leaf x c ≡ Leaf cell class
      one x c e = λ i. Leaf (record { object = (e i).0; offset = (e i).1 }) (e i).2

      same : (other : Node) → other ≢ Leaf cell class → row_of new other ≡ row_of old other
      same Root apart = root
      same (Class c) apart = ap (λ rows. slice_index_or rows c zeros) classes
      same (Leaf x c) apart = others (x.object, x.offset, c) (λ e. apart (one x c e))

-- what a write tells of the modes
module _ (old new : Rows) (t : ℕ) (node : Node) (code : ℕ) (within : t < width) (kept : AreKept old) (does : Sets old t node code new) where
  -- the thread's mode at the node, at another node, and another thread's
  pub mode_there : mode_at (row_of new node) t ≡ mode_of code
  mode_there =
      let long = (kept.each node).0 in
      ap (λ r. mode_at r t) does.changed ∙ ap mode_of (get_or-set_same (row_of old node) t code 0 (omega (arith, long)))

  pub mode_elsewhere : (other : Node) (u : ℕ) → other ≢ node → mode_at (row_of new other) u ≡ mode_at (row_of old other) u
  mode_elsewhere other u apart = ap (λ r. mode_at r u) (does.others other apart)

  pub mode_others : (u : ℕ) (other : Node) → u ≢ t → mode_at (row_of new other) u ≡ mode_at (row_of old other) u
  mode_others u other apart = elim (tell_nodes other node) [
    | inl own ↦
        subst (λ n. mode_at (row_of new n) u ≡ mode_at (row_of old n) u) (sym own.1)
        (ap (λ r. mode_at r u) does.changed ∙ ap mode_of (get_or-set_other (row_of old node) t u code 0 apart))
    | inr far ↦ mode_elsewhere other u far.1
  ]

-- Rows in which nothing is held.
module _ (rows : Rows) (n : ℕ) (root : rows.root ≡ zeros) (classes : rows.classes.items ≡ replicate n zeros) (kept : IsKept rows.leaves) (bare : IsBare rows.leaves) where
  pub bare_rows : (node : Node) → row_of rows node ≡ zeros
  bare_rows Root = root
  bare_rows (Class c) = ap (λ l. slice_index_or l c zeros) classes ∙ idle c
    where
      idle : (c : ℕ) → slice_index_or (replicate n zeros) c zeros ≡ zeros
      idle c = elim (cases_lt c n) [
        | inl below ↦ get_or-replicate n c zeros zeros below
        | inr past ↦ get_or_past (replicate n zeros) c zeros (omega (arith, past, length-replicate n zeros))
      ]
  bare_rows (Leaf x c) = bare (x.object, x.offset, c)

  pub bare_kept : AreKept rows
  bare_kept = record {
    each = λ node. subst IsWhole (sym (bare_rows node)) (refl, zeros_codes);
    leaves = kept;
  }

-- Rows that are copied, one by one.
module _ (old new : Rows) (root : new.root ≡ old.root) (classes : new.classes.items ≡ old.classes.items)
    (leaves : SameLeaves old.leaves new.leaves) where
  pub copied_rows : (node : Node) → row_of new node ≡ row_of old node
  copied_rows Root = root
  copied_rows (Class c) = ap (λ rows. slice_index_or rows c zeros) classes
  copied_rows (Leaf x c) = leaves (x.object, x.offset, c)

  pub copied_kept : AreKept old → IsKept new.leaves → AreKept new
  copied_kept kept whole = record {
    each = λ node. subst IsWhole (sym (copied_rows node)) (kept.each node);
    leaves = whole;
  }
