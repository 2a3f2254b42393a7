-- Nodes that a list does not name have no lines.
use Rattle.std.proofs.Common.{◌≡◌, ℕ, ◌+◌, ◌<◌, ◌≤◌, suc, List, [], Option, None, Some, length, drop, get_or, refl, sym, ap, ◌∙◌, inl, inr, arith, eq-eqb, if◌then◌else◌}
use Rattle.std.proofs.Math.Seq.{drop-cons}
use Rattle.std.specs.Option.{option_map_or}
use Rattle.asl_mode_lanes.specs.declared.mode.Mode.{Mode}
use Rattle.asl_lock_forest.specs.declared.node.Node.{Node}
use Rattle.asl_lock_forest.specs.declared.node.Node.TheVariants.{Class, Leaf}
use Rattle.asl_lock_forest.specs.Holding.{Request, asked}
use Rattle.asl_lock_forest.proofs.Laws.{tell_nodes}
use Rattle.asl_machine.specs.State.{State, class_of}
use Rattle.asl_show.specs.declared.next_number.Numbers.TheVariants.{Classes, Objects, Cells}
use Rattle.asl_show.specs.About.{IsSilent, NamesNone}
use Rattle.asl_show.specs.Nodes.{leaf_lines, leaves_of}
use Rattle.asl_show.specs.Objects.{cell_count, cell_of}
use Rattle.asl_show.proofs.Lines.{no_lines}

-- what a list asks behind its first asks, where the next one is not at the node
pub asked_behind : (nodes : Request) (k : ℕ) (d : Node × Mode) (node : Node) → k < length nodes → ((get_or nodes k d).0 ≡ node → ⊥)
    → asked (drop (k + 1) nodes) node ≡ asked (drop k nodes) node
asked_behind nodes k d node there apart =
    let ask = get_or nodes k d in
    let next : suc k ≡ k + 1 = omega arith in
    elim (tell_nodes ask.0 node) [
      | inl same ↦ absurd (apart same.1)
      | inr other ↦
          ap (λ (n : ℕ). asked (drop n nodes) node) (sym next)
          ∙ sym (ap (λ b. if b then ask.1 else asked (drop (suc k) nodes) node) other.0)
          ∙ ap (λ (l : Request). asked l node) (sym (drop-cons nodes k d there))
    ]

pub silent_class : (line : Node → List ℕ) (nodes : Request) (from to k : ℕ) → IsSilent line nodes → NamesNone nodes Classes from to → from ≤ k → k < to → line (Class k) ≡ []
silent_class line nodes from to k silent none low high = silent (Class k) (none (Class k) k refl low high)

pub silent_object : (s : State) (line : Node → List ℕ) (nodes : Request) (from to o : ℕ) → IsSilent line nodes → NamesNone nodes Objects from to → from ≤ o → o < to
    → leaf_lines s line o ≡ []
silent_object s line nodes from to o silent none low high = of_class (class_of s.objects o)
  where
    of_class : (c : Option ℕ) → option_map_or (leaves_of s line o) c [] ≡ []
    of_class None = refl
    of_class (Some class) =
        no_lines (λ i. line (Leaf (cell_of o i) class)) 0 (cell_count s o) (λ i. silent (Leaf (cell_of o i) class) (none (Leaf (cell_of o i) class) o refl low high))

pub silent_cell : (line : Node → List ℕ) (nodes : Request) (o class from to i : ℕ) → IsSilent line nodes → NamesNone nodes (Cells o) from to → from ≤ i → i < to
    → line (Leaf (cell_of o i) class) ≡ []
silent_cell line nodes o class from to i silent none low high =
    silent (Leaf (cell_of o i) class) (none (Leaf (cell_of o i) class) i (ap (λ b. if b then Some i else None) (eq-eqb o o refl)) low high)
