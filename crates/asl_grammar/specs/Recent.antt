-- Machinery of the proofs, not of the promise: the place of the automaton of docs/SOURCE.md's grammar after the first tokens
-- of a text, and what is kept of the open blocks there where memory for all of them is refused.
-- `kinds` is a ring of 1,024: a block that stands in n others has its kind at n modulo 1,024. `lost` is how many of the
-- outer blocks have no kind there; `to` is how many levels are kept at all (src/in_place.rt).
use Rattle.std.specs.Prelude.{◌≡◌, ℕ, zero, suc, ◌<◌, ◌≤◌, ◌%◌, ◌⊎◌, List, [], ◌∷◌, Option, Some, None, length, reverse, slice_index_or}
use Rattle.asl_grammar.specs.declared.control.Control as code
use Rattle.asl_grammar.specs.declared.control.Kind.{Kind}
use Rattle.asl_grammar.specs.declared.control.Kind.TheVariants.{Body, Then}
use Rattle.asl_grammar.specs.declared.in_place.Recent as recent
use Rattle.asl_grammar.specs.Token.{Spot}
use Rattle.asl_grammar.specs.Automaton.{Control, Act}
use Rattle.asl_grammar.specs.Seen.{Place, start_place, kinds_after, next_place}
use Rattle.asl_grammar.specs.ControlView.{control_of}

-- continues from a place, if there is one
abbrev pub walk_with : Option Place → (Place → Option Place) → Option Place
walk_with None go = None
walk_with (Some p) go = go p

-- the place after the first n tokens, if the automaton reads as many
abbrev pub walk : Place → ℕ → List Spot → Option Place
walk p zero ss = Some p
walk p (suc n) [] = None
walk p (suc n) (s ∷ ss) = walk_with (next_place p s.token) (λ q. walk q n ss)

-- the same from the beginning of a text
abbrev pub place_after : ℕ → List Spot → Option Place
place_after n ss = walk start_place n ss

-- the kind as which the innermost of so many blocks is taken while a text is read again
abbrev pub taken_kind : ℕ → Kind
taken_kind zero = Body
taken_kind (suc n) = Then

-- of the open blocks, those that stand in `from` others or more, but in fewer than `to`, have their kinds in their places
abbrev pub IsKept : List Kind → List Kind → ℕ → ℕ → Type 0
IsKept kinds ks from to = (level : ℕ) → from ≤ level → level < to → level < length ks →
    slice_index_or kinds (level % 1024) Body ≡ slice_index_or (reverse ks) level Body

-- what is kept is true of these open blocks, as far as they stand in fewer than `to` others
pub record IsRecent (r : recent.Recent) (ks : List Kind) (to : ℕ) : Type 0 where
  pub depth : r.depth ≡ length ks
  pub kinds : IsKept r.kinds ks r.lost to

-- the kind of the innermost block is not lost
abbrev pub HasInnermost : recent.Recent → Type 0
HasInnermost r = (r.depth ≡ 0) ⊎ (r.lost < r.depth)

-- what is answered after a step, and what is kept then
abbrev pub IsAfter : Option (Control × Act) → List Kind → ℕ → Option code.Control → recent.Recent → Type 0
IsAfter None ks to None r = Unit {0}
IsAfter (Some (c, a)) ks to (Some next) r = (control_of next ≡ c) × IsRecent r (kinds_after a ks) to
IsAfter _ ks to _ r = ⊥
