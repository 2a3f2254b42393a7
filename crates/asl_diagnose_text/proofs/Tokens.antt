-- A reader of tokens: what it has passed, and what is next.
use Rattle.std.proofs.Common.{◌≡◌, inl, List, [], ◌∷◌, ◌++◌, refl, sym, ap, ◌∙◌, subst, append_assoc}
use Rattle.std.specs.List.{Contains}
use Rattle.asl_grammar.specs.Token.{Spot}
use Rattle.asl_syntax.proofs.Among.{contained, among_right}

-- the tokens that were passed, and those that are left
pub record IsPassed (all left : List Spot) : Type 0 where
  pub before : List Spot
  pub split : all ≡ before ++ left

pub none_passed : (all left : List Spot) → left ≡ all → IsPassed all left
none_passed all left e = record { before = []; split = sym e }

pub split_on : (all before left more : List Spot) (s : Spot) → all ≡ before ++ left → left ≡ s ∷ more → all ≡ (before ++ s ∷ []) ++ more
split_on all before left more s e f =
    e ∙ ap (λ (ss : List Spot). before ++ ss) f ∙ sym (append_assoc before (s ∷ []) more)

pub one_passed : (all left more : List Spot) (s : Spot) → IsPassed all left → left ≡ s ∷ more → IsPassed all more
one_passed all left more s h f = record { before = h.before ++ s ∷ []; split = split_on all h.before left more s h.split f }

-- the next token is one of all
pub is_there : (all left more : List Spot) (s : Spot) → IsPassed all left → left ≡ s ∷ more → Contains all s
is_there all left more s h f =
    let P : List Spot → Type 0 = λ ss. Contains ss s in
    subst P (sym (h.split ∙ ap (λ (ss : List Spot). h.before ++ ss) f)) (contained (h.before ++ s ∷ more) s (among_right h.before (s ∷ more) s (inl refl)))
