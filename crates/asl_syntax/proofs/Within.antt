-- A printed tree passes no limit of tokens where a text of the tree passes none.
use Rattle.std.proofs.Common.{◌≡◌, ℕ, suc, ◌-◌, List, [], ◌∷◌, Bool, true, false, not, ◌&&◌, cond, Option, Some, None, IsTrue, refl, sym, ◌∙◌, subst, arith}
use Rattle.std.proofs.lemmas.Bool.{cond-false, and_parts, and_from, not-true}
use Rattle.asl_grammar.specs.declared.token.Mark.TheVariants as mark
use Rattle.asl_grammar.specs.Token.{Token, Fixed, Number, Spot}
use Rattle.asl_grammar.specs.Grammar.{bare}
use Rattle.asl_grammar.specs.Spelling.{program_on}
use Rattle.asl_syntax.specs.Tree.{Item}
use Rattle.asl_syntax.specs.Spelled.{Spells}
use Rattle.asl_syntax.specs.Writing.{writing}
use Rattle.asl_syntax.specs.Limit.{Tally, tally_of, is_over, limit_from}
use Rattle.asl_syntax.specs.Tallied.{noted}
use Rattle.asl_syntax.proofs.Tallying.{over_from, over_is_limit}
use Rattle.asl_syntax.proofs.Leaner.{Keeps, leaner}

-- no token goes past a limit, from a tally on
abbrev pub are_within : Tally → List Token → Bool
are_within y [] = true
are_within y (t ∷ ts) = not (is_over y t) && are_within (noted y t) ts

none_over : (b : Bool) (at : ℕ) (o : Option ℕ) → cond b (Some at) o ≡ None → (not b ≡ true) × (o ≡ None)
none_over true at o e = cc
none_over false at o e = (refl, e)

within_by_none : (ss : List Spot) (y : Tally) → over_from y ss ≡ None → IsTrue (are_within y (bare ss))
within_by_none [] y e = refl
within_by_none (s ∷ ss) y e =
    let n = none_over (is_over y s.token) s.at (over_from (noted y s.token) ss) e in
    and_from _ _ n.0 (within_by_none ss (noted y s.token) n.1)

none_by_within : (ss : List Spot) (y : Tally) → IsTrue (are_within y (bare ss)) → over_from y ss ≡ None
none_by_within [] y h = refl
none_by_within (s ∷ ss) y h =
    let both = and_parts (not (is_over y s.token)) (are_within (noted y s.token) (bare ss)) h in
    cond-false (is_over y s.token) _ _ (not-true _ both.0) ∙ none_by_within ss (noted y s.token) both.1

abbrev StaysWithin : List Token → List Token → Type 0
StaysWithin ts us = (y : Tally) → IsTrue (are_within y ts) → IsTrue (are_within y us)

same_within : (t : Token) (ts us : List Token) → StaysWithin ts us → StaysWithin (t ∷ ts) (t ∷ us)
same_within t ts us r y h =
    let both = and_parts (not (is_over y t)) (are_within (noted y t) ts) h in
    and_from _ _ both.0 (r (noted y t) both.1)

sign_within : (ts us : List Token) → StaysWithin ts us → StaysWithin (Fixed mark.Becomes ∷ Fixed mark.Minus ∷ Number 0 ∷ ts) (Fixed mark.Becomes ∷ Number 0 ∷ us)
sign_within ts us r y h = r (noted (noted y (Fixed mark.Becomes)) (Number 0)) h

-- the tally after a block, with this many braces open
abbrev closed : Tally → ℕ → Tally
closed y n = record {
  last = Some (Fixed mark.CloseBrace);
  functions = y.functions;
  globals = y.globals;
  atomics = y.atomics;
  braces = n;
  head = None;
}

empty_within : (ts us : List Token) → StaysWithin ts us → StaysWithin (Fixed mark.CloseBrace ∷ Fixed mark.Else ∷ Fixed mark.OpenBrace ∷ Fixed mark.CloseBrace ∷ ts) (Fixed mark.CloseBrace ∷ us)
empty_within ts us r y h =
    let opened = and_parts _ (are_within (closed y (suc (y.braces - 1) - 1)) ts) h in
    let e : suc (y.braces - 1) - 1 ≡ y.braces - 1 = omega arith in
    r (closed y (y.braces - 1)) (subst (λ (n : ℕ). IsTrue (are_within (closed y n) ts)) e opened.1)

keeps_within : Keeps StaysWithin
keeps_within =
    record { none = λ y h. h; same = same_within; sign = sign_within; empty = empty_within }

-- from a text of the tree to the tree's own spelling, and on to a text that has it
pub within_kept : (tree : List Item) (ss : List Spot) → Spells tree (bare ss) → limit_from [] ss ≡ None → IsTrue (are_within (tally_of []) (program_on (writing tree) []))
within_kept tree ss s h =
    leaner StaysWithin keeps_within tree (bare ss) s (tally_of []) (within_by_none ss (tally_of []) (over_is_limit ss [] ∙ h))

pub limits_from_within : (ss : List Spot) (ts : List Token) → bare ss ≡ ts → IsTrue (are_within (tally_of []) ts) → limit_from [] ss ≡ None
limits_from_within ss ts e h =
    sym (over_is_limit ss [])
    ∙ none_by_within ss (tally_of []) (subst (λ (us : List Token). IsTrue (are_within (tally_of []) us)) (sym e) h)
