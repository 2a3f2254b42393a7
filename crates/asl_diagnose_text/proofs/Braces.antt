-- The reader of src/statements.rt that looks for where a block is closed, one token on.
use Rattle.std.proofs.Common.{◌≡◌, ℕ, suc, ◌+◌, ◌-◌, ◌^◌, ◌<◌, List, ◌∷◌, [], Bool, true, false, if◌then◌else◌, ◌&&◌, ◌||◌, cond, nat_le, sym, ap, ◌∙◌, arith}
use Rattle.std.specs.List.{filter}
use Rattle.asl_grammar.specs.Token.{Spot}
use Rattle.asl_diagnose_text.specs.Statements.{braces_after, closes, is_between, is_closing, is_opening}

-- the block is open after the tokens that were passed, as far as the others do not close it
pub record IsOpen (from to : ℕ) (all left : List Spot) (depth room : ℕ) : Type 0 where
  pub closed : closes depth (filter (λ s. is_between from to s.at) left) ≡ closes 0 (filter (λ s. is_between from to s.at) all)
  pub fits : depth + room < 2 ^ 64

pub none_open : (from to : ℕ) (all left : List Spot) (room : ℕ) → left ≡ all → room < 2 ^ 64 → IsOpen from to all left 0 room
none_open from to all left room e f = record {
  closed = ap (λ (ss : List Spot). closes 0 (filter (λ s. is_between from to s.at) ss)) e;
  fits = omega arith;
}

braces_fit : (a b : Bool) (depth room new : ℕ) → depth + room < 2 ^ 64 → new < room → (if a then suc depth else if b then depth - 1 else depth) + new < 2 ^ 64
braces_fit true b depth room new h n = omega arith
braces_fit false true depth room new h n = omega arith
braces_fit false false depth room new h n = omega arith

-- a token between the places
pub braces_on : (from to : ℕ) (all left more : List Spot) (s : Spot) (depth room new : ℕ) → IsOpen from to all left depth room → left ≡ s ∷ more → new < room → is_between from to s.at ≡ true → (is_closing s.token && nat_le depth 1) ≡ false → IsOpen from to all more (braces_after depth s.token) new
braces_on from to all left more s depth room new h e n b f = record {
  closed =
      let rest = filter (λ s. is_between from to s.at) more in
      sym (ap (λ (ss : List Spot). closes depth (filter (λ s. is_between from to s.at) ss)) e ∙ ap (λ (x : Bool). closes depth (cond x (s ∷ rest) rest)) b ∙ ap (λ (x : Bool). x || closes (braces_after depth s.token) rest) f) ∙ h.closed;
  fits = braces_fit (is_opening s.token) (is_closing s.token) depth room new h.fits n;
}

-- another token
pub braces_stay : (from to : ℕ) (all left more : List Spot) (s : Spot) (depth room new : ℕ) → IsOpen from to all left depth room → left ≡ s ∷ more → new < room → is_between from to s.at ≡ false → IsOpen from to all more depth new
braces_stay from to all left more s depth room new h e n b = record {
  closed =
      let rest = filter (λ s. is_between from to s.at) more in
      sym (ap (λ (ss : List Spot). closes depth (filter (λ s. is_between from to s.at) ss)) e ∙ ap (λ (x : Bool). closes depth (cond x (s ∷ rest) rest)) b) ∙ h.closed;
  fits = (let f = h.fits in omega arith);
}

pub still_open : (from to : ℕ) (all left : List Spot) (depth room : ℕ) → IsOpen from to all left depth room → left ≡ [] → closes 0 (filter (λ s. is_between from to s.at) all) ≡ false
still_open from to all left depth room h e =
    sym h.closed ∙ ap (λ (ss : List Spot). closes depth (filter (λ s. is_between from to s.at) ss)) e
