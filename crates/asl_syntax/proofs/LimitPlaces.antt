-- Where a limit is passed: at the first token with which those before it do not keep the limits.
use Rattle.std.proofs.Common.{◌≡◌, ℕ, zero, suc, ◌≤◌, ◌==◌, ne_eqb, List, [], ◌∷◌, ◌++◌, Bool, true, false, Option, Some, None, length, take, drop, slice_get, if◌then◌else◌, refl, sym, ap, ◌∙◌, subst, arith, append_assoc}
use Rattle.std.specs.Prelude.{reverse, ◌||◌, nat_lt}
use Rattle.std.proofs.lemmas.List.{append-nil, reverse-append, take_all}
use Rattle.std.proofs.lemmas.Bool.{leb-false, leb-true, ltb-true, ltb-false, le-ltb, or_parts, or_from}
use Rattle.asl_grammar.specs.declared.token.Mark.TheVariants as mark
use Rattle.asl_grammar.specs.Token.{Token, Fixed, Name, Number, Spot}
use Rattle.asl_grammar.specs.Grammar.{bare}
use Rattle.asl_syntax.specs.Limit.{functions_in, globals_in, atomics_in, open_braces, one_more, names_in_head, last_of, is_fifth, number_over, tally_of, is_over, limit_from}
use Rattle.asl_syntax.specs.LimitPlace.{IsInRangeAfter, KeepLimits, front, IsFirstOver}

-- ---- one token more that passes no limit

functions_kept : (t : Token) (ts : List Token) → functions_in ts ≤ 256 → is_over (tally_of ts) t ≡ false → functions_in (t ∷ ts) ≤ 256
functions_kept (Fixed mark.Fn) ts h e = let low = leb-false 256 (functions_in ts) e in omega arith
functions_kept _ ts h e = h

globals_kept : (t : Token) (ts : List Token) → globals_in ts ≤ 1024 → is_over (tally_of ts) t ≡ false → globals_in (t ∷ ts) ≤ 1024
globals_kept (Fixed mark.Global) ts h e = let low = leb-false 1024 (globals_in ts) e in omega arith
globals_kept _ ts h e = h

sections_kept : (t : Token) (ts : List Token) → atomics_in ts ≤ 1024 → is_over (tally_of ts) t ≡ false → atomics_in (t ∷ ts) ≤ 1024
sections_kept (Fixed mark.Atomic) ts h e = let low = leb-false 1024 (atomics_in ts) e in omega arith
sections_kept _ ts h e = h

braces_kept : (t : Token) (ts : List Token) → open_braces ts ≤ 64 → is_over (tally_of ts) t ≡ false → open_braces (t ∷ ts) ≤ 64
braces_kept (Fixed mark.OpenBrace) ts h e = let low = leb-false 64 (open_braces ts) e in omega arith
braces_kept (Fixed mark.CloseBrace) ts h e = omega arith
braces_kept _ ts h e = h

head_named : (o : Option ℕ) (names : ℕ) → is_fifth o ≡ false → one_more o ≡ Some names → names ≤ 5
head_named None names f e = absurd (let no : None ≡ Some names = e in cc)
head_named (Some n) names f e =
    let low = leb-false 5 n f in
    let is : suc n ≡ names = (let same : Some (suc n) ≡ Some names = e in cc) in
    omega arith

head_kept : (t : Token) (ts : List Token) → ((names : ℕ) → names_in_head ts ≡ Some names → names ≤ 5) → is_over (tally_of ts) t ≡ false → (names : ℕ) → names_in_head (t ∷ ts) ≡ Some names → names ≤ 5
head_kept (Fixed mark.Fn) ts h e names is = let none : 0 ≡ names = (let same : Some 0 ≡ Some names = is in cc) in omega arith
head_kept (Fixed mark.OpenParen) ts h e names is = h names is
head_kept (Fixed mark.Comma) ts h e names is = h names is
head_kept (Name x) ts h e names is = head_named (names_in_head ts) names (or_parts _ _ e).1 is
head_kept _ ts h e names is = absurd (let no : None ≡ Some names = is in cc)

name_kept : (t : Token) (ts : List Token) (x : List ℕ) → is_over (tally_of ts) t ≡ false → Some t ≡ Some (Name x) → length x ≤ 64
name_kept (Name y) ts x e is =
    let same : y ≡ x = (let s : Some (Name y) ≡ Some (Name x) = is in cc) in
    let low = ltb-false 64 (length y) (or_parts _ _ e).0 in
    omega (arith, ap (λ (z : List ℕ). length z) same)
name_kept t ts x e is = absurd (let s : Some t ≡ Some (Name x) = is in cc)

new_range : (n : ℕ) → number_over (Some (Fixed mark.New)) n ≡ false → (1 ≤ n) × (n ≤ 255)
new_range zero e = absurd (let no : true ≡ false = (or_parts (0 == 0) (nat_lt 255 0) e).0 in cc)
new_range (suc n) e = let low = ltb-false 255 (suc n) (or_parts (suc n == 0) (nat_lt 255 (suc n)) e).1 in (omega arith, omega arith)

in_range : (o : Option Token) (n : ℕ) → number_over o n ≡ false → IsInRangeAfter o n
in_range (Some (Fixed mark.OpenBracket)) n e = ltb-false 255 n e
in_range (Some (Fixed mark.New)) n e = new_range n e
in_range (Some (Fixed mark.Minus)) n e = ltb-false 2147483648 n e
in_range _ n e = ltb-false 2147483647 n e

last_is : (ts : List Token) → last_of ts ≡ slice_get ts 0
last_is [] = refl
last_is (t ∷ ts) = refl

number_kept : (t : Token) (ts : List Token) (number : ℕ) → is_over (tally_of ts) t ≡ false → Some t ≡ Some (Number number) → IsInRangeAfter (slice_get ts 0) number
number_kept (Number n) ts number e is =
    let same : n ≡ number = (let s : Some (Number n) ≡ Some (Number number) = is in cc) in
    subst (λ (o : Option Token). IsInRangeAfter o number) (last_is ts) (in_range (last_of ts) number (subst (λ (k : ℕ). number_over (last_of ts) k ≡ false) same e))
number_kept t ts number e is = absurd (let s : Some t ≡ Some (Number number) = is in cc)

keeps_more : (t : Token) (ts : List Token) → KeepLimits ts → is_over (tally_of ts) t ≡ false → KeepLimits (t ∷ ts)
keeps_more t ts k e =
    record {
      functions = functions_kept t ts k.functions e;
      globals = globals_kept t ts k.globals e;
      sections = sections_kept t ts k.sections e;
      braces = braces_at;
      parameters = head_at;
      names = name_at;
      numbers = number_at;
    }
  where
    braces_at : (n : ℕ) → open_braces (drop n (t ∷ ts)) ≤ 64
    braces_at zero = braces_kept t ts (k.braces 0) e
    braces_at (suc n) = k.braces n

    head_at : (n names : ℕ) → names_in_head (drop n (t ∷ ts)) ≡ Some names → names ≤ 5
    head_at zero names is = head_kept t ts (k.parameters 0) e names is
    head_at (suc n) names is = k.parameters n names is

    name_at : (n : ℕ) (x : List ℕ) → slice_get (t ∷ ts) n ≡ Some (Name x) → length x ≤ 64
    name_at zero x is = name_kept t ts x e is
    name_at (suc n) x is = k.names n x is

    number_at : (n number : ℕ) → slice_get (t ∷ ts) n ≡ Some (Number number) → IsInRangeAfter (slice_get (t ∷ ts) (suc n)) number
    number_at zero number is = number_kept t ts number e is
    number_at (suc n) number is = k.numbers n number is

-- ---- one token more that passes a limit

out_of_range : (o : Option Token) (n : ℕ) → number_over o n ≡ true → IsInRangeAfter o n → ⊥
out_of_range (Some (Fixed mark.OpenBracket)) n e h = let over = ltb-true 255 n e in omega arith
out_of_range (Some (Fixed mark.New)) n e h =
    let some = h.0 in
    let within : (n == 0 || nat_lt 255 n) ≡ false = or_from (n == 0) (nat_lt 255 n) (ne_eqb n 0 (λ z. absurd (omega arith))) (le-ltb 255 n h.1) in
    let no : true ≡ false = sym e ∙ within in
    cc
out_of_range (Some (Fixed mark.Minus)) n e h = let over = ltb-true 2147483648 n e in omega arith
out_of_range _ n e h = let over = ltb-true 2147483647 n e in omega arith

name_over : (a : Bool) (x : List ℕ) (o : Option ℕ) → nat_lt 64 (length x) ≡ a → (a || is_fifth o) ≡ true → length x ≤ 64 → ((names : ℕ) → one_more o ≡ Some names → names ≤ 5) → ⊥
name_over true x o is e short few = let over = ltb-true 64 (length x) is in omega arith
name_over false x None is e short few = let no : false ≡ true = e in cc
name_over false x (Some n) is e short few = let over = leb-true 5 n e in let low = few (suc n) refl in omega arith

passes : (t : Token) (ts : List Token) → is_over (tally_of ts) t ≡ true → KeepLimits (t ∷ ts) → ⊥
passes (Fixed mark.Fn) ts e k = let over = leb-true 256 (functions_in ts) e in let low = k.functions in omega arith
passes (Fixed mark.Global) ts e k = let over = leb-true 1024 (globals_in ts) e in let low = k.globals in omega arith
passes (Fixed mark.Atomic) ts e k = let over = leb-true 1024 (atomics_in ts) e in let low = k.sections in omega arith
passes (Fixed mark.OpenBrace) ts e k = let over = leb-true 64 (open_braces ts) e in let low = k.braces 0 in omega arith
passes (Name x) ts e k = name_over _ x (names_in_head ts) refl e (k.names 0 x refl) (k.parameters 0)
passes (Number n) ts e k = out_of_range (last_of ts) n e (subst (λ (o : Option Token). IsInRangeAfter o n) (sym (last_is ts)) (k.numbers 0 n refl))
passes _ ts e k = let no : false ≡ true = e in cc

-- ---- all tokens

none_kept : KeepLimits []
none_kept = record {
  functions = omega arith;
  globals = omega arith;
  sections = omega arith;
  braces = no_braces;
  parameters = no_head;
  names = no_name;
  numbers = no_number;
}
  where
    no_braces : (n : ℕ) → open_braces (drop n []) ≤ 64
    no_braces zero = omega arith
    no_braces (suc n) = omega arith

    no_head : (n names : ℕ) → names_in_head (drop n []) ≡ Some names → names ≤ 5
    no_head zero names is = absurd (let no : None ≡ Some names = is in cc)
    no_head (suc n) names is = absurd (let no : None ≡ Some names = is in cc)

    no_name : (n : ℕ) (x : List ℕ) → slice_get [] n ≡ Some (Name x) → length x ≤ 64
    no_name n x is = absurd (let no : None ≡ Some (Name x) = is in cc)

    no_number : (n number : ℕ) → slice_get [] n ≡ Some (Number number) → IsInRangeAfter (slice_get [] (suc n)) number
    no_number n number is = absurd (let no : None ≡ Some (Number number) = is in cc)

-- the first tokens, so many of them, put one by one before others
abbrev pushed : ℕ → List Spot → List Token → List Token
pushed zero ss ts = ts
pushed (suc n) [] ts = ts
pushed (suc n) (s ∷ ss) ts = pushed n ss (s.token ∷ ts)

pushed_is : (n : ℕ) (ss : List Spot) (ts : List Token) → pushed n ss ts ≡ reverse (bare (take n ss)) ++ ts
pushed_is zero ss ts = refl
pushed_is (suc n) [] ts = refl
pushed_is (suc n) (s ∷ ss) ts =
    let before : List Token = bare (take n ss) in
    pushed_is n ss (s.token ∷ ts) ∙ sym (ap (λ (xs : List Token). xs ++ ts) (reverse-append (s.token ∷ []) before) ∙ append_assoc (reverse before) (s.token ∷ []) ts)

-- where tokens pass a limit, after tokens that pass none
over_at : (before : List Token) (ss : List Spot) (at : ℕ) → KeepLimits before → limit_from before ss ≡ Some at →
    (n : ℕ) × (s : Spot) × (slice_get ss n ≡ Some s) × (s.at ≡ at) × KeepLimits (pushed n ss before) × (KeepLimits (pushed (suc n) ss before) → ⊥)
over_at before [] at k e = absurd (let no : None ≡ Some at = e in cc)
over_at before (s ∷ ss) at k e =
    elim (is_over (tally_of before) s.token) as (λ b. is_over (tally_of before) s.token ≡ b → (if b then Some s.at else limit_from (s.token ∷ before) ss) ≡ Some at →
    (n : ℕ) × (u : Spot) × (slice_get (s ∷ ss) n ≡ Some u) × (u.at ≡ at) × KeepLimits (pushed n (s ∷ ss) before) × (KeepLimits (pushed (suc n) (s ∷ ss) before) → ⊥)) [
      | true ↦ λ over h. (0, s, refl, (let same : Some s.at ≡ Some at = h in cc), k, λ more. passes s.token before over more)
      | false ↦ λ under h. (let r = over_at (s.token ∷ before) ss at (keeps_more s.token before k under) h in (suc r.0, r.1, r.2, r.3, r.4, r.5))
    ] refl e

-- tokens that pass none
under_all : (before : List Token) (ss : List Spot) → KeepLimits before → limit_from before ss ≡ None → KeepLimits (pushed (length ss) ss before)
under_all before [] k e = k
under_all before (s ∷ ss) k e =
    elim (is_over (tally_of before) s.token) as (λ b. is_over (tally_of before) s.token ≡ b → (if b then Some s.at else limit_from (s.token ∷ before) ss) ≡ None → KeepLimits (pushed (length ss) ss (s.token ∷ before))) [
      | true ↦ λ over h. absurd (let no : Some s.at ≡ None = h in cc)
      | false ↦ λ under h. under_all (s.token ∷ before) ss (keeps_more s.token before k under) h
    ] refl e

front_is : (n : ℕ) (ss : List Spot) → pushed n ss [] ≡ front ss n
front_is n ss = pushed_is n ss [] ∙ append-nil (front ss n)

pub first_over : (ss : List Spot) (at : ℕ) → limit_from [] ss ≡ Some at → IsFirstOver ss at
first_over ss at e =
    let r = over_at [] ss at none_kept e in
    record {
      number = r.0;
      spot = r.1;
      there = r.2;
      place = r.3;
      kept = subst (λ (ts : List Token). KeepLimits ts) (front_is r.0 ss) r.4;
      passed = λ k. r.5 (subst (λ (ts : List Token). KeepLimits ts) (sym (front_is (suc r.0) ss)) k);
    }

pub all_kept : (ss : List Spot) → limit_from [] ss ≡ None → KeepLimits (reverse (bare ss))
all_kept ss e =
    let all : front ss (length ss) ≡ reverse (bare ss) = ap (λ (xs : List Spot). reverse (bare xs)) (take_all (length ss) ss (omega arith)) in
    subst (λ (ts : List Token). KeepLimits ts) (front_is (length ss) ss ∙ all) (under_all [] ss none_kept e)
