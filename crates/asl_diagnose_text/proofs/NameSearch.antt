-- The search for the first use of a name that is not declared, over what the names of a text tell. What src/unknown.rt reads of
-- the tokens is the same, so the proofs that follow need this search alone.
use Rattle.std.proofs.Common.{◌≡◌, ℕ, suc, List, [], ◌∷◌, Bool, false, ◌&&◌, ◌||◌, if◌then◌else◌, bytes_eq, Option, Some, None, length, refl, ap, ◌∙◌}
use Rattle.asl_grammar.specs.Token.{Token, Fixed, Name, Number, Spot}
use Rattle.asl_grammar.specs.Grammar.{bare}
use Rattle.asl_syntax.specs.Rules.{name_places}
use Rattle.asl_diagnose_text.specs.declared.declared.Declares.{Declares}
use Rattle.asl_diagnose_text.specs.declared.name_role.Role.{Role}
use Rattle.asl_diagnose_text.specs.declared.name_role.Sign.{Sign}
use Rattle.asl_diagnose_text.specs.declared.name_role.Sign.TheVariants.{Other}
use Rattle.asl_diagnose_text.specs.Places.{declares_after}
use Rattle.asl_diagnose_text.specs.UsesView.{sign_of, first_mark, role_of, is_function_name, declares_as, sets_local, lacks, has_declared, has_local, first_use}
use Rattle.asl_diagnose_text.proofs.Roles.{Told, told}

-- ---- of what is told

-- whether this is the name x, in a role that passes the test
abbrev pub fits : (Role → Bool) → List ℕ → Told → Bool
fits test x u = bytes_eq u.name x && test u.role

-- whether a name declares x so
abbrev pub declared : Declares → List ℕ → List Told → Bool
declared how x [] = false
declared how x (u ∷ us) = fits (declares_as how) x u || declared how x us

-- whether a name sets x as a local before the next function begins
abbrev pub local : List ℕ → List Told → Bool
local x [] = false
local x (u ∷ us) = if u.starts then false else (fits sets_local x u || local x us)

-- whether x is a local once this name is passed
abbrev local_at : List ℕ → Bool → Told → List Told → Bool
local_at x l u us = if u.starts then local x us else l

-- the place of the first use of x that lacks a declaration
abbrev pub first : List ℕ → Bool → Bool → Bool → List Told → List ℕ → Option ℕ
first x g f l [] places = None
first x g f l (u ∷ us) [] = None
first x g f l (u ∷ us) (at ∷ places) =
    if fits (lacks g f (local_at x l u us)) x u then Some at else first x g f (local_at x l u us) us places

-- ---- what src/unknown.rt reads of tokens is what they tell

pub declared_read : (how d : Declares) (x : List ℕ) (s : Sign) (ts : List Token) → has_declared how x d s ts ≡ declared how x (told d s ts)
declared_read how d x s [] = refl
declared_read how d x s (Fixed m ∷ ts) = declared_read how (declares_after d (Fixed m)) x (sign_of (Fixed m)) ts
declared_read how d x s (Name y ∷ ts) =
    ap (λ (b : Bool). (bytes_eq y x && declares_as how (role_of d s (first_mark ts))) || b) (declared_read how (declares_after d (Name y)) x Other ts)
declared_read how d x s (Number n ∷ ts) = declared_read how (declares_after d (Number n)) x Other ts

local_read : (d : Declares) (x : List ℕ) (s : Sign) (ts : List Token) → has_local x d s ts ≡ local x (told d s ts)
local_read d x s [] = refl
local_read d x s (Fixed m ∷ ts) = local_read (declares_after d (Fixed m)) x (sign_of (Fixed m)) ts
local_read d x s (Name y ∷ ts) =
    ap (λ (b : Bool). if is_function_name (Name y) d then false else ((bytes_eq y x && sets_local (role_of d s (first_mark ts))) || b)) (local_read (declares_after d (Name y)) x Other ts)
local_read d x s (Number n ∷ ts) = local_read (declares_after d (Number n)) x Other ts

-- of one token more
abbrev Reads : List ℕ → Bool → Bool → List Spot → Type 0
Reads x g f ss = (l : Bool) (d : Declares) (s : Sign) → first_use x g f l d s ss ≡ first x g f l (told d s (bare ss)) (name_places ss)

read_at : (x : List ℕ) (g f : Bool) (t : Token) (at : ℕ) (ss : List Spot) → Reads x g f ss → Reads x g f (record { token = t; at = at } ∷ ss)
read_at x g f (Fixed m) at ss later l d s = later l (declares_after d (Fixed m)) (sign_of (Fixed m))
read_at x g f (Name y) at ss later l d s =
    let r : Role = role_of d s (first_mark (bare ss)) in
    let k : Bool = if is_function_name (Name y) d then has_local x (declares_after d (Name y)) Other (bare ss) else l in
    let same = ap (λ (b : Bool). if is_function_name (Name y) d then b else l) (local_read (declares_after d (Name y)) x Other (bare ss)) in
    ap (λ (o : Option ℕ). if bytes_eq y x && lacks g f k r then Some at else o) (later k (declares_after d (Name y)) Other)
    ∙ ap (λ (b : Bool). if bytes_eq y x && lacks g f b r then Some at else first x g f b (told (declares_after d (Name y)) Other (bare ss)) (name_places ss)) same
read_at x g f (Number n) at ss later l d s = later l (declares_after d (Number n)) Other

pub use_read : (x : List ℕ) (g f : Bool) (ss : List Spot) → Reads x g f ss
use_read x g f [] l d s = refl
use_read x g f (p ∷ ss) l d s = read_at x g f p.token p.at ss (use_read x g f ss) l d s

-- as many names are told as have places
abbrev Long : List Spot → Type 0
Long ss = (d : Declares) (s : Sign) → length (told d s (bare ss)) ≡ length (name_places ss)

long_at : (t : Token) (at : ℕ) (ss : List Spot) → Long ss → Long (record { token = t; at = at } ∷ ss)
long_at (Fixed m) at ss later d s = later (declares_after d (Fixed m)) (sign_of (Fixed m))
long_at (Name y) at ss later d s = ap suc (later (declares_after d (Name y)) Other)
long_at (Number n) at ss later d s = later (declares_after d (Number n)) Other

pub told_length : (ss : List Spot) → Long ss
told_length [] d s = refl
told_length (p ∷ ss) d s = long_at p.token p.at ss (told_length ss) d s
