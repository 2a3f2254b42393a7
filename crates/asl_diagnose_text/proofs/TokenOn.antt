-- The readers of src/unknown.rt, one token on.
use Rattle.std.proofs.Common.{◌≡◌, ℕ, List, [], ◌∷◌, Bool, true, false, ◌||◌, if◌then◌else◌, Option, Some, None, refl, sym, ap, ◌∙◌}
use Rattle.asl_grammar.specs.Token.{Token, Spot}
use Rattle.asl_grammar.specs.Grammar.{bare}
use Rattle.asl_diagnose_text.specs.declared.declared.Declares.{Declares}
use Rattle.asl_diagnose_text.specs.declared.declared.Declares.TheVariants as what
use Rattle.asl_diagnose_text.specs.declared.name_role.Sign.TheVariants.{Other}
use Rattle.asl_diagnose_text.specs.declared.name_role.Before.{Before}
use Rattle.asl_diagnose_text.specs.Places.{declares_after}
use Rattle.asl_diagnose_text.specs.UsesView.{sign_of, is_function_name, declares_as, sets_local, lacks, passes, has_declared, has_local, local_after, first_use}
use Rattle.asl_diagnose_text.proofs.FirstUse.{first_use_in}

-- after a token
abbrev pub after_token : Before → Token → Before
after_token b t = record { next = declares_after b.next t; sign = sign_of t }

-- ---- whether the name is declared so

pub declared_here : (how : Declares) (x : List ℕ) (b : Before) (left more : List Spot) (s : Spot) (r : Bool) → has_declared how x b.next b.sign (bare left) ≡ r → left ≡ s ∷ more → passes (declares_as how) x b.next b.sign s.token (bare more) ≡ true → true ≡ r
declared_here how x b left more s r h e f =
    sym (ap (λ (c : Bool). c || has_declared how x (declares_after b.next s.token) (sign_of s.token) (bare more)) f)
    ∙ sym (ap (λ (ss : List Spot). has_declared how x b.next b.sign (bare ss)) e) ∙ h

pub declared_later : (how : Declares) (x : List ℕ) (b new : Before) (left more : List Spot) (s : Spot) (r : Bool) → has_declared how x b.next b.sign (bare left) ≡ r → left ≡ s ∷ more → passes (declares_as how) x b.next b.sign s.token (bare more) ≡ false → new ≡ after_token b s.token
    → has_declared how x new.next new.sign (bare more) ≡ r
declared_later how x b new left more s r h e f n =
    ap (λ (c : Before). has_declared how x c.next c.sign (bare more)) n
    ∙ sym (ap (λ (c : Bool). c || has_declared how x (declares_after b.next s.token) (sign_of s.token) (bare more)) f)
    ∙ sym (ap (λ (ss : List Spot). has_declared how x b.next b.sign (bare ss)) e) ∙ h

pub declared_nowhere : (how : Declares) (x : List ℕ) (b : Before) (left : List Spot) (r : Bool) → has_declared how x b.next b.sign (bare left) ≡ r → left ≡ [] → false ≡ r
declared_nowhere how x b left r h e = sym (ap (λ (ss : List Spot). has_declared how x b.next b.sign (bare ss)) e) ∙ h

-- ---- whether it is a local

abbrev of_token : List ℕ → Before → Token → List Token → Bool → Bool → Bool
of_token x b t ts starts sets =
    if starts then false else (sets || has_local x (declares_after b.next t) (sign_of t) ts)

local_split : (x : List ℕ) (b : Before) (left more : List Spot) (s : Spot) (r starts sets : Bool) → has_local x b.next b.sign (bare left) ≡ r → left ≡ s ∷ more → is_function_name s.token b.next ≡ starts → passes sets_local x b.next b.sign s.token (bare more) ≡ sets
    → of_token x b s.token (bare more) starts sets ≡ r
local_split x b left more s r starts sets h e f g =
    sym (ap (λ (c : Bool). of_token x b s.token (bare more) starts c) g)
    ∙ sym (ap (λ (c : Bool). of_token x b s.token (bare more) c (passes sets_local x b.next b.sign s.token (bare more))) f)
    ∙ sym (ap (λ (ss : List Spot). has_local x b.next b.sign (bare ss)) e) ∙ h

pub local_ends : (x : List ℕ) (b : Before) (left more : List Spot) (s : Spot) (r : Bool) → has_local x b.next b.sign (bare left) ≡ r → left ≡ s ∷ more → is_function_name s.token b.next ≡ true → false ≡ r
local_ends x b left more s r h e f = local_split x b left more s r true (passes sets_local x b.next b.sign s.token (bare more)) h e f refl

pub local_here : (x : List ℕ) (b : Before) (left more : List Spot) (s : Spot) (r : Bool) → has_local x b.next b.sign (bare left) ≡ r → left ≡ s ∷ more → is_function_name s.token b.next ≡ false → passes sets_local x b.next b.sign s.token (bare more) ≡ true → true ≡ r
local_here x b left more s r h e f g = local_split x b left more s r false true h e f g

pub local_later : (x : List ℕ) (b new : Before) (left more : List Spot) (s : Spot) (r : Bool) → has_local x b.next b.sign (bare left) ≡ r → left ≡ s ∷ more → is_function_name s.token b.next ≡ false → passes sets_local x b.next b.sign s.token (bare more) ≡ false → new ≡ after_token b s.token
    → has_local x new.next new.sign (bare more) ≡ r
local_later x b new left more s r h e f g n =
    ap (λ (c : Before). has_local x c.next c.sign (bare more)) n ∙ local_split x b left more s r false false h e f g

pub local_nowhere : (x : List ℕ) (b : Before) (left : List Spot) (r : Bool) → has_local x b.next b.sign (bare left) ≡ r → left ≡ [] → false ≡ r
local_nowhere x b left r h e = sym (ap (λ (ss : List Spot). has_local x b.next b.sign (bare ss)) e) ∙ h

-- ---- where it is first used

pub use_start : (x : List ℕ) (g f : Bool) (b : Before) (all left : List Spot) → g ≡ has_declared what.Global x what.Nothing Other (bare all) → f ≡ has_declared what.Function x what.Nothing Other (bare all) → b ≡ record { next = what.Nothing; sign = Other } → left ≡ all
    → first_use x g f false b.next b.sign left ≡ first_use_in x all
use_start x g f b all left e h n l =
    ap (λ (c : Before). first_use x g f false c.next c.sign left) n
    ∙ ap (λ (ss : List Spot). first_use x g f false what.Nothing Other ss) l
    ∙ ap (λ (c : Bool). first_use x c f false what.Nothing Other all) e
    ∙ ap (λ (c : Bool). first_use x (has_declared what.Global x what.Nothing Other (bare all)) c false what.Nothing Other all) h

abbrev at_token : List ℕ → Bool → Bool → Bool → Before → Spot → List Spot → Bool → Option ℕ
at_token x g f l b s more hit =
    if hit then Some s.at else first_use x g f l (declares_after b.next s.token) (sign_of s.token) more

use_split : (x : List ℕ) (g f l new hit : Bool) (b : Before) (left more : List Spot) (s : Spot) (r : Option ℕ) → first_use x g f l b.next b.sign left ≡ r → left ≡ s ∷ more → new ≡ local_after x b.next b.sign l s.token (bare more) → passes (lacks g f new) x b.next b.sign s.token (bare more) ≡ hit
    → at_token x g f new b s more hit ≡ r
use_split x g f l new hit b left more s r h e n p =
    sym (ap (λ (c : Bool). at_token x g f new b s more c) p)
    ∙ ap (λ (k : Bool). at_token x g f k b s more (passes (lacks g f k) x b.next b.sign s.token (bare more))) n
    ∙ sym (ap (λ (ss : List Spot). first_use x g f l b.next b.sign ss) e) ∙ h

pub use_here : (x : List ℕ) (g f l new : Bool) (b : Before) (left more : List Spot) (s : Spot) (r : Option ℕ) → first_use x g f l b.next b.sign left ≡ r → left ≡ s ∷ more → new ≡ local_after x b.next b.sign l s.token (bare more) → passes (lacks g f new) x b.next b.sign s.token (bare more) ≡ true
    → Some s.at ≡ r
use_here x g f l new b left more s r h e n p = use_split x g f l new true b left more s r h e n p

pub use_later : (x : List ℕ) (g f l new : Bool) (b after : Before) (left more : List Spot) (s : Spot) (r : Option ℕ) → first_use x g f l b.next b.sign left ≡ r → left ≡ s ∷ more → new ≡ local_after x b.next b.sign l s.token (bare more) → passes (lacks g f new) x b.next b.sign s.token (bare more) ≡ false
    → after ≡ after_token b s.token → first_use x g f new after.next after.sign more ≡ r
use_later x g f l new b after left more s r h e n p a =
    ap (λ (c : Before). first_use x g f new c.next c.sign more) a ∙ use_split x g f l new false b left more s r h e n p

pub use_nowhere : (x : List ℕ) (g f l : Bool) (b : Before) (left : List Spot) (r : Option ℕ) → first_use x g f l b.next b.sign left ≡ r → left ≡ [] → None ≡ r
use_nowhere x g f l b left r h e = sym (ap (λ (ss : List Spot). first_use x g f l b.next b.sign ss) e) ∙ h
