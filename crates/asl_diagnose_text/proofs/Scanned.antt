-- Where a name was declared among the tokens so far.
use Rattle.std.proofs.Common.{◌≡◌, ◌≢◌, ℕ, List, [], ◌∷◌, ◌++◌, Bool, true, false, ◌||◌, if◌then◌else◌, inl, inr, Option, Some, None, bytes_eq, refl, sym, ap, ◌∙◌, subst, append_assoc}
use Rattle.std.specs.Option.{IfSome, is_some}
use Rattle.std.proofs.lemmas.Bool.{cases_Bool}
use Rattle.std.specs.List.{Contains}
use Rattle.std.proofs.lemmas.Slice.Eq.{bytes_eq-Decides}
use Rattle.std.proofs.lemmas.List.Elements.{All-nil, All-push}
use Rattle.asl_grammar.specs.Token.{Token, Fixed, Name, Number, Spot}
use Rattle.asl_diagnose_text.specs.declared.word_place.Word.TheVariants as word
use Rattle.asl_diagnose_text.specs.declared.declared.Declares.{Declares}
use Rattle.asl_diagnose_text.specs.declared.declared.Declares.TheVariants.{Global, Function, Parameter, Nothing}
use Rattle.asl_diagnose_text.specs.declared.declared.Seen.{Seen}
use Rattle.asl_diagnose_text.specs.Places.{named, is_named, is_word, declares_after, declares_from, declares, SameFunction, IsNameAt, AreFirstDeclaredAt}
use Rattle.asl_diagnose_text.specs.SeenView.{seen_nothing, cell, noted_as, noted_if, entered_if, passed, again, is_twice}
use Rattle.asl_diagnose_text.proofs.FirstTwo.{after, after_parts, none_more, none_declared}
use Rattle.asl_diagnose_text.proofs.Tokens.{IsPassed, split_on, is_there}

declares_more : (next : Declares) (ss : List Spot) (s : Spot) → declares_from next (ss ++ s ∷ []) ≡ declares_after (declares_from next ss) s.token
declares_more next [] s = refl
declares_more next (t ∷ ss) s = declares_more (declares_after next t.token) ss s

named_token : (x : List ℕ) (t : Token) → is_named x t ≡ true → t ≡ Name x
named_token x (Fixed m) e = cc
named_token x (Name y) e = ap Name ((bytes_eq-Decides y x).0 e)
named_token x (Number n) e = cc

pub named_spot : (x : List ℕ) (t : Token) (at : ℕ) → is_named x t ≡ true → record { token = t; at = at } ≡ named x at
named_spot x t at e = ap (λ (u : Token). record { token = u; at = at }) (named_token x t e)

-- the name was declared as this, at a place
pub record IsSeenAt (x : List ℕ) (before : List Spot) (what : Declares) (f : ℕ) : Type 0 where
  pub front : List Spot
  pub between : List Spot
  pub split : before ≡ front ++ named x f ∷ between
  pub is : declares front ≡ what
  pub function : SameFunction what between

abbrev pub Cell : List ℕ → List Spot → Declares → Option ℕ → Type 0
Cell x before what o = IfSome o (IsSeenAt x before what)

pub record Cells (x : List ℕ) (before : List Spot) (s : Seen) : Type 0 where
  pub global : Cell x before Global s.global
  pub function : Cell x before Function s.function
  pub parameter : Cell x before Parameter s.parameter

-- the tokens that were passed, and what is remembered of them
pub record IsScanned (x : List ℕ) (all left : List Spot) (s : Seen) : Type 0 where
  pub before : List Spot
  pub split : all ≡ before ++ left
  pub next : s.next ≡ declares before
  pub cells : Cells x before s

abbrev none_scanned : (x : List ℕ) (all left : List Spot) → left ≡ all → IsScanned x all left seen_nothing
none_scanned x all left e = record { before = []; split = sym e; next = refl; cells = record { global = tt; function = tt; parameter = tt } }

-- one more token
same_more : (what : Declares) (between : List Spot) (t : Spot) → is_word word.Fn t.token ≡ false → SameFunction what between → SameFunction what (between ++ t ∷ [])
same_more Global between t e h = tt
same_more Function between t e h = tt
same_more Parameter between t e h = All-push (λ (s : Spot). is_word word.Fn s.token ≡ false) between t h e
same_more Nothing between t e h = tt

seen_more : (x : List ℕ) (before : List Spot) (what : Declares) (f : ℕ) (t : Spot) → (h : IsSeenAt x before what f) → SameFunction what (h.between ++ t ∷ []) → IsSeenAt x (before ++ t ∷ []) what f
seen_more x before what f t h k = record {
  front = h.front;
  between = h.between ++ t ∷ [];
  split = ap (λ (ss : List Spot). ss ++ t ∷ []) h.split ∙ append_assoc h.front (named x f ∷ h.between) (t ∷ []);
  is = h.is;
  function = k;
}

cell_more : (x : List ℕ) (before : List Spot) (what : Declares) (o : Option ℕ) (t : Spot) → ((between : List Spot) → SameFunction what between → SameFunction what (between ++ t ∷ [])) → Cell x before what o → Cell x (before ++ t ∷ []) what o
cell_more x before what None t k h = tt
cell_more x before what (Some f) t k h = seen_more x before what f t h (k h.between h.function)

cells_more : (x : List ℕ) (before : List Spot) (s : Seen) (t : Spot) → is_word word.Fn t.token ≡ false → Cells x before s → Cells x (before ++ t ∷ []) s
cells_more x before s t e h = record {
  global = cell_more x before Global s.global t (λ b k. same_more Global b t e k) h.global;
  function = cell_more x before Function s.function t (λ b k. same_more Function b t e k) h.function;
  parameter = cell_more x before Parameter s.parameter t (λ b k. same_more Parameter b t e k) h.parameter;
}

cells_entered : (x : List ℕ) (before : List Spot) (s : Seen) (t : Spot) (b : Bool) → is_word word.Fn t.token ≡ b → Cells x before s → Cells x (before ++ t ∷ []) (entered_if b s)
cells_entered x before s t true e h = record {
  global = cell_more x before Global s.global t (λ b k. tt) h.global;
  function = cell_more x before Function s.function t (λ b k. tt) h.function;
  parameter = tt;
}
cells_entered x before s t false e h = cells_more x before s t e h

-- the name stands there
seen_here : (x : List ℕ) (before : List Spot) (what : Declares) (t : Spot) → declares before ≡ what → t ≡ named x t.at → SameFunction what [] → IsSeenAt x (before ++ t ∷ []) what t.at
seen_here x before what t e f k = record {
  front = before;
  between = [];
  split = ap (λ (u : Spot). before ++ u ∷ []) f;
  is = e;
  function = k;
}

cells_noted : (x : List ℕ) (before : List Spot) (s : Seen) (t : Spot) (what : Declares) → declares before ≡ what → t ≡ named x t.at → Cells x (before ++ t ∷ []) s → Cells x (before ++ t ∷ []) (noted_as s t.at what)
cells_noted x before s t Global e f h =
    record { global = seen_here x before Global t e f tt; function = h.function; parameter = h.parameter }
cells_noted x before s t Function e f h =
    record { global = h.global; function = seen_here x before Function t e f tt; parameter = h.parameter }
cells_noted x before s t Parameter e f h =
    record { global = h.global; function = h.function; parameter = seen_here x before Parameter t e f (All-nil (λ (u : Spot). is_word word.Fn u.token ≡ false)) }
cells_noted x before s t Nothing e f h = h

cells_noted_if : (x : List ℕ) (before : List Spot) (s : Seen) (t : Spot) (b : Bool) → declares before ≡ s.next → (b ≡ true → t ≡ named x t.at) → Cells x (before ++ t ∷ []) s → Cells x (before ++ t ∷ []) (noted_if b s t.at)
cells_noted_if x before s t true e f h = cells_noted x before s t s.next e (f refl) h
cells_noted_if x before s t false e f h = h

cells_passed : (x : List ℕ) (before : List Spot) (s : Seen) (t : Token) (at : ℕ) → declares before ≡ s.next → Cells x before s → Cells x (before ++ record { token = t; at = at } ∷ []) (passed x s (record { token = t; at = at }))
cells_passed x before s (Fixed m) at e h =
    let k = cells_entered x before s (record { token = Fixed m; at = at }) (is_word word.Fn (Fixed m)) refl h in
    record { global = k.global; function = k.function; parameter = k.parameter }
cells_passed x before s (Name y) at e h =
    let t : Spot = record { token = Name y; at = at } in
    let k = cells_noted_if x before s t (bytes_eq y x) e (λ f. named_spot x (Name y) at f) (cells_more x before s t refl h) in
    record { global = k.global; function = k.function; parameter = k.parameter }
cells_passed x before s (Number n) at e h =
    let k = cells_more x before s (record { token = Number n; at = at }) refl h in
    record { global = k.global; function = k.function; parameter = k.parameter }

abbrev one_scanned : (x : List ℕ) (all left more : List Spot) (t : Spot) (s : Seen) → IsScanned x all left s → left ≡ t ∷ more → IsScanned x all more (passed x s t)
one_scanned x all left more t s h e = record {
  before = h.before ++ t ∷ [];
  split = split_on all h.before left more t h.split e;
  next = ap (λ (d : Declares). declares_after d t.token) h.next ∙ sym (declares_more Nothing h.before t);
  cells = cells_passed x h.before s t.token t.at (sym h.next) h.cells;
}

-- a second declaration
declared_with : (x : List ℕ) (all left more before : List Spot) (t : Spot) (what : Declares) (f : ℕ) → all ≡ before ++ left → left ≡ t ∷ more → t ≡ named x t.at → declares before ≡ what → what ≢ Nothing → is_twice x seen_nothing before ≡ false → IsSeenAt x before what f → AreFirstDeclaredAt all x f t.at
declared_with x all left more before t what f a e g d r none h = record {
  pair = record {
    before = h.front;
    between = h.between;
    behind = more;
    split = a ∙ ap (λ (ss : List Spot). ss ++ left) h.split
        ∙ append_assoc h.front (named x f ∷ h.between) left
        ∙ ap (λ (ss : List Spot). h.front ++ named x f ∷ (h.between ++ ss)) (e ∙ ap (λ (u : Spot). u ∷ more) g);
    real = λ n. r (sym h.is ∙ n);
    same = ap (λ (ss : List Spot). declares ss) (sym h.split) ∙ d ∙ sym h.is;
    function = subst (λ (w : Declares). SameFunction w h.between) (sym h.is) h.function;
  };
  earliest = none_declared x (h.front ++ named x f ∷ h.between) (ap (is_twice x seen_nothing) (sym h.split) ∙ none);
}

some_cell : (x : List ℕ) (before : List Spot) (what : Declares) (o : Option ℕ) (f : ℕ) → o ≡ Some f → Cell x before what o → IsSeenAt x before what f
some_cell x before what None f e h = cc
some_cell x before what (Some g) f e h =
    let P : ℕ → Type 0 = λ n. IsSeenAt x before what n in
    let same : g ≡ f = cc in
    subst P same h

twice_by : (x : List ℕ) (all left more : List Spot) (t : Spot) (s : Seen) (what : Declares) (f : ℕ) → (h : IsScanned x all left s) → left ≡ t ∷ more → t ≡ named x t.at → declares h.before ≡ what → is_twice x seen_nothing h.before ≡ false → cell s what ≡ Some f → AreFirstDeclaredAt all x f t.at
twice_by x all left more t s Global f h e g d none c =
    declared_with x all left more h.before t Global f h.split e g d (λ n. cc) none (some_cell x h.before Global s.global f c h.cells.global)
twice_by x all left more t s Function f h e g d none c =
    declared_with x all left more h.before t Function f h.split e g d (λ n. cc) none (some_cell x h.before Function s.function f c h.cells.function)
twice_by x all left more t s Parameter f h e g d none c =
    declared_with x all left more h.before t Parameter f h.split e g d (λ n. cc) none (some_cell x h.before Parameter s.parameter f c h.cells.parameter)
twice_by x all left more t s Nothing f h e g d none c = cc

-- the name stands among all tokens
pub name_there : (x : List ℕ) (all left more : List Spot) (t : Spot) → IsPassed all left → left ≡ t ∷ more → is_named x t.token ≡ true → IsNameAt all x t.at
name_there x all left more t h e n =
    let P : Spot → Type 0 = λ u. Contains all u in
    subst P (named_spot x t.token t.at n) (is_there all left more t h e)

-- so does the token
pub token_there : (u : Token) (all left more : List Spot) (t : Spot) → IsPassed all left → left ≡ t ∷ more → t.token ≡ u → Contains all (record { token = u; at = t.at })
token_there u all left more t h e n =
    let P : Token → Type 0 = λ v. Contains all (record { token = v; at = t.at }) in
    subst P n (is_there all left more t h e)

declared_twice : (x : List ℕ) (all left more : List Spot) (t : Spot) (s : Seen) (f : ℕ) → (h : IsScanned x all left s) → left ≡ t ∷ more → is_named x t.token ≡ true → is_twice x seen_nothing h.before ≡ false → cell s s.next ≡ Some f → AreFirstDeclaredAt all x f t.at
declared_twice x all left more t s f h e n none c =
    twice_by x all left more t s s.next f h e (named_spot x t.token t.at n) (sym h.next) none c

-- where a token declares the name again, it is the name, and it was declared before
again_some : (x : List ℕ) (s : Seen) (t : Token) (f : ℕ) → again x s t ≡ Some f → (is_named x t ≡ true) × (cell s s.next ≡ Some f)
again_some x s t f e =
    elim (cases_Bool (is_named x t)) [
      | inl n ↦ (n, sym (ap (λ (b : Bool). if b then cell s s.next else None) n) ∙ e)
      | inr n ↦ let o : Option ℕ = None in let h : o ≡ Some f = sym (ap (λ (b : Bool). if b then cell s s.next else None) n) ∙ e in absurd cc
    ]

-- so many tokens were passed, and none of them declared it again
pub record IsRead (x : List ℕ) (all left : List Spot) (s : Seen) : Type 0 where
  pub scanned : IsScanned x all left s
  pub kept : is_twice x s left ≡ is_twice x seen_nothing all
  pub state : s ≡ after x seen_nothing scanned.before
  pub none : is_twice x seen_nothing scanned.before ≡ false

pub none_read : (x : List ℕ) (all left : List Spot) (s : Seen) → left ≡ all → s ≡ seen_nothing → IsRead x all left s
none_read x all left s e f =
    let P : Seen → Type 0 = λ u. IsRead x all left u in
    subst P (sym f) (record { scanned = none_scanned x all left e; kept = ap (is_twice x seen_nothing) e; state = refl; none = refl })

pub one_read : (x : List ℕ) (all left more : List Spot) (t : Spot) (s new : Seen) → IsRead x all left s → left ≡ t ∷ more → new ≡ passed x s t → again x s t.token ≡ None → IsRead x all more new
one_read x all left more t s new h e f n =
    let P : Seen → Type 0 = λ u. IsRead x all more u in
    subst P (sym f) (record {
      scanned = one_scanned x all left more t s h.scanned e;
      kept = sym (ap (λ (o : Option ℕ). is_some o || is_twice x (passed x s t) more) n)
          ∙ sym (ap (is_twice x s) e) ∙ h.kept;
      state = ap (λ (u : Seen). passed x u t) h.state ∙ sym (after_parts x seen_nothing h.scanned.before (t ∷ []));
      none = none_more x seen_nothing h.scanned.before t h.none (ap (λ (u : Seen). again x u t.token) (sym h.state) ∙ n);
    })

pub declared_again : (x : List ℕ) (all left more : List Spot) (t : Spot) (s : Seen) (f : ℕ) → IsRead x all left s → left ≡ t ∷ more → again x s t.token ≡ Some f → AreFirstDeclaredAt all x f t.at
declared_again x all left more t s f h e a =
    let k = again_some x s t.token f a in
    declared_twice x all left more t s f h.scanned e k.0 h.none k.1

pub all_read : (x : List ℕ) (all left : List Spot) (s : Seen) → IsRead x all left s → left ≡ [] → is_twice x seen_nothing all ≡ false
all_read x all left s h e = sym h.kept ∙ ap (is_twice x s) e
