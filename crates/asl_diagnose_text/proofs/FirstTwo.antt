-- Two declarations of a name in one name space are seen: so where none were seen among tokens, there are none.
use Rattle.std.proofs.Common.{◌≡◌, ◌≢◌, ℕ, List, [], ◌∷◌, ◌++◌, Bool, true, false, ◌||◌, if◌then◌else◌, Option, None, bytes_eq, refl, sym, ap, ◌∙◌}
use Rattle.std.specs.Option.{is_some}
use Rattle.std.proofs.Math.Bool.{or_assoc, or-false}
use Rattle.std.proofs.lemmas.Bool.{false≢true, or_right}
use Rattle.std.proofs.lemmas.Slice.Eq.{bytes_eq-Decides}
use Rattle.std.proofs.lemmas.List.Elements.{All-head, All-tail}
use Rattle.asl_grammar.specs.Token.{Name, Spot}
use Rattle.asl_diagnose_text.specs.declared.word_place.Word.TheVariants as word
use Rattle.asl_diagnose_text.specs.declared.declared.Declares.{Declares}
use Rattle.asl_diagnose_text.specs.declared.declared.Declares.TheVariants.{Global, Function, Parameter, Nothing}
use Rattle.asl_diagnose_text.specs.declared.declared.Seen.{Seen}
use Rattle.asl_diagnose_text.specs.Places.{named, is_named, is_word, declares_after, declares_from, declares, SameFunction, AreDeclaredAt}
use Rattle.asl_diagnose_text.specs.SeenView.{seen_nothing, cell, noted_as, noted_if, entered_if, passed, again, is_twice}

-- what is remembered after tokens
abbrev pub after : List ℕ → Seen → List Spot → Seen
after x s [] = s
after x s (t ∷ ss) = after x (passed x s t) ss

pub twice_parts : (x : List ℕ) (s : Seen) (xs ys : List Spot) → is_twice x s (xs ++ ys) ≡ (is_twice x s xs || is_twice x (after x s xs) ys)
twice_parts x s [] ys = refl
twice_parts x s (t ∷ xs) ys =
    ap (λ b. is_some (again x s t.token) || b) (twice_parts x (passed x s t) xs ys)
    ∙ sym (or_assoc (is_some (again x s t.token)) (is_twice x (passed x s t) xs) (is_twice x (after x (passed x s t) xs) ys))

pub after_parts : (x : List ℕ) (s : Seen) (xs ys : List Spot) → after x s (xs ++ ys) ≡ after x (after x s xs) ys
after_parts x s [] ys = refl
after_parts x s (t ∷ xs) ys = after_parts x (passed x s t) xs ys

-- one more token that declares nothing again
pub none_more : (x : List ℕ) (s : Seen) (xs : List Spot) (t : Spot) → is_twice x s xs ≡ false → again x (after x s xs) t.token ≡ None → is_twice x s (xs ++ t ∷ []) ≡ false
none_more x s xs t none n =
    twice_parts x s xs (t ∷ [])
    ∙ ap (λ b. b || (is_some (again x (after x s xs) t.token) || false)) none
    ∙ or-false (is_some (again x (after x s xs) t.token)) ∙ ap (λ (o : Option ℕ). is_some o) n

next_after : (x : List ℕ) (s : Seen) (ss : List Spot) → (after x s ss).next ≡ declares_from s.next ss
next_after x s [] = refl
next_after x s (t ∷ ss) = next_after x (passed x s t) ss

-- ---- what is remembered stays

noted_stays : (s : Seen) (at : ℕ) (w what : Declares) → is_some (cell s what) ≡ true → is_some (cell (noted_as s at w) what) ≡ true
noted_stays s at Global Global e = refl
noted_stays s at Global Function e = e
noted_stays s at Global Parameter e = e
noted_stays s at Global Nothing e = e
noted_stays s at Function Global e = e
noted_stays s at Function Function e = refl
noted_stays s at Function Parameter e = e
noted_stays s at Function Nothing e = e
noted_stays s at Parameter Global e = e
noted_stays s at Parameter Function e = e
noted_stays s at Parameter Parameter e = refl
noted_stays s at Parameter Nothing e = e
noted_stays s at Nothing what e = e

noted_if_stays : (b : Bool) (s : Seen) (at : ℕ) (what : Declares) → is_some (cell s what) ≡ true → is_some (cell (noted_if b s at) what) ≡ true
noted_if_stays true s at what e = noted_stays s at s.next what e
noted_if_stays false s at what e = e

entered_stays : (b : Bool) (s : Seen) (what : Declares) → (what ≡ Parameter → b ≡ false) → is_some (cell s what) ≡ true → is_some (cell (entered_if b s) what) ≡ true
entered_stays true s Global same e = e
entered_stays true s Function same e = e
entered_stays true s Parameter same e = absurd (false≢true (sym (same refl)))
entered_stays true s Nothing same e = e
entered_stays false s what same e = e

-- what comes next is no part of it
cell_next : (s : Seen) (d what : Declares) → cell (record s { next = d }) what ≡ cell s what
cell_next s d Global = refl
cell_next s d Function = refl
cell_next s d Parameter = refl
cell_next s d Nothing = refl

passed_stays : (x : List ℕ) (s : Seen) (t : Spot) (what : Declares) → (what ≡ Parameter → is_word word.Fn t.token ≡ false) → is_some (cell s what) ≡ true → is_some (cell (passed x s t) what) ≡ true
passed_stays x s t what same e =
    ap is_some (cell_next (entered_if (is_word word.Fn t.token) (noted_if (is_named x t.token) s t.at)) (declares_after s.next t.token) what)
    ∙ entered_stays (is_word word.Fn t.token) (noted_if (is_named x t.token) s t.at) what same (noted_if_stays (is_named x t.token) s t.at what e)

-- no `fn` stands first, and none among the others
head_same : (what : Declares) (t : Spot) (ss : List Spot) → SameFunction what (t ∷ ss) → what ≡ Parameter → is_word word.Fn t.token ≡ false
head_same Parameter t ss h e = All-head (λ (s : Spot). is_word word.Fn s.token ≡ false) t ss h
head_same Global t ss h e = cc
head_same Function t ss h e = cc
head_same Nothing t ss h e = cc

tail_same : (what : Declares) (t : Spot) (ss : List Spot) → SameFunction what (t ∷ ss) → SameFunction what ss
tail_same Parameter t ss h = All-tail (λ (s : Spot). is_word word.Fn s.token ≡ false) t ss h
tail_same Global t ss h = tt
tail_same Function t ss h = tt
tail_same Nothing t ss h = tt

after_stays : (x : List ℕ) (s : Seen) (ss : List Spot) (what : Declares) → SameFunction what ss → is_some (cell s what) ≡ true → is_some (cell (after x s ss) what) ≡ true
after_stays x s [] what same e = e
after_stays x s (t ∷ ss) what same e =
    after_stays x (passed x s t) ss what (tail_same what t ss same) (passed_stays x s t what (head_same what t ss same) e)

-- ---- a declaration is remembered, and a second one seen

noted_there : (s : Seen) (at : ℕ) (what : Declares) → what ≢ Nothing → is_some (cell (noted_as s at what) what) ≡ true
noted_there s at Global real = refl
noted_there s at Function real = refl
noted_there s at Parameter real = refl
noted_there s at Nothing real = absurd (real refl)

same_name : (x : List ℕ) → bytes_eq x x ≡ true
same_name x = (bytes_eq-Decides x x).1 refl

declared_there : (x : List ℕ) (s : Seen) (at : ℕ) (what : Declares) → s.next ≡ what → what ≢ Nothing → is_some (cell (passed x s (named x at)) what) ≡ true
declared_there x s at what e real =
    ap is_some (cell_next (noted_if (is_named x (Name x)) s at) (declares_after s.next (Name x)) what)
    ∙ ap (λ (b : Bool). is_some (cell (noted_if b s at) what)) (same_name x)
    ∙ ap (λ (w : Declares). is_some (cell (noted_as s at w) what)) e
    ∙ noted_there s at what real

again_there : (x : List ℕ) (s : Seen) (what : Declares) → s.next ≡ what → is_some (cell s what) ≡ true → is_some (again x s (Name x)) ≡ true
again_there x s what e there =
    ap (λ (b : Bool). is_some (if b then cell s s.next else None)) (same_name x) ∙ ap (λ (w : Declares). is_some (cell s w)) e ∙ there

-- two declarations in one name space are seen
pub two_seen : (x : List ℕ) (ss : List Spot) (one other : ℕ) → AreDeclaredAt ss x one other → is_twice x seen_nothing ss ≡ true
two_seen x ss one other h =
    let what = declares h.before in
    let first = h.before ++ named x one ∷ h.between in
    let s = after x seen_nothing h.before in
    let t = after x (passed x s (named x one)) h.between in
    let begun : s.next ≡ what = next_after x seen_nothing h.before in
    let there : is_some (cell t what) ≡ true =
    after_stays x (passed x s (named x one)) h.between what h.function (declared_there x s one what begun h.real) in
    let reached : after x seen_nothing first ≡ t = after_parts x seen_nothing h.before (named x one ∷ h.between) in
    let next : t.next ≡ what = ap (λ (u : Seen). u.next) (sym reached) ∙ next_after x seen_nothing first ∙ h.same in
    let seen : is_twice x t (named x other ∷ h.behind) ≡ true =
    ap (λ (b : Bool). b || is_twice x (passed x t (named x other)) h.behind) (again_there x t what next there) in
    ap (is_twice x seen_nothing) h.split
    ∙ twice_parts x seen_nothing h.before (named x one ∷ (h.between ++ named x other ∷ h.behind))
    ∙ or_right (is_twice x seen_nothing h.before) (is_twice x s (named x one ∷ (h.between ++ named x other ∷ h.behind)))
    (or_right (is_some (again x s (Name x))) (is_twice x (passed x s (named x one)) (h.between ++ named x other ∷ h.behind))
    (twice_parts x (passed x s (named x one)) h.between (named x other ∷ h.behind)
    ∙ or_right (is_twice x (passed x s (named x one)) h.between) (is_twice x t (named x other ∷ h.behind)) seen))

pub none_declared : (x : List ℕ) (ss : List Spot) → is_twice x seen_nothing ss ≡ false → (one other : ℕ) → ¬ AreDeclaredAt ss x one other
none_declared x ss none one other h = false≢true (sym none ∙ two_seen x ss one other h)
