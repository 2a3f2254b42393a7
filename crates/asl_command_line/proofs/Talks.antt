-- Words of the debugger, one after the other.
use Rattle.std.proofs.Common.{◌≡◌, ◌∙◌, ◌++◌, ◌+◌, ◌-◌, ◌≤◌, ◌<◌, ◌==◌, ◌||◌, if◌then◌else◌, Bool, ℕ, suc, get_or, slice_index_or, codes, length, arith, length-drop, take, drop, subst, List, [], ◌∷◌, ap, refl, sym, append_assoc, append-nil}
use Rattle.std.specs.Borrow.{Bor}
use Rattle.std.proofs.Math.Seq.{take-add, take-length, drop-append_seam}
use Rattle.std.proofs.lemmas.List.{map-append, take-map, take-append-drop, length-take-le, drop-map, drop-drop, length-map}
use Rattle.clap.specs.Words.{Text}
use Rattle.clap.specs.Walk.{texts}
use Rattle.asl_command_line.specs.declared.debug_word.DebugWord.{DebugWord}
use Rattle.asl_command_line.specs.declared.debug_word.DebugWord.TheVariants as word
use Rattle.asl_command_line.specs.declared.debug_word.Move.TheVariants as move
use Rattle.asl_command_line.specs.Words.{AreDebugWords, IsDebugWord}
use Rattle.asl_command_line.specs.declared.debug_words.DebugWordsFault.{DebugWordsFault}
use Rattle.asl_command_line.specs.declared.debug_words.DebugWordsFault.TheVariants as talk
use Rattle.asl_command_line.specs.Number.{IsNumber}
use Rattle.asl_command_line.specs.Reading.{IsNoBareWord, IsNoNumberedWord, IsDebugWordsFault}

-- one more
pub more_words : (all more : List Text) (words : List DebugWord) (word : DebugWord) → AreDebugWords all words → IsDebugWord more word
    → AreDebugWords (all ++ more) (words ++ word ∷ [])
more_words all more [] word are is = (more, [], ap (λ (xs : List Text). xs ++ more) are ∙ sym (append-nil more), is, refl)
more_words all more (w ∷ words) word are is =
    (are.0, are.1 ++ more, ap (λ (xs : List Text). xs ++ more) are.2 ∙ append_assoc are.0 are.1 more, are.3, more_words are.1 more words word are.4 is)

-- words of two lists, one list after the other
pub both_ask : (front rest : List Text) (words more : List DebugWord) → AreDebugWords front words → AreDebugWords rest more
    → AreDebugWords (front ++ rest) (words ++ more)
both_ask front rest [] more are others = subst (λ (xs : List Text). AreDebugWords xs more) (sym (ap (λ (xs : List Text). xs ++ rest) are)) others
both_ask front rest (w ∷ words) more are others =
    (are.0, are.1 ++ rest, ap (λ (xs : List Text). xs ++ rest) are.2 ∙ append_assoc are.0 are.1 rest, are.3, both_ask are.1 rest words more are.4 others)

-- as many more of a list's first words, where the rest of the list is a slice of it
pub more_first_words : (all : List (Bor Text)) (done count : ℕ) (words new : List DebugWord) (word : DebugWord) → done ≤ length all
    → count ≤ length (take (length all - done) (drop done all)) → AreDebugWords (texts (take done all)) words
    → IsDebugWord (take count (texts (take (length all - done) (drop done all)))) word → new ≡ words ++ word ∷ []
    → (done + count ≤ length all) × AreDebugWords (texts (take (done + count) all)) new
more_first_words all done count words new word within few are is new_is =
    let rest : take (length all - done) (drop done all) ≡ drop done all =
    ap (λ (n : ℕ). take n (drop done all)) (sym (length-drop done all)) ∙ take-length (drop done all) in
    let few_left : count ≤ length (drop done all) = subst (λ (xs : List (Bor Text)). count ≤ length xs) rest few in
    let is_next : IsDebugWord (take count (texts (drop done all))) word = subst (λ (xs : List (Bor Text)). IsDebugWord (take count (texts xs)) word) rest is in
    let parts : texts (take (done + count) all) ≡ texts (take done all) ++ take count (texts (drop done all)) =
    ap texts (take-add done count all) ∙ (map-append (λ (s : Bor Text). s.now) (take done all) (take count (drop done all))
    ∙ ap (λ (xs : List Text). texts (take done all) ++ xs) (sym (take-map (λ (s : Bor Text). s.now) count (drop done all)))) in
    let more : AreDebugWords (texts (take (done + count) all)) (words ++ word ∷ []) =
    subst (λ (xs : List Text). AreDebugWords xs (words ++ word ∷ [])) (sym parts)
    (more_words (texts (take done all)) (take count (texts (drop done all))) words word are is_next) in
    (omega (arith, within, few_left, length-drop done all), subst (AreDebugWords (texts (take (done + count) all))) (sym new_is) more)

-- ---- words that ask for nothing

-- whether a word of the debugger takes a number: goto, break and clear, by their fourth letters
abbrev pub is_numbered : Text → Bool
is_numbered name = (get_or name 3 0 == 111) || (get_or name 3 0 == 97)

-- how many words the first of them is a word of the debugger with
abbrev pub span : List Text → ℕ
span [] = 0
span (name ∷ rest) = if is_numbered name then 2 else 1

spans : (first known : List Text) → first ≡ known → (length known ≡ span known) × (0 < length known) → (length first ≡ span first) × (0 < length first)
spans first known e holds = subst (λ (xs : List Text). (length xs ≡ span xs) × (0 < length xs)) (sym e) holds

-- so many they are
pub spanned : (first : List Text) (w : DebugWord) → IsDebugWord first w → (length first ≡ span first) × (0 < length first)
spanned first (word.Move (move.Goto k)) is = spans first _ is.1 (refl, omega arith)
spanned first (word.Move move.Forward) is = spans first _ is (refl, omega arith)
spanned first (word.Move move.Back) is = spans first _ is (refl, omega arith)
spanned first (word.Move move.Next) is = spans first _ is (refl, omega arith)
spanned first (word.Move move.Previous) is = spans first _ is (refl, omega arith)
spanned first (word.Break pc) is = spans first _ is.1 (refl, omega arith)
spanned first (word.Clear pc) is = spans first _ is.1 (refl, omega arith)
spanned first word.View is = spans first _ is (refl, omega arith)
spanned first word.Asks is = spans first _ is (refl, omega arith)
spanned first word.Stack is = spans first _ is (refl, omega arith)
spanned first word.Objects is = spans first _ is (refl, omega arith)

-- words after the first change nothing
pub span_front : (first rest : List Text) → 0 < length first → span (first ++ rest) ≡ span first
span_front [] rest some = absurd (omega (arith, some))
span_front (name ∷ more) rest some = refl

-- where words are words of the debugger, and so are the first of them, the rest is too
pub rest_words : (all : List Text) (count : ℕ) (word : DebugWord) → count ≤ length all → IsDebugWord (take count all) word → (words : List DebugWord) → AreDebugWords all words
    → (more : List DebugWord) × AreDebugWords (drop count all) more
rest_words all count word within is [] are =
    let found = spanned (take count all) word is in
    let none : length all ≡ 0 = ap length are in
    absurd (omega (arith, within, found.1, length-take-le count all within, none))
rest_words all count word within is (w ∷ words) are =
    let found = spanned (take count all) word is in
    let other = spanned are.0 w are.3 in
    let here : span all ≡ span (take count all) = ap span (sym (take-append-drop count all)) ∙ span_front (take count all) (drop count all) found.1 in
    let there : span all ≡ span are.0 = ap span are.2 ∙ span_front are.0 are.1 other.1 in
    let same : count ≡ length are.0 = sym (length-take-le count all within) ∙ found.0 ∙ sym here ∙ there ∙ sym other.0 in
    let rest : drop count all ≡ are.1 = ap (λ (xs : List Text). drop count xs) are.2 ∙ ap (λ (n : ℕ). drop n (are.0 ++ are.1)) same ∙ drop-append_seam are.0 are.1 in
    (words, subst (λ (xs : List Text). AreDebugWords xs words) (sym rest) are.4)

one_first : (name : Text) (rest : List Text) → IsNoBareWord name → (known : Text) (other : List Text) (w : DebugWord) → name ∷ rest ≡ known ∷ other
    → IsDebugWord (known ∷ []) w → ⊥
one_first name rest bare known other w e is =
    let same : name ≡ known = ap (λ (xs : List Text). get_or xs 0 []) e in
    bare w (subst (λ (text : Text). IsDebugWord (text ∷ []) w) (sym same) is)

two_first : (name : Text) (rest : List Text)
    → ((asked : DebugWord) (text : Text) (more : List Text) → rest ≡ text ∷ more → IsDebugWord (name ∷ text ∷ []) asked → ⊥)
    → (known text : Text) (other : List Text) (w : DebugWord) → name ∷ rest ≡ known ∷ text ∷ other → IsDebugWord (known ∷ text ∷ []) w → ⊥
two_first name rest numbered known text other w e is =
    let same : name ≡ known = ap (λ (xs : List Text). get_or xs 0 []) e in
    let after : rest ≡ text ∷ other = ap (λ (xs : List Text). drop 1 xs) e in
    numbered w text other after (subst (λ (first : Text). IsDebugWord (first ∷ text ∷ []) w) (sym same) is)

-- the words at the front of a list are none, by the first of them
no_first : (name : Text) (rest : List Text) → IsNoBareWord name
    → ((asked : DebugWord) (text : Text) (more : List Text) → rest ≡ text ∷ more → IsDebugWord (name ∷ text ∷ []) asked → ⊥)
    → (first other : List Text) → name ∷ rest ≡ first ++ other → (w : DebugWord) → IsDebugWord first w → ⊥
no_first name rest bare numbered first other e (word.Move (move.Goto k)) is = two_first name rest numbered (codes "goto") is.0 other (word.Move (move.Goto k)) (e ∙ ap (λ (xs : List Text). xs ++ other) is.1) (is.0, refl, is.2)
no_first name rest bare numbered first other e (word.Move move.Forward) is = one_first name rest bare (codes "forward") other (word.Move move.Forward) (e ∙ ap (λ (xs : List Text). xs ++ other) is) refl
no_first name rest bare numbered first other e (word.Move move.Back) is = one_first name rest bare (codes "back") other (word.Move move.Back) (e ∙ ap (λ (xs : List Text). xs ++ other) is) refl
no_first name rest bare numbered first other e (word.Move move.Next) is = one_first name rest bare (codes "next") other (word.Move move.Next) (e ∙ ap (λ (xs : List Text). xs ++ other) is) refl
no_first name rest bare numbered first other e (word.Move move.Previous) is = one_first name rest bare (codes "prev") other (word.Move move.Previous) (e ∙ ap (λ (xs : List Text). xs ++ other) is) refl
no_first name rest bare numbered first other e (word.Break pc) is = two_first name rest numbered (codes "break") is.0 other (word.Break pc) (e ∙ ap (λ (xs : List Text). xs ++ other) is.1) (is.0, refl, is.2)
no_first name rest bare numbered first other e (word.Clear pc) is = two_first name rest numbered (codes "clear") is.0 other (word.Clear pc) (e ∙ ap (λ (xs : List Text). xs ++ other) is.1) (is.0, refl, is.2)
no_first name rest bare numbered first other e word.View is = one_first name rest bare (codes "view") other word.View (e ∙ ap (λ (xs : List Text). xs ++ other) is) refl
no_first name rest bare numbered first other e word.Asks is = one_first name rest bare (codes "asks") other word.Asks (e ∙ ap (λ (xs : List Text). xs ++ other) is) refl
no_first name rest bare numbered first other e word.Stack is = one_first name rest bare (codes "stack") other word.Stack (e ∙ ap (λ (xs : List Text). xs ++ other) is) refl
no_first name rest bare numbered first other e word.Objects is = one_first name rest bare (codes "objects") other word.Objects (e ∙ ap (λ (xs : List Text). xs ++ other) is) refl

-- a first word that is none, with whatever stands after it
pub no_front : (name : Text) (rest : List Text) → IsNoBareWord name
    → ((asked : DebugWord) (text : Text) (more : List Text) → rest ≡ text ∷ more → IsDebugWord (name ∷ text ∷ []) asked → ⊥)
    → (words : List DebugWord) → AreDebugWords (name ∷ rest) words → ⊥
no_front name rest bare numbered [] are =
    let none : suc (length rest) ≡ 0 = ap length are in
    absurd (omega (arith, none))
no_front name rest bare numbered (w ∷ words) are = no_first name rest bare numbered are.0 are.1 are.2 w are.3

two_are_not_one : (two : List Text) (known : Text) → two ≡ known ∷ [] → length two ≡ 2 → ⊥
two_are_not_one two known e size = let one : length two ≡ 1 = ap length e in omega (arith, one, size)

-- a word with another after it asks for something only where that is a number
number_after : (name text : Text) (asked : DebugWord) → IsDebugWord (name ∷ text ∷ []) asked → (k : ℕ) × IsNumber text k
number_after name text (word.Move (move.Goto k)) is = (k, subst (λ (t : Text). IsNumber t k) (sym (ap (λ (xs : List Text). get_or xs 1 []) is.1)) is.2)
number_after name text (word.Move move.Forward) is = absurd (two_are_not_one (name ∷ text ∷ []) (codes "forward") is refl)
number_after name text (word.Move move.Back) is = absurd (two_are_not_one (name ∷ text ∷ []) (codes "back") is refl)
number_after name text (word.Move move.Next) is = absurd (two_are_not_one (name ∷ text ∷ []) (codes "next") is refl)
number_after name text (word.Move move.Previous) is = absurd (two_are_not_one (name ∷ text ∷ []) (codes "prev") is refl)
number_after name text (word.Break k) is = (k, subst (λ (t : Text). IsNumber t k) (sym (ap (λ (xs : List Text). get_or xs 1 []) is.1)) is.2)
number_after name text (word.Clear k) is = (k, subst (λ (t : Text). IsNumber t k) (sym (ap (λ (xs : List Text). get_or xs 1 []) is.1)) is.2)
number_after name text word.View is = absurd (two_are_not_one (name ∷ text ∷ []) (codes "view") is refl)
number_after name text word.Asks is = absurd (two_are_not_one (name ∷ text ∷ []) (codes "asks") is refl)
number_after name text word.Stack is = absurd (two_are_not_one (name ∷ text ∷ []) (codes "stack") is refl)
number_after name text word.Objects is = absurd (two_are_not_one (name ∷ text ∷ []) (codes "objects") is refl)

-- a first word that is none alone and none with another after it
pub no_word_first : (all : List (Bor Text)) (d : Bor Text) → 0 < length all → IsNoBareWord (slice_index_or all 0 d).now
    → IsNoNumberedWord (slice_index_or all 0 d).now → (words : List DebugWord) → AreDebugWords (texts all) words → ⊥
no_word_first [] d some bare numbered words are = absurd (omega (arith, some))
no_word_first (x ∷ xs) d some bare numbered words are = no_front x.now (texts xs) bare (λ asked text more e is. numbered asked text is) words are

-- a last word that is none alone
pub no_word_last : (all : List (Bor Text)) (d : Bor Text) → 0 < length all → length all < 2 → IsNoBareWord (slice_index_or all 0 d).now
    → (words : List DebugWord) → AreDebugWords (texts all) words → ⊥
no_word_last [] d some last bare words are = absurd (omega (arith, some))
no_word_last (x ∷ []) d some last bare words are =
    no_front x.now [] bare (λ asked text more e is. let none : 0 ≡ suc (length more) = ap length e in absurd (omega (arith, none))) words are
no_word_last (x ∷ y ∷ ys) d some last bare words are = let more : suc (suc (length ys)) < 2 = last in absurd (omega (arith, more))

-- a first word that is none alone, and what is no number after it
pub no_number_after : (all : List (Bor Text)) (d e : Bor Text) → 1 < length all → IsNoBareWord (slice_index_or all 0 d).now
    → ((n : ℕ) → IsNumber (slice_index_or all 1 e).now n → ⊥) → (words : List DebugWord) → AreDebugWords (texts all) words → ⊥
no_number_after [] d e some bare number words are = absurd (omega (arith, some))
no_number_after (x ∷ []) d e some bare number words are = let few : 1 < 1 = some in absurd (omega (arith, few))
no_number_after (x ∷ y ∷ ys) d e some bare number words are =
    no_front x.now (y.now ∷ texts ys) bare (λ asked text more same is.
    let found = number_after x.now text asked is in
    number found.0 (subst (λ (t : Text). IsNumber t found.0) (sym (ap (λ (xs : List Text). get_or xs 0 []) same)) found.1)) words are

-- ---- one step of the words

-- what is left of words that ask for something does, too
pub rest_asks : (all : List (Bor Text)) (done count : ℕ) (word : DebugWord) → done ≤ length all → count ≤ length (take (length all - done) (drop done all))
    → IsDebugWord (take count (texts (take (length all - done) (drop done all)))) word
    → ((words : List DebugWord) → AreDebugWords (texts all) words → (more : List DebugWord) × AreDebugWords (texts (drop done all)) more)
    → (words : List DebugWord) → AreDebugWords (texts all) words → (more : List DebugWord) × AreDebugWords (texts (drop (done + count) all)) more
rest_asks all done count word within few is before words are =
    let rest : take (length all - done) (drop done all) ≡ drop done all =
    ap (λ (n : ℕ). take n (drop done all)) (sym (length-drop done all)) ∙ take-length (drop done all) in
    let few_left : count ≤ length (drop done all) = subst (λ (xs : List (Bor Text)). count ≤ length xs) rest few in
    let is_next : IsDebugWord (take count (texts (drop done all))) word = subst (λ (xs : List (Bor Text)). IsDebugWord (take count (texts xs)) word) rest is in
    let left = before words are in
    let size : length (texts (drop done all)) ≡ length (drop done all) = length-map (drop done all) (λ (s : Bor Text). s.now) in
    let next = rest_words (texts (drop done all)) count word (omega (arith, few_left, size)) is_next left.0 left.1 in
    let same : drop count (texts (drop done all)) ≡ texts (drop (done + count) all) =
    drop-map (λ (s : Bor Text). s.now) count (drop done all) ∙ ap texts (drop-drop count done all) in
    (next.0, subst (λ (xs : List Text). AreDebugWords xs next.0) same next.1)

fault_of_list : (all rest : List Text) → ((words : List DebugWord) → AreDebugWords all words → (more : List DebugWord) × AreDebugWords rest more)
    → (fault : DebugWordsFault) → IsDebugWordsFault rest fault → IsDebugWordsFault all fault
fault_of_list all rest asks (talk.NoWord name) none = λ words are. let left = asks words are in none left.0 left.1
fault_of_list all rest asks (talk.NoNumber name) none = λ words are. let left = asks words are in none left.0 left.1
fault_of_list all rest asks talk.NumberMissing none = λ words are. let left = asks words are in none left.0 left.1
fault_of_list all rest asks talk.OutOfMemory none = tt

-- so what asks for nothing in the rest asks for nothing in the whole
pub fault_of_all : (all : List (Bor Text)) (done : ℕ) (fault : DebugWordsFault) → IsDebugWordsFault (texts (take (length all - done) (drop done all))) fault
    → ((words : List DebugWord) → AreDebugWords (texts all) words → (more : List DebugWord) × AreDebugWords (texts (drop done all)) more) → IsDebugWordsFault (texts all) fault
fault_of_all all done fault is asks = fault_of_list (texts all) (texts (drop done all)) asks fault
    (subst (λ (xs : List (Bor Text)). IsDebugWordsFault (texts xs) fault) (ap (λ (n : ℕ). take n (drop done all)) (sym (length-drop done all)) ∙ take-length (drop done all)) is)
