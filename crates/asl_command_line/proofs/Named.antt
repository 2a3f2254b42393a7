-- Words that a text of wrong usage names are among the words; and the page that the first word names.
use Rattle.std.proofs.Common.{◌≡◌, ◌∙◌, ◌++◌, ◌-◌, ◌<◌, ℕ, suc, List, [], ◌∷◌, length, take, drop, slice_index_or, map, ap, refl, sym, subst, arith, append_assoc, length-drop}
use Rattle.std.specs.Borrow.{Bor}
use Rattle.std.specs.Prelude.{IfOk, Result}
use Rattle.std.proofs.Math.Seq.{take-length}
use Rattle.std.proofs.lemmas.List.{map-append, take-append-drop}
use Rattle.std.proofs.lemmas.Result.{IfOk-weaker}
use Rattle.clap.specs.Words.{Row, Text}
use Rattle.clap.specs.Walk.{texts}
use Rattle.asl_command_line.specs.declared.command.Invocation.{Invocation}
use Rattle.asl_command_line.specs.declared.command.Invocation.TheVariants.{Alone, Run, Help, Version, WrongUsage}
use Rattle.asl_command_line.specs.declared.debug_word.DebugWord.{DebugWord}
use Rattle.asl_command_line.specs.declared.debug_words.DebugWordsFault.{DebugWordsFault}
use Rattle.asl_command_line.specs.declared.debug_words.DebugWordsFault.TheVariants as talk
use Rattle.asl_command_line.specs.Pages.{IsPage, IsPageOf}
use Rattle.asl_command_line.specs.Reading.{IsNamedWord, IsUsage}
use Rattle.asl_command_line.specs.Words.{AreDebugWords, IsMisused, IsReading}
use Rattle.asl_command_line.proofs.Talks.{both_ask}

-- the first word, and those after it
pub first_is : (ts : List (Bor Text)) (d : Bor Text) → 0 < length ts → texts ts ≡ [] ++ (slice_index_or ts 0 d).now ∷ texts (drop 1 ts)
first_is [] d some = absurd (omega (arith, some))
first_is (x ∷ xs) d some = refl

-- the first two words, and those after them
pub two_are : (ts : List (Bor Text)) (d e : Bor Text) → 1 < length ts
    → texts ts ≡ [] ++ (slice_index_or ts 0 d).now ∷ (slice_index_or ts 1 e).now ∷ texts (drop 2 ts)
two_are [] d e some = absurd (omega (arith, some))
two_are (x ∷ []) d e some = let few : 1 < 1 = some in absurd (omega (arith, few))
two_are (x ∷ y ∷ ys) d e some = refl

-- the only word is the last
pub one_is_last : (ts : List (Bor Text)) (d : Bor Text) → 0 < length ts → length ts < 2 → texts ts ≡ [] ++ (slice_index_or ts 0 d).now ∷ []
one_is_last [] d some one = absurd (omega (arith, some))
one_is_last (x ∷ []) d some one = refl
one_is_last (x ∷ y ∷ ys) d some one = let more : suc (suc (length ys)) < 2 = one in absurd (omega (arith, more))

named_of_list : (front rest : List Text) (words : List DebugWord) → AreDebugWords front words → (fault : DebugWordsFault) → IsNamedWord rest fault
    → IsNamedWord (front ++ rest) fault
named_of_list front rest words are (talk.NoWord word) h = record {
  front = front ++ h.front;
  rest = h.rest;
  its = ap (λ (xs : List Text). front ++ xs) h.its ∙ sym (append_assoc front h.front (word.now ∷ h.rest));
  before = (words ++ h.before.0, both_ask front h.front words h.before.0 are h.before.1);
  none = h.none;
}
named_of_list front rest words are (talk.NoNumber word) h = record {
  front = front ++ h.front;
  name = h.name;
  rest = h.rest;
  its = ap (λ (xs : List Text). front ++ xs) h.its ∙ sym (append_assoc front h.front (h.name ∷ word.now ∷ h.rest));
  before = (words ++ h.before.0, both_ask front h.front words h.before.0 are h.before.1);
  takes = h.takes;
  none = h.none;
}
named_of_list front rest words are talk.NumberMissing h = record {
  front = front ++ h.front;
  name = h.name;
  its = ap (λ (xs : List Text). front ++ xs) h.its ∙ sym (append_assoc front h.front (h.name ∷ []));
  before = (words ++ h.before.0, both_ask front h.front words h.before.0 are h.before.1);
  takes = h.takes;
}
named_of_list front rest words are talk.OutOfMemory h = tt

-- what is named in the rest is named in the whole, where the words before the rest ask for something
pub named_of_all : (all : List (Bor Text)) (done : ℕ) (words : List DebugWord) → AreDebugWords (texts (take done all)) words → (fault : DebugWordsFault)
    → IsNamedWord (texts (take (length all - done) (drop done all))) fault → IsNamedWord (texts all) fault
named_of_all all done words are fault h =
    let rest : take (length all - done) (drop done all) ≡ drop done all =
    ap (λ (n : ℕ). take n (drop done all)) (sym (length-drop done all)) ∙ take-length (drop done all) in
    let left = subst (λ (xs : List (Bor Text)). IsNamedWord (texts xs) fault) rest h in
    let parts : texts (take done all) ++ texts (drop done all) ≡ texts all =
    sym (map-append (λ (s : Bor Text). s.now) (take done all) (drop done all)) ∙ ap texts (take-append-drop done all) in
    subst (λ (xs : List Text). IsNamedWord xs fault) parts (named_of_list (texts (take done all)) (texts (drop done all)) words are fault left)

usage_reads : (name : Text) (rows : List Row) (why : Text) → IsMisused name rows why → (i : Invocation) → IsUsage why i → IsReading name rows i
usage_reads name rows why misused (Alone command) h = absurd h
usage_reads name rows why misused (Run team) h = absurd h
usage_reads name rows why misused (Help page) h = absurd h
usage_reads name rows why misused Version h = absurd h
usage_reads name rows why misused (WrongUsage text) h = subst (IsMisused name rows) (sym h) misused

-- a text that says how the command is misused is what its words ask for
pub misused : {E : Type 0} (r : Result Invocation E) (name : Text) (rows : List Row) (why : Text) → IfOk r (IsUsage why) → IsMisused name rows why → IfOk r (IsReading name rows)
misused r name rows why usage is = IfOk-weaker r _ _ (λ i h. usage_reads name rows why is i h) usage

-- the page of the first word is the one that the words ask for
pub page_first : {X : Type 0} (f : X → Text) (xs : List X) (x : X) (name page : Text) → 0 < length xs → x ≡ slice_index_or xs 0 x → name ≡ f x → IsPage name page
    → IsPageOf (map f xs) page
page_first f [] x name page some is name_is h = absurd (omega (arith, some))
page_first f (y ∷ ys) x name page some is name_is h = subst (λ n. IsPage n page) (name_is ∙ ap f is) h
