-- Words of `--extern`, one after the other.
use Rattle.std.proofs.Common.{codes, ◌≡◌, ◌∙◌, ◌<◌, ◌+◌, inl, inr, refl, ap, sym, subst, ℕ, List, [], ◌∷◌, Bool, ◌||◌, Bor, Option, Some, map, option_map, take, slice_get, get_or, length, ◌++◌, arith}
use Rattle.std.proofs.Common.{true, false, cond, is_some}
use Rattle.std.proofs.lemmas.Bool.{cases_lt}
use Rattle.std.proofs.Math.Bool.{or-false, or-true}
use Rattle.std.proofs.lemmas.List.Folds.{list_any-append}
use Rattle.std.proofs.lemmas.List.{map-append, take_more}
use Rattle.std.proofs.lemmas.Option.{slice_get-map, slice_get_within}
use Rattle.std.specs.Prelude.{unwrap_or}
use Rattle.std.specs.List.{list_any, take-map}
use Rattle.std.specs.Str.{bytes_eq}
use Rattle.std.specs.Cmp.Lexicographic.{slice_cmp}
use Rattle.std.specs.Ordering.{nat_cmp}
use Rattle.std.specs.BTreeMap as tree
use Rattle.std.specs.BTreeMap.{BTreeMap}
use Rattle.clap.specs.Words.{Text}
use Rattle.asl_command_line.specs.declared.extern_words.WhyNot.{WhyNot}
use Rattle.clap.specs.Walk.{texts}
use Rattle.asl_command_line.specs.declared.command.Replacement.{Replacement}
use Rattle.asl_command_line.specs.Externs.{AreExterns, IsWrong, IsWrongOf, is_among, why_text}
use Rattle.asl_command_line.specs.HeldTexts.{Hold}
use Rattle.asl_command_line.specs.Usage.{invalid_text}

-- a map that holds texts, and one more
held_step : (b : Bool) (old : Option (Unit {0})) (rest : Bool) → is_some old ≡ rest → is_some (cond b (Some tt) old) ≡ (rest || (b || false))
held_step true old rest e = sym (or-true rest)
held_step false old rest e = e ∙ sym (or-false rest)

pub hold_more : (m n : BTreeMap (Bor Text) (Unit {0})) (t : Text) (all : List Text)
    → ((q : Text) → tree.get_by (λ k. slice_cmp nat_cmp q k.now) n ≡ cond (bytes_eq t q) (Some tt) (tree.get_by (λ k. slice_cmp nat_cmp q k.now) m)) → Hold m all → Hold n (all ++ t ∷ [])
hold_more m n t all now h q =
    ap is_some (now q)
    ∙ held_step (bytes_eq t q) (tree.get_by (λ k. slice_cmp nat_cmp q k.now) m) (is_among all q) (h q)
    ∙ sym (list_any-append (λ one. bytes_eq one q) all (t ∷ []))

-- a map that holds texts has one of them, or another
pub held_is : (m : BTreeMap (Bor Text) (Unit {0})) (all : List Text) (t q : Text) (b : Bool) → Hold m all → b ≡ is_some (tree.get_by (λ k. slice_cmp nat_cmp t k.now) m) → t ≡ q → is_among all q ≡ b
held_is m all t q b h found same = ap (is_among all) (sym same) ∙ sym (h t) ∙ sym found

-- a test of the images of words
pub any_mapped : {X Y : Type 0} (f : X → Y) (p : Y → Bool) (xs : List X) → list_any (λ x. p (f x)) xs ≡ list_any p (map f xs)
any_mapped f p [] = refl
any_mapped f p (x ∷ xs) = ap (λ b. p (f x) || b) (any_mapped f p xs)

-- nothing is wrong with the first words
abbrev pub AreRightTo : ℕ → List Text → Type 0
AreRightTo n words = (i : ℕ) (word : Text) → i < n → slice_get words i ≡ Some word → (why : WhyNot) → ¬ IsWrong (take i words) word why

-- nor with one more
pub right_more : (n : ℕ) (words : List Text) (word : Text) → slice_get words n ≡ Some word → AreRightTo n words → ((why : WhyNot) → ¬ IsWrong (take n words) word why) → AreRightTo (n + 1) words
right_more n words word here before right i other below there =
    elim (cases_lt i n) [
      | inl less ↦ before i other less there
      | inr more ↦
          let same : i ≡ n = omega (arith, below, more) in
          let one : word ≡ other = ap (λ (o : Option Text). unwrap_or o word) (sym here ∙ subst (λ k. slice_get words k ≡ Some other) same there) in
          subst (λ k. (why : WhyNot) → ¬ IsWrong (take k words) other why) (sym same) (subst (λ w. (why : WhyNot) → ¬ IsWrong (take n words) w why) one right)
    ]

-- the same of texts, by the words before
module _ (words : List (Bor Text)) (n : ℕ) (word : Text) (here : slice_get (texts words) n ≡ Some word) where
  before : take n (texts words) ≡ texts (take n words)
  before = take-map (λ (w : Bor Text). w.now) n words

  pub right_next : AreRightTo n (texts words) → ((why : WhyNot) → ¬ IsWrong (texts (take n words)) word why) → AreRightTo (n + 1) (texts words)
  right_next first right = right_more n (texts words) word here first (subst (λ (l : List Text). (why : WhyNot) → ¬ IsWrong l word why) (sym before) right)

  pub wrong_at : (why : WhyNot) → IsWrong (texts (take n words)) word why → IsWrongOf (texts words) word why
  wrong_at why wrong = (n, here, subst (λ (l : List Text). IsWrong l word why) (sym before) wrong)

-- the word of a place as a text
pub word_at : (words : List (Bor Text)) (n : ℕ) (one : Bor Text) → slice_get words n ≡ Some one → slice_get (texts words) n ≡ Some one.now
word_at words n one e = slice_get-map (λ (w : Bor Text). w.now) words n ∙ ap (option_map (λ (w : Bor Text). w.now)) e

-- what is made of the words, with one more
pub made_more : {X : Type 0} (seen : X → Text) (read : Text → Text) (words : List (Bor Text)) (n : ℕ) (one : Bor Text) (old new : List X) (x : X)
    → n < length words → new ≡ old ++ x ∷ [] → seen x ≡ read (get_or words n one).now → map seen old ≡ map read (texts (take n words)) → map seen new ≡ map read (texts (take (n + 1) words))
made_more seen read words n one old new x below is made h =
    ap (map seen) is
    ∙ map-append seen old (x ∷ [])
    ∙ ap (λ (l : List Text). l ++ seen x ∷ []) h
    ∙ ap (λ (t : Text). map read (texts (take n words)) ++ t ∷ []) made
    ∙ sym (map-append read (texts (take n words)) (texts (get_or words n one ∷ [])))
    ∙ ap (map read) (sym (map-append (λ (w : Bor Text). w.now) (take n words) (get_or words n one ∷ [])))
    ∙ ap (λ (l : List (Bor Text)). map read (texts l)) (sym (take_more words n one below))

-- what is held of the words, with one more
pub held_next : (read : Text → Text) (words : List (Bor Text)) (n : ℕ) (one : Bor Text) (t : Text) (m : BTreeMap (Bor Text) (Unit {0})) → n < length words → t ≡ read (get_or words n one).now
    → Hold m (map read (texts (take n words)) ++ t ∷ []) → Hold m (map read (texts (take (n + 1) words)))
held_next read words n one t m below is h =
    subst (λ (l : List Text). Hold m l) (
    ap (λ (x : Text). map read (texts (take n words)) ++ x ∷ []) is
    ∙ sym (map-append read (texts (take n words)) (texts (get_or words n one ∷ [])))
    ∙ ap (map read) (sym (map-append (λ (w : Bor Text). w.now) (take n words) (get_or words n one ∷ [])))
    ∙ ap (λ (l : List (Bor Text)). map read (texts l)) (sym (take_more words n one below))
    ) h

-- no words are no pairs
pub none_are_right : (words : List Text) (pairs : List Replacement) → words ≡ [] → pairs ≡ [] → AreExterns words pairs
none_are_right words pairs no_words no_pairs = subst (λ (ws : List Text). AreExterns ws pairs) (sym no_words) (subst (AreExterns []) (sym no_pairs) (record {
  right = λ i word there. absurd (omega (arith, slice_get_within [] i word there));
  functions = refl;
  names = refl;
}))

-- what is told of a word, by the word and the reason
pub told_alike : {one other : Bor Text} {why because : WhyNot} → one ≡ other → why ≡ because
    → invalid_text one.now (codes "--extern <F=NAME>") (why_text why) ≡ invalid_text other.now (codes "--extern <F=NAME>") (why_text because)
told_alike {one} {other} {why} {because} words whys =
    ap (λ (w : Bor Text). invalid_text w.now (codes "--extern <F=NAME>") (why_text why)) words
    ∙ ap (λ (y : WhyNot). invalid_text other.now (codes "--extern <F=NAME>") (why_text y)) whys
