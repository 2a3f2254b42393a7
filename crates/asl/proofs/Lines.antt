-- The words of a line, gathered one after the other.
use Rattle.std.proofs.Common.{◌≡◌, ℕ, zero, suc, ◌+◌, ◌-◌, ◌≤◌, List, [], ◌∷◌, ◌++◌, Option, Some, None, length, take, drop, slice_get, get_or, map, IfSome, Ok, IsUtf8, refl, ap, sym, subst, ◌∙◌, arith}
use Rattle.std.proofs.lemmas.Option.{IfSome_then}
use Rattle.std.proofs.lemmas.List.Elements.{All-map}
use Rattle.std.proofs.lemmas.Str.{IsUtf8-string_bytes}
use Rattle.std.specs.Prelude.{string_bytes}
use Rattle.std.specs.declared.string.String.{String}
use Rattle.asl.specs.declared.process_words.WordsFault.{WordsFault}
use Rattle.asl.specs.declared.process_words.WordsFault.TheVariants.{NotText, OutOfMemory}
use Rattle.asl.specs.CommandLine.{TellsWord, AreGiven, AreTexts, IsWordsFault, IsWordFault}

first_more : {X : Type 0} (xs : List X) (m : ℕ) (x : X) → slice_get xs m ≡ Some x → take m xs ++ x ∷ [] ≡ take (suc m) xs
first_more [] m x e = cc
first_more (y ∷ ys) zero x e = (let same : y ≡ x = cc in ap (λ v. v ∷ []) (sym same))
first_more (y ∷ ys) (suc m) x e = ap (λ l. y ∷ l) (first_more ys m x e)

-- the first items of a buffer that was written back
pub written_back : {X : Type 0} (n len : ℕ) (xs ys : List X) → n ≤ length xs → n ≤ len → take n (take len (xs ++ ys)) ≡ take n xs
written_back zero len xs ys within fits = refl
written_back (suc n) len [] ys within fits = absurd (omega (arith, within))
written_back (suc n) zero (x ∷ xs) ys within fits = absurd (omega (arith, fits))
written_back (suc n) (suc len) (x ∷ xs) ys within fits = ap (λ l. x ∷ l) (written_back n len xs ys (omega (arith, within)) (omega (arith, fits)))

first_all : {X : Type 0} (xs : List X) (m : ℕ) → slice_get xs m ≡ None → take m xs ≡ xs
first_all [] zero e = refl
first_all [] (suc m) e = refl
first_all (x ∷ xs) zero e = cc
first_all (x ∷ xs) (suc m) e = ap (λ l. x ∷ l) (first_all xs m e)

pub one_more : {X : Type 0} (all texts : List X) (n : ℕ) (word : X) → 1 ≤ n → texts ≡ take (n - 1) (drop 1 all) → slice_get all n ≡ Some word → texts ++ word ∷ [] ≡ take (n + 1 - 1) (drop 1 all)
one_more [] texts n word low same here = cc
one_more (x ∷ xs) texts zero word low same here = absurd (omega (arith, low))
one_more (x ∷ xs) texts (suc m) word low same here =
    let one : suc m - 1 ≡ m = omega arith in
    let more : suc m + 1 - 1 ≡ suc m = omega arith in
    ap (λ l. l ++ word ∷ []) (same ∙ ap (λ k. take k xs) one) ∙ first_more xs m word here ∙ ap (λ k. take k xs) (sym more)

pub all_told : {X : Type 0} (all texts : List X) (n : ℕ) → 1 ≤ n → texts ≡ take (n - 1) (drop 1 all) → slice_get all n ≡ None → texts ≡ drop 1 all
all_told [] texts n low same here = same ∙ first_all [] (n - 1) refl
all_told (x ∷ xs) texts zero low same here = absurd (omega (arith, low))
all_told (x ∷ xs) texts (suc m) low same here =
    let one : suc m - 1 ≡ m = omega arith in
    same ∙ ap (λ k. take k xs) one ∙ first_all xs m here

-- a word that was told
pub told_text : (line : Option (List (List ℕ))) (number count : ℕ) (buffer text : List ℕ) → IfSome line (λ words. TellsWord words number buffer (Ok count)) → text ≡ take count buffer → IfSome line (λ words. slice_get words number ≡ Some text)
told_text line number count buffer text told same = IfSome_then line told (λ words e. e ∙ ap Some (sym same))

pub told_no_text : (line : Option (List (List ℕ))) (number count : ℕ) (buffer text : List ℕ) (fault : WordsFault) → IfSome line (λ words. TellsWord words number buffer (Ok count)) → text ≡ take count buffer → (fault ≡ NotText) × ¬ IsUtf8 text → IfSome line (λ words. IsWordFault words number fault)
told_no_text line number count buffer text fault told same is = IfSome_then line told (λ words e. subst (IsWordFault words number) (sym is.0) (text, e ∙ ap Some (sym same), is.1))

-- a fault of one word is one of the words
pub words_fault : (line : Option (List (List ℕ))) (number : ℕ) (fault : WordsFault) → 1 ≤ number → IfSome line (λ words. IsWordFault words number fault) → IsWordsFault line fault
words_fault line zero fault low is = absurd (omega (arith, low))
words_fault line (suc n) NotText low is = IfSome_then line is (λ words e. (n, e))
words_fault line (suc n) OutOfMemory low is = tt

-- one word more, and no more words
pub words_more : (line : Option (List (List ℕ))) (texts : List (List ℕ)) (number : ℕ) (word : List ℕ) → 1 ≤ number → IfSome line (λ all. texts ≡ take (number - 1) (drop 1 all)) → IfSome line (λ all. slice_get all number ≡ Some word) → IfSome line (λ all. texts ++ word ∷ [] ≡ take (number + 1 - 1) (drop 1 all))
words_more None texts number word low so_far here = tt
words_more (Some all) texts number word low so_far here = one_more all texts number word low so_far here

pub words_end : (line : Option (List (List ℕ))) (texts : List (List ℕ)) (number : ℕ) → 1 ≤ number → IfSome line (λ all. texts ≡ take (number - 1) (drop 1 all)) → IfSome line (λ all. slice_get all number ≡ None) → AreGiven line texts
words_end None texts number low so_far here = tt
words_end (Some all) texts number low so_far here = all_told all texts number low so_far here

-- the bytes of texts
pub are_texts : {Z : Type 0} (words : List (String Z)) → AreTexts (map string_bytes words)
are_texts words = All-map IsUtf8 string_bytes words (λ k d there. IsUtf8-string_bytes (get_or words k d))
