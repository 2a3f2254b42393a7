-- Parts of a text that grows.
use Rattle.std.proofs.Common.{◌≡◌, ◌+◌, ◌<◌, ◌≤◌, ℕ, List, [], ◌∷◌, ◌++◌, length, get_or, append_assoc, append-nil, refl, sym, ap, ◌∙◌, subst}
use Rattle.std.specs.List.{flat_map}
use Rattle.asl_class_text.specs.Numbered.{numbered}
use Rattle.asl_explain.specs.Told.{Part, Words, Rest, IsPart, IsMadeOf}
use Rattle.asl_explain.specs.Telling.{Tells}
use Rattle.asl_class_text.proofs.Made.{Made, none_made, more_made, all_made, Flat, none_flat, more_flat, all_flat}

pub made_both : (ps qs : List Part) (a b : List ℕ) → IsMadeOf ps a → IsMadeOf qs b → IsMadeOf (ps ++ qs) (a ++ b)
made_both [] qs a b h k = subst (λ (l : List ℕ). IsMadeOf qs (l ++ b)) (sym h) k
made_both (p ∷ ps) qs a b h k = (
  h.0,
  h.1 ++ b,
  h.2,
  ap (λ (l : List ℕ). l ++ b) h.3 ∙ append_assoc h.0 h.1 b,
  made_both ps qs h.1 b h.4 k,
)

pub tells_none : (text : List ℕ) → Tells [] text text
tells_none text = record { more = []; added = sym (append-nil text); made = refl }

-- a part
pub tells_part : (p : Part) (old new more : List ℕ) → new ≡ old ++ more → IsPart p more → Tells (p ∷ []) old new
tells_part p old new more is part = record { more = more; added = is; made = (more, [], part, sym (append-nil more), refl) }

-- words
pub tells_words : (old new words : List ℕ) → new ≡ old ++ words → Tells (Words words ∷ []) old new
tells_words old new words is = tells_part (Words words) old new words is refl

-- words of which no more is said
pub tells_rest : (old new more : List ℕ) → new ≡ old ++ more → Tells (Rest ∷ []) old new
tells_rest old new more is = tells_part Rest old new more is tt

-- one after the other
pub tells_then : (ps qs : List Part) (old now new : List ℕ) → Tells ps old now → Tells qs now new → Tells (ps ++ qs) old new
tells_then ps qs old now new a b = record {
  more = a.more ++ b.more;
  added = b.added ∙ ap (λ (l : List ℕ). l ++ b.more) a.added ∙ append_assoc old a.more b.more;
  made = made_both ps qs a.more b.more a.made b.made;
}

-- words, and then parts
pub words_then : (words : List ℕ) (qs : List Part) (old now new : List ℕ) → now ≡ old ++ words → Tells qs now new → Tells (Words words ∷ qs) old new
words_then words qs old now new is b = tells_then (Words words ∷ []) qs old now new (tells_words old now words is) b

-- words of which no more is said, and then parts
pub rest_then : (more : List ℕ) (qs : List Part) (old now new : List ℕ) → now ≡ old ++ more → Tells qs now new → Tells (Rest ∷ qs) old new
rest_then more qs old now new is b = tells_then (Rest ∷ []) qs old now new (tells_rest old now more is) b

-- from an empty text on
pub tells_whole : (ps : List Part) (new : List ℕ) → Tells ps [] new → IsMadeOf ps new
tells_whole ps new t = subst (IsMadeOf ps) (sym t.added) t.made

-- three and four words, one behind the other
pub three : (t0 t1 t2 t3 a b d : List ℕ) → t1 ≡ t0 ++ a → t2 ≡ t1 ++ b → t3 ≡ t2 ++ d → t3 ≡ t0 ++ (a ++ (b ++ d))
three t0 t1 t2 t3 a b d e1 e2 e3 =
    e3 ∙ ap (λ (l : List ℕ). l ++ d) (e2 ∙ ap (λ (l : List ℕ). l ++ b) e1) ∙ append_assoc (t0 ++ a) b d ∙ append_assoc t0 a (b ++ d)

pub four : (t0 t1 t2 t3 t4 a b d e : List ℕ) → t1 ≡ t0 ++ a → t2 ≡ t1 ++ b → t3 ≡ t2 ++ d → t4 ≡ t3 ++ e → t4 ≡ t0 ++ (a ++ (b ++ (d ++ e)))
four t0 t1 t2 t3 t4 a b d e e1 e2 e3 e4 =
    three t0 t1 t2 t4 a b (d ++ e) e1 e2 (e4 ∙ ap (λ (l : List ℕ). l ++ e) e3 ∙ append_assoc t2 d e)

-- ---- loops

-- the parts that are told so far, of a numbered list
pub record TellsSome {A : Type 0} (parts : ℕ → A → List Part) (xs : List A) (n : ℕ) (old now : List ℕ) : Type 0 where
  pub told : List Part
  pub so_far : Made parts xs n [] told
  pub tells : Tells told old now

pub some_none : {A : Type 0} (parts : ℕ → A → List Part) (xs : List A) (text : List ℕ) → TellsSome parts xs 0 text text
some_none parts xs text = record { told = []; so_far = none_made parts xs [] [] refl; tells = tells_none text }

pub some_more : {A : Type 0} (parts : ℕ → A → List Part) (xs : List A) (n : ℕ) (d x : A) (old now new : List ℕ) → n < length xs → x ≡ get_or xs n d → TellsSome parts xs n old now → Tells (parts n x) now new → TellsSome parts xs (n + 1) old new
some_more parts xs n d x old now new low is t one = record {
  told = t.told ++ parts n x;
  so_far = more_made parts xs n d x [] t.told (t.told ++ parts n x) low is refl t.so_far;
  tells = tells_then t.told (parts n x) old now new t.tells one;
}

pub some_all : {A : Type 0} (parts : ℕ → A → List Part) (xs : List A) (n : ℕ) (old now : List ℕ) → length xs ≤ n → TellsSome parts xs n old now → Tells (numbered parts 0 xs) old now
some_all parts xs n old now past t = subst (λ (ps : List Part). Tells ps old now) (all_made parts xs n [] t.told past t.so_far) t.tells

-- the parts that are told so far, of a list without numbers
pub record TellsFlat {A : Type 0} (parts : A → List Part) (xs : List A) (n : ℕ) (old now : List ℕ) : Type 0 where
  pub told : List Part
  pub so_far : Flat parts xs n [] told
  pub tells : Tells told old now

pub flat_none : {A : Type 0} (parts : A → List Part) (xs : List A) (text : List ℕ) → TellsFlat parts xs 0 text text
flat_none parts xs text = record { told = []; so_far = none_flat parts xs []; tells = tells_none text }

pub flat_more : {A : Type 0} (parts : A → List Part) (xs : List A) (n : ℕ) (d x : A) (old now new : List ℕ) → n < length xs → x ≡ get_or xs n d → TellsFlat parts xs n old now → Tells (parts x) now new → TellsFlat parts xs (n + 1) old new
flat_more parts xs n d x old now new low is t one = record {
  told = t.told ++ parts x;
  so_far = more_flat parts xs n d x [] t.told (t.told ++ parts x) low is refl t.so_far;
  tells = tells_then t.told (parts x) old now new t.tells one;
}

pub flat_all : {A : Type 0} (parts : A → List Part) (xs : List A) (n : ℕ) (old now : List ℕ) → length xs ≤ n → TellsFlat parts xs n old now → Tells (flat_map parts xs) old now
flat_all parts xs n old now past t = subst (λ (ps : List Part). Tells ps old now) (all_flat parts xs n [] t.told past t.so_far) t.tells
