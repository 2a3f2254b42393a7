-- Words in one line, blanks, and the classes of sites, as loops write them.
use Rattle.std.proofs.Common.{◌≡◌, ℕ, ◌+◌, ◌<◌, ◌≤◌, List, [], ◌∷◌, ◌++◌, Bool, true, false, if◌then◌else◌, length, take, drop, get_or, replicate, slice_get, Some, sym, ap, ◌∙◌, append_assoc, append-nil}
use Rattle.std.proofs.lemmas.List.{at_drop_more, at_drop_all, replicate-append-replicate, take_more}
use Rattle.std.proofs.lemmas.Option.{slice_get_within, get_or_from_slice_get}
use Rattle.asl_class_text.specs.Places.{is_blank}
use Rattle.asl_class_text.specs.Texts.{byte_words, words_from, one_line}

-- the words so far, and then those of the bytes that are left, are those of all
pub record OneLine (bytes : List ℕ) (was_blank : Bool) (n : ℕ) (text : List ℕ) : Type 0 where
  pub all : text ++ words_from was_blank (drop n bytes) ≡ one_line bytes

pub none_read : (bytes text : List ℕ) → text ≡ [] → OneLine bytes false 0 text
none_read bytes text is = record { all = ap (λ (l : List ℕ). l ++ words_from false bytes) is }

-- the words of what is left, by its first byte
next_words : (bytes : List ℕ) (was_blank : Bool) (n : ℕ) → n < length bytes → words_from was_blank (drop n bytes) ≡ (if is_blank (get_or bytes n 0) then words_from true (drop (n + 1) bytes) else byte_words was_blank (get_or bytes n 0) ++ words_from false (drop (n + 1) bytes))
next_words bytes was_blank n low = at_drop_more (λ (l : List ℕ). words_from was_blank l) bytes n 0 low

chosen : (b c : Bool) (x y : List ℕ) → b ≡ c → (if b then x else y) ≡ (if c then x else y)
chosen b c x y e = ap (λ (a : Bool). if a then x else y) e

pub blank_read : (bytes : List ℕ) (was_blank : Bool) (n : ℕ) (text : List ℕ) → n < length bytes → is_blank (get_or bytes n 0) ≡ true → OneLine bytes was_blank n text → OneLine bytes true (n + 1) text
blank_read bytes was_blank n text low is o = record {
  all = ap (λ (l : List ℕ). text ++ l) (sym (next_words bytes was_blank n low ∙ chosen (is_blank (get_or bytes n 0)) true (words_from true (drop (n + 1) bytes)) (byte_words was_blank (get_or bytes n 0) ++ words_from false (drop (n + 1) bytes)) is))
      ∙ o.all;
}

pub byte_read : (bytes : List ℕ) (was_blank : Bool) (n : ℕ) (old new : List ℕ) → n < length bytes → is_blank (get_or bytes n 0) ≡ false → new ≡ old ++ byte_words was_blank (get_or bytes n 0) → OneLine bytes was_blank n old → OneLine bytes false (n + 1) new
byte_read bytes was_blank n old new low is grows o = record {
  all = ap (λ (l : List ℕ). l ++ words_from false (drop (n + 1) bytes)) grows
      ∙ append_assoc old (byte_words was_blank (get_or bytes n 0)) (words_from false (drop (n + 1) bytes))
      ∙ ap (λ (l : List ℕ). old ++ l) (sym (next_words bytes was_blank n low ∙ chosen (is_blank (get_or bytes n 0)) false (words_from true (drop (n + 1) bytes)) (byte_words was_blank (get_or bytes n 0) ++ words_from false (drop (n + 1) bytes)) is))
      ∙ o.all;
}

pub all_read : (bytes : List ℕ) (was_blank : Bool) (n : ℕ) (text : List ℕ) → length bytes ≤ n → OneLine bytes was_blank n text → text ≡ one_line bytes
all_read bytes was_blank n text past o =
    sym (append-nil text) ∙ ap (λ (l : List ℕ). text ++ l) (sym (at_drop_all (λ (l : List ℕ). words_from was_blank l) bytes n past)) ∙ o.all

-- one blank more
pub blank_more : (first old new : List ℕ) (n : ℕ) → old ≡ first ++ replicate n 32 → new ≡ old ++ 32 ∷ [] → new ≡ first ++ replicate (n + 1) 32
blank_more first old new n is grows =
    grows ∙ ap (λ (l : List ℕ). l ++ 32 ∷ []) is ∙ append_assoc first (replicate n 32) (32 ∷ []) ∙ ap (λ (l : List ℕ). first ++ l) (replicate-append-replicate n 1 32)

-- one site more
pub site_more : (gs sites : List ℕ) (n x : ℕ) (old new : List ℕ) → slice_get sites n ≡ Some x → new ≡ old ++ x ∷ [] → old ≡ gs ++ take n sites → new ≡ gs ++ take (n + 1) sites
site_more gs sites n x old new at grows is =
    let more : take (n + 1) sites ≡ take n sites ++ x ∷ [] = take_more sites n x (slice_get_within sites n x at) ∙ ap (λ (y : ℕ). take n sites ++ y ∷ []) (get_or_from_slice_get sites n x x at) in
    grows ∙ ap (λ (l : List ℕ). l ++ x ∷ []) is ∙ append_assoc gs (take n sites) (x ∷ []) ∙ ap (λ (l : List ℕ). gs ++ l) (sym more)
