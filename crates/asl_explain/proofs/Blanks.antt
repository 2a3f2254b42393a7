-- Stretches of many blanks, and words in one line.
use Rattle.std.proofs.Common.{◌≡◌, ◌+◌, ◌-◌, ◌<◌, ◌≤◌, ℕ, zero, suc, List, [], ◌∷◌, ◌++◌, Bool, true, false, ◌&&◌, if◌then◌else◌, length, take, drop, get_or, nat_lt, append_assoc, append-nil, refl, sym, ap, ◌∙◌, subst, arith}
use Rattle.std.specs.List.{list_all, slice_range}
use Rattle.std.proofs.lemmas.List.{at_drop_more, at_drop_all, drop-drop, length-drop, length-take-le}
use Rattle.std.proofs.Math.Seq.{take-add}
use Rattle.std.proofs.lemmas.Bool.Decides.{nat_tests}
use Rattle.std.proofs.lemmas.List.Folds.{list_all-append}
use Rattle.asl_class_text.specs.Places.{is_blank}
use Rattle.asl_class_text.specs.Texts.{byte_words, words_from}
use Rattle.asl_explain.specs.declared.gaps.Gap.{Gap}
use Rattle.asl_explain.specs.Gaps.{is_gap, are_gaps}

and_first : (a b : Bool) → (a && b) ≡ true → a ≡ true
and_first true b h = refl
and_first false b h = cc

and_second : (a b : Bool) → (a && b) ≡ true → b ≡ true
and_second true b h = h
and_second false b h = cc

and_both : (a b : Bool) → a ≡ true → b ≡ true → (a && b) ≡ true
and_both true b h k = k
and_both false b h k = cc

chosen : (b c : Bool) (x y : List ℕ) → b ≡ c → (if b then x else y) ≡ (if c then x else y)
chosen b c x y e = ap (λ (a : Bool). if a then x else y) e

-- ---- words in one line

-- the words so far, and then those of the bytes that are left, are those of all
pub record WordsSoFar (bytes : List ℕ) (behind was_blank : Bool) (n : ℕ) (first text : List ℕ) : Type 0 where
  pub all : text ++ words_from was_blank (drop n bytes) ≡ first ++ words_from behind bytes

pub none_read : (bytes : List ℕ) (behind : Bool) (text : List ℕ) → WordsSoFar bytes behind behind 0 text text
none_read bytes behind text = record { all = refl }

next_words : (bytes : List ℕ) (was_blank : Bool) (n : ℕ) → n < length bytes → words_from was_blank (drop n bytes) ≡ (if is_blank (get_or bytes n 0) then words_from true (drop (n + 1) bytes) else byte_words was_blank (get_or bytes n 0) ++ words_from false (drop (n + 1) bytes))
next_words bytes was_blank n low = at_drop_more (λ (l : List ℕ). words_from was_blank l) bytes n 0 low

pub blank_read : (bytes : List ℕ) (behind was_blank : Bool) (n : ℕ) (first text : List ℕ) → n < length bytes → is_blank (get_or bytes n 0) ≡ true → WordsSoFar bytes behind was_blank n first text → WordsSoFar bytes behind true (n + 1) first text
blank_read bytes behind was_blank n first text low is o = record {
  all = ap (λ (l : List ℕ). text ++ l) (sym (next_words bytes was_blank n low ∙ chosen (is_blank (get_or bytes n 0)) true (words_from true (drop (n + 1) bytes)) (byte_words was_blank (get_or bytes n 0) ++ words_from false (drop (n + 1) bytes)) is))
      ∙ o.all;
}

pub byte_read : (bytes : List ℕ) (behind was_blank : Bool) (n : ℕ) (first old new : List ℕ) → n < length bytes → is_blank (get_or bytes n 0) ≡ false → new ≡ old ++ byte_words was_blank (get_or bytes n 0) → WordsSoFar bytes behind was_blank n first old → WordsSoFar bytes behind false (n + 1) first new
byte_read bytes behind was_blank n first old new low is grows o = record {
  all = ap (λ (l : List ℕ). l ++ words_from false (drop (n + 1) bytes)) grows
      ∙ append_assoc old (byte_words was_blank (get_or bytes n 0)) (words_from false (drop (n + 1) bytes))
      ∙ ap (λ (l : List ℕ). old ++ l) (sym (next_words bytes was_blank n low ∙ chosen (is_blank (get_or bytes n 0)) false (words_from true (drop (n + 1) bytes)) (byte_words was_blank (get_or bytes n 0) ++ words_from false (drop (n + 1) bytes)) is))
      ∙ o.all;
}

pub all_read : (bytes : List ℕ) (behind was_blank : Bool) (n : ℕ) (first text : List ℕ) → length bytes ≤ n → WordsSoFar bytes behind was_blank n first text → text ≡ first ++ words_from behind bytes
all_read bytes behind was_blank n first text past o =
    sym (append-nil text) ∙ ap (λ (l : List ℕ). text ++ l) (sym (at_drop_all (λ (l : List ℕ). words_from was_blank l) bytes n past)) ∙ o.all

-- ---- blanks

-- blanks leave that a blank was read
past_blanks : (gap zs : List ℕ) → list_all is_blank gap ≡ true → words_from true (gap ++ zs) ≡ words_from true zs
past_blanks [] zs h = refl
past_blanks (b ∷ gap) zs h =
    chosen (is_blank b) true (words_from true (gap ++ zs)) (byte_words true b ++ words_from false (gap ++ zs)) (and_first (is_blank b) (list_all is_blank gap) h)
    ∙ past_blanks gap zs (and_second (is_blank b) (list_all is_blank gap) h)

into_blanks : (was : Bool) (gap zs : List ℕ) → 0 < length gap → list_all is_blank gap ≡ true → words_from was (gap ++ zs) ≡ words_from true zs
into_blanks was [] zs some h = absurd (omega arith)
into_blanks was (b ∷ gap) zs some h =
    chosen (is_blank b) true (words_from true (gap ++ zs)) (byte_words was b ++ words_from false (gap ++ zs)) (and_first (is_blank b) (list_all is_blank gap) h)
    ∙ past_blanks gap zs (and_second (is_blank b) (list_all is_blank gap) h)

-- words before blanks, and those behind them
over_blanks : (was : Bool) (xs gap zs : List ℕ) → 0 < length gap → list_all is_blank gap ≡ true → words_from was (xs ++ (gap ++ zs)) ≡ words_from was xs ++ words_from true zs
over_blanks was [] gap zs some h = into_blanks was gap zs some h
over_blanks was (x ∷ xs) gap zs some h =
    elim (is_blank x) as (λ b. (if b then words_from true (xs ++ (gap ++ zs)) else byte_words was x ++ words_from false (xs ++ (gap ++ zs))) ≡ (if b then words_from true xs else byte_words was x ++ words_from false xs) ++ words_from true zs) [
      | true ↦ over_blanks true xs gap zs some h
      | false ↦ ap (λ (l : List ℕ). byte_words was x ++ l) (over_blanks false xs gap zs some h) ∙ sym (append_assoc (byte_words was x) (words_from false xs) (words_from true zs))
    ]

-- ---- ranges

-- a range in two
pub range_both : (xs : List ℕ) (from at to : ℕ) → from ≤ at → at ≤ to → slice_range xs from to ≡ slice_range xs from at ++ slice_range xs at to
range_both xs from at to low high =
    let long : to - from ≡ (at - from) + (to - at) = omega (arith, low, high) in
    let here : from + (at - from) ≡ at = omega (arith, low) in
    ap (λ (n : ℕ). take n (drop from xs)) long
    ∙ take-add (at - from) (to - at) (drop from xs)
    ∙ ap (λ (l : List ℕ). take (at - from) (drop from xs) ++ take (to - at) l) (drop-drop (at - from) from xs ∙ ap (λ (n : ℕ). drop n xs) here)

pub range_none : (xs : List ℕ) (at : ℕ) → slice_range xs at at ≡ []
range_none xs at = let none : at - at ≡ 0 = omega arith in ap (λ (n : ℕ). take n (drop at xs)) none

pub none_blank : (xs : List ℕ) (at : ℕ) → list_all is_blank (slice_range xs at at) ≡ true
none_blank xs at = ap (list_all is_blank) (range_none xs at)

range_one : (xs : List ℕ) (at : ℕ) → at < length xs → slice_range xs at (at + 1) ≡ get_or xs at 0 ∷ []
range_one xs at low =
    let one : (at + 1) - at ≡ 1 = omega arith in
    ap (λ (n : ℕ). take n (drop at xs)) one ∙ at_drop_more (λ (l : List ℕ). take 1 l) xs at 0 low

pub blank_more : (xs : List ℕ) (from at : ℕ) → from ≤ at → at < length xs → is_blank (get_or xs at 0) ≡ true → list_all is_blank (slice_range xs from at) ≡ true → list_all is_blank (slice_range xs from (at + 1)) ≡ true
blank_more xs from at low within here before =
    let next : at ≤ at + 1 = omega arith in
    ap (list_all is_blank) (range_both xs from at (at + 1) low next)
    ∙ list_all-append is_blank (slice_range xs from at) (slice_range xs at (at + 1))
    ∙ and_both (list_all is_blank (slice_range xs from at)) (list_all is_blank (slice_range xs at (at + 1))) before
    (ap (list_all is_blank) (range_one xs at within) ∙ and_both (is_blank (get_or xs at 0)) true here refl)

gap_at : (source : List ℕ) (gs : List Gap) (n : ℕ) (d : Gap) → n < length gs → are_gaps source gs ≡ true → is_gap source (get_or gs n d) ≡ true
gap_at source [] n d low h = absurd (omega arith)
gap_at source (g ∷ gs) zero d low h = and_first (is_gap source g) (are_gaps source gs) h
gap_at source (g ∷ gs) (suc n) d low h = gap_at source gs n d (omega arith) (and_second (is_gap source g) (are_gaps source gs) h)

-- the words of what is left: those before a gap, and those behind it
pub over_gap : (source : List ℕ) (gs : List Gap) (n : ℕ) (d g : Gap) (was : Bool) (at to : ℕ) (first old new : List ℕ) → n < length gs → g ≡ get_or gs n d → are_gaps source gs ≡ true → at ≤ g.from → g.to ≤ to → to ≤ length source
    → new ≡ old ++ words_from was (slice_range source at g.from) → old ++ words_from was (slice_range source at to) ≡ first → (g.to ≤ to) × (new ++ words_from true (slice_range source g.to to) ≡ first)
over_gap source gs n d g was at to first old new low is all before behind within grows so =
    let here : is_gap source g ≡ true = subst (λ (x : Gap). is_gap source x ≡ true) (sym is) (gap_at source gs n d low all) in
    let blank : list_all is_blank (slice_range source g.from g.to) ≡ true = and_second (nat_lt g.from g.to) (list_all is_blank (slice_range source g.from g.to)) here in
    let some : g.from < g.to = grind (arith, nat_tests, and_first (nat_lt g.from g.to) (list_all is_blank (slice_range source g.from g.to)) here) in
    let onward : g.from ≤ to = omega (arith, some, behind) in
    let ordered : g.from ≤ g.to = omega (arith, some) in
    let long : length (slice_range source g.from g.to) ≡ g.to - g.from =
    length-take-le (g.to - g.from) (drop g.from source) (simp length-drop (omega (arith, behind, within))) in
    let many : 0 < length (slice_range source g.from g.to) = omega (arith, long, some) in
    let parts : slice_range source at to ≡ slice_range source at g.from ++ (slice_range source g.from g.to ++ slice_range source g.to to) =
    range_both source at g.from to before onward ∙ ap (λ (l : List ℕ). slice_range source at g.from ++ l) (range_both source g.from g.to to ordered behind) in
    let words = ap (words_from was) parts ∙ over_blanks was (slice_range source at g.from) (slice_range source g.from g.to) (slice_range source g.to to) many blank in (
      behind,
      ap (λ (l : List ℕ). l ++ words_from true (slice_range source g.to to)) grows
          ∙ append_assoc old (words_from was (slice_range source at g.from)) (words_from true (slice_range source g.to to))
          ∙ ap (λ (l : List ℕ). old ++ l) (sym words)
          ∙ so,
    )
