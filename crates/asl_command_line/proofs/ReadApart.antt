-- What the words of `step` ask for, by what `clap` says of all but the last words of its schedule.
use Rattle.std.proofs.Common.{◌≡◌, ◌∙◌, ◌+◌, ◌<◌, ◌≤◌, ◌-◌, ◌++◌, not, unwrap_or, ℕ, zero, suc, Bool, true, false, List, [], ◌∷◌, length, take, drop, map, Option, Some, Vec, Global, refl, ap, ap₂, sym, subst, arith, codes, inl, inr, append_assoc, slice_index_or}
use Rattle.std.specs.Prelude.{IsSomeAnd, slice_get}
use Rattle.std.specs.List.{fold}
use Rattle.std.specs.Str.Parse.{digits_value}
use Rattle.std.proofs.lemmas.Bool.{cases_eq}
use Rattle.std.proofs.lemmas.List.{length-append, length-map, map-append, take_more, take-append-drop, take-map, drop-map, map_push, get_or-map}
use Rattle.std.proofs.lemmas.List.Elements.{All-append, All-push}
use Rattle.std.proofs.lemmas.Option.{slice_get-get_or}
use Rattle.std.proofs.lemmas.Slice.Eq.{bytes_eq-Decides}
use Rattle.std.specs.Str.{bytes_eq}
use Rattle.clap.specs.Lexer.{usize_max}
use Rattle.clap.specs.Faults.{level_fault}
use Rattle.clap.specs.Walk.{Row, Text, Walk, finished, nothing_held, rows_after, walked}
use Rattle.asl_command_line.specs.Apart.{AreAdded, IsFront, IsPlain}
use Rattle.asl_command_line.specs.Number.{AreNumbers, IsNumber, IsNumeric}
use Rattle.asl_command_line.specs.Words.{AsksFor, IsTaken, words_at}
use Rattle.asl_command_line.specs.declared.command.Command.TheVariants as command
use Rattle.asl_command_line.specs.declared.command.Invocation.TheVariants.{Alone}
use Rattle.asl_command_line.proofs.StepRules.{step_rules, step_shape}
use Rattle.asl_command_line.proofs.StepRows.{end_is, few_pending, more_words, rows_of_step, same_record, same_threads}
use Rattle.asl_command_line.proofs.StepWalk.{ArePlain, scheduled, then_scheduled}
use Rattle.asl_command_line.proofs.StepFaults.{start, step_fault_is, step_rows_are, all_walk, all_level}

-- ---- what is read of all words

numbers_append : (ts us : List Text) (ns ms : List ℕ) → AreNumbers ts ns → AreNumbers us ms → AreNumbers (ts ++ us) (ns ++ ms)
numbers_append ts us ns ms a b =
    record {
      numeric = All-append IsNumeric ts us a.numeric b.numeric;
      values = ap₂ (λ (x y : List ℕ). x ++ y) a.values b.values ∙ sym (map-append (digits_value 10) ts us);
    }

how_many : (ts : List Text) (ns : List ℕ) → AreNumbers ts ns → length ns ≡ length ts
how_many ts ns are = ap (λ (xs : List ℕ). length xs) are.values ∙ length-map ts (digits_value 10)

rows_are : (words : List Text) (rows : List Row) (v : Text) (vs : List Text) (skip : ℕ) (trailing : Bool) → fold (walked step_rules []) start words ≡ scheduled rows v vs skip trailing
    → rows_after step_rules [] words ≡ rows_of_step rows v vs
rows_are words rows v vs skip trailing is = ap (λ (w : Walk). finished step_rules w.held) is ∙ end_is rows v vs skip trailing

abbrev IsStep : List Row → ℕ → Vec ℕ Global → Bool → Type 0
IsStep rows count numbers record_it = IsTaken (Some (codes "step", rows)) (Alone (command.Step count numbers record_it))

more_step : (rows : List Row) (v : Text) (vs rest : List Text) (count : ℕ) (old new : Vec ℕ Global) (record_it : Bool) → AreAdded rest old.items new.items
    → IsStep (rows_of_step rows v vs) count old record_it → IsStep (rows_of_step rows v (vs ++ rest)) count new record_it
more_step rows v vs rest count old new record_it added is = (
  refl,
  subst (λ (o : Option Text). IsSomeAnd o (λ text. IsNumber text count)) (sym (same_threads rows v vs rest)) is.1,
  subst (λ ws. AreNumbers ws new.items) (sym (more_words rows v vs rest))
      (subst (AreNumbers (words_at (codes "schedule") (rows_of_step rows v vs) ++ rest)) (sym added.1)
      (numbers_append (words_at (codes "schedule") (rows_of_step rows v vs)) rest old.items added.0 is.2 added.2)),
  record { yes = λ e. is.3.yes (sym (same_record rows v vs rest) ∙ e); no = λ e. is.3.no (sym (same_record rows v vs rest) ∙ e); none = λ e. is.3.none (sym (same_record rows v vs rest) ∙ e) },
)

few_enough : (rows : List Row) (v : Text) (vs rest : List Text) (old new : Vec ℕ Global) → AreAdded rest old.items new.items
    → AreNumbers (words_at (codes "schedule") (rows_of_step rows v vs)) old.items → suc (length (vs ++ rest)) ≤ usize_max
few_enough rows v vs rest old new added are =
    omega (arith, few_pending rows v vs, how_many _ _ are, how_many _ _ added.2, ap (λ (xs : List ℕ). length xs) added.1, length-append old.items added.0, length-append vs rest, new.ok.0, new.ok.1, new.small)

-- after `step`, and words of which the last two are no flags
asks_for_all : (words : List Text) (first second : Text) (rest : List Text) (count : ℕ) (old new : Vec ℕ Global) (record_it : Bool) → IsPlain first → IsPlain second → ArePlain rest
    → AreAdded rest old.items new.items → AsksFor (codes "step" ∷ words ++ first ∷ second ∷ []) (Alone (command.Step count old record_it))
    → AsksFor (codes "step" ∷ (words ++ first ∷ second ∷ []) ++ rest) (Alone (command.Step count new record_it))
asks_for_all words first second rest count old new record_it one two are added (inr refusal) = absurd refusal
asks_for_all words first second rest count old new record_it one two are added (inl asked) =
    let front = words ++ first ∷ second ∷ [] in
    let s = then_scheduled words first second one two in
    let rows = s.0 in
    let v = s.1 in
    let vs = s.2 in
    let walk_is = s.5 in
    let row_is : rows_after step_rules [] front ≡ rows_of_step rows v vs = rows_are front rows v vs s.3 s.4 walk_is in
    let read : IsStep (rows_of_step rows v vs) count old record_it =
    subst (λ rs. IsStep rs count old record_it) row_is (subst (λ o. IsTaken o (Alone (command.Step count old record_it))) (step_rows_are front) asked.1) in
    let few = few_enough rows v vs rest old new added read.2 in
    let none : level_fault step_shape [] nothing_held front false [] ≡ [] = sym (step_fault_is front) ∙ asked.0 in
    let all_rows : rows_after step_rules [] (front ++ rest) ≡ rows_of_step rows v (vs ++ rest) =
    rows_are (front ++ rest) rows v (vs ++ rest) s.3 s.4 (all_walk front rest rows v vs s.3 s.4 are walk_is) in
    inl (
      step_fault_is (front ++ rest) ∙ all_level front rest rows v vs s.3 s.4 are walk_is few none,
      subst (λ o. IsTaken o (Alone (command.Step count new record_it))) (sym (step_rows_are (front ++ rest)))
          (subst (λ rs. IsStep rs count new record_it) (sym all_rows) (more_step rows v vs rest count old new record_it added read)),
    )

-- ---- by how many words `clap` reads

two_last : (xs : List Text) (k : ℕ) (d : Text) → k + 2 ≤ length xs → take (k + 2) xs ≡ take k xs ++ slice_index_or xs k d ∷ slice_index_or xs (k + 1) d ∷ []
two_last xs k d within =
    let sum : k + 2 ≡ (k + 1) + 1 = omega arith in
    ap (λ n. take n xs) sum ∙ take_more xs (k + 1) d (omega (arith, within)) ∙ ap (λ ys. ys ++ slice_index_or xs (k + 1) d ∷ []) (take_more xs k d (omega (arith, within)))
    ∙ append_assoc (take k xs) (slice_index_or xs k d ∷ []) (slice_index_or xs (k + 1) d ∷ [])

get_here : (xs : List Text) (k : ℕ) (d : Text) → k < length xs → slice_get xs k ≡ Some (slice_index_or xs k d)
get_here xs k d within = slice_get-get_or xs k d within

plain_rest : (xs : List Text) (k : ℕ) → ((i : ℕ) (word : Text) → k ≤ i → slice_get xs i ≡ Some word → IsPlain word) → ArePlain (drop k xs)
plain_rest [] zero plain = tt
plain_rest [] (suc k) plain = tt
plain_rest (x ∷ xs) zero plain = (plain 0 x (omega arith) refl, plain_rest xs zero (λ i word le at. plain (suc i) word (omega arith) at))
plain_rest (x ∷ xs) (suc k) plain = plain_rest xs k (λ i word le at. plain (suc i) word (omega (arith, le)) at)

head_of : (x : Text) (xs : List Text) → slice_get (x ∷ xs) 0 ≡ Some (codes "step") → x ≡ codes "step"
head_of x xs e = ap (λ (o : Option Text). unwrap_or o x) e

pub apart : (words : List Text) (front : ℕ) (count : ℕ) (old new : Vec ℕ Global) (record_it : Bool) → IsFront words front → AreAdded (drop front words) old.items new.items
    → AsksFor (take front words) (Alone (command.Step count old record_it)) → AsksFor words (Alone (command.Step count new record_it))
apart words zero count old new record_it is added asked = absurd (omega (arith, is.long))
apart words (suc zero) count old new record_it is added asked = absurd (omega (arith, is.long))
apart words (suc (suc zero)) count old new record_it is added asked = absurd (omega (arith, is.long))
apart [] (suc (suc (suc k))) count old new record_it is added asked = absurd (omega (arith, is.within))
apart (x ∷ xs) (suc (suc (suc k))) count old new record_it is added asked =
    let step_is = head_of x xs is.step in
    let sum : suc (suc k) ≡ k + 2 = omega arith in
    let within : k + 2 ≤ length xs = omega (arith, is.within) in
    let first = slice_index_or xs k [] in
    let second = slice_index_or xs (k + 1) [] in
    let one : IsPlain first = is.plain (suc k) first (omega arith) (get_here xs k [] (omega (arith, within))) in
    let two : IsPlain second = is.plain (suc (k + 1)) second (omega arith) (get_here xs (k + 1) [] (omega (arith, within))) in
    let are : ArePlain (drop (k + 2) xs) = plain_rest xs (k + 2) (λ i word le at. is.plain (suc i) word (omega (arith, le)) at) in
    let front_is : x ∷ take (suc (suc k)) xs ≡ codes "step" ∷ take k xs ++ first ∷ second ∷ [] =
    ap₂ (λ (y : Text) (ys : List Text). y ∷ ys) step_is (ap (λ n. take n xs) sum ∙ two_last xs k [] within) in
    let all_is : codes "step" ∷ (take k xs ++ first ∷ second ∷ []) ++ drop (k + 2) xs ≡ x ∷ xs =
    ap₂ (λ (y : Text) (ys : List Text). y ∷ ys) (sym step_is) (ap (λ ys. ys ++ drop (k + 2) xs) (sym (two_last xs k [] within)) ∙ take-append-drop (k + 2) xs) in
    let added_here : AreAdded (drop (k + 2) xs) old.items new.items = subst (λ n. AreAdded (drop n xs) old.items new.items) sum added in
    subst (λ ws. AsksFor ws (Alone (command.Step count new record_it))) all_is
    (asks_for_all (take k xs) first second (drop (k + 2) xs) count old new record_it one two are added_here
    (subst (λ ws. AsksFor ws (Alone (command.Step count old record_it))) front_is asked))

-- ---- as the code has it
module _ {S : Type 0} (f : S → Text) (ws : List S) where
  -- one more number is added
  pub more_added : (i : ℕ) (w : S) (text : Text) (old now new : List ℕ) (n : ℕ) → i < length ws → w ≡ slice_index_or ws i w → text ≡ f w → IsNumber text n
      → new ≡ now ++ n ∷ [] → AreAdded (map f (take i ws)) old now → AreAdded (map f (take (i + 1) ws)) old new
  more_added i w text old now new n within is text_is number new_is added =
      let texts_are : map f (take (i + 1) ws) ≡ map f (take i ws) ++ f w ∷ [] =
      ap (map f) (take_more ws i w within) ∙ map_push f (take i ws) (slice_index_or ws i w) ∙ ap (λ (x : S). map f (take i ws) ++ f x ∷ []) (sym is) in
      let own : IsNumber (f w) n = subst (λ t. IsNumber t n) text_is number in
      let one : AreNumbers (f w ∷ []) (n ∷ []) =
      record { numeric = All-push IsNumeric [] (f w) (λ k d lt. absurd (omega (arith, lt))) own.numeric; values = ap (λ (x : ℕ). x ∷ []) own.value } in (
        added.0 ++ n ∷ [],
        new_is ∙ ap (λ xs. xs ++ n ∷ []) added.1 ∙ append_assoc old added.0 (n ∷ []),
        subst (λ ts. AreNumbers ts (added.0 ++ n ∷ [])) (sym texts_are) (numbers_append (map f (take i ws)) (f w ∷ []) added.0 (n ∷ []) added.2 one),
      )

  text_at : (k : ℕ) (w : S) → k < length ws → w ≡ slice_index_or ws k w → slice_get (map f ws) k ≡ Some (f w)
  text_at k w within is =
      slice_get-get_or (map f ws) k (f w) (omega (arith, within, length-map ws f)) ∙ ap Some (get_or-map f ws k w (f w) within ∙ ap f (sym is))

  -- the word before is no flag either
  pub plain_before : (from : ℕ) (w : S) (text : Text) → 1 < from → from ≤ length ws → w ≡ slice_index_or ws (from - 1) w → text ≡ f w → IsPlain text
      → ((i : ℕ) (word : Text) → from ≤ i → slice_get (map f ws) i ≡ Some word → IsPlain word)
      → (i : ℕ) (word : Text) → from - 1 ≤ i → slice_get (map f ws) i ≡ Some word → IsPlain word
  plain_before from w text some within is text_is plain later i word le at =
      elim (cases_eq i (from - 1)) [
        | inl same ↦
            (let here : Some word ≡ Some (f w) = sym at ∙ ap (slice_get (map f ws)) same ∙ text_at (from - 1) w (omega (arith, some, within)) is in
            let one : text ≡ word = text_is ∙ sym (ap (λ o. unwrap_or o word) here) in
            subst IsPlain one plain)
        | inr other ↦ later i word (omega (arith, le, other, some)) at
      ]

  -- the first word is `step`
  pub first_is : (w : S) (text : Text) → 0 < length ws → w ≡ slice_index_or ws 0 w → text ≡ f w → false ≡ not (bytes_eq text (codes "step")) → slice_get (map f ws) 0 ≡ Some (codes "step")
  first_is w text some is text_is same =
      let step_is : text ≡ codes "step" = same_bytes text (codes "step") (bytes_eq text (codes "step")) refl same in
      text_at 0 w some is ∙ ap Some (sym text_is ∙ step_is)
    where
      same_bytes : (xs ys : List ℕ) (b : Bool) → bytes_eq xs ys ≡ b → false ≡ not b → xs ≡ ys
      same_bytes xs ys true e n = grind (arith, bytes_eq-Decides xs ys, e)
      same_bytes xs ys false e n = cc

  pub apart_by : (front rest : List S) (n count : ℕ) (old new : Vec ℕ Global) (record_it : Bool) → front ≡ take n ws → rest ≡ drop n ws → IsFront (map f ws) n
      → AreAdded (map f rest) old.items new.items → AsksFor (map f front) (Alone (command.Step count old record_it)) → AsksFor (map f ws) (Alone (command.Step count new record_it))
  apart_by front rest n count old new record_it front_is rest_is is added asked =
      apart (map f ws) n count old new record_it is
      (subst (λ ts. AreAdded ts old.items new.items) (ap (map f) rest_is ∙ sym (drop-map f n ws)) added)
      (subst (λ ts. AsksFor ts (Alone (command.Step count old record_it))) (ap (map f) front_is ∙ sym (take-map f n ws)) asked)
