-- More of something than a program has: that stays so however the text continues, and breaks a limit.
use Rattle.std.proofs.Common.{◌≡◌, ℕ, ◌+◌, ◌<◌, true, false, List, [], ◌∷◌, ◌++◌, length, Option, Some, None, Result, Ok, Err, refl, sym, ap, ◌∙◌, inl, inr, arith, nat_le, Bool, ◌≤◌}
use Rattle.std.specs.List.{list_all}
use Rattle.std.proofs.lemmas.Bool.{lt-leb, ltb-true, or_cases}
use Rattle.std.proofs.Math.Bool.{and-false}
use Rattle.std.proofs.lemmas.List.{length_push}
use Rattle.std.proofs.lemmas.List.Folds.{list_all-append}
use Rattle.asl_code.specs.declared.image.Image.{Image}
use Rattle.asl_code.specs.declared.image.Function.{Function}
use Rattle.asl_code.specs.declared.lock.Lock.{Lock}
use Rattle.asl_code.specs.Versions.{newest_locks}
use Rattle.asl_code.specs.Verified.{keeps_limits, keeps_counts, keeps_list_limit}
use Rattle.asl_code.specs.Versions.{limits_of}
use Rattle.asl_code.specs.declared.image_limits.Limits.{Limits}
use Rattle.asl_code.proofs.Versions.{locks_set, few_locks, newest_lists}
use Rattle.asl_assembler.specs.declared.line.Line.{Line}
use Rattle.asl_assembler.specs.declared.line.Line.TheVariants as line
use Rattle.asl_assembler.specs.declared.image_draft.Place.{Place}
use Rattle.asl_assembler.specs.declared.image_draft.Place.TheVariants as place
use Rattle.asl_assembler.specs.Words.{lines_of, words_of}
use Rattle.asl_assembler.specs.Text.{Spells}
use Rattle.asl_assembler.specs.Reading.{◌>>=◌, State, next, finished, meaning_of, step_words, step_line, or_line, image_from, blank_image, paired, open_locks, is_over, with_function, with_list, IsOver}
use Rattle.asl_assembler.proofs.Texts.{image_spelled, one_image, bad_line, not_both}

-- no version has longer lists
is_short : List Lock → Bool
is_short locks = nat_le (length locks) newest_locks

-- there are too many locks in the list that is open; or globals, functions, instructions or lists; or locks in one of the lists
data TooMany (locks globals functions instrs : ℕ) (lists : List (List Lock)) : Type 0 where
  of_open : newest_locks < locks → TooMany locks globals functions instrs lists
  of_globals : 1024 < globals → TooMany locks globals functions instrs lists
  of_functions : 256 < functions → TooMany locks globals functions instrs lists
  of_instrs : 65535 < instrs → TooMany locks globals functions instrs lists
  of_lists : 1024 < length lists → TooMany locks globals functions instrs lists
  of_locks : list_all is_short lists ≡ false → TooMany locks globals functions instrs lists

abbrev Over : Place → Image → Type 0
Over p i = TooMany (length (open_locks p)) (length i.globals) (length i.functions) (length i.code) i.lists

-- the same where no list is open
abbrev Long : Image → Type 0
Long i = Over place.Functions i

abbrev OnState : Option State → Type 0
OnState None = Unit {0}
OnState (Some s) = Over s.0 s.1

-- where there are too many, there are so with more
grows : {o p g h f k c d : ℕ} {lists : List (List Lock)} → o ≤ p → g ≤ h → f ≤ k → c ≤ d → TooMany o g f c lists → TooMany p h k d lists
grows locks globals functions instrs (of_open many) = of_open (omega arith)
grows locks globals functions instrs (of_globals many) = of_globals (omega arith)
grows locks globals functions instrs (of_functions many) = of_functions (omega arith)
grows locks globals functions instrs (of_instrs many) = of_instrs (omega arith)
grows locks globals functions instrs (of_lists many) = of_lists many
grows locks globals functions instrs (of_locks long) = of_locks long

as_many : {n : ℕ} → n ≤ n
as_many = omega arith

one_more : {X : Type 0} (xs : List X) (x : X) → length xs ≤ length (xs ++ x ∷ [])
one_more xs x = omega (arith, length_push xs x)

more_functions : (f : Function) (i : Image) → Long i → Long (with_function i f)
more_functions f i h = grows as_many as_many (one_more i.functions f) as_many h

closes : (locks : List Lock) (i : Image) → Over (place.Locks locks) i → Long (with_list i locks)
unfolding is_short
closes locks i (of_open many) =
    let long : is_short locks ≡ false = lt-leb _ _ many in
    let last : list_all is_short (locks ∷ []) ≡ false = rw long refl in
    of_locks (list_all-append is_short i.lists (locks ∷ []) ∙ rw last (and-false _))
closes locks i (of_globals many) = of_globals many
closes locks i (of_functions many) = of_functions many
closes locks i (of_instrs many) = of_instrs many
closes locks i (of_lists many) = of_lists (omega (arith, many, length_push i.lists locks))
closes locks i (of_locks long) = of_locks (list_all-append is_short i.lists (locks ∷ []) ∙ rw long refl)

next_over : (p : Place) (m : Line) (i : Image) → Over p i → OnState (next p m i)
unfolding next
next_over place.Version (line.Version v) i h = h
next_over place.Version (line.Classes n) i h = tt
next_over place.Version (line.Global c) i h = tt
next_over place.Version (line.Entry e) i h = tt
next_over place.Version (line.Function params regs) i h = tt
next_over place.Version (line.Instruction x) i h = tt
next_over place.Version line.List i h = tt
next_over place.Version (line.Lock l) i h = tt
next_over place.Classes (line.Version v) i h = tt
next_over place.Classes (line.Classes n) i h = h
next_over place.Classes (line.Global c) i h = tt
next_over place.Classes (line.Entry e) i h = tt
next_over place.Classes (line.Function params regs) i h = tt
next_over place.Classes (line.Instruction x) i h = tt
next_over place.Classes line.List i h = tt
next_over place.Classes (line.Lock l) i h = tt
next_over place.Globals (line.Version v) i h = tt
next_over place.Globals (line.Classes n) i h = tt
next_over place.Globals (line.Global c) i h = grows as_many (one_more i.globals c) as_many as_many h
next_over place.Globals (line.Entry e) i h = h
next_over place.Globals (line.Function params regs) i h = tt
next_over place.Globals (line.Instruction x) i h = tt
next_over place.Globals line.List i h = tt
next_over place.Globals (line.Lock l) i h = tt
next_over place.Functions (line.Version v) i h = tt
next_over place.Functions (line.Classes n) i h = tt
next_over place.Functions (line.Global c) i h = tt
next_over place.Functions (line.Entry e) i h = tt
next_over place.Functions (line.Function params regs) i h = h
next_over place.Functions (line.Instruction x) i h = tt
next_over place.Functions line.List i h = h
next_over place.Functions (line.Lock l) i h = tt
next_over (place.Body f) (line.Version v) i h = tt
next_over (place.Body f) (line.Classes n) i h = tt
next_over (place.Body f) (line.Global c) i h = tt
next_over (place.Body f) (line.Entry e) i h = tt
next_over (place.Body f) (line.Function params regs) i h = more_functions f i h
next_over (place.Body f) (line.Instruction x) i h = grows as_many as_many as_many (one_more i.code x) h
next_over (place.Body f) line.List i h = more_functions f i h
next_over (place.Body f) (line.Lock l) i h = tt
next_over (place.Locks locks) (line.Version v) i h = tt
next_over (place.Locks locks) (line.Classes n) i h = tt
next_over (place.Locks locks) (line.Global c) i h = tt
next_over (place.Locks locks) (line.Entry e) i h = tt
next_over (place.Locks locks) (line.Function params regs) i h = tt
next_over (place.Locks locks) (line.Instruction x) i h = tt
next_over (place.Locks locks) line.List i h = closes locks i h
next_over (place.Locks locks) (line.Lock l) i h = grows (one_more locks l) as_many as_many as_many h

meant_over : (p : Place) (i : Image) (m : Option Line) → Over p i → OnState (m >>= λ l. next p l i)
meant_over p i None h = tt
meant_over p i (Some m) h = next_over p m i h

words_over : (p : Place) (i : Image) (words : List (List ℕ)) → Over p i → OnState (step_words p i words)
words_over p i [] h = h
words_over p i (word ∷ words) h = meant_over p i (meaning_of (word ∷ words)) h

bytes_over : (p : Place) (i : Image) (l : List ℕ) → Over p i → OnState (step_line p i l)
unfolding step_line
bytes_over p i l h = words_over p i (words_of l) h

breaks : (i : Image) → Long i → IsOver i
unfolding is_short
breaks i long = by_limits (limits_of i.version) refl
  where
    counts : (limits : Limits) → limits.locks ≤ newest_locks → Long i → keeps_counts limits i ≡ false
    counts limits few (of_open many) = absurd (omega (arith, many))
    counts limits few (of_globals many) = rw (lt-leb (length i.globals) 1024 many) (rw (and-false _) refl)
    counts limits few (of_functions many) = rw (lt-leb (length i.functions) 256 many) (rw (and-false _) refl)
    counts limits few (of_instrs many) = rw (lt-leb (length i.code) 65535 many) (rw (and-false _) refl)
    counts limits few (of_lists many) = rw (lt-leb (length i.lists) 1024 many) (rw (and-false _) refl)
    counts limits few (of_locks some) = by_lists (list_all (keeps_list_limit limits) i.lists) refl
      where
        by_lists : (b : Bool) → list_all (keeps_list_limit limits) i.lists ≡ b → keeps_counts limits i ≡ false
        by_lists false e = rw e (and-false _)
        by_lists true e = let all : list_all is_short i.lists ≡ true = newest_lists limits few i.lists e in absurd cc

    by_limits : (o : Option Limits) → limits_of i.version ≡ o → keeps_limits i ≡ false
    by_limits None e = rw e refl
    by_limits (Some limits) e = rw e (counts limits (omega (arith, locks_set i.version limits e, few_locks i.version)) long)

ends_over : (p : Place) (i j : Image) (n : ℕ) → Over p i → or_line (finished p i) n ≡ Ok j → IsOver j
unfolding finished
ends_over place.Version i j n h e = absurd cc
ends_over place.Classes i j n h e = absurd cc
ends_over place.Globals i j n h e = absurd cc
ends_over place.Functions i j n h e = let same : i ≡ j = cc in rw (sym same) (breaks i h)
ends_over (place.Body f) i j n h e = let same : with_function i f ≡ j = cc in rw (sym same) (breaks (with_function i f) (more_functions f i h))
ends_over (place.Locks locks) i j n h e = let same : with_list i locks ≡ j = cc in rw (sym same) (breaks (with_list i locks) (closes locks i h))

stays_over : (n : ℕ) (p : Place) (i : Image) (ls : List (List ℕ)) (j : Image) → Over p i → image_from n p i ls ≡ Ok j → IsOver j
stays_over n p i [] j h e = ends_over p i j (n + 1) h e
stays_over n p i (l ∷ ls) j h e = by_step (step_line p i l) refl (bytes_over p i l h) (λ q k on rest. stays_over (n + 1) q k ls j on rest)
  where
    by_step : (o : Option State) → step_line p i l ≡ o → OnState o → ((q : Place) (k : Image) → Over q k → image_from (n + 1) q k ls ≡ Ok j → IsOver j) → IsOver j
    by_step None s on after = let none : Err (n + 1) ≡ Ok j = rw s at e in absurd cc
    by_step (Some x) s on after = after x.0 x.1 on (rw s at e)

too_many : (p : Place) (i : Image) → is_over p i ≡ true → Over p i
too_many p i is = elim (or_cases _ _ is) [
  | inr instrs ↦ of_instrs (ltb-true _ _ instrs)
  | inl other ↦ elim (or_cases _ _ other) [
    | inr functions ↦ of_functions (ltb-true _ _ functions)
    | inl other ↦ elim (or_cases _ _ other) [
      | inr globals ↦ of_globals (ltb-true _ _ globals)
      | inl other ↦ elim (or_cases _ _ other) [
        | inr lists ↦ of_lists (ltb-true _ _ lists)
        | inl locks ↦ of_open (ltb-true _ _ locks)
      ]
    ]
  ]
]

-- what follows cannot mend it
pub over_limit : (n : ℕ) (p : Place) (i : Image) (ls : List (List ℕ)) (j : Image) → is_over p i ≡ true → image_from n p i ls ≡ Ok j → IsOver j
over_limit n p i ls j is e = stays_over n p i ls j (too_many p i is) e

-- a line after which the state is over a limit
pub over_step : (n : ℕ) (p q : Place) (i k : Image) (l rest after text : List ℕ) (o : Option Place) (j : Image)
    → image_from n p i (lines_of rest) ≡ image_from 0 place.Version blank_image (lines_of text) → lines_of rest ≡ l ∷ lines_of after
    → paired o k ≡ step_line p i l → o ≡ Some q → is_over q k ≡ true → image_from 0 place.Version blank_image (lines_of text) ≡ Ok j → IsOver j
over_step n p q i k l rest after text o j same split taken next over e =
    let first : image_from n p i (lines_of rest) ≡ image_from n p i (l ∷ lines_of after) = ap (image_from n p i) split in
    let state : paired o k ≡ Some (q, k) = rw next refl in
    let step : step_line p i l ≡ Some (q, k) = sym taken ∙ state in
    let here : image_from n p i (l ∷ lines_of after) ≡ image_from (n + 1) q k (lines_of after) = rw step refl in
    over_limit (n + 1) q k (lines_of after) j over (sym here ∙ sym first ∙ same ∙ e)

-- the image that a text spells is over a limit, where any that is read is
pub spelled_over : (text : List ℕ) (i : Image) → ((j : Image) → image_from 0 place.Version blank_image (lines_of text) ≡ Ok j → IsOver j) → Spells text i → IsOver i
spelled_over text i over spelled = by_answer (image_from 0 place.Version blank_image (lines_of text)) refl
  where
    by_answer : (r : Result Image ℕ) → image_from 0 place.Version blank_image (lines_of text) ≡ r → IsOver i
    by_answer (Ok j) e = let same : j ≡ i = one_image text j i (image_spelled text j e) spelled in rw (sym same) (over j e)
    by_answer (Err n) e = absurd (not_both (lines_of text) i n spelled (bad_line (lines_of text) n e))
