-- What the reader answers for a text is the image that the text spells, or its first bad line.
use Rattle.std.proofs.Common.{◌≡◌, ℕ, ◌+◌, ◌-◌, ◌<◌, ◌≤◌, ◌⊎◌, List, [], ◌∷◌, ◌++◌, length, take, Option, Some, None, Result, Ok, Err, refl, sym, ap, ◌∙◌, inl, inr, suc, arith, drop, append_assoc}
use Rattle.std.specs.Prelude.{codes}
use Rattle.std.proofs.lemmas.List.{take_all, take-take, take-append-drop}
use Rattle.std.proofs.lemmas.Bool.{cases_lt}
use Rattle.asl_code.specs.Versions.{limits_of}
use Rattle.asl_code.specs.declared.image.Image.{Image}
use Rattle.asl_assembler.specs.declared.line.Line.{Line}
use Rattle.asl_assembler.specs.declared.image_draft.Place.{Place}
use Rattle.asl_assembler.specs.declared.image_draft.Place.TheVariants as place
use Rattle.asl_assembler.specs.Words.{lines_of, words_of}
use Rattle.asl_assembler.specs.Text.{AreLines, worded, unless_blank, lines_in, LinesSpell, Spells, CanBegin, IsBadLine}
use Rattle.asl_assembler.specs.Reading.{◌>>=◌, State, next, finished, step_words, step_line, or_line, and_then, image_from, blank_image, meaning_of, keyword_of, line_of, number_of, decimal_of}
use Rattle.asl_assembler.proofs.Options.{bound}
use Rattle.asl_assembler.proofs.Meanings.{meaning_reads, is_meaning}
use Rattle.asl_assembler.proofs.Listings.{complete, is_listing, listing_taken}

-- The state after lines of bytes, and the image that they leave.
abbrev pub walk : List (List ℕ) → State → Option State
walk [] s = Some s
walk (l ∷ ls) s = step_line s.0 s.1 l >>= λ t. walk ls t

abbrev pub leaves : List (List ℕ) → State → Option Image
leaves [] s = finished s.0 s.1
leaves (l ∷ ls) s = step_line s.0 s.1 l >>= λ t. leaves ls t

joined : {A B C : Type 0} (o : Option A) (f : A → Option C) (g : A → Option B) (h : B → Option C) → ((x : A) → f x ≡ (g x >>= h)) → (o >>= f) ≡ ((o >>= g) >>= h)
joined None f g h e = refl
joined (Some x) f g h e = e x

leaves_append : (a b : List (List ℕ)) (s : State) → leaves (a ++ b) s ≡ (walk a s >>= λ t. leaves b t)
leaves_append [] b s = refl
leaves_append (l ∷ a) b s = joined (step_line s.0 s.1 l) (λ t. leaves (a ++ b) t) (λ t. walk a t) (λ t. leaves b t) (λ t. leaves_append a b t)

leaves_end : (ls : List (List ℕ)) (s : State) → leaves ls s ≡ (walk ls s >>= λ t. finished t.0 t.1)
leaves_end [] s = refl
leaves_end (l ∷ ls) s = joined (step_line s.0 s.1 l) (λ t. leaves ls t) (λ t. walk ls t) (λ t. finished t.0 t.1) (λ t. leaves_end ls t)

-- Lines of bytes that are these lines leave what these leave.
same_after : {A B : Type 0} (o : Option A) (f g : A → Option B) → ((x : A) → f x ≡ g x) → (o >>= f) ≡ (o >>= g)
same_after None f g h = refl
same_after (Some x) f g h = h x

line_leaves : (words : List (List ℕ)) (ls : List (List ℕ)) → ((ms : List Line) (s : State) → AreLines ms (worded ls) → leaves ls s ≡ complete ms s)
    → (ms : List Line) (s : State) → AreLines ms (unless_blank words (worded ls)) → (step_words s.0 s.1 words >>= λ t. leaves ls t) ≡ complete ms s
line_leaves [] ls rest ms s h = rest ms s h
line_leaves (word ∷ words) ls rest [] s h = absurd h
line_leaves (word ∷ words) ls rest (m ∷ ms) s h =
    rw (meaning_reads m (word ∷ words) h.0) (same_after (next s.0 m s.1) (λ t. leaves ls t) (λ t. complete ms t) (λ t. rest ms t h.1))

lines_leave : (ls : List (List ℕ)) (ms : List Line) (s : State) → AreLines ms (worded ls) → leaves ls s ≡ complete ms s
unfolding step_line
lines_leave [] [] s h = refl
lines_leave [] (m ∷ ms) s h = absurd h
lines_leave (l ∷ ls) ms s h = line_leaves (words_of l) ls (lines_leave ls) ms s h

-- And where they leave an image, they are such lines.
pub record Meant (words : List (List (List ℕ))) (s : State) (j : Image) : Type 0 where
  pub lines : List Line
  pub spelled : AreLines lines words
  pub image : complete lines s ≡ Some j

meant_line : (words : List (List ℕ)) (ls : List (List ℕ)) → ((s : State) (j : Image) → leaves ls s ≡ Some j → Meant (worded ls) s j)
    → (s : State) (j : Image) → (step_words s.0 s.1 words >>= λ t. leaves ls t) ≡ Some j → Meant (unless_blank words (worded ls)) s j
meant_line [] ls rest s j e = rest s j e
meant_line (word ∷ words) ls rest s j e =
    let b = bound (step_words s.0 s.1 (word ∷ words)) (λ t. leaves ls t) j e in
    let m = bound (meaning_of (word ∷ words)) (λ m. next s.0 m s.1) b.0 b.1 in
    let h = rest b.0 j b.2 in
    record { lines = m.0 ∷ h.lines; spelled = (is_meaning (word ∷ words) m.0 m.1, h.spelled); image = rw m.2 h.image }

meant : (ls : List (List ℕ)) (s : State) (j : Image) → leaves ls s ≡ Some j → Meant (worded ls) s j
unfolding step_line
meant [] s j e = record { lines = []; spelled = tt; image = e }
meant (l ∷ ls) s j e = meant_line (words_of l) ls (meant ls) s j e

abbrev pub start : State
start = (place.Version, blank_image)

-- The lines spell what they leave.
pub spells_leaves : (ls : List (List ℕ)) (j : Image) → LinesSpell ls j → leaves ls start ≡ Some j
spells_leaves ls j h = lines_leave ls (lines_in h.0) start h.1 ∙ listing_taken h.0 ∙ ap Some (sym h.2)

pub leaves_spells : (ls : List (List ℕ)) (j : Image) → leaves ls start ≡ Some j → LinesSpell ls j
leaves_spells ls j e =
    let m = meant ls start j e in
    let l = is_listing m.lines j m.image in
    (l.listing, rw (← l.lines) m.spelled, l.image)

pub one_image : (text : List ℕ) (i j : Image) → Spells text i → Spells text j → i ≡ j
one_image text i j h k =
    let a = spells_leaves (lines_of text) i h in
    let b = spells_leaves (lines_of text) j k in
    cc

-- From each state a text can continue to its end.
pub record CanFinish (s : State) : Type 0 where
  pub more : List (List ℕ)
  pub image : Image
  pub leaves : leaves more s ≡ Some image

can_finish : (p : Place) (i : Image) → CanFinish (p, i)
unfolding next finished step_line meaning_of keyword_of line_of number_of decimal_of limits_of
can_finish place.Version i = record { more = codes "version 1" ∷ codes "classes 0" ∷ codes "entry 0" ∷ []; image = record (record (record i { version = 1 }) { classes = 0 }) { start = 0 }; leaves = refl }
can_finish place.Classes i = record { more = codes "classes 0" ∷ codes "entry 0" ∷ []; image = record (record i { classes = 0 }) { start = 0 }; leaves = refl }
can_finish place.Globals i = record { more = codes "entry 0" ∷ []; image = record i { start = 0 }; leaves = refl }
can_finish place.Functions i = record { more = []; image = i; leaves = refl }
can_finish (place.Body f) i = record { more = []; image = _; leaves = refl }
can_finish (place.Locks locks) i = record { more = []; image = _; leaves = refl }

pub can_begin : (ls : List (List ℕ)) (s : State) → walk ls start ≡ Some s → CanBegin ls
can_begin ls s e =
    let f = can_finish s.0 s.1 in
    let whole : leaves (ls ++ f.more) start ≡ Some f.image = leaves_append ls f.more start ∙ rw e f.leaves in
    (f.more, f.image, leaves_spells (ls ++ f.more) f.image whole)

pub cannot_begin : (ls : List (List ℕ)) → walk ls start ≡ None → CanBegin ls → ⊥
cannot_begin ls e h =
    let whole = spells_leaves (ls ++ h.0) h.1 h.2 in
    let none : leaves (ls ++ h.0) start ≡ None = leaves_append ls h.0 start ∙ rw e refl in
    absurd (cc)

-- The answer is an image.
answered : {A B : Type 0} (o : Option A) (n : ℕ) (f : A → Result B ℕ) (y : B) → and_then (or_line o n) f ≡ Ok y → (x : A) × (o ≡ Some x) × (f x ≡ Ok y)
answered None n f y e = absurd (cc)
answered (Some x) n f y e = (x, refl, e)

ended : {A : Type 0} (o : Option A) (n : ℕ) (y : A) → or_line o n ≡ Ok y → o ≡ Some y
ended None n y e = absurd (cc)
ended (Some x) n y e = cc

pub image_left : (ls : List (List ℕ)) (n : ℕ) (s : State) (j : Image) → image_from n s.0 s.1 ls ≡ Ok j → leaves ls s ≡ Some j
image_left [] n s j e = ended (finished s.0 s.1) (n + 1) j e
image_left (l ∷ ls) n s j e =
    let a = answered (step_line s.0 s.1 l) (n + 1) (λ t. image_from (n + 1) t.0 t.1 ls) j e in
    rw a.1 (image_left ls (n + 1) a.0 j a.2)

-- The answer is a line.
pub record Stops (ls : List (List ℕ)) (s : State) (n k : ℕ) : Type 0 where
  pub good : ℕ
  pub number : k ≡ n + suc good
  pub state : State
  pub before : walk (take good ls) s ≡ Some state
  pub here : ((good < length ls) × (walk (take (suc good) ls) s ≡ None)) ⊎ ((good ≡ length ls) × (finished state.0 state.1 ≡ None))

refused : {A B : Type 0} (o : Option A) (n : ℕ) (f : A → Result B ℕ) (k : ℕ) → and_then (or_line o n) f ≡ Err k → ((o ≡ None) × (k ≡ n)) ⊎ ((x : A) × (o ≡ Some x) × (f x ≡ Err k))
refused None n f k e = inl (refl, cc)
refused (Some x) n f k e = inr (x, refl, e)

missing : {A : Type 0} (o : Option A) (n k : ℕ) → or_line o n ≡ Err k → (o ≡ None) × (k ≡ n)
missing None n k e = (refl, cc)
missing (Some x) n k e = absurd (cc)

stops_later : (l : List ℕ) (ls : List (List ℕ)) (n k : ℕ) (s t : State) → step_line s.0 s.1 l ≡ Some t → Stops ls t (n + 1) k → Stops (l ∷ ls) s n k
stops_later l ls n k s t e r =
    record {
      good = suc r.good;
      number = omega (arith, r.number);
      state = r.state;
      before = rw e r.before;
      here = elim r.here [ inl g ↦ inl (omega (arith, g.0), rw e g.1) | inr g ↦ inr (ap suc g.0, g.1) ];
    }

stops : (ls : List (List ℕ)) (n k : ℕ) (s : State) → image_from n s.0 s.1 ls ≡ Err k → Stops ls s n k
stops [] n k s e =
    let m = missing (finished s.0 s.1) (n + 1) k e in
    record { good = 0; number = omega (arith, m.1); state = s; before = refl; here = inr (refl, m.0) }
stops (l ∷ ls) n k s e =
    elim (refused (step_line s.0 s.1 l) (n + 1) (λ t. image_from (n + 1) t.0 t.1 ls) k e) [
      | inl h ↦ record { good = 0; number = omega (arith, h.1); state = s; before = refl; here = inl (omega arith, rw h.0 refl) }
      | inr h ↦ stops_later l ls n k s h.0 h.1 (stops ls (n + 1) k h.0 h.2)
    ]

no_image : (ls : List (List ℕ)) (s : State) → walk ls start ≡ Some s → finished s.0 s.1 ≡ None → (j : Image) → LinesSpell ls j → ⊥
no_image ls s e none j h =
    let whole = spells_leaves ls j h in
    let over : leaves ls start ≡ None = leaves_end ls start ∙ rw e none in
    absurd (cc)

pub bad_line : (ls : List (List ℕ)) (k : ℕ) → image_from 0 place.Version blank_image ls ≡ Err k → IsBadLine ls k
bad_line ls k e =
    let r = stops ls 0 k start e in
    let same : k ≡ suc r.good = omega (arith, r.number) in
    let prev : k - 1 ≡ r.good = omega arith in
    record {
      counted = omega arith;
      before = rw prev (can_begin (take r.good ls) r.state r.before);
      here = elim r.here [
        | inl g ↦ inl (omega (arith, g.0), rw same (cannot_begin (take (suc r.good) ls) g.1))
        | inr g ↦ (let all = take_all r.good ls (omega (arith, g.0)) in
            inr (omega (arith, g.0), no_image ls r.state (rw all at r.before) g.1))
      ];
    }

-- The front of lines with which a text can begin is one too.
begins_front : (ls : List (List ℕ)) (n m : ℕ) → n ≤ m → CanBegin (take m ls) → CanBegin (take n ls)
begins_front ls n m l h =
    let rest = drop n (take m ls) in
    let cut : take n ls ++ rest ≡ take m ls = rw (take-take n m ls l) at (take-append-drop n (take m ls)) in
    let whole : take n ls ++ (rest ++ h.0) ≡ take m ls ++ h.0 = sym (append_assoc (take n ls) rest h.0) ∙ ap (λ x. x ++ h.0) cut in
    (rest ++ h.0, h.1, rw whole h.2)

pub not_both : (ls : List (List ℕ)) (i : Image) (n : ℕ) → LinesSpell ls i → IsBadLine ls n → ⊥
not_both ls i n h b =
    let spelled : LinesSpell (take n ls ++ drop n ls) i = rw (take-append-drop n ls) h in
    elim b.here [ inl g ↦ g.1 (drop n ls, i, spelled) | inr g ↦ g.1 i h ]

not_earlier : (ls : List (List ℕ)) (n m : ℕ) → IsBadLine ls n → IsBadLine ls m → n < m → ⊥
not_earlier ls n m a b l =
    elim a.here [
      | inl g ↦ g.1 (begins_front ls n (m - 1) (omega arith) b.before)
      | inr g ↦ elim b.here [ inl k ↦ absurd (omega (arith, g.0, k.0)) | inr k ↦ absurd (omega (arith, g.0, k.0)) ]
    ]

pub one_line : (ls : List (List ℕ)) (n m : ℕ) → IsBadLine ls n → IsBadLine ls m → n ≡ m
one_line ls n m a b =
    elim (cases_lt n m) [
      | inl l ↦ absurd (not_earlier ls n m a b l)
      | inr l ↦ elim (cases_lt m n) [ inl k ↦ absurd (not_earlier ls m n b a k) | inr k ↦ omega arith ]
    ]

-- The text spells the image of the answer.
pub image_spelled : (text : List ℕ) (i : Image) → image_from 0 place.Version blank_image (lines_of text) ≡ Ok i → Spells text i
image_spelled text i e = leaves_spells (lines_of text) i (image_left (lines_of text) 0 start i e)
