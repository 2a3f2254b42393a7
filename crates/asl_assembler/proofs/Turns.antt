-- What the order of lines alone tells of the image that a text spells.
use Rattle.std.proofs.Common.{◌≡◌, ℕ, ◌+◌, true, false, List, [], ◌∷◌, Option, Some, None, Ok, Err, refl, sym, ap, ◌∙◌}
use Rattle.asl_code.specs.declared.image.Image.{Image}
use Rattle.asl_assembler.specs.declared.line.Line.{Line}
use Rattle.asl_assembler.specs.declared.line.Line.TheVariants as line
use Rattle.asl_assembler.specs.declared.image_draft.Place.{Place}
use Rattle.asl_assembler.specs.declared.image_draft.Place.TheVariants as place
use Rattle.asl_assembler.specs.declared.line_order.Turn.{Turn}
use Rattle.asl_assembler.specs.declared.line_order.Turn.TheVariants as turn
use Rattle.asl_assembler.specs.Words.{lines_of, words_of}
use Rattle.asl_assembler.specs.Reading.{◌>>=◌, State, next, finished, meaning_of, step_words, step_line, or_line, image_from, blank_image, turn_after, turn_words, turn_line, may_end}

-- which line comes next at a place, without what is open there
abbrev pub turn_of : Place → Turn
turn_of place.Version = turn.Version
turn_of place.Classes = turn.Classes
turn_of place.Globals = turn.Globals
turn_of place.Functions = turn.Functions
turn_of (place.Body f) = turn.Body
turn_of (place.Locks locks) = turn.Locks

-- which line comes after a state, if there is one
abbrev turns : Option State → Option Turn
turns None = None
turns (Some s) = Some (turn_of s.0)

line_turn : (p : Place) (m : Line) (i : Image) → turns (next p m i) ≡ turn_after (turn_of p) m
unfolding next turn_after
line_turn place.Version (line.Version n) i = refl
line_turn place.Version (line.Classes n) i = refl
line_turn place.Version (line.Global c) i = refl
line_turn place.Version (line.Entry f) i = refl
line_turn place.Version (line.Function params regs) i = refl
line_turn place.Version (line.Instruction x) i = refl
line_turn place.Version line.List i = refl
line_turn place.Version (line.Lock l) i = refl
line_turn place.Classes (line.Version n) i = refl
line_turn place.Classes (line.Classes n) i = refl
line_turn place.Classes (line.Global c) i = refl
line_turn place.Classes (line.Entry f) i = refl
line_turn place.Classes (line.Function params regs) i = refl
line_turn place.Classes (line.Instruction x) i = refl
line_turn place.Classes line.List i = refl
line_turn place.Classes (line.Lock l) i = refl
line_turn place.Globals (line.Version n) i = refl
line_turn place.Globals (line.Classes n) i = refl
line_turn place.Globals (line.Global c) i = refl
line_turn place.Globals (line.Entry f) i = refl
line_turn place.Globals (line.Function params regs) i = refl
line_turn place.Globals (line.Instruction x) i = refl
line_turn place.Globals line.List i = refl
line_turn place.Globals (line.Lock l) i = refl
line_turn place.Functions (line.Version n) i = refl
line_turn place.Functions (line.Classes n) i = refl
line_turn place.Functions (line.Global c) i = refl
line_turn place.Functions (line.Entry f) i = refl
line_turn place.Functions (line.Function params regs) i = refl
line_turn place.Functions (line.Instruction x) i = refl
line_turn place.Functions line.List i = refl
line_turn place.Functions (line.Lock l) i = refl
line_turn (place.Body f) (line.Version n) i = refl
line_turn (place.Body f) (line.Classes n) i = refl
line_turn (place.Body f) (line.Global c) i = refl
line_turn (place.Body f) (line.Entry e) i = refl
line_turn (place.Body f) (line.Function params regs) i = refl
line_turn (place.Body f) (line.Instruction x) i = refl
line_turn (place.Body f) line.List i = refl
line_turn (place.Body f) (line.Lock l) i = refl
line_turn (place.Locks locks) (line.Version n) i = refl
line_turn (place.Locks locks) (line.Classes n) i = refl
line_turn (place.Locks locks) (line.Global c) i = refl
line_turn (place.Locks locks) (line.Entry f) i = refl
line_turn (place.Locks locks) (line.Function params regs) i = refl
line_turn (place.Locks locks) (line.Instruction x) i = refl
line_turn (place.Locks locks) line.List i = refl
line_turn (place.Locks locks) (line.Lock l) i = refl

meant_turn : (p : Place) (i : Image) (m : Option Line) → turns (m >>= λ l. next p l i) ≡ (m >>= turn_after (turn_of p))
meant_turn p i None = refl
meant_turn p i (Some m) = line_turn p m i

words_turn : (p : Place) (i : Image) (words : List (List ℕ)) → turns (step_words p i words) ≡ turn_words (turn_of p) words
words_turn p i [] = refl
words_turn p i (word ∷ words) = meant_turn p i (meaning_of (word ∷ words))

bytes_turn : (p : Place) (i : Image) (l : List ℕ) → turns (step_line p i l) ≡ turn_line (turn_of p) l
unfolding step_line turn_line
bytes_turn p i l = words_turn p i (words_of l)

-- after so many lines a text is at a place where such a line comes next
pub record AtTurn (t : Turn) (n : ℕ) (rest text : List ℕ) : Type 0 where
  pub at : Place
  pub so_far : Image
  pub turn : turn_of at ≡ t
  pub same : image_from n at so_far (lines_of rest) ≡ image_from 0 place.Version blank_image (lines_of text)

-- the line of a text continues to another
pub goes_on : (t u : Turn) (n : ℕ) (l rest after text : List ℕ) → AtTurn t n rest text → lines_of rest ≡ l ∷ lines_of after → turn_line t l ≡ Some u → AtTurn u (n + 1) after text
goes_on t u n l rest after text a split e = by_step (step_line a.at a.so_far l) refl
  where
    by_step : (o : Option State) → step_line a.at a.so_far l ≡ o → AtTurn u (n + 1) after text
    by_step None s =
        let none : turns (step_line a.at a.so_far l) ≡ Some u = bytes_turn a.at a.so_far l ∙ rw a.turn e in
        let both : turns None ≡ Some u = rw s at none in
        absurd cc
    by_step (Some x) s =
        let some : turns (step_line a.at a.so_far l) ≡ Some u = bytes_turn a.at a.so_far l ∙ rw a.turn e in
        let both : turns (Some x) ≡ Some u = rw s at some in
        let step : image_from n a.at a.so_far (l ∷ lines_of after) ≡ image_from (n + 1) x.0 x.1 (lines_of after) = rw s refl in
        let first : image_from n a.at a.so_far (lines_of rest) ≡ image_from n a.at a.so_far (l ∷ lines_of after) = ap (image_from n a.at a.so_far) split in
        record { at = x.0; so_far = x.1; turn = cc; same = sym step ∙ sym first ∙ a.same }

-- or is wrong
pub stops : (t : Turn) (n : ℕ) (l rest after text : List ℕ) → AtTurn t n rest text → lines_of rest ≡ l ∷ lines_of after → turn_line t l ≡ None
    → image_from 0 place.Version blank_image (lines_of text) ≡ Err (n + 1)
stops t n l rest after text a split e = by_step (step_line a.at a.so_far l) refl
  where
    by_step : (o : Option State) → step_line a.at a.so_far l ≡ o → image_from 0 place.Version blank_image (lines_of text) ≡ Err (n + 1)
    by_step None s =
        let step : image_from n a.at a.so_far (l ∷ lines_of after) ≡ Err (n + 1) = rw s refl in
        let first : image_from n a.at a.so_far (lines_of rest) ≡ image_from n a.at a.so_far (l ∷ lines_of after) = ap (image_from n a.at a.so_far) split in
        sym a.same ∙ first ∙ step
    by_step (Some x) s =
        let none : turns (step_line a.at a.so_far l) ≡ None = bytes_turn a.at a.so_far l ∙ rw a.turn e in
        let both : turns (Some x) ≡ None = rw s at none in
        absurd cc

-- where a text may end
can_end : (p : Place) (i : Image) (n : ℕ) → may_end (turn_of p) ≡ true → (j : Image) × (or_line (finished p i) (n + 1) ≡ Ok j)
unfolding finished
can_end place.Version i n e = absurd cc
can_end place.Classes i n e = absurd cc
can_end place.Globals i n e = absurd cc
can_end place.Functions i n e = (_, refl)
can_end (place.Body f) i n e = (_, refl)
can_end (place.Locks locks) i n e = (_, refl)

cannot_end : (p : Place) (i : Image) (n : ℕ) → may_end (turn_of p) ≡ false → or_line (finished p i) (n + 1) ≡ Err (n + 1)
unfolding finished
cannot_end place.Version i n e = refl
cannot_end place.Classes i n e = refl
cannot_end place.Globals i n e = refl
cannot_end place.Functions i n e = absurd cc
cannot_end (place.Body f) i n e = absurd cc
cannot_end (place.Locks locks) i n e = absurd cc

pub ends : (t : Turn) (n : ℕ) (rest text : List ℕ) → AtTurn t n rest text → rest ≡ [] → may_end t ≡ true → (j : Image) × (image_from 0 place.Version blank_image (lines_of text) ≡ Ok j)
ends t n rest text a none e =
    let end = can_end a.at a.so_far n (rw a.turn e) in
    let last : image_from n a.at a.so_far (lines_of rest) ≡ Ok end.0 = rw none end.1 in
    (end.0, sym a.same ∙ last)

pub too_early : (t : Turn) (n : ℕ) (rest text : List ℕ) → AtTurn t n rest text → rest ≡ [] → may_end t ≡ false → image_from 0 place.Version blank_image (lines_of text) ≡ Err (n + 1)
too_early t n rest text a none e =
    let end = cannot_end a.at a.so_far n (rw a.turn e) in
    let last : image_from n a.at a.so_far (lines_of rest) ≡ Err (n + 1) = rw none end in
    sym a.same ∙ last
