-- The bodies of functions, one more at a time.
use Rattle.std.proofs.Common.{◌≡◌, ℕ, ◌+◌, ◌<◌, List, [], ◌∷◌, ◌++◌, length, take, drop, min, get_or, refl, sym, ap, ◌∙◌}
use Rattle.std.proofs.lemmas.List.{take_more, drop-drop, take_min, drop_min}
use Rattle.std.proofs.lemmas.List.Sums.{sum_by_push, sum_by-cons}
use Rattle.asl_code.specs.declared.image.Function.{Function}
use Rattle.asl_code.specs.declared.instr.Instr.{Instr}
use Rattle.asl_code.specs.Bodies.{total_len}
use Rattle.asl_assembler.specs.Text.{Body}
use Rattle.asl_assembler.specs.Canonical.{bodies}
use Rattle.asl_assembler.specs.Writing.{Writes, WritesEach, FitsBodyLines, body_text}
use Rattle.asl_assembler.proofs.Writes.{one_written}

-- the function with the body that these instructions begin with
abbrev pub body_at : Function → List Instr → Body
body_at f code = record { params = f.params; regs = f.regs; code = take f.len code }

bodies_append : (fs : List Function) (g : Function) (code : List Instr) → bodies (fs ++ g ∷ []) code ≡ bodies fs code ++ body_at g (drop (total_len fs) code) ∷ []
bodies_append [] g code = refl
bodies_append (f ∷ fs) g code =
    let sum : f.len + total_len fs ≡ total_len (f ∷ fs) = sym (sum_by-cons (λ (h : Function). h.len) f fs) in
    let rest : drop (total_len fs) (drop f.len code) ≡ drop (total_len (f ∷ fs)) code = drop-drop (total_len fs) f.len code ∙ ap (λ n. drop n code) sum in
    ap (λ (bs : List Body). body_at f code ∷ bs) (bodies_append fs g (drop f.len code)
    ∙ ap (λ (left : List Instr). bodies fs (drop f.len code) ++ body_at g left ∷ []) rest)

pub bodies_more : (fs : List Function) (i : ℕ) (d : Function) (code : List Instr) → i < length fs → bodies (take (i + 1) fs) code ≡ bodies (take i fs) code ++ body_at (get_or fs i d) (drop (total_len (take i fs)) code) ∷ []
bodies_more fs i d code lt = rw (take_more fs i d lt) (bodies_append (take i fs) (get_or fs i d) code)

len_append : (fs : List Function) (g : Function) (code : List Instr) → drop (total_len (fs ++ g ∷ [])) code ≡ drop g.len (drop (total_len fs) code)
len_append fs g code = ap (λ n. drop n code) (sum_by_push (λ (f : Function). f.len) fs g) ∙ sym (drop-drop g.len (total_len fs) code)

pub rest_more : (fs : List Function) (i : ℕ) (d : Function) (code : List Instr) → i < length fs → drop (total_len (take (i + 1) fs)) code ≡ drop (get_or fs i d).len (drop (total_len (take i fs)) code)
rest_more fs i d code lt = rw (take_more fs i d lt) (len_append (take i fs) (get_or fs i d) code)

-- The step of a loop that writes a function, and of the rest of the code takes its body off.
pub functions_more : (old mid new : List ℕ) (fs : List Function) (i : ℕ) (d : Function) (code rest body : List Instr) → i < length fs
    → rest ≡ drop (total_len (take i fs)) code → body ≡ take (min (get_or fs i d).len (length rest)) rest
    → WritesEach Body FitsBodyLines body_text old mid (bodies (take i fs) code)
    → Writes Body FitsBodyLines body_text mid new (record { params = (get_or fs i d).params; regs = (get_or fs i d).regs; code = body })
    → WritesEach Body FitsBodyLines body_text old new (bodies (take (i + 1) fs) code)
functions_more old mid new fs i d code rest body lt left cut w v =
    let f = get_or fs i d in
    let whole : body ≡ take f.len (drop (total_len (take i fs)) code) = cut ∙ take_min f.len rest ∙ ap (λ (r : List Instr). take f.len r) left in
    rw (bodies_more fs i d code lt) (one_written Body FitsBodyLines body_text old mid new (bodies (take i fs) code) (body_at f (drop (total_len (take i fs)) code)) w (rw whole at v))

pub rest_left : (fs : List Function) (i : ℕ) (d : Function) (code rest after : List Instr) → i < length fs
    → rest ≡ drop (total_len (take i fs)) code → after ≡ drop (min (get_or fs i d).len (length rest)) rest
    → after ≡ drop (total_len (take (i + 1) fs)) code
rest_left fs i d code rest after lt left cut =
    let f = get_or fs i d in
    cut ∙ drop_min f.len rest ∙ ap (λ (r : List Instr). drop f.len r) left ∙ sym (rest_more fs i d code lt)
