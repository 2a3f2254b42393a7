-- The texts of functions, one more at a time: each takes its body from the rest of the code.
use Rattle.std.proofs.Common.{◌≡◌, ℕ, ◌+◌, ◌<◌, List, ◌++◌, drop, take, min, length, get_or, refl, sym, ap, ◌∙◌, length-take}
use Rattle.std.proofs.lemmas.List.{take_min, drop_min}
use Rattle.asl_code.specs.declared.image.Function.{Function}
use Rattle.asl_code.specs.declared.image.Image.{Image}
use Rattle.asl_code.specs.declared.instr.Instr.{Instr}
use Rattle.asl_parallel_c.specs.declared.options.Options.{Options}
use Rattle.asl_parallel_c.specs.Functions.{function_text, functions_from}
use Rattle.asl_parallel_c.proofs.Rows.{item_at}

pub function_done : (image : Image) (options : Options) (all mid new : List ℕ) (fs : List Function) (i : ℕ) (d : Function) (place len : ℕ) (rest body after : List Instr)
    → i < length fs → len ≡ min (get_or fs i d).len (length rest) → body ≡ take len rest → after ≡ drop len rest
    → mid ++ functions_from image options i (drop i fs) place rest ≡ all → new ≡ mid ++ function_text image options i (get_or fs i d) place body
    → new ++ functions_from image options (i + 1) (drop (i + 1) fs) (place + len) after ≡ all
function_done image options all mid new fs i d place len rest body after lt is cut left h w =
    let f : Function = get_or fs i d in
    let whole : body ≡ take f.len rest = cut ∙ ap (λ (n : ℕ). take n rest) is ∙ take_min f.len rest in
    let behind : after ≡ drop f.len rest = left ∙ ap (λ (n : ℕ). drop n rest) is ∙ drop_min f.len rest in
    let far : len ≡ length (take f.len rest) = is ∙ sym (length-take f.len rest) in
    ap (λ (r : List Instr). new ++ functions_from image options (i + 1) (drop (i + 1) fs) (place + len) r) behind
    ∙ ap (λ (n : ℕ). new ++ functions_from image options (i + 1) (drop (i + 1) fs) (place + n) (drop f.len rest)) far
    ∙ item_at (λ (l : List Function). functions_from image options i l place rest)
    (λ (l : List Function). functions_from image options (i + 1) l (place + length (take f.len rest)) (drop f.len rest))
    (function_text image options i f place (take f.len rest)) all mid new fs i d lt h (w ∙ ap (λ (b : List Instr). mid ++ function_text image options i f place b) whole) refl
