-- The frames of a thread, which the code keeps with the nearest one last.
use Rattle.std.proofs.Common.{◌≡◌, ℕ, zero, suc, ◌+◌, ◌-◌, ◌<◌, ◌≤◌, ◌++◌, List, [], ◌∷◌, None, Some, length, take, set, get_or, slice_get, reverse, replicate, ap, sym, subst, ◌∙◌, arith}
use Rattle.std.proofs.lemmas.Option.{slice_get-get_or, slice_get_past}
use Rattle.std.proofs.lemmas.List.{get_or-reverse, get_or-take, length-reverse, length-take-le, reverse-append, append_assoc, replicate_more, length-set, take-set, take_more_set, take-append-le}
use Rattle.asl_code.specs.declared.value.Value.{Value}
use Rattle.asl_machine.specs.State.{Frame, Activity}

-- the frame that came in place of the first that is no longer below is the nearest below
pub nearest_is : (frames : List Frame) (k : ℕ) (begun waiting : Frame) → k < length frames → reverse (take (k + 1) (set (set frames k begun) k waiting)) ≡ waiting ∷ reverse (take k frames)
nearest_is frames k begun waiting lt =
    let there : k < length (set frames k begun) = subst (λ n. k < n) (sym (length-set frames k begun)) lt in
    ap reverse (take_more_set (set frames k begun) k waiting there ∙ ap (λ (xs : List Frame). xs ++ waiting ∷ []) (take-set frames k begun))
    ∙ reverse-append (take k frames) (waiting ∷ [])

-- a frame after those that are below is none of them
pub same_below : (frames more : List Frame) (ended : Frame) (k : ℕ) → k ≤ length frames → more ≡ frames ++ ended ∷ [] → reverse (take k more) ≡ reverse (take k frames)
same_below frames more ended k le e = ap (λ (xs : List Frame). reverse (take k xs)) e ∙ ap reverse (take-append-le k frames (ended ∷ []) le)

abbrev pub act : ℕ → Frame → List Frame → List ℕ → Activity
act d top below fresh = record { depth = d; top = top; below = below; fresh = fresh }

-- what threads are at is the same where its parts are
pub same_activity : (d : ℕ) (a b : Frame) (xs ys : List Frame) (fresh : List ℕ) → a ≡ b → xs ≡ ys → act d a xs fresh ≡ act d b ys fresh
same_activity d a b xs ys fresh p q = λ i. record { depth = d; top = p i; below = q i; fresh = fresh }

-- one more register after the arguments
pub one_filled : (arguments : List Value) (k n : ℕ) (z : Value) → k + 1 ≡ n → (arguments ++ replicate k z) ++ z ∷ [] ≡ arguments ++ replicate n z
one_filled arguments k n z e =
    append_assoc arguments (replicate k z) (z ∷ []) ∙ ap (λ (xs : List Value). arguments ++ xs) (replicate_more k z ∙ ap (λ (m : ℕ). replicate m z) e)

-- a frame below by its number: 1 is the nearest, which comes last
pub frame_below : (top : Frame) (frames : List Frame) (below index : ℕ) (d : Frame) → 0 < index → index ≤ below → below ≤ length frames
    → slice_get (top ∷ reverse (take below frames)) index ≡ Some (get_or frames (below - index) d)
frame_below top frames below zero d some within few = absurd (omega (arith, some))
frame_below top frames below (suc j) d some within few =
    let size : length (take below frames) ≡ below = length-take-le below frames few in
    let turned : length (reverse (take below frames)) ≡ length (take below frames) = length-reverse (take below frames) in
    slice_get-get_or (reverse (take below frames)) j d (omega (arith, within, size, turned))
    ∙ ap (λ (f : Frame). Some f) (get_or-reverse (take below frames) j d (omega (arith, within, size))
    ∙ get_or-take below frames (length (take below frames) - 1 - j) d (omega (arith, within, size, some))
    ∙ ap (λ (n : ℕ). get_or frames n d) (let e : length (take below frames) - 1 - j ≡ below - suc j = omega (arith, within, size) in e))

-- past the frames below there is none
pub no_frame_below : (top : Frame) (frames : List Frame) (below index : ℕ) → below < index → below ≤ length frames → slice_get (top ∷ reverse (take below frames)) index ≡ None
no_frame_below top frames below index past few =
    let size : length (take below frames) ≡ below = length-take-le below frames few in
    let turned : length (reverse (take below frames)) ≡ length (take below frames) = length-reverse (take below frames) in
    slice_get_past (top ∷ reverse (take below frames)) index (omega (arith, past, size, turned))
