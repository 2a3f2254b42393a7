-- Calls of functions, and which functions are reached.
use Rattle.std.proofs.Common.{◌≡◌, ℕ, ◌<◌, Bool, List, length, get_or, Some, slice_get, refl, sym, ap, subst, ◌∙◌}
use Rattle.std.proofs.lemmas.Option.{slice_get-get_or}
use Rattle.asl_code.specs.declared.instr.Instr.{Instr}
use Rattle.asl_code.specs.declared.instr.Instr.TheVariants as instr
use Rattle.asl_lower.specs.Lowered.{Lowered}
use Rattle.asl_lower.specs.Reach.{Anywhere, IsSuchCall, IsMarked, AreFollowed, Reached, First, Follow}
use Rattle.asl_map.specs.Reached.{IsReached, Main, Called}

-- an instruction that is no call calls nothing
pub no_call : (l : Lowered) (pc : ℕ) (i : Instr) → slice_get l.code pc ≡ Some i → ((to first callee : ℕ) → ¬ (i ≡ instr.Call to first callee)) → (callee : ℕ) → IsSuchCall l Anywhere pc callee → ⊥
no_call l pc i stands none callee k =
    let e : i ≡ instr.Call k.stands.0 k.stands.1 callee = (let q : Some i ≡ Some (instr.Call k.stands.0 k.stands.1 callee) = sym stands ∙ k.stands.2 in cc) in
    none k.stands.0 k.stands.1 callee e

-- what is read of a list at a place stands there
pub read_of : {A : Type 0} (xs read : List A) (n : ℕ) (d : A) → read ≡ xs → n < length xs → slice_get xs n ≡ Some (get_or read n d)
read_of {A} xs read n d e low =
    let P : List A → Type 0 = λ ys. slice_get xs n ≡ Some (get_or ys n d) in
    subst P (sym e) (slice_get-get_or xs n d low)

-- the same of an instruction that is read
pub stands_at : (code read : List Instr) (pc : ℕ) (d i : Instr) → read ≡ code → pc < length read → get_or read pc d ≡ i → slice_get code pc ≡ Some i
stands_at code read pc d i e low is =
    let P : List Instr → Type 0 = λ xs. slice_get xs pc ≡ Some i in
    subst P e (slice_get-get_or read pc d low ∙ ap Some is)

pub no_call_at : (l : Lowered) (read : List Instr) (pc : ℕ) (d : Instr) → read ≡ l.code → pc < length read → ((to first callee : ℕ) → ¬ (get_or read pc d ≡ instr.Call to first callee)) → (callee : ℕ) → IsSuchCall l Anywhere pc callee → ⊥
no_call_at l read pc d e low none = no_call l pc (get_or read pc d) (stands_at l.code read pc d (get_or read pc d) e low refl) none

-- what calls lead to from `main` is reached
pub reached_from : (l : Lowered) (marks : List Bool) → ((f : ℕ) → IsMarked marks f → f ≡ l.main) → (f : ℕ) → Reached l Anywhere marks f → IsReached l f
reached_from l marks first _ (First f h) =
    let P : ℕ → Type 0 = λ n. IsReached l n in
    subst P (sym (first f h)) Main
reached_from l marks first _ (Follow f pc g r b k) = Called f pc g (reached_from l marks first f r) b k.stands

-- and has a mark, where the calls of all functions with a mark were followed
pub reached_marked : (l : Lowered) (marks : List Bool) → IsMarked marks l.main → AreFollowed l Anywhere marks → (f : ℕ) → IsReached l f → IsMarked marks f
reached_marked l marks main followed _ Main = main
reached_marked l marks main followed _ (Called f pc g b body k) =
    followed f (reached_marked l marks main followed f b) pc g body (record { stands = k; depth = tt })
