-- What the search for the number of a lock among locks finds.
use Rattle.std.proofs.Common.{◌≡◌, ◌∙◌, ℕ, suc, List, [], ◌∷◌, Option, None, Some, MatchOption, true, false, get_or, position, slice_get, inl, inr, ap, sym}
use Rattle.std.proofs.lemmas.List.Quantifiers.{position-Some}
use Rattle.std.proofs.lemmas.Option.{slice_get-get_or, slice_get_within, get_or_from_slice_get}
use Rattle.asl_code.specs.contracts.lock.LockPartialEq.TheImpl.{ghosts}
use Rattle.asl_code.specs.declared.lock.Lock.{Lock}
use Rattle.asl_code.proofs.Same.{same_lock, itself_lock}
use Rattle.asl_code.proofs.Told.{position-None}
use Rattle.asl_lock_expr.specs.Links.{IsOne}

one_at : (locks : List Lock) (lock : Lock) → IsOne locks lock → (k : ℕ) × (slice_get locks k ≡ Some lock)
one_at [] lock h = absurd h
one_at (m ∷ ms) lock (inl e) = (0, ap Some e)
one_at (m ∷ ms) lock (inr h) = let r = one_at ms lock h in (suc r.0, r.1)

-- the number of the lock, or none where it is not among the locks
pub number_or_none : (locks : List Lock) (lock : Lock) (o : Option ℕ) → o ≡ position (ghosts.eq lock) locks → MatchOption o (¬ IsOne locks lock) (λ n. slice_get locks n ≡ Some lock)
number_or_none locks lock None e =
    λ one.
    let at = one_at locks lock one in
    let miss : ghosts.eq lock (get_or locks at.0 lock) ≡ false = position-None (ghosts.eq lock) locks lock (sym e) at.0 (slice_get_within locks at.0 lock at.1) in
    let bad : true ≡ false = sym (itself_lock lock) ∙ ap (ghosts.eq lock) (sym (get_or_from_slice_get locks at.0 lock lock at.1)) ∙ miss in
    absurd cc
number_or_none locks lock (Some n) e =
    let s = position-Some (ghosts.eq lock) locks n lock (sym e) in
    slice_get-get_or locks n lock s.0 ∙ ap Some (sym (same_lock lock (get_or locks n lock) s.1))
