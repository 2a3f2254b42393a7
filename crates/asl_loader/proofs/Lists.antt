-- Lists that are too long, or too many: what is kept of them while they are read, and that they break a limit.
use Rattle.std.proofs.Common.{◌≡◌, ℕ, ◌≤◌, Bool, true, false, nat_le, ◌&&◌, List, [], ◌∷◌, ◌++◌, Option, Some, None, Result, Ok, refl, sym, ap, subst, ◌∙◌, arith}
use Rattle.std.specs.List.{list_all}
use Rattle.std.proofs.lemmas.Bool.{and_from, and_parts}
use Rattle.std.proofs.lemmas.List.Folds.{list_all-append}
use Rattle.asl_code.specs.declared.fault.VerifyFault.TheVariants as cause
use Rattle.asl_code.specs.declared.image.Image.{Image}
use Rattle.asl_code.specs.declared.image_limits.Limits.{Limits}
use Rattle.asl_code.specs.declared.lock.Lock.{Lock}
use Rattle.asl_code.specs.Verified.{keeps_limits, keeps_counts, IsAnswer, IsVerified}
use Rattle.asl_code.specs.Versions.{newest_locks, limits_of}
use Rattle.asl_code.proofs.OneAnswer.{limit_answer, no_answer}
use Rattle.asl_code.proofs.Versions.{locks_set, few_locks, newest_lists}
use Rattle.asl_loader.specs.Faults.{is_short, are_short}
use Rattle.asl_loader.specs.ImageFields.{IsHeld, items_at, list_at, lock_at}
use Rattle.asl_loader.specs.declared.fault.Lost.{Lost}
use Rattle.asl_loader.proofs.Loop.{Kept, so_many, kept_all}

-- what is kept of a list of so many locks, of which these were read
abbrev pub HoldsLocks : ℕ → Result (List Lock) Lost → List Lock → Type 0
HoldsLocks count kept locks = IsHeld (nat_le count newest_locks) kept locks

-- what is kept of so many lists, of which these were read
abbrev pub HoldsLists : ℕ → Result (List (List Lock)) Lost → List (List Lock) → Type 0
HoldsLists count kept lists = IsHeld (nat_le count 1024 && list_all is_short lists) kept lists

-- ---- reading them

-- with one list more they are short where it is, and they were before
pub more_lists : (count : ℕ) (more : Result (List (List Lock)) Lost) (front : List (List Lock)) (whole : List Lock)
    → IsHeld (nat_le count 1024 && list_all is_short front && is_short whole) more (front ++ whole ∷ []) → HoldsLists count more (front ++ whole ∷ [])
more_lists count more front whole h =
    let few = nat_le count 1024 in
    let each : list_all is_short (front ++ whole ∷ []) ≡ list_all is_short front && (is_short whole && true) = list_all-append is_short front (whole ∷ []) in
    let same : few && list_all is_short front && is_short whole ≡ few && list_all is_short (front ++ whole ∷ []) = grown few (list_all is_short front) (is_short whole) ∙ ap (λ (b : Bool). few && b) (sym each) in
    subst (λ (b : Bool). IsHeld b more (front ++ whole ∷ [])) same h
  where
    grown : (few all one : Bool) → few && all && one ≡ few && (all && (one && true))
    grown true true true = refl
    grown true true false = refl
    grown true false one = refl
    grown false all one = refl

pub locks_read : (kept : Result (List Lock) Lost) (count i : ℕ) (bytes rest : List ℕ) → Kept Lock lock_at (HoldsLocks count kept) count i rest (items_at lock_at count bytes) → count ≤ i
    → (whole : List Lock) × IsHeld (is_short whole) kept whole × (items_at lock_at count bytes ≡ Ok (whole, rest))
locks_read kept count i bytes rest k le =
    let all = kept_all Lock lock_at (HoldsLocks count kept) count i rest (items_at lock_at count bytes) k le in
    let many = so_many Lock lock_at count bytes all.0 rest all.2 in
    (all.0, subst (λ (n : ℕ). IsHeld (nat_le n newest_locks) kept all.0) (sym many) all.1, all.2)

pub lists_read : (kept : Result (List (List Lock)) Lost) (count i : ℕ) (bytes rest : List ℕ) → Kept (List Lock) list_at (HoldsLists count kept) count i rest (items_at list_at count bytes) → count ≤ i
    → (whole : List (List Lock)) × IsHeld (are_short whole) kept whole × (items_at list_at count bytes ≡ Ok (whole, rest))
lists_read kept count i bytes rest k le =
    let all = kept_all (List Lock) list_at (HoldsLists count kept) count i rest (items_at list_at count bytes) k le in
    let many = so_many (List Lock) list_at count bytes all.0 rest all.2 in
    (all.0, subst (λ (n : ℕ). IsHeld (nat_le n 1024 && list_all is_short all.0) kept all.0) (sym many) all.1, all.2)

-- ---- what the verifier says of them

kept_short : (i : Image) → keeps_limits i ≡ true → are_short i.lists ≡ true
kept_short i kept = by_limits (limits_of i.version) refl
  where
    by_limits : (o : Option Limits) → limits_of i.version ≡ o → are_short i.lists ≡ true
    by_limits None e = let no : keeps_limits i ≡ false = rw e refl in absurd cc
    by_limits (Some limits) e =
        let locks : limits.locks ≤ newest_locks = omega (arith, locks_set i.version limits e, few_locks i.version) in
        let same : keeps_limits i ≡ keeps_counts limits i = rw e refl in
        let last = and_parts _ _ (sym same ∙ kept) in
        let each = and_parts _ _ last.0 in
        let few = and_parts _ _ each.0 in
        and_from _ _ few.1 (newest_lists limits locks i.lists last.1)

-- lists that are not short break a limit
over : (i : Image) → are_short i.lists ≡ false → keeps_limits i ≡ false
over i long = by_kept (keeps_limits i) refl
  where
    by_kept : (b : Bool) → keeps_limits i ≡ b → keeps_limits i ≡ false
    by_kept false e = e
    by_kept true e = let short = kept_short i e in absurd cc

-- a program's lists are short
pub verified_short : (i : Image) → IsVerified i → are_short i.lists ≡ true
verified_short i verified = by_kept (keeps_limits i) refl
  where
    by_kept : (b : Bool) → keeps_limits i ≡ b → are_short i.lists ≡ true
    by_kept true e = kept_short i e
    by_kept false e = absurd (no_answer i cause.Limit verified (limit_answer i e))

-- the verifier names such lists before all else
pub long_is_answer : (i : Image) → are_short i.lists ≡ false → IsAnswer i cause.Limit
long_is_answer i long = limit_answer i (over i long)
