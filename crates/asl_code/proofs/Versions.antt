-- What each version sets, told of the versions that are there and of all.
use Rattle.std.proofs.Common.{◌≡◌, ◌≢◌, ◌==◌, ℕ, ◌<◌, ◌≤◌, ◌^◌, nat_le, List, [], ◌∷◌, length, Option, Some, None, is_some, true, false, IsTrue, if◌then◌else◌, refl, ap, sym, ◌∙◌, inl, inr, arith}
use Rattle.std.specs.List.{list_all}
use Rattle.std.specs.Option.{option_map_or}
use Rattle.std.proofs.lemmas.Bool.{cases_lt, le-leb, lt-leb, leb-true, and_from, and_parts}
use Rattle.std.proofs.lemmas.Bool.Decides.{eqb_tells}
use Rattle.asl_code.specs.Versions.{IsVersion, newest, newest_threads, newest_locks, limits_of, is_version, most_threads, version_for, most_locks, has_fresh}
use Rattle.asl_code.specs.Verified.{keeps_list_limit}
use Rattle.asl_code.specs.declared.image_limits.Limits.{Limits}
use Rattle.asl_code.specs.declared.lock.Lock.{Lock}

-- what versions 1 and 2 set
abbrev pub first : Limits
first = record { threads = 64; locks = 64; fresh = false }

abbrev pub second : Limits
second = record { threads = newest_threads; locks = newest_locks; fresh = true }

pub first_set : limits_of 1 ≡ Some first
unfolding limits_of
first_set = refl

pub second_set : limits_of 2 ≡ Some second
unfolding limits_of
second_set = refl

-- no other version sets anything
pub other_set : (v : ℕ) → v ≢ 1 → v ≢ 2 → limits_of v ≡ None
unfolding limits_of
other_set v one two = elim (eqb_tells v 1) [
  | inl is ↦ absurd (one is.1)
  | inr not_one ↦ elim (eqb_tells v 2) [
    | inl is ↦ absurd (two is.1)
    | inr not_two ↦
        ap (λ b. if b then Some first else if v == 2 then Some second else None) not_one.0
        ∙ ap (λ b. if b then Some second else None) not_two.0
  ]
]

-- the limits that are set are those of a version that is there, and a version that is there sets some
pub version_of : (v : ℕ) (l : Limits) → limits_of v ≡ Some l → IsVersion v
version_of v l set = elim (eqb_tells v 1) [
  | inl is ↦ inl is.1
  | inr not_one ↦ elim (eqb_tells v 2) [
    | inl is ↦ inr is.1
    | inr not_two ↦ let none = other_set v not_one.1 not_two.1 in cc
  ]
]

pub limits_there : (v : ℕ) → IsVersion v → (l : Limits) × (limits_of v ≡ Some l)
limits_there v (inl one) = (first, ap limits_of one ∙ first_set)
limits_there v (inr two) = (second, ap limits_of two ∙ second_set)

pub no_version : (v : ℕ) → limits_of v ≡ None → ¬ IsVersion v
no_version v none is = let there = limits_there v is in let set = there.1 in cc

pub is_version-true : (v : ℕ) → is_version v ≡ true → IsVersion v
is_version-true v is = by_limits (limits_of v) refl
  where
    by_limits : (o : Option Limits) → limits_of v ≡ o → IsVersion v
    by_limits None none = let no : false ≡ true = sym (ap is_some none) ∙ is in cc
    by_limits (Some l) set = version_of v l set

pub IsVersion-is_version : (v : ℕ) → IsVersion v → is_version v ≡ true
IsVersion-is_version v is = ap is_some (limits_there v is).1

-- the limits that are set are the most
pub threads_set : (v : ℕ) (l : Limits) → limits_of v ≡ Some l → l.threads ≡ most_threads v
unfolding most_threads
threads_set v l set = sym (ap (λ o. option_map_or (λ (k : Limits). k.threads) o 0) set)

pub locks_set : (v : ℕ) (l : Limits) → limits_of v ≡ Some l → l.locks ≡ most_locks v
unfolding most_locks
locks_set v l set = sym (ap (λ o. option_map_or (λ (k : Limits). k.locks) o 0) set)

pub fresh_set : (v : ℕ) (l : Limits) → limits_of v ≡ Some l → l.fresh ≡ has_fresh v
unfolding has_fresh
fresh_set v l set = sym (ap (λ o. option_map_or (λ (k : Limits). k.fresh) o false) set)

pub none_fresh : (v : ℕ) → limits_of v ≡ None → has_fresh v ≡ false
unfolding has_fresh
none_fresh v none = ap (λ o. option_map_or (λ (k : Limits). k.fresh) o false) none

-- what a section has made is fresh for it by images of the newest version, and of no other
pub fresh_by_newest : (v : ℕ) → v ≡ newest → IsTrue (has_fresh v)
fresh_by_newest v is = sym (fresh_set v second (ap limits_of is ∙ second_set))

pub newest_by_fresh : (v : ℕ) → IsTrue (has_fresh v) → v ≡ newest
unfolding has_fresh
newest_by_fresh v fresh = elim (eqb_tells v 1) [
  | inl is ↦ let none = fresh_set v first (ap limits_of is.1 ∙ first_set) in cc
  | inr not_one ↦ elim (eqb_tells v 2) [
    | inl is ↦ is.1
    | inr not_two ↦ let none = ap (λ o. option_map_or (λ (k : Limits). k.fresh) o false) (other_set v not_one.1 not_two.1) in cc
  ]
]

-- the most that any version sets
pub few_threads : (v : ℕ) → most_threads v ≤ newest_threads
unfolding most_threads
few_threads v = elim (eqb_tells v 1) [
  | inl is ↦ let set = threads_set v first (ap limits_of is.1 ∙ first_set) in omega (arith, set)
  | inr not_one ↦ elim (eqb_tells v 2) [
    | inl is ↦ let set = threads_set v second (ap limits_of is.1 ∙ second_set) in omega (arith, set)
    | inr not_two ↦ let none = ap (λ o. option_map_or (λ (k : Limits). k.threads) o 0) (other_set v not_one.1 not_two.1) in omega (arith, none)
  ]
]

pub few_locks : (v : ℕ) → most_locks v ≤ newest_locks
unfolding most_locks
few_locks v = elim (eqb_tells v 1) [
  | inl is ↦ let set = locks_set v first (ap limits_of is.1 ∙ first_set) in omega (arith, set)
  | inr not_one ↦ elim (eqb_tells v 2) [
    | inl is ↦ let set = locks_set v second (ap limits_of is.1 ∙ second_set) in omega (arith, set)
    | inr not_two ↦ let none = ap (λ o. option_map_or (λ (k : Limits). k.locks) o 0) (other_set v not_one.1 not_two.1) in omega (arith, none)
  ]
]

-- lists that keep a version's limit keep the newest one's
pub newest_lists : (limits : Limits) → limits.locks ≤ newest_locks → (lists : List (List Lock)) → list_all (keeps_list_limit limits) lists ≡ true
    → list_all (λ (locks : List Lock). nat_le (length locks) newest_locks) lists ≡ true
newest_lists limits few [] h = refl
newest_lists limits few (locks ∷ lists) h =
    let both = and_parts (keeps_list_limit limits locks) (list_all (keeps_list_limit limits) lists) h in
    and_from (nat_le (length locks) newest_locks) (list_all (λ (locks : List Lock). nat_le (length locks) newest_locks) lists)
    (le-leb (length locks) newest_locks (omega (arith, few, leb-true (length locks) limits.locks both.0))) (newest_lists limits few lists both.1)

-- a version's number fits two bytes
pub small_version : (v : ℕ) → IsVersion v → v < 2 ^ 16
small_version v (inl one) = omega (arith, one)
small_version v (inr two) = omega (arith, two)

-- what each version sets
pub first_threads : most_threads 1 ≡ 64
first_threads = sym (threads_set 1 first first_set)

pub threads_of_newest : most_threads newest ≡ newest_threads
threads_of_newest = sym (threads_set 2 second second_set)

pub locks_of_newest : most_locks newest ≡ newest_locks
locks_of_newest = sym (locks_set 2 second second_set)

-- which version has so many threads
pub version_of_few : (n : ℕ) → n ≤ 64 → version_for n ≡ 1
unfolding version_for
version_of_few n few = ap (λ b. if b then 1 else 2) (le-leb n (most_threads 1) (omega (arith, first_threads)))

pub version_of_many : (n : ℕ) → 64 < n → version_for n ≡ 2
unfolding version_for
version_of_many n many = ap (λ b. if b then 1 else 2) (lt-leb n (most_threads 1) (omega (arith, first_threads)))

pub version_is_there : (n : ℕ) → IsVersion (version_for n)
version_is_there n = elim (cases_lt 64 n) [
  | inl many ↦ inr (version_of_many n many)
  | inr few ↦ inl (version_of_few n few)
]

-- where a version has so many threads, the first that has is no later, and has them too
pub version_enough : (n v : ℕ) → IsVersion v → n ≤ most_threads v → n ≤ most_threads (version_for n)
version_enough n v is low = elim (cases_lt 64 n) [
  | inl many ↦ elim is [
    | inl one ↦ absurd (let few = ap most_threads one ∙ first_threads in omega (arith, many, low, few))
    | inr two ↦ omega (arith, low, ap most_threads (two ∙ sym (version_of_many n many)))
  ]
  | inr few ↦ let at = ap most_threads (version_of_few n few) ∙ first_threads in omega (arith, few, at)
]

pub version_first : (n v : ℕ) → IsVersion v → n ≤ most_threads v → version_for n ≤ v
version_first n v is low = elim (cases_lt 64 n) [
  | inl many ↦ elim is [
    | inl one ↦ absurd (let few = ap most_threads one ∙ first_threads in omega (arith, many, low, few))
    | inr two ↦ omega (arith, version_of_many n many, two)
  ]
  | inr few ↦ elim is [ inl one ↦ omega (arith, version_of_few n few, one) | inr two ↦ omega (arith, version_of_few n few, two) ]
]
