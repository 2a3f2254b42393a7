-- Machinery of the proofs, not of the promise: searches as src/search.rt makes them. What a search is good for is said by the
-- clauses of the calls that use it.
use Rattle.std.specs.Prelude.{◌≡◌, ◌<◌, ◌≤◌, ◌+◌, ◌*◌, ◌^◌, ◌++◌, ℕ, zero, suc, List, [], ◌∷◌, length, Some, slice_get, slice_index, slice_set}
use Rattle.asl_class_reasons.specs.declared.place.Place.{Place}
use Rattle.asl_class_reasons.specs.declared.place.Step.{Step}
use Rattle.asl_class_reasons.specs.declared.search.Visit.{Visit}
use Rattle.asl_class_reasons.specs.declared.search.Search.{Search}
use Rattle.asl_class_reasons.specs.Reasons.{Leads}
use Rattle.asl_class_reasons.specs.Draft.{number, Has}

-- the places of all steps are of the program
abbrev pub AreStepsThere : ℕ → ℕ → List Step → Type 0
AreStepsThere members functions steps =
    (n : ℕ) (s : Step) → slice_get steps n ≡ Some s → Has members functions s.from × Has members functions s.into

-- one more than the number of the visit of a place, or 0
abbrev pub seen : Search → Place → ℕ
seen t p = slice_index t.at.items (number t.members p)

-- 1 for a place that was not visited
abbrev pub unseen : ℕ → ℕ
unseen zero = 1
unseen (suc n) = 0

-- the place of a number has a visit of this number
pub record IsFound (t : Search) (n k : ℕ) : Type 0 where
  pub visit : Visit
  pub there : slice_get t.visits.items k ≡ Some visit
  pub numbered : number t.members visit.place ≡ n
  pub has : Has t.members t.functions visit.place

-- each place has an entry of its own, visits go back to the first, and entries are numbers of visits
pub record IsShaped (t : Search) : Type 0 where
  pub members : t.members < 2 ^ 20
  pub functions : t.functions ≤ 65536
  pub size : length t.at.items ≡ t.members + t.members + t.functions * 256
  pub begun : 0 < length t.visits.items
  pub first : (v : Visit) → slice_get t.visits.items 0 ≡ Some v → v.place ≡ t.from
  pub back : (n : ℕ) (v : Visit) → slice_get t.visits.items (suc n) ≡ Some v → v.before < suc n
  pub found : (n k : ℕ) → slice_get t.at.items n ≡ Some (suc k) → IsFound t n k
  pub start : Has t.members t.functions t.from → seen t t.from ≡ 0 → ⊥

-- the visit is by a step of the list from the place of a visit
pub record IsReached (steps : List Step) (visits : List Visit) (v : Visit) : Type 0 where
  pub before : Visit
  pub step : Step
  pub there : slice_get visits v.before ≡ Some before
  pub stands : slice_get steps v.step ≡ Some step
  pub leads : Leads step before.place v.place

-- a search by these steps: all visits but the first are by them
pub record IsSearch (steps : List Step) (t : Search) : Type 0 where
  pub shaped : IsShaped t
  pub steps_there : AreStepsThere t.members t.functions steps
  pub reached : (n : ℕ) (v : Visit) → slice_get t.visits.items (suc n) ≡ Some v → IsReached steps t.visits.items v

-- both places of the step were visited, or none
abbrev pub IsEven : Search → Step → Type 0
IsEven t s = (seen t s.from ≡ 0 → seen t s.into ≡ 0) × (seen t s.into ≡ 0 → seen t s.from ≡ 0)

-- so it is of each step of the list
pub record IsClosed (steps : List Step) (t : Search) : Type 0 where
  pub each : (n : ℕ) (s : Step) → slice_get steps n ≡ Some s → IsEven t s

-- all chains from one place by these steps: a search that found nothing more
pub record AreChains (steps : List Step) (t : Search) : Type 0 where
  pub search : IsSearch steps t
  pub closed : IsClosed steps t

-- one visit more
pub record IsVisited (old new : Search) (v : Visit) : Type 0 where
  pub members : new.members ≡ old.members
  pub functions : new.functions ≡ old.functions
  pub from : new.from ≡ old.from
  pub visits : new.visits.items ≡ old.visits.items ++ v ∷ []
  pub at : new.at.items ≡ slice_set old.at.items (number old.members v.place) (length old.visits.items + 1)

-- the entries of a search that has come to its start alone
pub record IsStarted (members functions : ℕ) (from : Place) (at : List ℕ) : Type 0 where
  pub size : length at ≡ members + members + functions * 256
  pub found : (n k : ℕ) → slice_get at n ≡ Some (suc k) → (k ≡ 0) × (number members from ≡ n) × Has members functions from
  pub start : Has members functions from → slice_index at (number members from) ≡ 0 → ⊥
