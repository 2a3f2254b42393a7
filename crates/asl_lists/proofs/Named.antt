-- A source with entries, and one without.
use Rattle.std.proofs.Common.{◌≡◌, ◌<◌, ℕ, List, [], ◌∷◌, length, map, Option, arith}
use Rattle.asl_lists.specs.declared.fault.ListsFault.{ListsFault}
use Rattle.asl_lists.specs.Listed.{HasEntries, HasRefusedEntries, IsListed, IsRefusedLists, IsRefusedWhole, IsToldFor}

module _ {X : Type 0} (bytes : X → List ℕ) (source : List ℕ) (k : Option ℕ) where
  pub listed_none : (xs : List X) (text : List ℕ) → length xs ≡ 0 → IsToldFor source k [] text → IsListed source k (map bytes xs) text
  listed_none [] text none h = h
  listed_none (x ∷ xs) text none h = absurd (omega (arith, none))

  pub refused_none : (xs : List X) (fault : ListsFault) → length xs ≡ 0 → IsRefusedWhole source k fault → IsRefusedLists source k (map bytes xs) fault
  refused_none [] fault none h = h
  refused_none (x ∷ xs) fault none h = absurd (omega (arith, none))

  pub listed_some : (xs : List X) (text : List ℕ) → 0 < length xs → HasEntries source k (map bytes xs) text → IsListed source k (map bytes xs) text
  listed_some [] text some h = absurd (omega (arith, some))
  listed_some (x ∷ xs) text some h = h

  pub refused_some : (xs : List X) (fault : ListsFault) → 0 < length xs → HasRefusedEntries source k (map bytes xs) fault → IsRefusedLists source k (map bytes xs) fault
  refused_some [] fault some h = absurd (omega (arith, some))
  refused_some (x ∷ xs) fault some h = h
