-- What one addition does to what is found, by the part of a region before and after it.
use Rattle.std.proofs.Common.{◌≡◌, inl, inr, ℕ, ◌+◌, ◌<◌, ◌≤◌, Bool, List, Some, length, map, slice_get, slice_set, ap, sym, subst, get_or, ◌∙◌}
use Rattle.asl_code.specs.declared.lock.Lock.{Lock}
use Rattle.asl_backward_flow.specs.declared.region_needs.RegionNeeds.{RegionNeeds}
use Rattle.asl_backward_flow.specs.Found.{Table, table_of, HasNoneTwice, locks_of, first_of, sets_of, fresh_of, open_of, HasFact, IsWhole, Adds, Lists, Numbers, IsMarked, IsFresher, AreSome, IsPut, list_at}
use Rattle.asl_backward_flow.proofs.ReplacedLists.{list_here}
use Rattle.asl_backward_flow.proofs.Tables.{Step, step_of, locks_before, sets_before, fresh_before, first_before, is_over, adds_name, kept, adds_fact, has_fact, whole_fact, lists_fact}

-- one region has one more lock, perhaps, and numbers in a set, perhaps
module _ (parts : List RegionNeeds) (p q : ℕ) (x y : RegionNeeds) (list more : List (ℕ × ℕ)) (same : q ≡ p) (there : p < length parts) (is : x ≡ get_or parts q x) (region : y.region ≡ x.region) (first : y.first ≡ x.first)
    (These : Lock → Type 0) (numbers : Numbers x.locks.keys y.locks.keys These) where
  abbrev before : Table
  before = table_of parts list

  abbrev after : Table
  after = table_of (slice_set parts q y) more

  step : Step before after p y.locks.keys y.needs.items (open_of y)
  step = step_of parts p q x y list more same there is region first

  numbered : Numbers (locks_of before p) y.locks.keys These
  numbered = subst (λ l. Numbers l y.locks.keys These) (sym (locks_before parts p q x list same there is)) numbers

  pub part_adds : (pc : ℕ) → IsWhole before → y.needs.items ≡ x.needs.items → Adds before after (λ r s m. (r ≡ p) × (s ≡ pc) × These m)
  part_adds pc whole kept = adds_name before after p y.locks.keys y.needs.items (open_of y) step These numbered (kept ∙ sym (sets_before parts p q x list same there is)) pc whole

  pub part_locks : locks_of after p ≡ y.locks.keys
  part_locks = ap (λ l. list_at l p) step.locks_are ∙ list_here (map (λ (z : RegionNeeds). z.locks.keys) parts) p y.locks.keys step.there

  pub part_over : 4096 < length y.locks.keys → (4096 < length (locks_of after p)) × HasNoneTwice (locks_of after p)
  part_over over = is_over before after p y.locks.keys y.needs.items (open_of y) step These numbered over

  module _ (place : ℕ) (these : ℕ → Type 0) (is_new : Bool) (marked : IsMarked x.needs.items y.needs.items place these is_new) (pc : ℕ) (at_place : pc ≡ x.first + place)
      (stored : (n : ℕ) → these n → (m : Lock) × (slice_get y.locks.keys n ≡ Some m) × These m) (whole : IsWhole before) where
    mark : IsMarked (sets_of before p) y.needs.items place these is_new
    mark = subst (λ l. IsMarked l y.needs.items place these is_new) (sym (sets_before parts p q x list same there is)) marked

    pc_is : pc ≡ first_of before p + place
    pc_is = at_place ∙ ap (λ n. n + place) (sym (first_before parts p q x list same there is))

    pub mark_adds : Adds before after (λ r s m. (r ≡ p) × (s ≡ pc) × These m)
    mark_adds = adds_fact before after p y.locks.keys y.needs.items (open_of y) step These numbered place these is_new mark pc pc_is stored whole

    pub mark_has : (n : ℕ) (m : Lock) → these n → slice_get y.locks.keys n ≡ Some m → HasFact after p pc m
    mark_has = has_fact before after p y.locks.keys y.needs.items (open_of y) step These numbered place these is_new mark pc pc_is stored

    module _ (fresher : IsFresher x.needs.items (open_of x) (open_of y) place these is_new) (listed : IsPut list more (p, pc) is_new) where
      fresh : IsFresher (sets_of before p) (fresh_of before p) (open_of y) place these is_new
      fresh =
          subst (λ l. IsFresher l (fresh_of before p) (open_of y) place these is_new) (sym (sets_before parts p q x list same there is))
          (subst (λ l. IsFresher x.needs.items l (open_of y) place these is_new) (sym (fresh_before parts p q x list same there is)) fresher)

      pub mark_whole : length y.locks.keys ≤ 4096 → IsWhole after
      mark_whole few = whole_fact before after p y.locks.keys y.needs.items (open_of y) step These numbered place these is_new mark pc pc_is stored fresh listed whole few

      pub mark_lists : Lists before after
      mark_lists = lists_fact before after p y.locks.keys y.needs.items (open_of y) step These numbered place these is_new mark pc pc_is stored fresh listed

  -- the sets stayed, or some numbers came into one
  pub some_adds : (place : ℕ) (these : ℕ → Type 0) (pc : ℕ) → pc ≡ x.first + place → ((n : ℕ) → these n → (m : Lock) × (slice_get y.locks.keys n ≡ Some m) × These m) → IsWhole before
      → AreSome x.needs.items y.needs.items place these → Adds before after (λ r s m. (r ≡ p) × (s ≡ pc) × These m)
  some_adds place these pc at_place stored whole (inl kept) = part_adds pc whole kept
  some_adds place these pc at_place stored whole (inr some) = mark_adds place these some.0 some.1 pc at_place stored whole
