-- What it does to what is found where locks of a region that have numbers are needed at one more point.
use Rattle.std.proofs.Common.{◌≡◌, ℕ, ◌+◌, ◌<◌, Bool, List, Some, Vec, Global, length, get_or, slice_get, slice_set, inl, refl, ap, sym, subst, ◌∙◌, arith}
use Rattle.std.proofs.lemmas.Option.{slice_get_within}
use Rattle.asl_code.specs.declared.lock.Lock.{Lock}
use Rattle.asl_lane_sets.specs.NumberSet.{IsIn}
use Rattle.asl_backward_flow.specs.declared.fresh.Fresh.{Fresh}
use Rattle.asl_backward_flow.specs.declared.region_needs.RegionNeeds.{RegionNeeds}
use Rattle.asl_backward_flow.specs.Found.{Table, table_of, open_of, HasNoneTwice, HasFact, IsNamed, IsWhole, IsMarked, IsFresher, AreSome, IsPut, Numbers, Adds, Lists, locks_of}
use Rattle.asl_backward_flow.proofs.Tables.{locks_before}
use Rattle.asl_backward_flow.proofs.Additions.{some_adds, mark_adds, mark_has, mark_whole, mark_lists}

module _ (parts : List RegionNeeds) (p q : ℕ) (x : RegionNeeds) (list : List (ℕ × ℕ)) (same : q ≡ p) (there : p < length parts) (is : x ≡ get_or parts q x)
    (whole : IsWhole (table_of parts list)) (set : List Bool) (named : (n : ℕ) → IsIn set n → (m : Lock) × (slice_get (locks_of (table_of parts list) p) n ≡ Some m)) where
  abbrev before : Table
  before = table_of parts list

  keys : locks_of before p ≡ x.locks.keys
  keys = locks_before parts p q x list same there is

  abbrev Such : Lock → Type 0
  Such = IsNamed (locks_of before p) set

  stored : (n : ℕ) → IsIn set n → (m : Lock) × (slice_get x.locks.keys n ≡ Some m) × Such m
  stored n h = let m = named n h in (m.0, ap (λ l. slice_get l n) (sym keys) ∙ m.1, (n, h, m.1))

  numbers : Numbers x.locks.keys x.locks.keys Such
  numbers = record { kept = λ n m e. e; only = λ n m e. inl e; apart = subst HasNoneTwice keys (whole.apart p); longer = omega arith }

  pub numbers_small : (n : ℕ) → IsIn set n → n < 4096
  numbers_small n h =
      let m = named n h in
      let lt = slice_get_within (locks_of before p) n m.0 m.1 in
      let few = whole.few p in
      omega (arith, lt, few)

  module _ (needs : Vec (List Bool) Global) (fresh : Fresh) (more : List (ℕ × ℕ)) where
    abbrev with : RegionNeeds
    with = record { region = x.region; first = x.first; locks = x.locks; needs = needs; fresh = fresh }

    abbrev after : Table
    after = table_of (slice_set parts q with) more

    pub numbered_some : (place pc : ℕ) → pc ≡ x.first + place → AreSome x.needs.items needs.items place (IsIn set) → Adds before after (λ r s m. (r ≡ p) × (s ≡ pc) × Such m)
    numbered_some place pc at_place some = some_adds parts p q x with list more same there is refl refl Such numbers place (IsIn set) pc at_place stored whole some

    module _ (place : ℕ) (is_new : Bool) (marked : IsMarked x.needs.items needs.items place (IsIn set) is_new) (pc : ℕ) (at_place : pc ≡ x.first + place) where
      pub numbered_adds : Adds before after (λ r s m. (r ≡ p) × (s ≡ pc) × Such m)
      numbered_adds = mark_adds parts p q x with list more same there is refl refl Such numbers place (IsIn set) is_new marked pc at_place stored whole

      pub numbered_has : (m : Lock) → Such m → HasFact after p pc m
      numbered_has m h =
          mark_has parts p q x with list more same there is refl refl Such numbers place (IsIn set) is_new marked pc at_place stored whole h.0 m h.1 (ap (λ l. slice_get l h.0) (sym keys) ∙ h.2)

      module _ (fresher : IsFresher x.needs.items (open_of x) (open_of with) place (IsIn set) is_new) (listed : IsPut list more (p, pc) is_new) where
        pub numbered_whole : IsWhole after
        numbered_whole =
            mark_whole parts p q x with list more same there is refl refl Such numbers place (IsIn set) is_new marked pc at_place stored whole fresher listed
            (let few = whole.few p in let len = ap length keys in omega (arith, few, len))

        pub numbered_lists : Lists before after
        numbered_lists = mark_lists parts p q x with list more same there is refl refl Such numbers place (IsIn set) is_new marked pc at_place stored whole fresher listed
