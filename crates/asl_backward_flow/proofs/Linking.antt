-- What locks become over an instruction, or at calls: some at once, the others one by one.
use Rattle.std.proofs.Common.{◌≡◌, ◌↔◌, ⊎_elim, ℕ, ◌+◌, ◌≤◌, Bool, List, [], Some, Result, Ok, Err, OnOk, IfErr, length, slice_get, inl, inr, refl, ap, sym, subst, ◌∙◌, arith}
use Rattle.std.specs.List.{Contains}
use Rattle.std.proofs.lemmas.Option.{slice_get_within, slice_get-get_or, get_or_from_slice_get}
use Rattle.asl_code.specs.declared.instr.Instr.{Instr}
use Rattle.asl_code.specs.declared.lock.Lock.{Lock}
use Rattle.asl_lane_sets.specs.NumberSet.{IsIn}
use Rattle.asl_lock_expr.specs.Links.{IsOne, link, dereferenced}
use Rattle.asl_backward_flow.specs.declared.found.AddFault.{AddFault}
use Rattle.asl_backward_flow.specs.declared.found.AddFault.TheVariants.{OutOfMemory}
use Rattle.asl_backward_flow.specs.declared.span.Span.{Span}
use Rattle.asl_backward_flow.specs.Found.{Table, HasFact, IsOver, IsWhole, HasNumber, IsNamed, IsListed, Adds, Lists, locks_of}
use Rattle.asl_backward_flow.specs.Follows.{Read, seen, WithFronts, IsLinkedAlone, IsLinkedOf, IsChosen, IsLinkedAt, Splits, At, IsReady, Added, Stopped, AddedBelow}
use Rattle.asl_backward_flow.proofs.Adding.{ready_still, adds_as, added_as, stopped_as, below_more, below_end, below_stopped, below_refused}
use Rattle.asl_backward_flow.proofs.Fronts.{fronts_as, named_before, all_named}
use Rattle.asl_backward_flow.specs.declared.masks.Mask.{Mask}
use Rattle.asl_backward_flow.specs.Masked.{AreAllMasks}
use Rattle.asl_backward_flow.proofs.Masking.{masks_grow}
use Rattle.asl_backward_flow.proofs.Marks.{is_in}
use Rattle.asl_backward_flow.proofs.Sets.{some_same}
use Rattle.asl_backward_flow.proofs.Steps.{has_still, adds_same, adds_on, lists_same, lists_on}

-- such a lock is one lock
pub linked_split : (r : Read) (p q : ℕ) (Such : Lock → Type 0) (m : Lock) → IsLinkedOf r p q Such m → (l : Lock) × Such l × WithFronts (IsLinkedAlone r p q l) m
linked_split r p q Such m (inl h) = (h.0, h.1, inl h.2)
linked_split r p q Such m (inr h) = let k = h.1 in (k.0, k.1, inr (h.0, k.2, h.2))

pub linked_join : (r : Read) (p q : ℕ) (Such : Lock → Type 0) (m l : Lock) → Such l → WithFronts (IsLinkedAlone r p q l) m → IsLinkedOf r p q Such m
linked_join r p q Such m l such h = fronts_as _ _ (λ n k. (l, such, k)) m h

-- the lock that the number at a place of a list names
abbrev pub Nth : List Lock → List ℕ → ℕ → Lock → Type 0
Nth locks numbers j l = (n : ℕ) × (slice_get numbers j ≡ Some n) × (slice_get locks n ≡ Some l)

-- what is related to the lock of one number after the other
abbrev pub each_lock : (Lock → ℕ → ℕ → Lock → Type 0) → List Lock → List ℕ → ℕ → ℕ → ℕ → Lock → Type 0
each_lock Related locks numbers j p q m = (l : Lock) × Nth locks numbers j l × Related l p q m

abbrev pub any_lock : (Lock → ℕ → ℕ → Lock → Type 0) → (Lock → Type 0) → ℕ → ℕ → Lock → Type 0
any_lock Related Such p q m = (l : Lock) × Such l × Related l p q m

module _ (r : Read) (Related : Lock → ℕ → ℕ → Lock → Type 0) (part : ℕ) (These : ℕ → Type 0) (initial : Table) (named : (n : ℕ) → These n → (m : Lock) × (slice_get (locks_of initial part) n ≡ Some m))
    (numbers : List ℕ) (tells : (k : ℕ) → Contains numbers k ↔ These k) where
  abbrev locks : List Lock
  locks = locks_of initial part

  module _ (now : Table) (j : ℕ) (so : AddedBelow r initial now (each_lock Related locks numbers) j) where
    -- the number at the place is that of a lock still
    module _ (n : ℕ) (at : slice_get numbers j ≡ Some n) where
      here : These n
      here = (tells n).0 (j, slice_get_within numbers j n at, get_or_from_slice_get numbers j n n at)

      pub named_now : (m : Lock) × (slice_get (locks_of now part) n ≡ Some m)
      named_now = all_named initial now part so.adds.grows These named n here

      module _ (lock : Lock) (read : slice_get (locks_of now part) n ≡ Some lock) where
        first : slice_get locks n ≡ Some lock
        first = let was = named n here in was.1 ∙ ap Some (some_same (sym (so.adds.grows.names part n was.0 was.1) ∙ read))

        to_each : (p q : ℕ) (m : Lock) → Related lock p q m → each_lock Related locks numbers j p q m
        to_each p q m h = (lock, (n, at, first), h)

        of_each : (p q : ℕ) (m : Lock) → each_lock Related locks numbers j p q m → Related lock p q m
        of_each p q m h =
            let number : h.1.0 ≡ n = some_same (sym h.1.1 ∙ at) in
            let same : h.0 ≡ lock = some_same (sym h.1.2 ∙ ap (slice_get locks) number ∙ first) in
            subst (λ l. Related l p q m) same h.2

        pub lock_more : (new : Table) → Added r now new (Related lock) → AddedBelow r initial new (each_lock Related locks numbers) (j + 1)
        lock_more new x = below_more r initial now new (each_lock Related locks numbers) j (Related lock) to_each of_each so x

        pub lock_stopped : (new : Table) (fault : AddFault) → Stopped now new (Related lock) fault → Stopped initial new (any_lock Related (HasNumber locks These)) fault
        lock_stopped new fault x = below_stopped r initial now new (each_lock Related locks numbers) j (Related lock) (any_lock Related (HasNumber locks These)) fault
            (λ i p q m h. (h.0, (h.1.0, (tells h.1.0).0 (i, slice_get_within numbers i h.1.0 h.1.1, get_or_from_slice_get numbers i h.1.0 h.1.0 h.1.1), h.1.2), h.2))
            (λ p q m h. (lock, (n, here, first), h)) so x

    pub lock_refused : (fault : AddFault) → fault ≡ OutOfMemory → Stopped initial now (any_lock Related (HasNumber locks These)) fault
    lock_refused = below_refused r initial now (each_lock Related locks numbers) j (any_lock Related (HasNumber locks These))
        (λ i p q m h. (h.0, (h.1.0, (tells h.1.0).0 (i, slice_get_within numbers i h.1.0 h.1.1, get_or_from_slice_get numbers i h.1.0 h.1.0 h.1.1), h.1.2), h.2)) so

    pub lock_end : length numbers ≤ j → Added r initial now (any_lock Related (HasNumber locks These))
    lock_end end = below_end r initial now (each_lock Related locks numbers) j (any_lock Related (HasNumber locks These))
        (λ i p q m h. (h.0, (h.1.0, (tells h.1.0).0 (i, slice_get_within numbers i h.1.0 h.1.1, get_or_from_slice_get numbers i h.1.0 h.1.0 h.1.1), h.1.2), h.2))
        (λ p q m h.
        let c = (tells h.1.0).1 h.1.1 in
        let lt = c.1 in
        (c.0, omega (arith, lt, end), (h.0, (h.1.0, slice_get-get_or numbers c.0 h.1.0 c.1 ∙ ap Some c.2, h.1.2), h.2))) so

-- what a lock becomes over the instruction, at its point
abbrev pub Linked : Read → ℕ → ℕ → Lock → ℕ → ℕ → Lock → Type 0
Linked r part pc l = At part pc (WithFronts (IsLinkedAlone r part pc l))

module _ (r : Read) (part pc : ℕ) (Such : Lock → Type 0) where
  any_to : (p q : ℕ) (m : Lock) → any_lock (Linked r part pc) Such p q m → At part pc (IsLinkedOf r part pc Such) p q m
  any_to p q m h = let at = h.2 in (at.0, at.1, linked_join r part pc Such m h.0 h.1 at.2)

  to_any : (p q : ℕ) (m : Lock) → At part pc (IsLinkedOf r part pc Such) p q m → any_lock (Linked r part pc) Such p q m
  to_any p q m h = let k = linked_split r part pc Such m h.2 in (k.0, k.1, (h.0, h.1, k.2))

  pub changed_all : (old new : Table) → Added r old new (any_lock (Linked r part pc) Such) → Added r old new (At part pc (IsLinkedOf r part pc Such))
  changed_all old new x = added_as r old new _ _ any_to to_any x

  pub changed_refused : (old new : Table) → ((fault : AddFault) → fault ≡ OutOfMemory → Stopped old new (any_lock (Linked r part pc) Such) fault) → (fault : AddFault) → fault ≡ OutOfMemory → Stopped old new (At part pc (IsLinkedOf r part pc Such)) fault
  changed_refused old new x fault is = stopped_as old new _ _ fault any_to (x fault is)

  pub changed_stopped : (old new : Table) (fault : AddFault) → Stopped old new (any_lock (Linked r part pc) Such) fault → Stopped old new (At part pc (IsLinkedOf r part pc Such)) fault
  changed_stopped old new fault x = stopped_as old new _ _ fault any_to x

-- those that stay are added at once, and the others are linked
module _ (r : Read) (a b c : Table) (part pc : ℕ) (set stay : List Bool) (changed : List ℕ) (chosen : IsChosen (locks_of a part) set (IsLinkedAt r a part pc)) (splits : Splits r a part pc set stay changed) where
  abbrev Set : Lock → Type 0
  Set = IsNamed (locks_of a part) set

  abbrev Stay : Lock → Type 0
  Stay = IsNamed (locks_of a part) stay

  pub stay_named : (n : ℕ) → IsIn stay n → (m : Lock) × (slice_get (locks_of a part) n ≡ Some m)
  stay_named n h = chosen.named n (splits.within n h)

  -- a lock that stays becomes itself alone
  stay_linked : (m : Lock) → Stay m → IsLinkedOf r part pc Set m
  stay_linked m h = let s = splits.stays m h in inl (m, (h.0, splits.within h.0 h.1, h.2), record { span = s.span; there = s.there; instruction = s.instruction; stands = s.stands; one = s.stays.there })

  stay_at : (p q : ℕ) (m : Lock) → (p ≡ part) × (q ≡ pc) × Stay m → At part pc (IsLinkedOf r part pc Set) p q m
  stay_at p q m h = (h.0, h.1, stay_linked m h.2)

  -- those that stay may be all that was added, or the first of it
  pub stay_stopped : (fault : AddFault) → Adds a b (λ p q m. (p ≡ part) × (q ≡ pc) × Stay m) → IsOver b fault → Stopped a b (At part pc (IsLinkedOf r part pc Set)) fault
  stay_stopped fault adds over = record { adds = adds_as a b _ _ stay_at adds; over = over }

  module _ (adds : Adds a b (λ p q m. (p ≡ part) × (q ≡ pc) × Stay m)) where
    abbrev Changed : Lock → Type 0
    Changed = IsListed (locks_of b part) changed

    pub changed_named : (n : ℕ) → Contains changed n → (m : Lock) × (slice_get (locks_of b part) n ≡ Some m)
    changed_named n h = all_named a b part adds.grows (IsIn set) chosen.named n ((splits.rest n).0 h).0

    changed_set : (m : Lock) → Changed m → Set m
    changed_set m h = let of = ((splits.rest h.0).0 h.1).0 in named_before a b part adds.grows (IsIn set) chosen.named m (h.0, of, h.2)

    changed_at : (p q : ℕ) (m : Lock) → At part pc (IsLinkedOf r part pc Changed) p q m → At part pc (IsLinkedOf r part pc Set) p q m
    changed_at p q m h = (h.0, h.1, fronts_as _ _ (λ n k. (k.0, changed_set k.0 k.1, k.2)) m h.2)

    pub linked_stopped : (fault : AddFault) → Stopped b c (At part pc (IsLinkedOf r part pc Changed)) fault → Stopped a c (At part pc (IsLinkedOf r part pc Set)) fault
    linked_stopped fault x = record { adds = adds_on a b c _ _ _ stay_at changed_at adds x.adds; over = x.over }

    module _ (has : (m : Lock) → Stay m → HasFact b part pc m) (lists : Lists a b) (x : Added r b c (At part pc (IsLinkedOf r part pc Changed))) where
      -- what such a lock becomes is there: itself if it stays
      one_there : (l m : Lock) → Set l → IsLinkedAlone r part pc l m → HasFact c part pc m
      one_there l m such k = elim (is_in stay such.0) [
        | inl here ↦
            let s = splits.stays l (such.0, here, such.2) in
            let span : k.span ≡ s.span = some_same (sym k.there ∙ s.there) in
            let code : k.instruction ≡ s.instruction = some_same (sym k.stands ∙ s.stands) in
            let one : IsOne (link (seen r s.span.function) s.instruction l) m =
            subst (λ (i : Instr). IsOne (link (seen r s.span.function) i l) m) code (subst (λ (t : Span). IsOne (link (seen r t.function) k.instruction l) m) span k.one) in
            subst (HasFact c part pc) (s.stays.itself m one) (has_still b c x.adds.grows part pc l (has l (such.0, here, such.2)))
        | inr gone ↦
            x.has part pc m (refl, refl, inl (l, (such.0, (splits.rest such.0).1 (such.1, gone), adds.grows.names part such.0 l such.2), k))
      ]

      -- a dereferenced prefix of what such a lock becomes is there
      front_there : (l m d : Lock) → Set l → IsLinkedAlone r part pc l m → IsOne (dereferenced m) d → HasFact c part pc d
      front_there l m d such k o = elim (is_in stay such.0) [
        | inl here ↦
            let s = splits.stays l (such.0, here, such.2) in
            let span : k.span ≡ s.span = some_same (sym k.there ∙ s.there) in
            let code : k.instruction ≡ s.instruction = some_same (sym k.stands ∙ s.stands) in
            let one : IsOne (link (seen r s.span.function) s.instruction l) m =
            subst (λ (i : Instr). IsOne (link (seen r s.span.function) i l) m) code (subst (λ (t : Span). IsOne (link (seen r t.function) k.instruction l) m) span k.one) in
            let of_l : IsOne (dereferenced l) d = subst (λ y. IsOne (dereferenced y) d) (sym (s.stays.itself m one)) o in
            let itself : IsLinkedAlone r part pc d d = record { span = s.span; there = s.there; instruction = s.instruction; stands = s.stands; one = s.stays.fronts d of_l } in
            ⊎_elim
            (λ in_set. one_there d d in_set itself)
            (λ (done : IsLinkedAt r a part pc d). has_still b c x.adds.grows part pc d (has_still a b adds.grows part pc d (done part pc d (refl, refl, inl (d, refl, itself)))))
            (chosen.fronts l d such of_l)
        | inr gone ↦
            x.has part pc d (refl, refl, inr (m, (l, (such.0, (splits.rest such.0).1 (such.1, gone), adds.grows.names part such.0 l such.2), k), o))
      ]

      all_there : (m : Lock) → IsLinkedOf r part pc Set m → HasFact c part pc m
      all_there m (inl h) = one_there h.0 m h.1 h.2
      all_there m (inr h) = let k = h.1 in front_there k.0 h.0 m k.1 k.2 h.2

      pub linked_all : Added r a c (At part pc (IsLinkedOf r part pc Set))
      linked_all = record {
        ready = x.ready;
        has = λ p q m h. subst (λ y. HasFact c y q m) (sym h.0) (subst (λ y. HasFact c part y m) (sym h.1) (all_there m h.2));
        adds = adds_on a b c _ _ _ stay_at changed_at adds x.adds;
        lists = lists_on a b c lists x.lists;
      }

    pub linked_ok : ((m : Lock) → Stay m → HasFact b part pc m) → Lists a b → (result : Result Unit AddFault) → OnOk result (Added r b c (At part pc (IsLinkedOf r part pc Changed)))
        → OnOk result (Added r a c (At part pc (IsLinkedOf r part pc Set)))
    linked_ok has lists (Ok u) x = linked_all has lists x
    linked_ok has lists (Err e) x = tt

    -- none changes: those that stay are all
    pub all_stay : IsReady r a → changed ≡ [] → ((m : Lock) → Stay m → HasFact b part pc m) → Lists a b → IsWhole b → Added r b b (At part pc (IsLinkedOf r part pc Changed))
    all_stay ready none has lists whole = record {
      ready = ready_still r a b _ ready adds whole;
      has = λ p q m h. absurd (nothing m h.2);
      adds = adds_same b _;
      lists = lists_same b;
    }
      where
        nothing : (m : Lock) → IsLinkedOf r part pc Changed m → ⊥
        nothing m h = let l = linked_split r part pc Changed m h in let lt = (subst (λ xs. Contains xs l.1.0) none l.1.1).1 in omega (arith, lt)

    pub linked_err : (result : Result Unit AddFault) → IfErr result (Stopped b c (At part pc (IsLinkedOf r part pc Changed))) → IfErr result (Stopped a c (At part pc (IsLinkedOf r part pc Set)))
    linked_err (Ok u) x = tt
    linked_err (Err e) x = linked_stopped e x

-- masks stay right as more is found
pub masks_ok : (r : Read) (a b c : Table) (all : List (List Mask)) (some these : ℕ → ℕ → Lock → Type 0) → AreAllMasks r a all → Adds a b some → (result : Result Unit AddFault) → OnOk result (Added r b c these) → OnOk result (AreAllMasks r c all)
masks_ok r a b c all some these so adds (Ok u) x = masks_grow r b c all x.adds.grows (masks_grow r a b all adds.grows so)
masks_ok r a b c all some these so adds (Err e) x = tt

pub masks_later : (r : Read) (b c : Table) (all : List (List Mask)) (these : ℕ → ℕ → Lock → Type 0) → AreAllMasks r b all → (result : Result Unit AddFault) → OnOk result (Added r b c these) → OnOk result (AreAllMasks r c all)
masks_later r b c all these so (Ok u) x = masks_grow r b c all x.adds.grows so
masks_later r b c all these so (Err e) x = tt
