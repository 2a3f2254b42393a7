-- Point after point is taken off the list and followed.
use Rattle.std.proofs.Common.{◌≡◌, ◌⊎◌, ⊎_elim, ℕ, zero, suc, ◌+◌, ◌<◌, ◌≤◌, if◌then◌else◌, Bool, true, List, [], ◌∷◌, Result, Ok, Err, OnOk, IfErr, Option, None, Some, IfSome, IfNone, length, slice_get, get_or, ap, sym, subst, refl, ◌∙◌, inl, inr, arith}
use Rattle.std.proofs.lemmas.List.{length-map}
use Rattle.std.proofs.lemmas.Option.{slice_get_within, slice_get-get_or, get_or_from_slice_get}
use Rattle.std.specs.List.{Contains}
use Rattle.std.specs.List.Sorted.{IsPermutation}
use Rattle.std.proofs.lemmas.List.Sorted.{IsPermutation-sym, Contains-permutation, length_permutation}
use Rattle.asl_lane_sets.specs.NumberSet.{IsIn}
use Rattle.asl_code.specs.declared.lock.Lock.{Lock}
use Rattle.asl_backward_flow.specs.declared.region_needs.RegionNeeds.{RegionNeeds}
use Rattle.asl_backward_flow.specs.declared.found.AddFault.{AddFault}
use Rattle.asl_backward_flow.specs.declared.found.AddFault.TheVariants.{OutOfMemory}
use Rattle.asl_backward_flow.specs.Found.{Table, table_of, list_at, Has, HasFact, IsAt, IsNamed, IsWhole, IsPut, IsNext, Waits, WaitsOrIsOne, NoneWaits, locks_of, left}
use Rattle.asl_backward_flow.specs.Follows.{Read, IsRead, IsAtPoint, IsBack, IsEntryOf, IsChosen, IsLinkedBack, Follows, NeededAt, HasAll, Added, Stopped, IsFollowed, Overflows}
use Rattle.asl_backward_flow.proofs.Tables.{locks_before}
use Rattle.asl_backward_flow.specs.declared.masks.Mask.{Mask}
use Rattle.asl_backward_flow.specs.Masked.{AreAllMasks}
use Rattle.asl_backward_flow.proofs.Fronts.{fronts_more, follows_fronted, follows_as, named_later, named_before, all_named}
use Rattle.asl_backward_flow.proofs.Adding.{added_on, stopped_on, stopped_as}
use Rattle.asl_backward_flow.proofs.Leasts.{needed_inside}
use Rattle.asl_backward_flow.proofs.Sets.{some_same}
use Rattle.asl_backward_flow.proofs.Steps.{has_still}
use Rattle.asl_backward_flow.proofs.Sound.{follows_needed}

-- what stands after the first of a list
pub behind : (f : ℕ × ℕ) (list : List (ℕ × ℕ)) (g : ℕ × ℕ) (n : ℕ) → slice_get (f ∷ list) n ≡ Some g → (g ≡ f) ⊎ IsAt list g
behind f list g zero e = inl (sym (some_same e))
behind f list g (suc n) e = inr (n, e)

module _ (r : Read) (read : IsRead r) (t new : Table) (f : ℕ × ℕ) (set : List Bool) (so : IsFollowed r t (WaitsOrIsOne t f set)) (within : (n : ℕ) → IsIn set n → Has t f.0 f.1 n) where
  abbrev Such : Lock → Type 0
  Such = IsNamed (locks_of t f.0) set

  such_has : (l : Lock) → Such l → HasFact t f.0 f.1 l
  such_has l h = (h.0, within h.0 h.1, h.2)

  such_needed : (l : Lock) → Such l → NeededAt r f.0 f.1 l
  such_needed l h = so.sound f.0 f.1 l (such_has l h)

  -- a dereferenced prefix that was not taken with the point was followed before
  pub chosen : ((n : ℕ) → ¬ Waits t f.0 f.1 n) → IsChosen (locks_of t f.0) set (IsLinkedBack r t f.0 f.1)
  chosen taken = record {
    named = λ n h. so.ready.whole.named f.0 f.1 n (within n h);
    fronts = λ m d h k.
        let has = so.fronts f.0 f.1 m d (such_has m h) k in
        ⊎_elim
        (λ w. ⊎_elim (λ waits. absurd (taken has.0 waits)) (λ (o : ((f.0, f.1) ≡ f) × IsIn set has.0). inl (has.0, o.1, has.2)) w)
        (λ (all : HasAll t (Follows r f.0 f.1 (λ l. d ≡ l))). inr (λ p q n b. all p q n (inl b)))
        (so.closed f.0 f.1 has.0 d has.1 has.2);
  }

  module _ (x : Added r t new (Follows r f.0 f.1 Such)) where
    still : (p q : ℕ) (n : Lock) → HasFact t p q n → HasFact new p q n
    still = has_still t new x.adds.grows

    follows_here : (p q n : ℕ) (m : Lock) → (p, q) ≡ f → IsIn set n → slice_get (locks_of t p) n ≡ Some m → HasAll new (Follows r p q (λ l. m ≡ l))
    follows_here p q n m is one name =
        let such : Such m = (n, one, subst (λ (g : ℕ × ℕ). slice_get (locks_of t g.0) n ≡ Some m) is name) in
        subst (λ (g : ℕ × ℕ). HasAll new (Follows r g.0 g.1 (λ l. m ≡ l))) (sym is)
        (λ a b y fo. x.has a b y (follows_as r f.0 f.1 (λ l. m ≡ l) Such (λ l e. subst Such e such) a b y fo))

    closed : (p q n : ℕ) (m : Lock) → Has t p q n → slice_get (locks_of t p) n ≡ Some m → Waits new p q n ⊎ HasAll new (Follows r p q (λ l. m ≡ l))
    closed p q n m has name =
        ⊎_elim
        (λ w. ⊎_elim (λ waits. inl (x.lists.stay p q n waits)) (λ (o : ((p, q) ≡ f) × IsIn set n). inr (follows_here p q n m o.0 o.1 name)) w)
        (λ (all : HasAll t (Follows r p q (λ l. m ≡ l))). inr (λ a b y fo. still a b y (all a b y fo)))
        (so.closed p q n m has name)

    was_named : (p q n : ℕ) (m : Lock) → Has t p q n → slice_get (locks_of new p) n ≡ Some m → slice_get (locks_of t p) n ≡ Some m
    was_named p q n m has name =
        let old = so.ready.whole.named p q n has in
        old.1 ∙ ap Some (some_same (sym (x.adds.grows.names p n old.0 old.1) ∙ name))

    pub followed_more : IsFollowed r new (Waits new)
    followed_more = record {
      ready = x.ready;
      sound = λ p q n h. ⊎_elim (λ o. so.sound p q n o) (λ k. follows_needed r read f.0 f.1 Such p q n such_needed k) (x.adds.only.facts p q n h);
      names = λ p n h. ⊎_elim (λ o. so.names p n o) (λ k. (k.0, follows_needed r read f.0 f.1 Such p k.0 n such_needed k.1)) (x.adds.only.names p n h);
      seeds = λ p q n h. still p q n (so.seeds p q n h);
      fronts = fronts_more r t new (Follows r f.0 f.1 Such) so.fronts (follows_fronted r f.0 f.1 Such) x;
      closed = λ p q n m has name. ⊎_elim (λ old. closed p q n m old (was_named p q n m old name)) (λ l. inl l) (x.lists.fresh p q n has);
    }

  pub next_ok : (result : Result Unit AddFault) → OnOk result (Added r t new (Follows r f.0 f.1 Such)) → OnOk result (IsFollowed r new (Waits new))
  next_ok (Ok u) x = followed_more x
  next_ok (Err e) x = tt

  pub next_less : (result : Result Unit AddFault) → OnOk result (Added r t new (Follows r f.0 f.1 Such)) → OnOk result (left new ≤ left t)
  next_less (Ok u) x = x.lists.less
  next_less (Err e) x = tt

  pub stopped_over : (e : AddFault) → Stopped t new (Follows r f.0 f.1 Such) e → Overflows r new e
  stopped_over e x = record {
    over = x.over;
    names = λ p n h. ⊎_elim (λ o. so.names p n o) (λ k. (k.0, follows_needed r read f.0 f.1 Such p k.0 n such_needed k.1)) (x.adds.only.names p n h);
  }

  pub next_err : (result : Result Unit AddFault) → IfErr result (Stopped t new (Follows r f.0 f.1 Such)) → IfErr result (Overflows r new)
  next_err (Ok u) x = tt
  next_err (Err e) x = stopped_over e x

-- what follows over instructions, and then at calls
module _ (r : Read) (a b c : Table) (part pc : ℕ) (set : List Bool) (named : (n : ℕ) → IsIn set n → (m : Lock) × (slice_get (locks_of a part) n ≡ Some m)) where
  back_part : (p q : ℕ) (m : Lock) → IsBack r part pc (IsNamed (locks_of a part) set) p q m → Follows r part pc (IsNamed (locks_of a part) set) p q m
  back_part p q m h = inl h

  module _ (x : Added r a b (IsBack r part pc (IsNamed (locks_of a part) set))) where
    pub named_still : (n : ℕ) → IsIn set n → (m : Lock) × (slice_get (locks_of b part) n ≡ Some m)
    named_still = all_named a b part x.adds.grows (IsIn set) named

    entry_part : (p q : ℕ) (m : Lock) → IsEntryOf r part pc (IsNamed (locks_of b part) set) p q m → Follows r part pc (IsNamed (locks_of a part) set) p q m
    entry_part p q m h = inr (h.0, named_before a b part x.adds.grows (IsIn set) named h.0 h.1, h.2)

    parts : (p q : ℕ) (m : Lock) → Follows r part pc (IsNamed (locks_of a part) set) p q m → IsBack r part pc (IsNamed (locks_of a part) set) p q m ⊎ IsEntryOf r part pc (IsNamed (locks_of b part) set) p q m
    parts p q m (inl h) = inl h
    parts p q m (inr h) = inr (h.0, named_later a b part x.adds.grows (IsIn set) h.0 h.1, h.2)

    pub follows_ok : (result : Result Unit AddFault) → OnOk result (Added r b c (IsEntryOf r part pc (IsNamed (locks_of b part) set))) → OnOk result (Added r a c (Follows r part pc (IsNamed (locks_of a part) set)))
    follows_ok (Ok u) y = added_on r a b c _ _ (Follows r part pc (IsNamed (locks_of a part) set)) back_part entry_part parts x y
    follows_ok (Err e) y = tt

    pub follows_err : (result : Result Unit AddFault) → IfErr result (Stopped b c (IsEntryOf r part pc (IsNamed (locks_of b part) set))) → IfErr result (Stopped a c (Follows r part pc (IsNamed (locks_of a part) set)))
    follows_err (Ok u) y = tt
    follows_err (Err e) y = stopped_on r a b c _ _ (Follows r part pc (IsNamed (locks_of a part) set)) e back_part entry_part x y

  pub back_stopped : (e : AddFault) → Stopped a b (IsBack r part pc (IsNamed (locks_of a part) set)) e → Stopped a b (Follows r part pc (IsNamed (locks_of a part) set)) e
  back_stopped e x = stopped_as a b _ (Follows r part pc (IsNamed (locks_of a part) set)) e back_part x

-- a fact is at a point of its region
pub fact_point : (r : Read) → IsRead r → (t : Table) (Waiting : ℕ → ℕ → ℕ → Type 0) → IsFollowed r t Waiting → (p q n : ℕ) → Has t p q n → IsAtPoint r p q
fact_point r read t Waiting so p q n here =
    let name = so.ready.whole.named p q n here in
    let need = so.sound p q name.0 (n, here, name.1) in
    let inside = needed_inside r.lowered r.classes r.stores r.k_limit _ q name.0 need.2 in
    let at = (read.spans.each p need.0 need.1).points inside.0 q inside.1 in
    (need.0, need.1, at.1, at.2)

pub point_in_code : (r : Read) → IsRead r → (p q : ℕ) → IsAtPoint r p q → q < length r.lowered.code
point_in_code r read p q at = let lt = at.3 in let end = (read.spans.each p at.0 at.1).within in omega (arith, lt, end)

pub point_in_spans : (r : Read) (p q : ℕ) → IsAtPoint r p q → p < length r.spans
point_in_spans r p q at = slice_get_within r.spans p at.0 at.1

-- what stands in a list stands in it in another order
at_contains : (xs : List (ℕ × ℕ)) (x : ℕ × ℕ) → IsAt xs x → Contains xs x
at_contains xs x at = (at.0, slice_get_within xs at.0 x at.1, get_or_from_slice_get xs at.0 x x at.1)

contains_at : (xs : List (ℕ × ℕ)) (x : ℕ × ℕ) → Contains xs x → IsAt xs x
contains_at xs x c = (c.0, slice_get-get_or xs c.0 x c.1 ∙ ap Some c.2)

pub at_permuted : (xs ys : List (ℕ × ℕ)) (x : ℕ × ℕ) → IsPermutation xs ys → IsAt xs x → IsAt ys x
at_permuted xs ys x p at = contains_at ys x (Contains-permutation xs ys x p (at_contains xs x at))

-- an item is put on a list
pub put_same : (old : List (ℕ × ℕ)) (item : ℕ × ℕ) (b : Bool) → (b ≡ true → IsAt old item) → IsPut old old item b
put_same old item b there = record { stay = λ f h. h; only = λ f h. inl h; there = there; longer = omega arith }

pub put_push : (old new : List (ℕ × ℕ)) (item : ℕ × ℕ) (b : Bool) → b ≡ true → IsPermutation (item ∷ old) new → IsPut old new item b
put_push old new item b is p = record {
  stay = λ f h. at_permuted (item ∷ old) new f p (suc h.0, h.1);
  only = λ f h. let at = at_permuted new (item ∷ old) f (IsPermutation-sym (item ∷ old) new p) h in ⊎_elim (λ e. inr (e, is)) (λ o. inl o) (behind item old f at.0 at.1);
  there = λ e. at_permuted (item ∷ old) new item p (0, refl);
  longer = let count = length_permutation (item ∷ old) new p in subst (λ c. length new ≤ length old + (if c then 1 else 0)) (sym is) (omega (arith, count));
}

-- a point is taken off the list, with what was still to be followed there
pub next_followed : (r : Read) (old new : Table) (f : ℕ × ℕ) (set : List Bool) → IsNext old new f set → IsFollowed r old (Waits old) → IsFollowed r new (WaitsOrIsOne new f set)
next_followed r old new f set next so =
    subst (λ (t : Table). IsFollowed r t (WaitsOrIsOne new f set)) (sym next.same)
    (record {
      ready = record { regions = so.ready.regions; count = so.ready.count; points = so.ready.points; whole = subst IsWhole next.same next.whole };
      sound = so.sound;
      names = so.names;
      seeds = so.seeds;
      fronts = so.fronts;
      closed = λ p q n m has name. ⊎_elim (λ w. inl (next.waits p q n w)) (λ a. inr a) (so.closed p q n m has name);
    })

-- what is said of the point that there is, or where there is none
pub some_of : (o : Option (ℕ × ℕ)) (f : ℕ × ℕ) (P : ℕ × ℕ → Type 0) → o ≡ Some f → IfSome o P → P f
some_of o f P is said = subst (λ (p : Option (ℕ × ℕ)). IfSome p P) is said

pub none_of : (o : Option (ℕ × ℕ)) (P : Type 0) → ((f : ℕ × ℕ) → o ≡ Some f → ⊥) → IfNone o P → P
none_of None P other said = said
none_of (Some f) P other said = absurd (other f refl)

-- the memory ran out before that
pub next_stopped : (r : Read) (old new : Table) (fault : AddFault) → fault ≡ OutOfMemory → new.locks ≡ old.locks → IsFollowed r old (Waits old) → Overflows r new fault
next_stopped r old new fault is same so =
    subst (Overflows r new) (sym is) (record { over = tt; names = λ p m h. so.names p m (subst (λ l. IsAt (list_at l p) m) same h) })

-- masks stay right
pub next_masks : (r : Read) (old new : Table) (f : ℕ × ℕ) (set : List Bool) (all : List (List Mask)) → IsNext old new f set → AreAllMasks r old all → AreAllMasks r new all
next_masks r old new f set all next so = subst (λ (t : Table). AreAllMasks r t all) (sym next.same) (record { count = so.count; each = so.each })

nothing_at : (k : ℕ) (f : ℕ × ℕ) → slice_get {X = ℕ × ℕ} [] k ≡ Some f → ⊥
nothing_at k f e = cc

nowhere : (l : List (ℕ × ℕ)) → length l ≡ 0 → (f : ℕ × ℕ) → IsAt l f → ⊥
nowhere [] e f at = nothing_at at.0 f at.1
nowhere (x ∷ l) e f at = absurd (omega (arith, e))

-- nothing is left on the list
pub followed_end : (r : Read) (t : Table) → length t.list ≡ 0 → IsFollowed r t (Waits t) → IsFollowed r t NoneWaits
followed_end r t none so = record {
  ready = so.ready;
  sound = so.sound;
  names = so.names;
  seeds = so.seeds;
  fronts = so.fronts;
  closed = λ p q n m has name. ⊎_elim (λ w. absurd (nowhere t.list none (p, q) (so.ready.whole.awaited p q n w))) (λ a. inr a) (so.closed p q n m has name);
}

part_there : (lists : List (List Lock)) (p n : ℕ) (m : Lock) → slice_get (list_at lists p) n ≡ Some m → p < length lists
part_there [] p n m e = absurd (nothing n e)
  where
    nothing : (k : ℕ) → slice_get {X = Lock} [] k ≡ Some m → ⊥
    nothing k h = cc
part_there (l ∷ ls) zero n m e = omega arith
part_there (l ∷ ls) (suc p) n m e = let lt = part_there ls p n m e in omega (arith, lt)

-- the lock that is read by the numbers of a fact
pub lock_read : (parts : List RegionNeeds) (list : List (ℕ × ℕ)) (p q : ℕ) (v : RegionNeeds) (ks : List Lock) (n k : ℕ) (d m result : Lock)
    → q ≡ p → p < length parts → v ≡ get_or parts q v → ks ≡ v.locks.keys → k ≡ n → result ≡ get_or ks k d → slice_get (locks_of (table_of parts list) p) n ≡ Some m → slice_get (locks_of (table_of parts list) p) n ≡ Some result
lock_read parts list p q v ks n k d m result same there is made one read at =
    let here : locks_of (table_of parts list) p ≡ ks = locks_before parts p q v list same there is ∙ sym made in
    let mine : get_or ks n d ≡ m = get_or_from_slice_get ks n m d (ap (λ l. slice_get l n) (sym here) ∙ at) in
    at ∙ ap Some (sym mine ∙ ap (λ x. get_or ks x d) (sym one) ∙ sym read)

pub name_within : (parts : List RegionNeeds) (list : List (ℕ × ℕ)) (p q : ℕ) (v : RegionNeeds) (ks : List Lock) (n k : ℕ) (m : Lock)
    → q ≡ p → p < length parts → v ≡ get_or parts q v → ks ≡ v.locks.keys → k ≡ n → slice_get (locks_of (table_of parts list) p) n ≡ Some m → k < length ks
name_within parts list p q v ks n k m same there is made one at =
    let here : locks_of (table_of parts list) p ≡ ks = locks_before parts p q v list same there is ∙ sym made in
    let lt = slice_get_within ks n m (ap (λ l. slice_get l n) (sym here) ∙ at) in omega (arith, lt, one)

pub parts_there : (parts : List RegionNeeds) (list : List (ℕ × ℕ)) (p n : ℕ) (m : Lock) → slice_get (locks_of (table_of parts list) p) n ≡ Some m → p < length parts
parts_there parts list p n m at = let lt = part_there (table_of parts list).locks p n m at in omega (arith, lt, length-map parts (λ (z : RegionNeeds). z.locks.keys))
