-- What locks at the entry of a function become at its calls, as numbers of a region.
use Rattle.std.proofs.Common.{◌≡◌, ◌↔◌, ◌⊎◌, ⊎_elim, ℕ, zero, suc, ◌<◌, ◌≤◌, ◌++◌, Bool, List, [], ◌∷◌, Some, Result, Ok, Err, OnOk, IfErr, length, slice_get, inl, inr, refl, ap, sym, subst, ◌∙◌, arith}
use Rattle.std.specs.List.{flat_map}
use Rattle.std.proofs.lemmas.Option.{slice_get_within}
use Rattle.asl_code.specs.declared.instr.Instr.{Instr}
use Rattle.asl_code.specs.declared.instr.Instr.TheVariants as instr
use Rattle.asl_code.specs.declared.lock.Lock.{Lock}
use Rattle.asl_lane_sets.specs.NumberSet.{IsIn}
use Rattle.asl_lock_expr.specs.Links.{IsOne, dereferenced}
use Rattle.asl_lock_expr.proofs.Ones.{one_left, one_right, one_either}
use Rattle.asl_backward_flow.specs.declared.entered.Entered.{Entered}
use Rattle.asl_backward_flow.specs.declared.found.AddFault.{AddFault}
use Rattle.asl_backward_flow.specs.Found.{Table, HasFact, HasPoint, IsOver, IsWhole, IsNamed, Grows, Adds, AddsSome, Lists, HasNumbers, locks_of}
use Rattle.asl_backward_flow.specs.Follows.{Read, IsEntered, AtCallOf, WithFronts, At, IsReady, Added, Stopped}
use Rattle.asl_backward_flow.specs.Graph.{IsCall}
use Rattle.asl_backward_flow.specs.Entering.{IsEnteredOf, IsCalledAtOf, IsSameCall, IsFoundAt, IsEnteredAt, AreEntered}
use Rattle.asl_backward_flow.specs.Parts.{ListsBelow}
use Rattle.asl_backward_flow.proofs.Adding.{ready_still, adds_as, added_as, added_on, stopped_as, stopped_on}
use Rattle.asl_backward_flow.proofs.Fronts.{fronts_as, fronts_list, list_fronts, named_later, named_before}
use Rattle.asl_backward_flow.proofs.Sets.{some_same, at_push}
use Rattle.asl_backward_flow.proofs.Steps.{adds_some_begin, adds_some_more}

-- the locks of a list, by their places
pub one_at : (locks : List Lock) (l : Lock) → IsOne locks l → (k : ℕ) × (slice_get locks k ≡ Some l)
one_at [] l h = absurd h
one_at (x ∷ xs) l (inl e) = (0, ap Some e)
one_at (x ∷ xs) l (inr h) = let k = one_at xs l h in (suc k.0, k.1)

pub at_one : (locks : List Lock) (k : ℕ) (l : Lock) → slice_get locks k ≡ Some l → IsOne locks l
at_one [] k l e = absurd cc
at_one (x ∷ xs) zero l e = inl (some_same e)
at_one (x ∷ xs) (suc k) l e = inr (at_one xs k l e)

-- what the lock at a place of a list becomes
abbrev pub each_entered : Read → ℕ → ℕ → List Lock → ℕ → Lock → Type 0
each_entered r part pc locks j m = (l : Lock) × (slice_get locks j ≡ Some l) × IsEntered r part pc l m

pub entered_more : (r : Read) (part pc : ℕ) (locks : List Lock) (j : ℕ) (l : Lock) → slice_get locks j ≡ Some l → (now new : List Lock) → ((m : Lock) → IsOne new m ↔ (IsOne now m ⊎ IsEntered r part pc l m))
    → (m : Lock) → IsOne new m ↔ (IsOne now m ⊎ each_entered r part pc locks j m)
entered_more r part pc locks j l at now new step m = (
  λ h. ⊎_elim (λ o. inl o) (λ e. inr (l, at, e)) ((step m).0 h),
  λ h.
      ⊎_elim
      (λ o. (step m).1 (inl o))
      (λ (k : each_entered r part pc locks j m). (step m).1 (inr (subst (λ x. IsEntered r part pc x m) (some_same (sym k.1 ∙ at)) k.2)))
      h,
)

pub entered_end : (r : Read) (part pc : ℕ) (locks : List Lock) (end : ℕ) (all : List Lock) → length locks ≤ end → ListsBelow (each_entered r part pc locks) end [] all
    → (m : Lock) → IsOne all m ↔ ((l : Lock) × IsOne locks l × IsEntered r part pc l m)
entered_end r part pc locks end all le so m = (
  λ h. ⊎_elim (λ o. absurd o) (λ k. (k.2.0, at_one locks k.0 k.2.0 k.2.1, k.2.2)) ((so m).0 h),
  λ h. (let k = one_at locks h.0 h.1 in let lt = slice_get_within locks k.0 h.0 k.1 in (so m).1 (inr (k.0, omega (arith, lt, le), (h.0, k.1, h.2)))),
)

-- a list to which such locks were added
pub added_ones : (old new more : List Lock) (Such : Lock → Type 0) → new ≡ old ++ more → ((m : Lock) → IsOne more m ↔ Such m) → (m : Lock) → IsOne new m ↔ (IsOne old m ⊎ Such m)
added_ones old new more Such is are m = (
  λ h. ⊎_elim (λ o. inl o) (λ n. inr ((are m).0 n)) (one_either old more m (subst (λ l. IsOne l m) is h)),
  λ h. subst (λ l. IsOne l m) (sym is) (⊎_elim (λ o. one_left old more m o) (λ n. one_right old more m ((are m).1 n)) h),
)

pub pushed_one : (old new : List Lock) (lock : Lock) (locks : List Lock) (n : ℕ) → new ≡ old ++ lock ∷ [] → slice_get locks n ≡ Some lock → (m : Lock) → IsOne new m ↔ (IsOne old m ⊎ (slice_get locks n ≡ Some m))
pushed_one old new lock locks n is at = added_ones old new (lock ∷ []) (λ m. slice_get locks n ≡ Some m) is (λ m. (λ h. ⊎_elim (λ e. at ∙ ap Some e) (λ o. absurd o) h, λ h. inl (some_same (sym at ∙ h))))

-- a list that began without locks has what was added
pub from_none : (new : List Lock) (Such : Lock → Type 0) → ((m : Lock) → IsOne new m ↔ (IsOne [] m ⊎ Such m)) → (m : Lock) → IsOne new m ↔ Such m
from_none new Such so m = (λ h. ⊎_elim (λ o. absurd o) (λ k. k) ((so m).0 h), λ h. (so m).1 (inr h))

pub kept_ones : (old : List Lock) (Such : Lock → Type 0) → ((m : Lock) → Such m → ⊥) → (m : Lock) → IsOne old m ↔ (IsOne old m ⊎ Such m)
kept_ones old Such none m = (λ h. inl h, λ h. ⊎_elim (λ o. o) (λ n. absurd (none m n)) h)

abbrev first_of : Instr → ℕ
first_of (instr.Call to first g) = first
first_of i = 0

abbrev callee_of : Instr → ℕ
callee_of (instr.Call to first g) = g
callee_of i = 0

-- at such calls the same is entered
module _ (r : Read) (part pc other : ℕ) (same : IsSameCall r.lowered pc other) where
  entered_same : (l m : Lock) → IsEntered r part pc l m → IsEntered r part other l m
  entered_same l m h =
      let calls = same.4 in
      let call : instr.Call h.to h.first h.function ≡ instr.Call calls.0 calls.2 calls.3 = some_same (sym h.stands ∙ same.2) ∙ calls.4 in
      record {
        span = h.span;
        there = h.there;
        to = calls.1;
        first = h.first;
        function = h.function;
        callee = h.callee;
        stands = same.3 ∙ ap Some (calls.5 ∙ sym (ap (λ i. instr.Call calls.1 (first_of i) (callee_of i)) call));
        in_table = h.in_table;
        passed = h.passed;
        renames = h.renames;
        one = h.one;
      }

  pub entered_there : (Such : Lock → Type 0) (m : Lock) → IsEnteredOf r part pc Such m → IsEnteredOf r part other Such m
  entered_there Such m h = fronts_as _ _ (λ n k. (k.0, k.1, entered_same k.0 n k.2)) m h

pub same_back : (r : Read) (pc other : ℕ) → IsSameCall r.lowered pc other → IsSameCall r.lowered other pc
same_back r pc other same = let calls = same.4 in (same.1, same.0, same.3, same.2, (calls.1, calls.0, calls.2, calls.3, calls.5, calls.4))

-- the numbers name the same locks as more is found
pub entered_grow : (r : Read) (a b : Table) (Such : Lock → Type 0) (part pc : ℕ) (numbers : List Bool) → Grows a b → IsEnteredAt r a Such part pc numbers → IsEnteredAt r b Such part pc numbers
entered_grow r a b Such part pc numbers grows so = record {
  named = λ n h. (let m = so.named n h in (m.0, grows.names part n m.0 m.1));
  only = λ m h. so.only m (named_before a b part grows (IsIn numbers) so.named m h);
  all = λ m h. named_later a b part grows (IsIn numbers) m (so.all m h);
}

pub all_grow : (r : Read) (a b : Table) (Such : Lock → Type 0) (known : List Entered) → Grows a b → AreEntered r a Such known → AreEntered r b Such known
all_grow r a b Such known grows so k e at = entered_grow r a b Such e.part e.pc e.numbers grows (so k e at)

pub all_none : (r : Read) (t : Table) (Such : Lock → Type 0) (known : List Entered) → known ≡ [] → AreEntered r t Such known
all_none r t Such known none k e at = absurd (nothing k e (ap (λ l. slice_get l k) (sym none) ∙ at))
  where
    nothing : (k : ℕ) (e : Entered) → slice_get {X = Entered} [] k ≡ Some e → ⊥
    nothing k e at = cc

pub all_push : (r : Read) (t : Table) (Such : Lock → Type 0) (known : List Entered) (x : Entered) → AreEntered r t Such known → IsEnteredAt r t Such x.part x.pc x.numbers → AreEntered r t Such (known ++ x ∷ [])
all_push r t Such known x so is k e at = ⊎_elim (λ o. so k e o) (λ (same : e ≡ x). subst (λ (y : Entered). IsEnteredAt r t Such y.part y.pc y.numbers) (sym same) is) (at_push known x k e at)

pub ok_any : {A E : Type 0} (result : Result A E) (P : Type 0) → P → OnOk result P
ok_any (Ok v) P p = p
ok_any (Err e) P p = tt

pub no_one : (locks : List Lock) → length locks ≡ 0 → (l : Lock) → IsOne locks l → ⊥
no_one [] none l h = absurd h
no_one (x ∷ xs) none l h = absurd (omega (arith, none))

-- numbers of locks are added at a point
module _ (r : Read) (a b : Table) (part pc : ℕ) (set : List Bool) (these : Lock → Type 0) (to : (m : Lock) → IsNamed (locks_of a part) set m → these m)
    (adds : Adds a b (λ p q m. (p ≡ part) × (q ≡ pc) × IsNamed (locks_of a part) set m)) where
  pub numbered_ok : ((m : Lock) → these m → IsNamed (locks_of a part) set m) → IsReady r a → (result : Result Unit AddFault)
      → OnOk result (IsWhole b) → OnOk result ((m : Lock) → IsNamed (locks_of a part) set m → HasFact b part pc m) → OnOk result (Lists a b) → OnOk result (Added r a b (At part pc these))
  numbered_ok from ready (Ok u) whole has lists = record {
    ready = ready_still r a b _ ready adds whole;
    has = λ p q m h. subst (λ x. HasFact b x q m) (sym h.0) (subst (λ y. HasFact b part y m) (sym h.1) (has m (from m h.2)));
    adds = adds_as a b _ (At part pc these) (λ p q m h. (h.0, h.1, to m h.2)) adds;
    lists = lists;
  }
  numbered_ok from ready (Err e) whole has lists = tt

  pub numbered_err : (result : Result Unit AddFault) → IfErr result (IsOver b) → IfErr result (Stopped a b (At part pc these))
  numbered_err (Ok u) over = tt
  numbered_err (Err e) over = record { adds = adds_as a b _ (At part pc these) (λ p q m h. (h.0, h.1, to m h.2)) adds; over = over }

-- what was found at such a call of the region
module _ (r : Read) (t : Table) (part pc : ℕ) (Such : Lock → Type 0) (known : List Entered) (place : ℕ) (is : IsFoundAt r.lowered part pc known place) (so : AreEntered r t Such known) (x : Entered) (at : slice_get known place ≡ Some x) where
  same : is.0 ≡ x
  same = some_same (sym is.1 ∙ at)

  pub found_here : IsEnteredAt r t Such part pc x.numbers
  found_here =
      let e = is.0 in
      let was = so place e is.1 in
      let here : IsEnteredAt r t Such part e.pc e.numbers = subst (λ p. IsEnteredAt r t Such p e.pc e.numbers) is.2 was in
      subst (λ (y : Entered). IsEnteredAt r t Such part pc y.numbers) same (record {
        named = here.named;
        only = λ m h. entered_there r part e.pc pc is.3 Such m (here.only m h);
        all = λ m h. here.all m (entered_there r part pc e.pc (same_back r e.pc pc is.3) Such m h);
      })

-- the numbers of the locks of two lists, of which the second has the dereferenced prefixes of the first
pub entered_numbers : (r : Read) (mid new : Table) (part pc : ℕ) (Such : Lock → Type 0) (locks fronts : List Lock) → fronts ≡ flat_map dereferenced locks → ((m : Lock) → IsOne locks m ↔ ((l : Lock) × Such l × IsEntered r part pc l m))
    → (none first numbers : List Bool) → none ≡ [] → Grows mid new → HasNumbers (locks_of mid part) locks none first → HasNumbers (locks_of new part) fronts first numbers → IsEnteredAt r new Such part pc numbers
entered_numbers r mid new part pc Such locks fronts is are none first numbers empty grows x y = record {
  named = λ n h. (let m = name n h in (m.0, m.2));
  only = λ m h. (let was = name h.0 h.1 in subst (IsEnteredOf r part pc Such) (some_same (sym was.2 ∙ h.2)) (fronts_as (IsOne locks) _ (λ k. (are k).0) was.0 was.1));
  all = λ m h.
      ⊎_elim
      (λ o. (let was = x.all m o in (was.0, y.kept was.0 was.1, grows.names part was.0 m was.2)))
      (λ o. y.all m o)
      (fronts_list locks fronts is m (fronts_as _ (IsOne locks) (λ k. (are k).1) m h));
}
  where
    nothing : (n : ℕ) → IsIn [] n → ⊥
    nothing n h = cc

    name : (n : ℕ) → IsIn numbers n → (m : Lock) × WithFronts (IsOne locks) m × (slice_get (locks_of new part) n ≡ Some m)
    name n h =
        ⊎_elim
        (λ o. ⊎_elim (λ z. absurd (nothing n (subst (λ s. IsIn s n) empty z))) (λ k. (k.0, inl k.1, grows.names part n k.0 k.2)) (x.only n o))
        (λ k. (k.0, list_fronts locks fronts is k.0 k.1, k.2))
        (y.only n h)

-- what follows at the calls of a function from several locks
module _ (r : Read) (g : ℕ) (Such : Lock → Type 0) where
  pub calls_to : (p q : ℕ) (m : Lock) → IsCall r.lowered g q → IsCalledAtOf r q Such p q m → AtCallOf r g Such p q m
  calls_to p q m call h = ⊎_elim
      (λ k. (k.0, k.1, (call, (h.0, h.1, inl k.2))))
      (λ k. (let one = k.1 in (one.0, one.1, (call, (h.0, h.1, inr (k.0, one.2, k.2))))))
      h.2

  pub calls_from : (p q : ℕ) (m : Lock) → AtCallOf r g Such p q m → IsCall r.lowered g q × IsCalledAtOf r q Such p q m
  calls_from p q m h = (h.2.0, (h.2.1.0, h.2.1.1, fronts_as _ _ (λ n k. (h.0, h.1, k)) m h.2.1.2))

-- the same of other such locks
pub calls_as : (r : Read) (g : ℕ) (Such All : Lock → Type 0) → ((l : Lock) → Such l → All l) → (p q : ℕ) (m : Lock) → AtCallOf r g Such p q m → AtCallOf r g All p q m
calls_as r g Such All within p q m h = (h.0, within h.0 h.1, h.2)

module _ (r : Read) (a b : Table) (g : ℕ) (Such All : Lock → Type 0) (are : (l : Lock) → Such l ↔ All l) where
  pub calls_ok : (result : Result Unit AddFault) → OnOk result (Added r a b (AtCallOf r g Such)) → OnOk result (Added r a b (AtCallOf r g All))
  calls_ok (Ok u) x = added_as r a b _ _ (calls_as r g Such All (λ l. (are l).0)) (calls_as r g All Such (λ l. (are l).1)) x
  calls_ok (Err e) x = tt

  pub calls_err : (result : Result Unit AddFault) → IfErr result (Stopped a b (AtCallOf r g Such)) → IfErr result (Stopped a b (AtCallOf r g All))
  calls_err (Ok u) x = tt
  calls_err (Err e) x = stopped_as a b _ _ e (calls_as r g Such All (λ l. (are l).0)) x

-- how far the locks of a list were added at a pc of a region, and their numbers to a set
pub record ListsSome (initial now : Table) (part pc : ℕ) (all rest : List Lock) (first numbers : List Bool) : Type 0 where
  pub some : AddsSome initial now part pc all rest
  pub kept : (n : ℕ) → IsIn first n → IsIn numbers n
  pub only : (n : ℕ) → IsIn numbers n → IsIn first n ⊎ ((m : Lock) × IsOne all m × (slice_get (locks_of now part) n ≡ Some m))
  pub listed : (m : Lock) → IsOne all m → IsOne rest m ⊎ IsNamed (locks_of now part) numbers m

pub lists_some_begin : (t : Table) (p q : ℕ) (all : List Lock) (first : List Bool) → p < length t.locks → HasPoint t p q → IsWhole t → ListsSome t t p q all all first first
lists_some_begin t p q all first there point whole = record { some = adds_some_begin t p q all there point whole; kept = λ n h. h; only = λ n h. inl h; listed = λ m h. inl h }

pub lists_some_more : (initial now new : Table) (p q : ℕ) (all left rest : List Lock) (lock : Lock) (first numbers more : List Bool) (number : ℕ) → ListsSome initial now p q all left first numbers → left ≡ rest ++ lock ∷ []
    → Adds now new (λ r s m. (r ≡ p) × (s ≡ q) × (m ≡ lock)) → IsWhole new → HasFact new p q lock → Lists now new → slice_get (locks_of new p) number ≡ Some lock → ((k : ℕ) → IsIn more k ↔ (IsIn numbers k ⊎ (k ≡ number)))
    → ListsSome initial new p q all rest first more
lists_some_more initial now new p q all left rest lock first numbers more number so is adds whole has lists at step =
    let in_left : IsOne left lock = subst (λ l. IsOne l lock) (sym is) (one_right rest (lock ∷ []) lock (inl refl)) in
    let of_all = so.some.of lock in_left in
    record {
      some = adds_some_more initial now new p q all left rest lock so.some is adds whole has lists;
      kept = λ n h. (step n).1 (inl (so.kept n h));
      only = λ n h.
          ⊎_elim
          (λ o. ⊎_elim (λ f. inl f) (λ k. inr (k.0, k.1, adds.grows.names p n k.0 k.2)) (so.only n o))
          (λ (e : n ≡ number). inr (lock, of_all, ap (slice_get (locks_of new p)) e ∙ at))
          ((step n).0 h);
      listed = λ m h.
          ⊎_elim
          (λ (k : IsOne left m).
          ⊎_elim (λ r. inl r) (λ (l : IsOne (lock ∷ []) m). inr (number, (step number).1 (inr refl), at ∙ ap Some (only_one lock m l))) (one_either rest (lock ∷ []) m (subst (λ l. IsOne l m) is k)))
          (λ f. inr (f.0, (step f.0).1 (inl f.1), adds.grows.names p f.0 m f.2))
          (so.listed m h);
    }
  where
    only_one : (a m : Lock) → IsOne (a ∷ []) m → a ≡ m
    only_one a m (inl e) = e
    only_one a m (inr e) = absurd e

pub lists_some_all : (initial now : Table) (p q : ℕ) (all left : List Lock) (first numbers : List Bool) → ListsSome initial now p q all left first numbers → length left ≡ 0 → HasNumbers (locks_of now p) all first numbers
lists_some_all initial now p q all [] first numbers so none = record { kept = so.kept; only = so.only; all = λ m h. ⊎_elim (λ k. absurd k) (λ f. f) (so.listed m h) }
lists_some_all initial now p q all (x ∷ left) first numbers so none = absurd (omega arith)

-- the locks of a list that are what such locks become, and then their dereferenced prefixes, are added at a call
module _ (r : Read) (old mid new : Table) (part pc : ℕ) (Such : Lock → Type 0) (locks fronts : List Lock) (is : fronts ≡ flat_map dereferenced locks) (are : (m : Lock) → IsOne locks m ↔ ((l : Lock) × Such l × IsEntered r part pc l m)) where
  abbrev All : ℕ → ℕ → Lock → Type 0
  All = At part pc (IsEnteredOf r part pc Such)

  left : (p q : ℕ) (m : Lock) → At part pc (IsOne locks) p q m → All p q m
  left p q m h = (h.0, h.1, inl ((are m).0 h.2))

  right : (p q : ℕ) (m : Lock) → At part pc (IsOne fronts) p q m → All p q m
  right p q m h = (h.0, h.1, fronts_as (IsOne locks) _ (λ k. (are k).0) m (list_fronts locks fronts is m h.2))

  either : (p q : ℕ) (m : Lock) → All p q m → At part pc (IsOne locks) p q m ⊎ At part pc (IsOne fronts) p q m
  either p q m h = ⊎_elim (λ k. inl (h.0, h.1, k)) (λ k. inr (h.0, h.1, k)) (fronts_list locks fronts is m (fronts_as _ (IsOne locks) (λ k. (are k).1) m h.2))

  pub entered_ok : Added r old mid (At part pc (IsOne locks)) → Added r mid new (At part pc (IsOne fronts)) → Added r old new All
  entered_ok x y = added_on r old mid new _ _ All left right either x y

  pub entered_first : (fault : AddFault) → Stopped old mid (At part pc (IsOne locks)) fault → Stopped old mid All fault
  entered_first fault x = stopped_as old mid _ All fault left x

  pub entered_stopped : Added r old mid (At part pc (IsOne locks)) → (fault : AddFault) → Stopped mid new (At part pc (IsOne fronts)) fault → Stopped old new All fault
  entered_stopped x fault y = stopped_on r old mid new _ _ All fault left right x y
