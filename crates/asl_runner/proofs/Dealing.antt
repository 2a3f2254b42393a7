-- Receipts and the entries of events, one after the other.
use Rattle.std.proofs.Common.{◌<◌, inl, inr, subst, get_or, set, Vec, Global, unwrap_or, Option, ◌≡◌, ◌≢◌, ℕ, suc, ◌+◌, ◌≤◌, ◌%◌, ◌==◌, true, false, List, [], ◌∷◌, length, map, drop, Some, slice_get, refl, ap, sym, ◌∙◌, cond, arith}
use Rattle.std.proofs.lemmas.Bool.{cases_eq}
use Rattle.std.proofs.Math.Numerals.{add-one-le}
use Rattle.std.proofs.lemmas.Bool.Decides.{nat_tests}
use Rattle.std.proofs.Math.Seq.{drop-cons}
use Rattle.std.proofs.Math.Numerals.{suc-eq-add-one}
use Rattle.std.proofs.Math.Nat.{add-zero, mod-lt}
use Rattle.asl_code.proofs.Told.{slice_get-drop}
use Rattle.std.proofs.lemmas.List.{drop_all, length-drop, get_or-set_same, get_or-set_other, length-set}
use Rattle.std.proofs.lemmas.Option.{slice_get_within, get_or_from_slice_get, slice_get-get_or}
use Rattle.asl_journal.specs.declared.event.Event.{Event}
use Rattle.asl_journal.specs.declared.event.Receipt.{Receipt}
use Rattle.asl_machine.specs.State.{State}
use Rattle.asl_runner.specs.History.{Entry, IsRight, IsWrong, entry, entry_of, entries_of, IsDealt}
use Rattle.asl_runner.specs.Comparing.{HasCome, HaveCome, IsNext, IsRestDealt, TellsTruth}

head_is : {A : Type 0} (x y : A) (xs ys : List A) → x ∷ xs ≡ y ∷ ys → x ≡ y
head_is x y xs ys e = cc

tail_is : {A : Type 0} (x y : A) (xs ys : List A) → x ∷ xs ≡ y ∷ ys → xs ≡ ys
tail_is x y xs ys e = cc

-- the list from a place on
from_here : {A : Type 0} (xs : List A) (n : ℕ) (x : A) → slice_get xs n ≡ Some x → drop n xs ≡ x ∷ drop (n + 1) xs
from_here xs n x e =
    drop-cons xs n x (slice_get_within xs n x e) ∙ ap (λ y. y ∷ drop (suc n) xs) (get_or_from_slice_get xs n x x e) ∙ ap (λ m. x ∷ drop m xs) (suc-eq-add-one n)

pub hit : (workers worker : ℕ) (events : List Event) (receipts : List Receipt) (next index : ℕ) (event : Event) (receipt : Receipt)
    → slice_get events index ≡ Some event → (event.thread % workers) ≡ worker → slice_get receipts next ≡ Some receipt
    → entry_of receipt ≡ entry index event.thread event.reply → IsRestDealt workers worker events receipts next index → IsRestDealt workers worker events receipts (next + 1) (index + 1)
hit workers worker events receipts next index event receipt at is there same h =
    let mine : ((event.thread % workers) == worker) ≡ true = grind (arith, nat_tests, is) in
    let e = from_here events index event at in
    let r = from_here receipts next receipt there in
    let left : map entry_of (drop next receipts) ≡ entry_of receipt ∷ map entry_of (drop (next + 1) receipts) = ap (map entry_of) r in
    let right : entries_of workers worker index (drop index events) ≡ entry index event.thread event.reply ∷ entries_of workers worker (index + 1) (drop (index + 1) events) =
    ap (entries_of workers worker index) e ∙ ap (λ b. cond b (entry index event.thread event.reply ∷ entries_of workers worker (index + 1) (drop (index + 1) events)) (entries_of workers worker (index + 1) (drop (index + 1) events))) mine in (
      (λ rest. h.0 (left ∙ ap (λ x. x ∷ map entry_of (drop (next + 1) receipts)) same ∙ ap (λ xs. entry index event.thread event.reply ∷ xs) rest ∙ sym right)),
      λ all. tail_is (entry_of receipt) (entry index event.thread event.reply) (map entry_of (drop (next + 1) receipts)) (entries_of workers worker (index + 1) (drop (index + 1) events)) (sym left ∙ h.1 all ∙ right),
    )

pub miss : (workers worker : ℕ) (events : List Event) (receipts : List Receipt) (next index : ℕ) (event : Event)
    → slice_get events index ≡ Some event → (event.thread % workers) ≢ worker → IsRestDealt workers worker events receipts next index → IsRestDealt workers worker events receipts next (index + 1)
miss workers worker events receipts next index event at is h =
    let other : ((event.thread % workers) == worker) ≡ false = grind (arith, nat_tests, is) in
    let right : entries_of workers worker index (drop index events) ≡ entries_of workers worker (index + 1) (drop (index + 1) events) =
    ap (entries_of workers worker index) (from_here events index event at) ∙ ap (λ b. cond b (entry index event.thread event.reply ∷ entries_of workers worker (index + 1) (drop (index + 1) events)) (entries_of workers worker (index + 1) (drop (index + 1) events))) other in
    ((λ rest. h.0 (rest ∙ sym right)), λ all. h.1 all ∙ right)

none_there : {A : Type 0} {x : A} {xs : List A} → x ∷ xs ≡ [] → ⊥
none_there e = cc

first_of : (rs : List Receipt) (x : Entry) (xs : List Entry) → map entry_of rs ≡ x ∷ xs → (r : Receipt) × (slice_get rs 0 ≡ Some r) × (entry_of r ≡ x)
first_of [] x xs e = absurd (none_there (sym e))
first_of (r ∷ rs) x xs e = (r, refl, head_is (entry_of r) x (map entry_of rs) xs e)

-- at an event of the worker whose receipt is missing or another, the receipts are wrong
pub wrong_here : (workers worker : ℕ) (events : List Event) (receipts : List Receipt) (next index : ℕ) (event : Event)
    → slice_get events index ≡ Some event → (event.thread % workers) ≡ worker
    → ((receipt : Receipt) → slice_get receipts next ≡ Some receipt → entry_of receipt ≢ entry index event.thread event.reply)
    → IsRestDealt workers worker events receipts next index → IsDealt workers worker events receipts → ⊥
wrong_here workers worker events receipts next index event at is none h all =
    let mine : ((event.thread % workers) == worker) ≡ true = grind (arith, nat_tests, is) in
    let right : entries_of workers worker index (drop index events) ≡ entry index event.thread event.reply ∷ entries_of workers worker (index + 1) (drop (index + 1) events) =
    ap (entries_of workers worker index) (from_here events index event at) ∙ ap (λ b. cond b (entry index event.thread event.reply ∷ entries_of workers worker (index + 1) (drop (index + 1) events)) (entries_of workers worker (index + 1) (drop (index + 1) events))) mine in
    let f = first_of (drop next receipts) (entry index event.thread event.reply) (entries_of workers worker (index + 1) (drop (index + 1) events)) (h.1 all ∙ right) in
    none f.0 (ap (slice_get receipts) (sym (add-zero next)) ∙ sym (slice_get-drop next receipts 0) ∙ f.1) f.2

none_left : (rs : List Receipt) → map entry_of rs ≡ [] → length rs ≡ 0
none_left [] e = refl
none_left (r ∷ rs) e = absurd (none_there e)

-- at the end all receipts are those of the worker just where none is left
pub all_dealt : (workers worker : ℕ) (events : List Event) (receipts : List Receipt) (next index : ℕ) → next ≡ length receipts → length events ≤ index
    → IsRestDealt workers worker events receipts next index → IsDealt workers worker events receipts
all_dealt workers worker events receipts next index all end h =
    let right : entries_of workers worker index (drop index events) ≡ [] = ap (entries_of workers worker index) (drop_all index events end) in
    h.0 (ap (map entry_of) (drop_all next receipts (omega (arith, all))) ∙ sym right)

pub not_all_dealt : (workers worker : ℕ) (events : List Event) (receipts : List Receipt) (next index : ℕ) → next ≤ length receipts → next ≢ length receipts → length events ≤ index
    → IsRestDealt workers worker events receipts next index → IsDealt workers worker events receipts → ⊥
not_all_dealt workers worker events receipts next index le other end h all =
    let right : entries_of workers worker index (drop index events) ≡ [] = ap (entries_of workers worker index) (drop_all index events end) in
    let none : length (drop next receipts) ≡ 0 = none_left (drop next receipts) (h.1 all ∙ right) in
    omega (arith, le, other, none, length-drop next receipts)

-- ---- all workers side by side

-- before the walk
pub none_compared : (workers : ℕ) (s : State) (events : List Event) (all : List (Vec Receipt Global)) (next : List ℕ) → ((worker : ℕ) → get_or next worker 0 ≡ 0)
    → HaveCome workers s events all next 0
none_compared workers s events all next none worker mine lt at =
    rw (none worker) (record { rest = ((λ e. e), λ e. e); within = omega arith; said = λ n r before there. absurd (omega (arith, before)) })

said_more : (s : State) (receipts : List Receipt) (next : ℕ) (receipt : Receipt) → slice_get receipts next ≡ Some receipt → TellsTruth s receipt
    → ((n : ℕ) (r : Receipt) → n < next → slice_get receipts n ≡ Some r → TellsTruth s r) → (n : ℕ) (r : Receipt) → n < next + 1 → slice_get receipts n ≡ Some r → TellsTruth s r
said_more s receipts next receipt here truth said n r lt there =
    elim (cases_eq n next) [
      | inl same ↦ (let is : Some receipt ≡ Some r = sym here ∙ ap (slice_get receipts) (sym same) ∙ there in
          let one : receipt ≡ r = ap (λ o. unwrap_or o receipt) is in subst (TellsTruth s) one truth)
      | inr other ↦ said n r (omega (arith, lt, other)) there
    ]

-- an event's worker has one receipt more that is compared
mine_on : (workers worker : ℕ) (s : State) (events : List Event) (receipts : List Receipt) (next index : ℕ) (event : Event) → slice_get events index ≡ Some event
    → (event.thread % workers) ≡ worker → IsNext s receipts next index event → HasCome workers worker s events receipts next index
    → HasCome workers worker s events receipts (next + 1) (index + 1)
mine_on workers worker s events receipts next index event at is found h =
    record {
      rest = hit workers worker events receipts next index event found.0 at is found.1 found.2 h.rest;
      within = add-one-le (slice_get_within receipts next found.0 found.1);
      said = said_more s receipts next found.0 found.1 found.3 h.said;
    }

-- and the others have as many
others_on : (workers worker : ℕ) (s : State) (events : List Event) (receipts : List Receipt) (next index : ℕ) (event : Event) → slice_get events index ≡ Some event
    → (event.thread % workers) ≢ worker → HasCome workers worker s events receipts next index → HasCome workers worker s events receipts next (index + 1)
others_on workers worker s events receipts next index event at is h =
    record { rest = miss workers worker events receipts next index event at is h.rest; within = h.within; said = h.said }

pub come_on : (workers : ℕ) (s : State) (events : List Event) (all : List (Vec Receipt Global)) (next : List ℕ) (index : ℕ) (event : Event) (receipts : Vec Receipt Global)
    → slice_get events index ≡ Some event → slice_get all (event.thread % workers) ≡ Some receipts → (event.thread % workers) < length next
    → IsNext s receipts.items (get_or next (event.thread % workers) 0) index event → HaveCome workers s events all next index
    → HaveCome workers s events all (set next (event.thread % workers) (get_or next (event.thread % workers) 0 + 1)) (index + 1)
come_on workers s events all next index event receipts at its room found h worker mine lt there =
    elim (cases_eq (event.thread % workers) worker) [
      | inl same ↦
          (let is : Some receipts ≡ Some mine = sym its ∙ ap (slice_get all) same ∙ there in
          let one : receipts ≡ mine = ap (λ o. unwrap_or o receipts) is in
          let set_is : get_or (set next (event.thread % workers) (get_or next (event.thread % workers) 0 + 1)) worker 0 ≡ get_or next worker 0 + 1 =
          ap (λ w. get_or (set next (event.thread % workers) (get_or next (event.thread % workers) 0 + 1)) w 0) (sym same) ∙ get_or-set_same next (event.thread % workers) (get_or next (event.thread % workers) 0 + 1) 0 room ∙ ap (λ w. get_or next w 0 + 1) same in
          let next_is : IsNext s mine.items (get_or next worker 0) index event = subst (λ (m : Vec Receipt Global). IsNext s m.items (get_or next worker 0) index event) one (subst (λ w. IsNext s receipts.items (get_or next w 0) index event) same found) in
          rw set_is (mine_on workers worker s events mine.items (get_or next worker 0) index event at same next_is (h worker mine lt there)))
      | inr other ↦
          (let set_is : get_or (set next (event.thread % workers) (get_or next (event.thread % workers) 0 + 1)) worker 0 ≡ get_or next worker 0 =
          get_or-set_other next (event.thread % workers) worker (get_or next (event.thread % workers) 0 + 1) 0 (λ e. other (sym e)) in
          rw set_is (others_on workers worker s events mine.items (get_or next worker 0) index event at other (h worker mine lt there)))
    ]

-- where the next receipt is missing, another, or untrue, the worker's receipts are wrong
pub not_next : (workers worker : ℕ) (s : State) (events : List Event) (receipts : List Receipt) (next index : ℕ) (event : Event) → slice_get events index ≡ Some event
    → (event.thread % workers) ≡ worker → (IsNext s receipts next index event → ⊥) → HasCome workers worker s events receipts next index → IsWrong workers worker s events receipts
not_next workers worker s events receipts next index event at is not h right =
    wrong_here workers worker events receipts next index event at is (λ receipt there same. not (receipt, there, same, right.said next receipt there)) h.rest right.dealt

-- where all receipts are compared, they are right
pub all_right : (workers worker : ℕ) (s : State) (events : List Event) (receipts : List Receipt) (next : ℕ) → next ≡ length receipts → HasCome workers worker s events receipts next (length events)
    → IsRight workers worker s events receipts
all_right workers worker s events receipts next all h =
    record {
      dealt = all_dealt workers worker events receipts next (length events) all (omega arith) h.rest;
      said = λ n r there. h.said n r (omega (arith, all, slice_get_within receipts n r there)) there;
    }

-- and where one is left over, they are wrong
pub some_left : (workers worker : ℕ) (s : State) (events : List Event) (receipts : List Receipt) (next : ℕ) → next ≢ length receipts → HasCome workers worker s events receipts next (length events)
    → IsWrong workers worker s events receipts
some_left workers worker s events receipts next other h right =
    not_all_dealt workers worker events receipts next (length events) h.within other (omega arith) h.rest right.dealt

-- ---- as the code has it

-- the vector of a worker, by an index that is its number
its_receipts : (all : List (Vec Receipt Global)) (worker k : ℕ) (m : Vec Receipt Global) → k ≡ worker → worker < length all → m ≡ get_or all k m → slice_get all worker ≡ Some m
its_receipts all worker k m is lt at = slice_get-get_or all worker m lt ∙ ap Some (sym (at ∙ ap (λ n. get_or all n m) is))

same_vector : (m mine : Vec Receipt Global) (o : Option (Vec Receipt Global)) → o ≡ Some m → o ≡ Some mine → m ≡ mine
same_vector m mine o one other = ap (λ (p : Option (Vec Receipt Global)). unwrap_or p m) (sym one ∙ other)

module _ (workers : ℕ) (s : State) (events : List Event) (all : List (Vec Receipt Global)) (next : List ℕ) (index : ℕ) (event : Event)
    (m : Vec Receipt Global) (rs : List Receipt) (n k : ℕ) (at : slice_get events index ≡ Some event) (some : 0 < workers) (dealers : length all ≡ workers)
    (n_is : n ≡ event.thread % workers) (k_is : k ≡ event.thread % workers) (m_is : m ≡ get_or all k m) (rs_is : rs ≡ m.items)
    (h : HaveCome workers s events all next index) where
  its : slice_get all (event.thread % workers) ≡ Some m
  its = its_receipts all (event.thread % workers) k m k_is (omega (arith, mod-lt event.thread some, dealers)) m_is

  pub wrong_here_now : (IsNext s rs (get_or next n 0) index event → ⊥) → (mine : Vec Receipt Global) → slice_get all (event.thread % workers) ≡ Some mine
      → IsWrong workers (event.thread % workers) s events mine.items
  wrong_here_now not mine there =
      let one = same_vector m mine (slice_get all (event.thread % workers)) its there in
      not_next workers (event.thread % workers) s events mine.items (get_or next (event.thread % workers) 0) index event at refl
      (λ found. not (rw (rs_is, one, n_is) found)) (h (event.thread % workers) mine (mod-lt event.thread some) there)

  pub all_come_on : (j : ℕ) → j ≡ event.thread % workers → length next ≡ 8 → workers ≤ 8 → IsNext s rs (get_or next n 0) index event
      → (length (set next j (get_or next n 0 + 1)) ≡ 8) × HaveCome workers s events all (set next j (get_or next n 0 + 1)) (index + 1)
  all_come_on j j_is room few found =
      let found_there : IsNext s m.items (get_or next (event.thread % workers) 0) index event =
      subst (λ (xs : List Receipt). IsNext s xs (get_or next (event.thread % workers) 0) index event) rs_is (subst (λ w. IsNext s rs (get_or next w 0) index event) n_is found) in
      let set_is : set next j (get_or next n 0 + 1) ≡ set next (event.thread % workers) (get_or next (event.thread % workers) 0 + 1) =
      ap (λ w. set next w (get_or next n 0 + 1)) j_is ∙ ap (λ w. set next (event.thread % workers) (get_or next w 0 + 1)) n_is in
      rw set_is (
        length-set next (event.thread % workers) (get_or next (event.thread % workers) 0 + 1) ∙ room,
        come_on workers s events all next index event m at its (omega (arith, mod-lt event.thread some, room, few)) found_there h,
      )

past_end : (workers worker : ℕ) (events : List Event) (index : ℕ) → length events ≤ index → entries_of workers worker index (drop index events) ≡ []
past_end workers worker events index end = ap (entries_of workers worker index) (drop_all index events end)

-- after the last event
pub all_come : (workers : ℕ) (s : State) (events : List Event) (all : List (Vec Receipt Global)) (next : List ℕ) (index : ℕ) → length events ≤ index
    → HaveCome workers s events all next index → HaveCome workers s events all next (length events)
all_come workers s events all next index end h worker mine lt there =
    let one = h worker mine lt there in
    let here = past_end workers worker events index end in
    let last = past_end workers worker events (length events) (omega arith) in
    record {
      rest = ((λ e. one.rest.0 (e ∙ last ∙ sym here)), λ d. one.rest.1 d ∙ here ∙ sym last);
      within = one.within;
      said = one.said;
    }

-- how many receipts a worker has, by an index that is its number
pub number_of_its : (all : List (Vec Receipt Global)) (worker k : ℕ) (m mine : Vec Receipt Global) → k ≡ worker → m ≡ get_or all k m → slice_get all worker ≡ Some mine
    → length m.items ≡ length mine.items
number_of_its all worker k m mine is at there =
    ap (λ (v : Vec Receipt Global). length v.items)
    (same_vector m mine (slice_get all worker) (its_receipts all worker k m is (slice_get_within all worker mine there) at) there)
