-- What the fields of a queue keep, after a grant, after one has joined the line, and after a release.
use Rattle.std.proofs.Common.{◌≡◌, ℕ, ◌<◌, ◌≤◌, List, [], ◌∷◌, ◌++◌, length, slice_index_or, slice_set, vec_capacity, refl, ap, sym, subst, ◌∙◌, arith}
use Rattle.std.proofs.lemmas.List.{map-append, get_or-set_same, length-append}
use Rattle.std.proofs.lemmas.List.Elements.{All-push}
use Rattle.asl_lock_forest.specs.Holding.{Holding, Request, HoldsNothing, CanGrant, grant}
use Rattle.asl_lock_forest.specs.Lists.{holding_of}
use Rattle.asl_lock_queue.specs.declared.seats.Seats.{Seats}
use Rattle.asl_lock_queue.specs.Waiting.{Waiter, IsKept, AreKept}
use Rattle.asl_lock_queue.specs.QueueState.{IsAskable}
use Rattle.asl_lock_queue.specs.Lines.{waiter, waiting_of, IsOut, held_of, wanted_of, waiters_of, IsLined, HasRoom, IsSound}
use Rattle.asl_lock_queue.specs.Serving.{IsLineServed}
use Rattle.asl_lock_queue.proofs.HoldingLists.{lists_granted}
use Rattle.asl_lock_queue.proofs.ListFacts.{others, once_push, short_line, waiting_set}
use Rattle.asl_lock_queue.proofs.HolderLaws.{empty_holds_nothing, kept_grant, kept_push}
use Rattle.asl_lock_queue.proofs.LineLaws.{lined_grant, lined_join, lined_leave}
use Rattle.asl_lock_queue.proofs.ServingFacts.{lined_same}

module _ (old new : Seats) (t : ℕ) (r : Request) (sound : IsSound old) (there : t < old.threads) (empty : slice_index_or (held_of old) t [] ≡ []) (out : IsOut t old.line.items) where
  in_held : t < length (held_of old)
  in_held = let n = sound.lined.held_there in omega (arith, there, n)

  in_wanted : t < length (wanted_of old)
  in_wanted = let n = sound.lined.wanted_there in omega (arith, there, n)

  nothing : HoldsNothing (holding_of (held_of old)) t
  nothing = empty_holds_nothing (held_of old) t empty

  pub grants : held_of new ≡ slice_set (held_of old) t r → holding_of (held_of new) ≡ grant (holding_of (held_of old)) t r
  grants held = ap holding_of held ∙ lists_granted (held_of old) t r in_held nothing

  pub sound_taken : IsAskable old.classes r → CanGrant (holding_of (held_of old)) t r → new.classes ≡ old.classes → new.threads ≡ old.threads
      → held_of new ≡ slice_set (held_of old) t r → wanted_of new ≡ wanted_of old → new.line.items ≡ old.line.items → HasRoom new → IsSound new
  sound_taken askable free classes threads held wanted line room =
      let waiters : waiters_of new ≡ waiters_of old = ap (λ w. waiting_of w new.line.items) wanted ∙ ap (waiting_of (wanted_of old)) line in record {
        lined = lined_same classes threads held wanted line (lined_grant sound.lined t r there empty out askable free);
        kept = subst (λ h. AreKept h [] (waiters_of new)) (sym (grants held))
            (subst (AreKept (grant (holding_of (held_of old)) t r) []) (sym waiters) (kept_grant (holding_of (held_of old)) t r [] (waiters_of old) nothing sound.kept));
        room = room;
      }

  pub joins : wanted_of new ≡ slice_set (wanted_of old) t r → new.line.items ≡ old.line.items ++ t ∷ [] → waiters_of new ≡ waiters_of old ++ (t, r) ∷ []
  joins wanted line =
      let wishes = slice_set (wanted_of old) t r in
      ap (λ w. waiting_of w new.line.items) wanted
      ∙ ap (waiting_of wishes) line
      ∙ map-append (waiter wishes) old.line.items (t ∷ [])
      ∙ ap (λ l. l ++ waiter wishes t ∷ []) (waiting_set (wanted_of old) t r old.line.items out)
      ∙ ap (λ (q : Request). waiters_of old ++ (t, q) ∷ []) (get_or-set_same (wanted_of old) t r [] in_wanted)

  pub sound_joined : IsAskable old.classes r → IsKept (holding_of (held_of old)) (waiters_of old) t r → new.classes ≡ old.classes → new.threads ≡ old.threads
      → held_of new ≡ held_of old → wanted_of new ≡ slice_set (wanted_of old) t r → new.line.items ≡ old.line.items ++ t ∷ [] → HasRoom new → IsSound new
  sound_joined askable kept classes threads held wanted line room = record {
    lined = lined_same classes threads held wanted line (lined_join sound.lined t r there empty out askable);
    kept = subst (λ h. AreKept h [] (waiters_of new)) (sym (ap holding_of held))
        (subst (AreKept (holding_of (held_of old)) []) (sym (joins wanted line)) (kept_push (holding_of (held_of old)) [] (waiters_of old) (t, r) sound.kept kept));
    room = room;
  }

  -- the line has room for one who is out of it
  pub place_left : length old.line.items < vec_capacity old.line
  place_left =
      let lined = sound.lined in
      let short = short_line old.threads (old.line.items ++ t ∷ []) (once_push old.line.items t lined.once out)
      (All-push (λ u. u < old.threads) old.line.items t lined.threads_there there) in
      let long = length-append old.line.items (t ∷ []) in
      let wide = sound.room.line in
      omega (arith, short, long, wide)

pub lined_left : (old new : Seats) (t : ℕ) → IsSound old → t < old.threads → new.classes ≡ old.classes → new.threads ≡ old.threads
    → held_of new ≡ slice_set (held_of old) t [] → wanted_of new ≡ slice_set (wanted_of old) t [] → new.line.items ≡ others t old.line.items → IsLined new
lined_left old new t sound there classes threads held wanted line = lined_same classes threads held wanted line (lined_leave sound.lined t there)

pub sound_served : (left new : Seats) (first : Holding) (waiters : List Waiter) (numbers : List ℕ)
    → IsLineServed left.classes left.threads first waiters (held_of new) (wanted_of new) new.line.items numbers
    → new.classes ≡ left.classes → new.threads ≡ left.threads → HasRoom new → IsSound new
sound_served left new first waiters numbers served classes threads room =
    record { lined = lined_same classes threads refl refl refl served.lined; kept = served.kept; room = room }
