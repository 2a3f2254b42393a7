-- The classes that a draft puts together.
use Rattle.std.proofs.Common.{◌≡◌, ℕ, ◌+◌, ◌<◌, List, [], length, map, take, Option, Some, None, slice_get, ltb, sym, ap, ◌∙◌, arith}
use Rattle.std.specs.Prelude.{option_and_then}
use Rattle.std.specs.List.{range_with_len}
use Rattle.std.proofs.lemmas.List.{get_or-take, length-take-le}
use Rattle.std.proofs.lemmas.List.FromFn.{length-map-range_with_len, get_or-map-range_with_len}
use Rattle.std.proofs.lemmas.Option.{slice_get-get_or}
use Rattle.std.proofs.Math.Seq.{take-add}
use Rattle.std.proofs.lemmas.Bool.{lt-ltb, cond-true}
use Rattle.asl_lower.specs.Lowered.{Lowered}
use Rattle.asl_points_to.specs.Classes.{to, inside, members, some_at}
use Rattle.asl_class_reasons.specs.declared.place.Place.{Place}
use Rattle.asl_class_reasons.specs.declared.place.Place.TheVariants as place
use Rattle.asl_class_reasons.specs.declared.draft.Draft.{Draft}
use Rattle.asl_class_reasons.specs.Reasons.{points}
use Rattle.asl_class_reasons.specs.Draft.{IsThere, IsSized, IsFounded, IsPlain, label, pointed, target, row, drafted}

-- an element of a list that is made of numbers
made_at : {X : Type 0} (g : ℕ → X) (n k : ℕ) (d : X) → k < n → slice_get (map g (range_with_len 0 n)) k ≡ Some (g k)
made_at g n k d lt =
    let len = length-map-range_with_len g 0 n in
    slice_get-get_or (map g (range_with_len 0 n)) k d (omega arith) ∙ ap Some (get_or-map-range_with_len g 0 n k k d lt (omega arith))

pub member_at : (l : Lowered) (s : Draft) → IsSized s → IsFounded l s → (m : ℕ) → m < s.members → slice_get (members (drafted l s)) m ≡ Some (label s (place.Member m))
member_at l s z f m lt =
    let n : ℕ = l.globals + l.sites in
    let is : take n s.sets ≡ members (drafted l s) = take-add l.globals l.sites s.sets in
    let low : m < n = omega (arith, f.members) in
    let len = length-take-le n s.sets (omega (arith, z.size, f.members)) in
    ap (λ (xs : List ℕ). slice_get xs m) (sym is) ∙ slice_get-get_or (take n s.sets) m 0 (omega arith) ∙ ap Some (get_or-take n s.sets m 0 low)

pub register_at : (l : Lowered) (s : Draft) → IsSized s → (f r : ℕ) → f < s.functions → r < 256 → to (drafted l s) f r ≡ target s (place.Register f r)
register_at l s z f r lf lr =
    let wide : r < length s.sets = omega (arith, z.size) in
    ap (λ (o : Option (List (Option ℕ))). option_and_then (λ (rs : List (Option ℕ)). some_at rs r) o) (made_at (λ n. row s n) s.functions f [] lf)
    ∙ ap (λ (o : Option (Option ℕ)). option_and_then (λ (x : Option ℕ). x) o) (made_at (λ n. target s (place.Register f n)) (length s.sets) r None wide)

pub inside_at : (l : Lowered) (s : Draft) (m : ℕ) → m < s.members → inside (drafted l s) m ≡ target s (place.Cells m)
inside_at l s m lt = ap (λ (o : Option (Option ℕ)). option_and_then (λ (x : Option ℕ). x) o) (made_at (λ n. target s (place.Cells n)) s.members m None lt)

pub plain_there : (l : Lowered) (s : Draft) → IsFounded l s → (p : Place) → IsPlain l p → IsThere s p
plain_there l s f (place.Member m) h = omega (arith, f.members)
plain_there l s f (place.Cells m) h = absurd h
plain_there l s f (place.Register g r) h = (omega (arith, f.functions, h.0), h.1)

pub points_at : (l : Lowered) (s : Draft) → IsSized s → IsFounded l s → (p : Place) → IsPlain l p → points (drafted l s) p ≡ target s p
points_at l s z f (place.Member m) h = member_at l s z f m (omega (arith, f.members))
points_at l s z f (place.Cells m) h = absurd h
points_at l s z f (place.Register g r) h = register_at l s z g r (omega (arith, f.functions, h.0)) h.1

-- a place with the label of a member points to its class
pub pointed_low : (n x : ℕ) → x < n → pointed n x ≡ Some x
pointed_low n x lt = cond-true (ltb x n) (Some x) None (lt-ltb x n lt)

pub target_low : (s : Draft) (p : Place) (m : ℕ) → m < s.members → label s p ≡ m → target s p ≡ Some m
target_low s (place.Member k) m lt e = ap Some e
target_low s (place.Cells k) m lt e = ap (pointed s.members) e ∙ pointed_low s.members m lt
target_low s (place.Register g r) m lt e = ap (pointed s.members) e ∙ pointed_low s.members m lt
