-- Membership in lists of locks.
use Rattle.std.proofs.Common.{◌≡◌, ◌⊎◌, ◌↔◌, ◌++◌, ℕ, List, [], ◌∷◌, Some, get_or, slice_get, Result, Ok, Err, IfOk, refl, ap, sym, ◌∙◌, subst, inl, inr, append_assoc}
use Rattle.std.specs.List.{flat_map}
use Rattle.asl_code.specs.declared.lock.Lock.{Lock}
use Rattle.asl_code.specs.declared.instr.Instr.{Instr}
use Rattle.std.proofs.lemmas.Option.{get_or_from_slice_get}
use Rattle.asl_points_to.specs.Classes.{Classed}
use Rattle.asl_lock_expr.specs.Stores.{stores}
use Rattle.asl_lock_expr.specs.Links.{IsOne, IsLinked, HasGrown, LinkContext, view, link, dereferenced}

-- a list has grown where locks were added, and where it grew twice
pub grown_more : (old new more : List Lock) → new ≡ old ++ more → HasGrown old new
grown_more old new more e = (more, e)

pub grown_twice : (old middle new : List Lock) → HasGrown old middle → HasGrown middle new → HasGrown old new
grown_twice old middle new p q = (p.0 ++ q.0, q.1 ∙ ap (λ (xs : List Lock). xs ++ q.0) p.1 ∙ append_assoc old p.0 q.0)

pub one_left : (ms ns : List Lock) (a : Lock) → IsOne ms a → IsOne (ms ++ ns) a
one_left [] ns a e = absurd e
one_left (m ∷ ms) ns a (inl e) = inl e
one_left (m ∷ ms) ns a (inr e) = inr (one_left ms ns a e)

pub one_right : (ms ns : List Lock) (a : Lock) → IsOne ns a → IsOne (ms ++ ns) a
one_right [] ns a e = e
one_right (m ∷ ms) ns a e = inr (one_right ms ns a e)

-- one of two lists, one after the other, is one of the first or of the second
pub one_either : (ms ns : List Lock) (a : Lock) → IsOne (ms ++ ns) a → IsOne ms a ⊎ IsOne ns a
one_either [] ns a e = inr e
one_either (m ∷ ms) ns a (inl e) = inl (inl e)
one_either (m ∷ ms) ns a (inr e) = elim (one_either ms ns a e) [ inl x ↦ inl (inr x) | inr y ↦ inr y ]

-- one of the prefixes of a list's locks is a prefix of one of them
pub flat_from : (ms : List Lock) (n : Lock) → IsOne (flat_map dereferenced ms) n → (m : Lock) × IsOne ms m × IsOne (dereferenced m) n
flat_from [] n o = absurd o
flat_from (m ∷ ms) n o =
    elim (one_either (dereferenced m) (flat_map dereferenced ms) n o) [
      | inl p ↦ (m, inl refl, p)
      | inr q ↦ (let r = flat_from ms n q in (r.0, inr r.1, r.2))
    ]

pub flat_of : (ms : List Lock) (m n : Lock) → IsOne ms m → IsOne (dereferenced m) n → IsOne (flat_map dereferenced ms) n
flat_of [] m n o p = absurd o
flat_of (l ∷ ms) m n (inl e) p = one_left _ _ n (subst (λ (x : Lock). IsOne (dereferenced x) n) (sym e) p)
flat_of (l ∷ ms) m n (inr o) p = one_right (dereferenced l) _ n (flat_of ms m n o p)

-- a list with what it dereferences is what a lock is linked to
pub linked_is : (v : LinkContext) (i : Instr) (l : Lock) (ms list : List Lock) → ms ≡ link v i l → ((n : Lock) → IsOne list n ↔ (IsOne ms n ⊎ IsOne (flat_map dereferenced ms) n)) →
    (n : Lock) → IsOne list n ↔ IsLinked v i l n
linked_is v i l ms list is same n = (
  λ o. elim ((same n).0 o) [
    | inl p ↦ (n, subst (λ (xs : List Lock). IsOne xs n) is p, inl refl)
    | inr q ↦ (let r = flat_from ms n q in (r.0, subst (λ (xs : List Lock). IsOne xs r.0) is r.1, inr r.2))
  ],
  λ o.
      let there : IsOne ms o.0 = subst (λ (xs : List Lock). IsOne xs o.0) (sym is) o.1 in
      elim o.2 [
        | inl e ↦ (same n).1 (inl (subst (λ (x : Lock). IsOne ms x) e there))
        | inr p ↦ (same n).1 (inr (flat_of ms o.0 n there p))
      ],
)

-- what was linked, read against the view of the function
pub linked_view : (c : Classed) (w : List (List ℕ)) (k f function pc : ℕ) (code now : List Instr) (d i : Instr) (l : Lock) (start end : List Lock) →
    end ≡ start ++ link (view c (stores w) k f) (get_or now pc d) l → start ≡ [] → f ≡ function → now ≡ code → slice_get code pc ≡ Some i →
    end ≡ link (view c (stores w) k function) i l
linked_view c w k f function pc code now d i l start end e s owner same at =
    e
    ∙ ap (λ (xs : List Lock). xs ++ link (view c (stores w) k f) (get_or now pc d) l) s
    ∙ ap (λ (n : ℕ). link (view c (stores w) k n) (get_or now pc d) l) owner
    ∙ ap (λ (is : List Instr). link (view c (stores w) k function) (get_or is pc d) l) same
    ∙ ap (λ (x : Instr). link (view c (stores w) k function) x l) (get_or_from_slice_get code pc i d at)

-- what holds of a result, where it follows from what holds of it
pub ok_more : {A E : Type 0} (r : Result A E) (P Q : A → Type 0) → ((v : A) → P v → Q v) → IfOk r P → IfOk r Q
ok_more (Ok x) P Q f h = f x h
ok_more (Err e) P Q f h = h
