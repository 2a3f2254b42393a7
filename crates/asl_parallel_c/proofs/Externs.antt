-- The name of a function, found by going through the list.
use Rattle.std.proofs.Common.{◌≡◌, ◌≢◌, ℕ, suc, ◌+◌, ◌<◌, ◌≤◌, List, ◌∷◌, Option, None, Some, drop, length, get_or, sym, ap, ◌∙◌, add-one, drop-cons, refl, ◌==◌, arith, if◌then◌else◌}
use Rattle.std.proofs.lemmas.Bool.Decides.{nat_tests}
use Rattle.std.specs.Prelude.{string_bytes}
use Rattle.std.proofs.lemmas.List.{drop_all}
use Rattle.std.proofs.lemmas.Bool.{ne_eqb}
use Rattle.asl_parallel_c.specs.declared.options.Extern.{Extern}
use Rattle.asl_parallel_c.specs.Names.{name_in}

-- the list from place i on begins with what is there
left_at : (es : List Extern) (i : ℕ) (e : Extern) → i < length es → e ≡ get_or es i e → drop i es ≡ e ∷ drop (i + 1) es
left_at es i e lt is = rw add-one (drop-cons es i e lt ∙ ap (λ (x : Extern). x ∷ drop (suc i) es) (sym is))

-- the test holds of what is equal
taken : (a b : ℕ) (p q : Option (List ℕ)) → a ≡ b → (if a == b then p else q) ≡ p
taken a b p q is = grind (arith, nat_tests)

pub name_here : (es : List Extern) (i : ℕ) (e : Extern) (f : ℕ) (all : Option (List ℕ)) → i < length es → e ≡ get_or es i e → e.function ≡ f
    → name_in (drop i es) f ≡ all → all ≡ Some (string_bytes e.name)
name_here es i e f all lt is same h = sym h ∙ ap (λ (l : List Extern). name_in l f) (left_at es i e lt is) ∙ taken e.function f (Some (string_bytes e.name)) (name_in (drop (i + 1) es) f) same

pub name_left : (es : List Extern) (i : ℕ) (e : Extern) (f : ℕ) (all : Option (List ℕ)) → i < length es → e ≡ get_or es i e → e.function ≢ f
    → name_in (drop i es) f ≡ all → name_in (drop (i + 1) es) f ≡ all
name_left es i e f all lt is other h =
    let here : name_in (drop i es) f ≡ name_in (drop (i + 1) es) f = ap (λ (l : List Extern). name_in l f) (left_at es i e lt is) ∙ rw (ne_eqb e.function f other) refl in
    sym here ∙ h

pub no_name_left : (es : List Extern) (i f : ℕ) (all : Option (List ℕ)) → length es ≤ i → name_in (drop i es) f ≡ all → all ≡ None
no_name_left es i f all le h = sym h ∙ ap (λ (l : List Extern). name_in l f) (drop_all i es le)
