-- What it takes that a reader reads the fields of things; and the reader that takes nothing reads the one thing that has no field.
use Rattle.std.proofs.Common.{◌≡◌, ℕ, ◌+◌, ◌⊎◌, inl, inr, List, [], ◌∷◌, ◌++◌, length, Result, Ok, Err, refl, sym, ap, ap₂, subst, ◌∙◌, arith, length-append}
use Rattle.std.proofs.lemmas.List.{get_or-append-add}
use Rattle.std.proofs.lemmas.List.Concat.{flat_map-append}
use Rattle.asl_loader.specs.Bytes.{Field, bytes_of, text_of, EndsWithin, HasBadByte}
use Rattle.asl_loader.specs.declared.fault.Stop.{Stop}
use Rattle.asl_loader.specs.declared.fault.Stop.TheVariants.{Short, Bad}
use Rattle.asl_loader.specs.SharedFields.{◌>>=◌}
use Rattle.asl_code.proofs.Values.{AreBytes}

-- the bad byte is so many bytes from the end
abbrev pub IsBadFrom : (X : Type 0) (Is : X → Type 0) (fields_of : X → List Field) (bytes : List ℕ) (left : ℕ) → Type 0
IsBadFrom X Is fields_of bytes left = (at : ℕ) × (at + left ≡ length bytes) × HasBadByte X Is fields_of bytes at

-- The reader reads the fields of the things that are so: what it takes is spelled so, what is spelled so it takes, what
-- stops it is the first thing that is wrong, and the first thing that is wrong stops it.
pub record Reads (X : Type 0) (Is : X → Type 0) (fields_of : X → List Field) (reader : List ℕ → Result (X × List ℕ) Stop) : Type 0 where
  pub found : (bytes : List ℕ) (x : X) (rest : List ℕ) → AreBytes bytes → reader bytes ≡ Ok (x, rest) → Is x × (bytes ≡ text_of (fields_of x) ++ rest)
  pub again : (x : X) (rest : List ℕ) → Is x → reader (text_of (fields_of x) ++ rest) ≡ Ok (x, rest)
  pub cut : (bytes : List ℕ) → AreBytes bytes → reader bytes ≡ Err Short → EndsWithin X Is fields_of bytes
  pub bad : (bytes : List ℕ) (left : ℕ) → AreBytes bytes → reader bytes ≡ Err (Bad left) → IsBadFrom X Is fields_of bytes left
  pub cut_again : (bytes : List ℕ) → EndsWithin X Is fields_of bytes → reader bytes ≡ Err Short
  pub bad_again : (bytes : List ℕ) (left : ℕ) → AreBytes bytes → IsBadFrom X Is fields_of bytes left → reader bytes ≡ Err (Bad left)

-- what follows bytes is bytes
pub AreBytes-rest : (front rest : List ℕ) → AreBytes (front ++ rest) → AreBytes rest
AreBytes-rest front rest h i = rw (← get_or-append-add front rest i 0) (h (length front + i))

-- two answers in a row are good, or one of them is not
pub bind_ok : {A B : Type 0} (r : Result A Stop) (f : A → Result B Stop) (y : B) → (r >>= f) ≡ Ok y → (x : A) × (r ≡ Ok x) × (f x ≡ Ok y)
bind_ok (Ok x) f y e = (x, refl, e)
bind_ok (Err d) f y e = absurd cc

pub bind_err : {A B : Type 0} (r : Result A Stop) (f : A → Result B Stop) (d : Stop) → (r >>= f) ≡ Err d → (r ≡ Err d) ⊎ ((x : A) × (r ≡ Ok x) × (f x ≡ Err d))
bind_err (Ok x) f d e = inr (x, refl, e)
bind_err (Err c) f d e = let same : c ≡ d = cc in inl (ap (λ (s : Stop). Err s) same)

abbrev pub done : {A : Type 0} → A → Result A Stop
done x = Ok x

pub ok_is : {A : Type 0} (x y : A) → done x ≡ done y → x ≡ y
ok_is x y e = cc

-- the bytes of fields, and of further fields
pub text_of-append : (front back : List Field) → text_of (front ++ back) ≡ text_of front ++ text_of back
text_of-append front back = flat_map-append bytes_of front back

-- the one thing that has no field does not begin with one
no_field : (X : Type 0) (Is : X → Type 0) (fields_of : X → List Field) (x : X) → ((other : X) → Is other → other ≡ x) → fields_of x ≡ [] → (thing : X) → Is thing → (front : List Field) (next : Field) (more : List Field) → fields_of thing ≡ front ++ next ∷ more → ⊥
no_field X Is fields_of x only none thing is front next more opens =
    let e : [] ≡ front ++ next ∷ more = sym none ∙ ap fields_of (sym (only thing is)) ∙ opens in
    omega (arith, ap length e, length-append front (next ∷ more))

-- a reader that takes nothing, of the one thing that has no field
pub reads_nothing : (X : Type 0) (Is : X → Type 0) (fields_of : X → List Field) (x : X) → Is x → ((other : X) → Is other → other ≡ x) → fields_of x ≡ [] → Reads X Is fields_of (λ bytes. Ok (x, bytes))
reads_nothing X Is fields_of x is only none = record {
  found = λ bytes y rest fit e.
      let pair : (x, bytes) ≡ (y, rest) = ok_is (x, bytes) (y, rest) e in
      let same : x ≡ y = ap (λ (p : X × List ℕ). p.0) pair in
      let left : bytes ≡ rest = ap (λ (p : X × List ℕ). p.1) pair in
      (subst Is same is, left ∙ ap (λ (t : List Field). text_of t ++ rest) (sym none ∙ ap fields_of same));
  again = λ y rest is_y.
      let same = only y is_y in
      let empty : fields_of y ≡ [] = ap fields_of same ∙ none in
      ap done (ap₂ (λ (w : X) (t : List ℕ). (w, t)) (sym same) (ap (λ (t : List Field). text_of t ++ rest) empty));
  cut = λ bytes fit e. absurd cc;
  bad = λ bytes left fit e. absurd cc;
  cut_again = λ bytes w. absurd (no_field X Is fields_of x only none w.thing w.is w.front w.next w.more w.opens);
  bad_again = λ bytes left fit w. absurd (no_field X Is fields_of x only none w.2.thing w.2.is w.2.front w.2.next w.2.more w.2.opens);
}
