-- Numbers of one, two and four bytes: any bytes of the width are one number, and a reader takes them as it.
use Rattle.std.proofs.Common.{◌≡◌, ◌≢◌, ℕ, ◌≤◌, ◌<◌, ◌^◌, Bool, true, false, cond, ltb, List, [], ◌∷◌, ◌++◌, length, take, drop, Result, Ok, Err, refl, sym, ap, ap₂, subst, arith, lit<, length-append}
use Rattle.std.specs.Int.{Width, w16, w32, byte_len, from_be_bytes, to_be_bytes}
use Rattle.std.proofs.lemmas.Bool.{ltb-false, le-ltb, ltb-true, lt-ltb}
use Rattle.std.proofs.lemmas.List.{take_at, drop_at, take-append-drop, length-take}
use Rattle.std.proofs.lemmas.Nat.{be_bytes_2, be_bytes_4, from_be_bytes-to_be_bytes_2, from_be_bytes-to_be_bytes_4}
use Rattle.asl_loader.specs.Bytes.{Field, Plain, Eight, IsLike}
use Rattle.asl_loader.specs.declared.fault.Stop.{Stop}
use Rattle.asl_loader.specs.declared.fault.Stop.TheVariants.{Short, Bad}
use Rattle.asl_loader.specs.SharedFields.{byte_at, number_at}
use Rattle.asl_code.proofs.Values.{AreBytes}
use Rattle.asl_loader.proofs.Eight.{AreBytes-take}
use Rattle.asl_loader.proofs.Reader.{Reads, done, ok_is}

-- the same things, said otherwise
pub reads_as : (X : Type 0) (Is Are : X → Type 0) (fields_of : X → List Field) (reader : List ℕ → Result (X × List ℕ) Stop) → Reads X Is fields_of reader → ((x : X) → Is x → Are x) → ((x : X) → Are x → Is x) → Reads X Are fields_of reader
reads_as X Is Are fields_of reader r to from = record {
  found = λ bytes x rest fit e. let f = r.found bytes x rest fit e in (to x f.0, f.1);
  again = λ x rest is. r.again x rest (from x is);
  cut = λ bytes fit e. let w = r.cut bytes fit e in record { thing = w.thing; is = to w.thing w.is; front = w.front; next = w.next; more = w.more; opens = w.opens; rest = w.rest; parts = w.parts; cut = w.cut };
  bad = λ bytes left fit e.
      let v = r.bad bytes left fit e in
      let w = v.2 in
      (v.0, v.1, record { thing = w.thing; is = to w.thing w.is; front = w.front; next = w.next; more = w.more; opens = w.opens; wrong = w.wrong; rest = w.rest; parts = w.parts; like = w.like; place = w.place; bad = w.bad; at_is = w.at_is; none = λ other following is. w.none other following (from other is) });
  cut_again = λ bytes w. r.cut_again bytes (record { thing = w.thing; is = from w.thing w.is; front = w.front; next = w.next; more = w.more; opens = w.opens; rest = w.rest; parts = w.parts; cut = w.cut });
  bad_again = λ bytes left fit v.
      let w = v.2 in
      r.bad_again bytes left fit (v.0, v.1, record { thing = w.thing; is = from w.thing w.is; front = w.front; next = w.next; more = w.more; opens = w.opens; wrong = w.wrong; rest = w.rest; parts = w.parts; like = w.like; place = w.place; bad = w.bad; at_is = w.at_is; none = λ other following is. w.none other following (to other is) });
}

-- what has one field begins with no other
pub one_field : (field : Field) (front : List Field) (next : Field) (more : List Field) → field ∷ [] ≡ front ++ next ∷ more → (front ≡ []) × (field ≡ next)
one_field field [] next more e = (refl, cc)
one_field field (f ∷ front) next more e =
    let rest : [] ≡ front ++ next ∷ more = cc in
    absurd (omega (arith, ap length rest, length-append front (next ∷ more)))

-- a field that is like a plain one is plain, and one that is like an instruction's is one of so many bytes
pub like_plain : (bytes : List ℕ) (wrong : Field) → IsLike (Plain bytes) wrong → (others : List ℕ) × (wrong ≡ Plain others) × (length bytes ≡ length others)
like_plain bytes (Plain others) same = (others, refl, same)
like_plain bytes (Eight others) same = absurd same

pub like_eight : (bytes : List ℕ) (wrong : Field) → IsLike (Eight bytes) wrong → (others : List ℕ) × (wrong ≡ Eight others) × (length bytes ≡ length others)
like_eight bytes (Plain others) same = absurd same
like_eight bytes (Eight others) same = (others, refl, same)

-- the first part of bytes is bytes
pub AreBytes-front : (front rest : List ℕ) → AreBytes (front ++ rest) → AreBytes front
AreBytes-front front rest fit = subst AreBytes (take_at front rest (length front) refl) (AreBytes-take (length front) (front ++ rest) fit)

-- a field of a fixed width that any bytes are
pub record IsNumber (Is : ℕ → Type 0) (text : ℕ → List ℕ) (width : ℕ) (reader : List ℕ → Result (ℕ × List ℕ) Stop) : Type 0 where
  pub wide : (n : ℕ) → length (text n) ≡ width
  pub takes : (bytes : List ℕ) (n : ℕ) (rest : List ℕ) → AreBytes bytes → reader bytes ≡ Ok (n, rest) → Is n × (bytes ≡ text n ++ rest)
  pub again : (n : ℕ) (rest : List ℕ) → Is n → reader (text n ++ rest) ≡ Ok (n, rest)
  pub short : (bytes : List ℕ) → reader bytes ≡ Err Short → length bytes < width
  pub never : (bytes : List ℕ) (left : ℕ) → reader bytes ≢ Err (Bad left)
  pub stops : (bytes : List ℕ) → length bytes < width → reader bytes ≡ Err Short
  pub all : (bytes : List ℕ) → length bytes ≡ width → AreBytes bytes → (n : ℕ) × Is n × (text n ≡ bytes)

-- what the reader of a byte takes, and where it stops
byte_takes : (bytes : List ℕ) (n : ℕ) (rest : List ℕ) → AreBytes bytes → byte_at bytes ≡ Ok (n, rest) → (n < 256) × (bytes ≡ (n ∷ []) ++ rest)
unfolding byte_at
byte_takes [] n rest fit e = absurd cc
byte_takes (b ∷ bytes) n rest fit e =
    let pair : (b, bytes) ≡ (n, rest) = ok_is (b, bytes) (n, rest) e in
    let same : b ≡ n = ap (λ (p : ℕ × List ℕ). p.0) pair in
    let left : bytes ≡ rest = ap (λ (p : ℕ × List ℕ). p.1) pair in
    let front : b ∷ bytes ≡ n ∷ rest = ap₂ (λ (x : ℕ) (xs : List ℕ). x ∷ xs) same left in
    (rw (← same) (fit 0), front)

byte_short : (bytes : List ℕ) → byte_at bytes ≡ Err Short → length bytes < 1
unfolding byte_at
byte_short [] e = lit< tt
byte_short (b ∷ bytes) e = absurd cc

byte_never : (bytes : List ℕ) (left : ℕ) → byte_at bytes ≢ Err (Bad left)
unfolding byte_at
byte_never [] left e = let same : Short ≡ Bad left = cc in absurd cc
byte_never (b ∷ bytes) left e = absurd cc

-- what is told of a reader that first asks whether there are enough bytes
guard_ok : {A : Type 0} (b : Bool) (x y : A) → cond b (Err Short) (done x) ≡ Ok y → (b ≡ false) × (x ≡ y)
guard_ok true x y e = absurd cc
guard_ok false x y e = (refl, cc)

guard_short : {A : Type 0} (b : Bool) (x : A) → cond b (Err Short) (done x) ≡ Err Short → b ≡ true
guard_short true x e = refl
guard_short false x e = absurd cc

guard_never : {A : Type 0} (b : Bool) (x : A) (left : ℕ) → cond b (Err Short) (done x) ≢ Err (Bad left)
guard_never true x left e = absurd cc
guard_never false x left e = absurd cc

byte_stops : (bytes : List ℕ) → length bytes < 1 → byte_at bytes ≡ Err Short
unfolding byte_at
byte_stops [] low = refl
byte_stops (b ∷ bytes) low = absurd (omega arith)

-- any one byte is a number
byte_all : (bytes : List ℕ) → length bytes ≡ 1 → AreBytes bytes → (n : ℕ) × (n < 256) × (n ∷ [] ≡ bytes)
byte_all [] len fit = absurd (omega arith)
byte_all (b ∷ []) len fit = (b, fit 0, refl)
byte_all (b ∷ c ∷ bytes) len fit = absurd (omega arith)

-- a byte is a number of width 1
pub byte_number : IsNumber (λ n. n < 256) (λ n. n ∷ []) 1 byte_at
unfolding byte_at
byte_number = record {
  wide = λ n. refl;
  takes = byte_takes;
  again = λ n rest is. refl;
  short = byte_short;
  never = byte_never;
  stops = byte_stops;
  all = byte_all;
}

-- what the reader of a number of a width takes, and where it stops
number_takes : (w : Width) (limit : ℕ) → ((bytes : List ℕ) → length bytes ≡ byte_len w → AreBytes bytes → to_be_bytes w (from_be_bytes w bytes) ≡ bytes) → ((bytes : List ℕ) → AreBytes bytes → from_be_bytes w bytes < limit)
    → (bytes : List ℕ) (n : ℕ) (rest : List ℕ) → AreBytes bytes → number_at w bytes ≡ Ok (n, rest) → (n < limit) × (bytes ≡ to_be_bytes w n ++ rest)
number_takes w limit back below bytes n rest fit e =
    let g = guard_ok (ltb (length bytes) (byte_len w)) (from_be_bytes w (take (byte_len w) bytes), drop (byte_len w) bytes) (n, rest) e in
    let long : byte_len w ≤ length bytes = ltb-false _ _ g.0 in
    let n-is : from_be_bytes w (take (byte_len w) bytes) ≡ n = ap (λ (p : ℕ × List ℕ). p.0) g.1 in
    let rest-is : drop (byte_len w) bytes ≡ rest = ap (λ (p : ℕ × List ℕ). p.1) g.1 in
    let front : to_be_bytes w n ≡ take (byte_len w) bytes = rw (← n-is) (back (take (byte_len w) bytes) (omega (arith, length-take (byte_len w) bytes)) (AreBytes-take (byte_len w) bytes fit)) in
    (rw (← n-is) (below (take (byte_len w) bytes) (AreBytes-take (byte_len w) bytes fit)), rw (front, ← rest-is) (sym (take-append-drop (byte_len w) bytes)))

number_again : (w : Width) (n : ℕ) (rest : List ℕ) → length (to_be_bytes w n) ≡ byte_len w → from_be_bytes w (to_be_bytes w n) ≡ n → number_at w (to_be_bytes w n ++ rest) ≡ Ok (n, rest)
number_again w n rest len again =
    let long : ltb (length (to_be_bytes w n ++ rest)) (byte_len w) ≡ false = le-ltb _ _ (omega (arith, length-append (to_be_bytes w n) rest)) in
    rw (long, take_at (to_be_bytes w n) rest (byte_len w) len, drop_at (to_be_bytes w n) rest (byte_len w) len, again) refl

number_short : (w : Width) (bytes : List ℕ) → number_at w bytes ≡ Err Short → length bytes < byte_len w
number_short w bytes e = ltb-true _ _ (guard_short (ltb (length bytes) (byte_len w)) (from_be_bytes w (take (byte_len w) bytes), drop (byte_len w) bytes) e)

number_never : (w : Width) (bytes : List ℕ) (left : ℕ) → number_at w bytes ≢ Err (Bad left)
number_never w bytes left e = guard_never (ltb (length bytes) (byte_len w)) (from_be_bytes w (take (byte_len w) bytes), drop (byte_len w) bytes) left e

number_stops : (w : Width) (bytes : List ℕ) → length bytes < byte_len w → number_at w bytes ≡ Err Short
number_stops w bytes low = let early : ltb (length bytes) (byte_len w) ≡ true = lt-ltb _ _ low in rw early refl

-- two bytes are a number, and so are four
pub two_number : IsNumber (λ n. n < 2 ^ 16) (λ n. to_be_bytes w16 n) 2 (number_at w16)
two_number = record {
  wide = λ n. refl;
  takes = λ bytes n rest fit e. number_takes w16 (2 ^ 16) (λ b len f. be_bytes_2 b _ len f refl) (λ b f. omega (arith, f 0, f 1)) bytes n rest fit e;
  again = λ n rest is. number_again w16 n rest refl (from_be_bytes-to_be_bytes_2 n is);
  short = λ bytes e. number_short w16 bytes e;
  never = λ bytes left e. number_never w16 bytes left e;
  stops = λ bytes low. number_stops w16 bytes low;
  all = λ bytes len f. (from_be_bytes w16 bytes, omega (arith, f 0, f 1), be_bytes_2 bytes _ len f refl);
}

pub four_number : IsNumber (λ n. n < 2 ^ 32) (λ n. to_be_bytes w32 n) 4 (number_at w32)
four_number = record {
  wide = λ n. refl;
  takes = λ bytes n rest fit e. number_takes w32 (2 ^ 32) (λ b len f. be_bytes_4 b _ len f refl) (λ b f. omega (arith, f 0, f 1, f 2, f 3)) bytes n rest fit e;
  again = λ n rest is. number_again w32 n rest refl (from_be_bytes-to_be_bytes_4 n is);
  short = λ bytes e. number_short w32 bytes e;
  never = λ bytes left e. number_never w32 bytes left e;
  stops = λ bytes low. number_stops w32 bytes low;
  all = λ bytes len f. (from_be_bytes w32 bytes, omega (arith, f 0, f 1, f 2, f 3), be_bytes_4 bytes _ len f refl);
}
