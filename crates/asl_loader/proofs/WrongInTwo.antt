-- The first thing that is wrong in the whole stops one of two readers that follow each other. So the two together read the fields of
-- the whole.
use Rattle.std.proofs.Common.{◌≡◌, ◌≢◌, ℕ, ◌+◌, List, ◌∷◌, ◌++◌, length, Result, Ok, Err, refl, sym, ap, subst, ◌∙◌, append_assoc, arith, length-append}
use Rattle.std.proofs.lemmas.List.{append_cancel_left}
use Rattle.asl_loader.specs.Bytes.{Field, bytes_of, text_of, EndsWithin}
use Rattle.asl_loader.specs.declared.fault.Stop.{Stop}
use Rattle.asl_loader.specs.declared.fault.Stop.TheVariants.{Short, Bad}
use Rattle.asl_loader.specs.SharedFields.{◌>>=◌}
use Rattle.asl_code.proofs.Values.{AreBytes}
use Rattle.asl_loader.proofs.Reader.{IsBadFrom, Reads, AreBytes-rest, text_of-append}
use Rattle.asl_loader.proofs.TwoReaders.{Overlap, within, beyond, overlap, Follows, both, both_found, both_again, both_cut, both_bad}

module _ {X Y : Type 0} {IsX : X → Type 0} {IsY : Y → Type 0} {fields_x : X → List Field} {fields_y : Y → List Field}
    {read_x : List ℕ → Result (X × List ℕ) Stop} {read_y : X → List ℕ → Result (Y × List ℕ) Stop}
    {Has : Y → X → Type 0} {after : Y → List Field}
    (two : Follows X Y IsX IsY fields_x fields_y read_x read_y Has after) where
  -- where the fields of the whole begin with these, they are in the first part, or the first part is before them
  in_parts : (y : Y) → IsY y → (front : List Field) (next : Field) (more : List Field) → fields_y y ≡ front ++ next ∷ more → (x : X) × IsX x × Has y x × (fields_x x ++ after y ≡ front ++ next ∷ more) × Overlap Field (fields_x x) front next
  in_parts y is front next more opens =
      let p = two.part y is in
      let j : fields_x p.0 ++ after y ≡ front ++ next ∷ more = sym (two.joins p.0 y p.1 is p.2) ∙ opens in
      (p.0, p.1, p.2, j, overlap Field (fields_x p.0) (after y) front next more j)

  -- the fields of the rest, and their bytes
  behind_first : (x : X) (y : Y) (front middle : List Field) (next : Field) (more : List Field) → fields_x x ++ after y ≡ front ++ next ∷ more → front ≡ fields_x x ++ middle → after y ≡ middle ++ next ∷ more
  behind_first x y front middle next more j f =
      append_cancel_left (fields_x x) (after y) (middle ++ next ∷ more) (j ∙ ap (λ (t : List Field). t ++ next ∷ more) f ∙ append_assoc (fields_x x) middle (next ∷ more))

  split_text : (x : X) (bytes : List ℕ) (front middle : List Field) (rest : List ℕ) → front ≡ fields_x x ++ middle → bytes ≡ text_of front ++ rest → bytes ≡ text_of (fields_x x) ++ (text_of middle ++ rest)
  split_text x bytes front middle rest f parts =
      parts
      ∙ ap (λ (t : List Field). text_of t ++ rest) f
      ∙ ap (λ (t : List ℕ). t ++ rest) (text_of-append (fields_x x) middle)
      ∙ append_assoc (text_of (fields_x x)) (text_of middle) rest

  both_stops : (bytes : List ℕ) (x : X) (rest : List ℕ) (s : Stop) → read_x bytes ≡ Ok (x, rest) → read_y x rest ≡ Err s → both two bytes ≡ Err s
  unfolding both
  both_stops bytes x rest s e f = rw e f

  first_stops : (bytes : List ℕ) (s : Stop) → read_x bytes ≡ Err s → both two bytes ≡ Err s
  unfolding both
  first_stops bytes s e = rw e refl

  both_cut_again : (bytes : List ℕ) → EndsWithin Y IsY fields_y bytes → both two bytes ≡ Err Short
  both_cut_again bytes w =
      let p = in_parts w.thing w.is w.front w.next w.more w.opens in
      elim p.4 [
        | within tail f ↦
            first_stops bytes Short (two.first.cut_again bytes (record { thing = p.0; is = p.1; front = w.front; next = w.next; more = tail; opens = f; rest = w.rest; parts = w.parts; cut = w.cut }))
        | beyond middle f ↦
            let opens = behind_first p.0 w.thing w.front middle w.next w.more p.3 f in
            let split = split_text p.0 bytes w.front middle w.rest f w.parts in
            both_stops bytes p.0 (text_of middle ++ w.rest) Short
            (ap read_x split ∙ two.first.again p.0 (text_of middle ++ w.rest) p.1)
            ((two.second p.0 p.1).cut_again (text_of middle ++ w.rest) (record { thing = w.thing; is = (w.is, p.2); front = middle; next = w.next; more = w.more; opens = opens; rest = w.rest; parts = refl; cut = w.cut }))
      ]

  none_first : (front : List Field) (wrong : Field) → ((other : Y) (following : List Field) → IsY other → fields_y other ≢ front ++ wrong ∷ following)
      → (other : X) (following : List Field) → IsX other → fields_x other ≢ front ++ wrong ∷ following
  none_first front wrong none other following is e =
      let y = two.fills other is in
      none y.0 (following ++ after y.0) y.1 (two.joins other y.0 is y.1 y.2 ∙ ap (λ (t : List Field). t ++ after y.0) e ∙ append_assoc front (wrong ∷ following) (after y.0))

  none_second : (x : X) (front middle : List Field) (wrong : Field) → IsX x → front ≡ fields_x x ++ middle → ((other : Y) (following : List Field) → IsY other → fields_y other ≢ front ++ wrong ∷ following)
      → (other : Y) (following : List Field) → IsY other × Has other x → after other ≢ middle ++ wrong ∷ following
  none_second x front middle wrong is f none other following is_y e =
      none other following is_y.0
      (two.joins x other is is_y.0 is_y.1 ∙ ap (λ (t : List Field). fields_x x ++ t) e ∙ sym (append_assoc (fields_x x) middle (wrong ∷ following)) ∙ ap (λ (t : List Field). t ++ wrong ∷ following) (sym f))

  both_bad_again : (bytes : List ℕ) (left : ℕ) → AreBytes bytes → IsBadFrom Y IsY fields_y bytes left → both two bytes ≡ Err (Bad left)
  both_bad_again bytes left fit w =
      let b = w.2 in
      let p = in_parts b.thing b.is b.front b.next b.more b.opens in
      elim p.4 [
        | within tail f ↦
            first_stops bytes (Bad left)
            (two.first.bad_again bytes left fit (
              w.0,
              w.1,
              record {
                thing = p.0;
                is = p.1;
                front = b.front;
                next = b.next;
                more = tail;
                opens = f;
                wrong = b.wrong;
                rest = b.rest;
                parts = b.parts;
                like = b.like;
                place = b.place;
                bad = b.bad;
                at_is = b.at_is;
                none = none_first b.front b.wrong b.none;
              },
            ))
        | beyond middle f ↦
            let later = text_of middle ++ (bytes_of b.wrong ++ b.rest) in
            let opens = behind_first p.0 b.thing b.front middle b.next b.more p.3 f in
            let split = split_text p.0 bytes b.front middle (bytes_of b.wrong ++ b.rest) f b.parts in
            let front_len : length (text_of b.front) ≡ length (text_of (fields_x p.0)) + length (text_of middle) =
            ap (λ (t : List Field). length (text_of t)) f ∙ ap length (text_of-append (fields_x p.0) middle) ∙ length-append (text_of (fields_x p.0)) (text_of middle) in
            let len : length bytes ≡ length (text_of (fields_x p.0)) + length later = ap length split ∙ length-append (text_of (fields_x p.0)) later in
            both_stops bytes p.0 later (Bad left)
            (ap read_x split ∙ two.first.again p.0 later p.1)
            ((two.second p.0 p.1).bad_again later left (AreBytes-rest (text_of (fields_x p.0)) later (subst AreBytes split fit)) (
              length (text_of middle) + b.place,
              omega (arith, w.1, b.at_is, front_len, len),
              record {
                thing = b.thing;
                is = (b.is, p.2);
                front = middle;
                next = b.next;
                more = b.more;
                opens = opens;
                wrong = b.wrong;
                rest = b.rest;
                parts = refl;
                like = b.like;
                place = b.place;
                bad = b.bad;
                at_is = refl;
                none = none_second p.0 b.front middle b.wrong p.1 f b.none;
              },
            ))
      ]

  reads_two : Reads Y IsY fields_y (λ bytes. read_x bytes >>= λ x. read_y x.0 x.1)
  unfolding both
  reads_two = record { found = both_found two; again = both_again two; cut = both_cut two; bad = both_bad two; cut_again = both_cut_again; bad_again = both_bad_again }

module _ (X Y : Type 0) (IsX : X → Type 0) (IsY : Y → Type 0) (fields_x : X → List Field) (fields_y : Y → List Field)
    (read_x : List ℕ → Result (X × List ℕ) Stop) (read_y : X → List ℕ → Result (Y × List ℕ) Stop)
    (Has : Y → X → Type 0) (after : Y → List Field)
    (first : Reads X IsX fields_x read_x)
    (second : (x : X) → IsX x → Reads Y (λ y. IsY y × Has y x) after (read_y x))
    (part : (y : Y) → IsY y → (x : X) × IsX x × Has y x)
    (joins : (x : X) (y : Y) → IsX x → IsY y → Has y x → fields_y y ≡ fields_x x ++ after y)
    (fills : (x : X) → IsX x → (y : Y) × IsY y × Has y x) where
  -- what one reader takes, and then what another takes of the rest
  pub reads_both : Reads Y IsY fields_y (λ bytes. read_x bytes >>= λ x. read_y x.0 x.1)
  reads_both =
      let two : Follows X Y IsX IsY fields_x fields_y read_x read_y Has after = record { first = first; second = second; part = part; joins = joins; fills = fills } in
      reads_two two

-- the same, where the first part is a function of the whole
pub reads_key : (X Y : Type 0) (IsX : X → Type 0) (IsY : Y → Type 0) (fields_x : X → List Field) (fields_y : Y → List Field)
    (read_x : List ℕ → Result (X × List ℕ) Stop) (read_y : X → List ℕ → Result (Y × List ℕ) Stop) (key : Y → X) (after : Y → List Field)
    → Reads X IsX fields_x read_x → ((x : X) → IsX x → Reads Y (λ y. IsY y × (key y ≡ x)) after (read_y x)) → ((y : Y) → IsY y → IsX (key y))
    → ((y : Y) → IsY y → fields_y y ≡ fields_x (key y) ++ after y) → ((x : X) → IsX x → (y : Y) × IsY y × (key y ≡ x))
    → Reads Y IsY fields_y (λ bytes. read_x bytes >>= λ x. read_y x.0 x.1)
reads_key X Y IsX IsY fields_x fields_y read_x read_y key after first second keyed joins fills =
    reads_both X Y IsX IsY fields_x fields_y read_x read_y (λ y x. key y ≡ x) after first second
    (λ y is. (key y, keyed y is, refl))
    (λ x y is_x is_y has. joins y is_y ∙ ap (λ (w : X). fields_x w ++ after y) has)
    fills
