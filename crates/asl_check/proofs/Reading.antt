-- The first lock that the expressions of a list read and that no lock of the list covers, found prefix by prefix.
use Rattle.std.proofs.Common.{◌≡◌, ◌<◌, ◌≤◌, ◌+◌, ℕ, zero, suc, List, [], ◌∷◌, ◌++◌, length, take, drop, get_or, refl, sym, ap, ◌∙◌, subst, inl, inr, append_assoc, arith}
use Rattle.std.proofs.lemmas.List.{append-nil, take_more, drop_more, drop_all}
use Rattle.asl_code.specs.declared.value.Effect.TheVariants.{Read}
use Rattle.asl_code.specs.declared.lock.Base.{Base}
use Rattle.asl_code.specs.declared.lock.Lock.{Lock}
use Rattle.asl_code.specs.declared.path.Op.{Op}
use Rattle.asl_code.specs.declared.path.Op.TheVariants.{Deref, Off}
use Rattle.asl_points_to.specs.Classes.{Classed}
use Rattle.asl_lock_expr.specs.Links.{IsOne, on, prefixes, dereferenced}
use Rattle.asl_lock_expr.proofs.Ones.{one_either, flat_from, flat_of}
use Rattle.asl_emitter.proofs.Reducing.{one_of_more}
use Rattle.asl_check.specs.Checked.{IsUnderOne, AreUnder, IsFirstBare, reads_of}

-- ---- the prefixes of one expression

-- the prefixes from an operation on, by the operation
at_star : (base : Base) (ops : List Op) (at : ℕ) (op : Op) → at < length ops → get_or ops at op ≡ Deref → prefixes base (take at ops) (drop at ops) ≡ on base (take at ops) Read ∷ prefixes base (take (at + 1) ops) (drop (at + 1) ops)
at_star base ops at op lt star =
    ap (prefixes base (take at ops)) (drop_more ops at op lt ∙ ap (λ (o : Op). o ∷ drop (at + 1) ops) star)
    ∙ ap (λ (done : List Op). on base (take at ops) Read ∷ prefixes base done (drop (at + 1) ops)) (ap (λ (o : Op). take at ops ++ o ∷ []) (sym star) ∙ sym (take_more ops at op lt))

no_star : (o : Op) (base : Base) (done ops : List Op) → ¬ (o ≡ Deref) → prefixes base done (o ∷ ops) ≡ prefixes base (done ++ o ∷ []) ops
no_star Deref base done ops other = absurd (other refl)
no_star (Off places) base done ops other = refl

past_other : (base : Base) (ops : List Op) (at : ℕ) (op : Op) → at < length ops → ¬ (get_or ops at op ≡ Deref) → prefixes base (take at ops) (drop at ops) ≡ prefixes base (take (at + 1) ops) (drop (at + 1) ops)
past_other base ops at op lt other =
    ap (prefixes base (take at ops)) (drop_more ops at op lt)
    ∙ no_star (get_or ops at op) base (take at ops) (drop (at + 1) ops) other
    ∙ ap (λ (done : List Op). prefixes base done (drop (at + 1) ops)) (sym (take_more ops at op lt))

module _ (c : Classed) (f : ℕ) (list : List Lock) where
  pub under_both : (xs ys : List Lock) → AreUnder c f list (IsOne xs) → AreUnder c f list (IsOne ys) → AreUnder c f list (IsOne (xs ++ ys))
  under_both xs ys p q n o = elim (one_either xs ys n o) [ inl x ↦ p n x | inr y ↦ q n y ]

  under_single : (a : Lock) → IsUnderOne c f list a → AreUnder c f list (IsOne (a ∷ []))
  under_single a u n (inl e) = subst (IsUnderOne c f list) e u
  under_single a u n (inr o) = absurd o

  -- the prefixes before an operation are covered
  abbrev pub CoveredTo : Base → List Op → List Op → ℕ → Type 0
  CoveredTo base path ops at = (done : List Lock) × (prefixes base [] path ≡ done ++ prefixes base (take at ops) (drop at ops)) × AreUnder c f list (IsOne done)

  pub covered_none : (base : Base) (path ops : List Op) → ops ≡ path → CoveredTo base path ops 0
  covered_none base path ops e = ([], ap (prefixes base []) (sym e), λ n o. absurd o)

  pub covered_other : (base : Base) (path ops : List Op) (at : ℕ) (op : Op) → at < length ops → ¬ (get_or ops at op ≡ Deref) → CoveredTo base path ops at → CoveredTo base path ops (at + 1)
  covered_other base path ops at op lt other h = (h.0, h.1 ∙ ap (λ (xs : List Lock). h.0 ++ xs) (past_other base ops at op lt other), h.2)

  pub covered_star : (base : Base) (path ops : List Op) (at : ℕ) (op : Op) (read : Lock) → at < length ops → get_or ops at op ≡ Deref → read ≡ on base (take at ops) Read → IsUnderOne c f list read → CoveredTo base path ops at → CoveredTo base path ops (at + 1)
  covered_star base path ops at op read lt star is u h = (
    h.0 ++ read ∷ [],
    h.1 ∙ ap (λ (xs : List Lock). h.0 ++ xs) (at_star base ops at op lt star) ∙ ap (λ (x : Lock). h.0 ++ x ∷ prefixes base (take (at + 1) ops) (drop (at + 1) ops)) (sym is) ∙ sym (append_assoc h.0 (read ∷ []) (prefixes base (take (at + 1) ops) (drop (at + 1) ops))),
    under_both h.0 (read ∷ []) h.2 (under_single read u),
  )

  pub bare_star : (base : Base) (path ops : List Op) (at : ℕ) (op : Op) (read : Lock) → at < length ops → get_or ops at op ≡ Deref → read ≡ on base (take at ops) Read → ¬ IsUnderOne c f list read → CoveredTo base path ops at → IsFirstBare c f list (prefixes base [] path) read
  bare_star base path ops at op read lt star is bare h = record {
    front = h.0;
    rest = prefixes base (take (at + 1) ops) (drop (at + 1) ops);
    parts = h.1 ∙ ap (λ (xs : List Lock). h.0 ++ xs) (at_star base ops at op lt star) ∙ ap (λ (x : Lock). h.0 ++ x ∷ prefixes base (take (at + 1) ops) (drop (at + 1) ops)) (sym is);
    before = h.2;
    bare = bare;
  }

  pub covered_whole : (base : Base) (path ops : List Op) (at : ℕ) → length ops ≤ at → CoveredTo base path ops at → AreUnder c f list (IsOne (prefixes base [] path))
  covered_whole base path ops at past h =
      let all : prefixes base [] path ≡ h.0 = h.1 ∙ ap (λ (rest : List Op). h.0 ++ prefixes base (take at ops) rest) (drop_all at ops past) ∙ append-nil h.0 in
      subst (λ (xs : List Lock). AreUnder c f list (IsOne xs)) (sym all) h.2

  -- ---- the locks of a list

  pub covered_lock : (n : ℕ) (lock : Lock) → n < length list → get_or list n lock ≡ lock → AreUnder c f list (IsOne (reads_of (take n list))) → AreUnder c f list (IsOne (dereferenced lock)) → AreUnder c f list (IsOne (reads_of (take (n + 1) list)))
  covered_lock n lock lt is before own a o =
      let from = flat_from (take (n + 1) list) a o in
      elim (one_of_more list n lock from.0 lt from.1) [
        | inl early ↦ before a (flat_of (take n list) from.0 a early from.2)
        | inr same ↦ own a (subst (λ (x : Lock). IsOne (dereferenced x) a) (sym same ∙ is) from.2)
      ]

-- the locks of a list read one after the other
reads_split : (list : List Lock) (n : ℕ) (d : Lock) → n < length list → reads_of list ≡ reads_of (take n list) ++ (dereferenced (get_or list n d) ++ reads_of (drop (suc n) list))
reads_split [] n d lt = absurd (omega (arith, lt))
reads_split (x ∷ xs) zero d lt = refl
reads_split (x ∷ xs) (suc n) d lt =
    ap (λ (rest : List Lock). dereferenced x ++ rest) (reads_split xs n d (omega (arith, lt)))
    ∙ sym (append_assoc (dereferenced x) (reads_of (take n xs)) (dereferenced (get_or xs n d) ++ reads_of (drop (suc n) xs)))

pub bare_in_list : (c : Classed) (f : ℕ) (list : List Lock) (n : ℕ) (lock read : Lock) → n < length list → get_or list n lock ≡ lock → AreUnder c f list (IsOne (reads_of (take n list))) → IsFirstBare c f list (dereferenced lock) read → IsFirstBare c f list (reads_of list) read
bare_in_list c f list n lock read lt is before h =
    let early = reads_of (take n list) in
    let late = reads_of (drop (suc n) list) in
    record {
      front = early ++ h.front;
      rest = h.rest ++ late;
      parts = reads_split list n lock lt
          ∙ ap (λ (x : Lock). early ++ (dereferenced x ++ late)) is
          ∙ ap (λ (xs : List Lock). early ++ (xs ++ late)) h.parts
          ∙ ap (λ (xs : List Lock). early ++ xs) (append_assoc h.front (read ∷ h.rest) late)
          ∙ sym (append_assoc early h.front (read ∷ (h.rest ++ late)));
      before = under_both c f list early h.front before h.before;
      bare = h.bare;
    }
