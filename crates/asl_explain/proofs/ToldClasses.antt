-- What is told of classes, one more at a time, and that the lists alone tell it.
use Rattle.std.proofs.Common.{◌≡◌, ℕ, suc, ◌+◌, List, [], ◌∷◌, ◌++◌, ◌||◌, Bool, if◌then◌else◌, Option, length, map, slice_get, Some, refl, sym, ap, subst, inl, inr, ◌∙◌}
use Rattle.asl_code.specs.declared.lock.Lock.{Lock}
use Rattle.asl_class_text.specs.Reasoned.{Reasoned}
use Rattle.asl_explain.specs.declared.class_reasons.ClassTold.{ClassTold}
use Rattle.asl_explain.specs.declared.explained_value.Listed.{Listed}
use Rattle.asl_explain.specs.ClassReasons.{is_on, has_class, first_section, IsToldIf, AreTold}
use Rattle.asl_explain.specs.Telling.{is_listed, first_list, AreToldBy}
use Rattle.asl_explain.proofs.Ends.{get_more, length_more}

pub told_more : (r : Reasoned) (all : Bool) (lists : List (List Lock)) (n : ℕ) (old new : List (Option ClassTold)) (o : Option ClassTold) → new ≡ old ++ o ∷ [] → IsToldIf r all n (first_list n 0 lists) o → AreToldBy r all lists n old → AreToldBy r all lists (n + 1) new
told_more r all lists n old new o grows one h = record {
  count_is = ap length grows ∙ length_more old o ∙ ap (λ (k : ℕ). k + 1) h.count_is;
  each = λ k u hu. elim (get_more old o k u (subst (λ (xs : List (Option ClassTold)). slice_get xs k ≡ Some u) grows hu)) [
    | inl a ↦ h.each k u a
    | inr b ↦ (let here : n ≡ k = sym (b.0 ∙ h.count_is) in
        subst (λ (j : ℕ). IsToldIf r all j (first_list j 0 lists) u) here (subst (λ (v : Option ClassTold). IsToldIf r all n (first_list n 0 lists) v) b.1 one))
  ];
}

-- whether a list has a lock on a class, and which is the first, by its locks alone
listed_alike : (class : ℕ) (ls : List Listed) → has_class class ls ≡ is_listed class (map (λ (d : Listed). d.lock) ls)
listed_alike class [] = refl
listed_alike class (d ∷ ls) = ap (λ (b : Bool). is_on class d.lock || b) (listed_alike class ls)

first_alike : (class n : ℕ) (sections : List (List Listed)) → first_section class n sections ≡ first_list class n (map (λ (ls : List Listed). map (λ (d : Listed). d.lock) ls) sections)
first_alike class n [] = refl
first_alike class n (ls ∷ rest) =
    ap (λ (b : Bool). if b then Some n else first_section class (suc n) rest) (listed_alike class ls)
    ∙ ap (λ (o : Option ℕ). if is_listed class (map (λ (d : Listed). d.lock) ls) then Some n else o) (first_alike class (suc n) rest)

-- what is told by lists is told of sections that have these
pub told_alike : (r : Reasoned) (all : Bool) (sections : List (List Listed)) (lists : List (List Lock)) (count : ℕ) (ts : List (Option ClassTold)) → map (λ (ls : List Listed). map (λ (d : Listed). d.lock) ls) sections ≡ lists → AreToldBy r all lists count ts
    → AreTold r all sections count ts
told_alike r all sections lists count ts same told = record {
  count_is = told.count_is;
  each = λ class o at.
      subst (λ (first : Option ℕ). IsToldIf r all class first o) (sym (first_alike class 0 sections ∙ ap (λ (xs : List (List Lock)). first_list class 0 xs) same)) (told.each class o at);
}
