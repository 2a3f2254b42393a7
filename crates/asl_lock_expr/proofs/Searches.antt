-- The search for the functions that reach one of a list: its marks are of functions that do, and where nothing waits any more it has
-- marked them all.
use Rattle.std.proofs.Common.{◌≡◌, ℕ, zero, suc, ◌+◌, ◌<◌, ◌⊎◌, ◌++◌, Bool, true, false, List, [], ◌∷◌, length, replicate, get_or, take, Some, slice_get, slice_set, refl, ap, sym, ◌∙◌, subst, inl, inr, arith, length-append}
use Rattle.std.proofs.lemmas.List.{take_more}
use Rattle.asl_lock_expr.specs.Storing.{IsMarked, unmarked, IsIn, row, Reaches, Listed, Calling, MarksAll}
use Rattle.asl_lock_expr.proofs.RowNumbers.{in_left, in_right, in_either}

-- a mark that is set leaves the others, and makes one of those that had none
set_kept : (marks : List Bool) (n f : ℕ) → IsMarked marks f → IsMarked (slice_set marks n true) f
set_kept [] n f h = cc
set_kept (m ∷ marks) zero zero h = refl
set_kept (m ∷ marks) zero (suc f) h = h
set_kept (m ∷ marks) (suc n) zero h = h
set_kept (m ∷ marks) (suc n) (suc f) h = set_kept marks n f h

set_here : (marks : List Bool) (n : ℕ) (b : Bool) → slice_get marks n ≡ Some b → IsMarked (slice_set marks n true) n
set_here [] n b h = cc
set_here (m ∷ marks) zero b h = refl
set_here (m ∷ marks) (suc n) b h = set_here marks n b h

set_cases : (marks : List Bool) (n f : ℕ) → IsMarked (slice_set marks n true) f → (f ≡ n) ⊎ IsMarked marks f
set_cases [] n f h = inr h
set_cases (m ∷ marks) zero zero h = inl refl
set_cases (m ∷ marks) zero (suc f) h = inr h
set_cases (m ∷ marks) (suc n) zero h = inr h
set_cases (m ∷ marks) (suc n) (suc f) h = elim (set_cases marks n f h) [ inl e ↦ inl (ap suc e) | inr g ↦ inr g ]

set_fewer : (marks : List Bool) (n : ℕ) → slice_get marks n ≡ Some false → suc (unmarked (slice_set marks n true)) ≡ unmarked marks
set_fewer [] n h = cc
set_fewer (true ∷ marks) zero h = cc
set_fewer (false ∷ marks) zero h = refl
set_fewer (true ∷ marks) (suc n) h = set_fewer marks n h
set_fewer (false ∷ marks) (suc n) h = ap suc (set_fewer marks n h)

set_length : (marks : List Bool) (n : ℕ) → length (slice_set marks n true) ≡ length marks
set_length [] n = refl
set_length (m ∷ marks) zero = refl
set_length (m ∷ marks) (suc n) = ap suc (set_length marks n)

-- what has a mark is there
marked_there : (marks : List Bool) (f : ℕ) → IsMarked marks f → f < length marks
marked_there [] f h = cc
marked_there (m ∷ marks) zero h = omega arith
marked_there (m ∷ marks) (suc f) h = let r = marked_there marks f h in omega arith

-- at first nothing has a mark
pub none_marked : (n f : ℕ) → IsMarked (replicate n false) f → ⊥
none_marked zero f h = cc
none_marked (suc n) zero h = cc
none_marked (suc n) (suc f) h = none_marked n f h

-- of no functions all have marks
pub marks_none : (marks : List Bool) (waits : List ℕ) → MarksAll [] marks marks waits waits
marks_none marks waits =
    record { length_same = refl; kept = λ f h. h; only = λ f h. inl h; all = λ f i lt. absurd i; waits_kept = λ f h. h; waits_only = λ f h. inl h; measure = refl }

-- one function more gets a mark and waits
pub marks_set : (functions : List ℕ) (old new : List Bool) (waits now : List ℕ) (f : ℕ) → slice_get new f ≡ Some false → MarksAll functions old new waits now →
    MarksAll (functions ++ f ∷ []) old (slice_set new f true) waits (now ++ f ∷ [])
marks_set functions old new waits now f free m =
    record {
      length_same = set_length new f ∙ m.length_same;
      kept = λ g h. set_kept new f g (m.kept g h);
      only = λ g h. elim (set_cases new f g h) [
        | inl e ↦ inr (in_right functions _ g (inl (sym e)), in_right now _ g (inl (sym e)))
        | inr old_mark ↦ elim (m.only g old_mark) [ inl a ↦ inl a | inr b ↦ inr (in_left functions _ g b.0, in_left now _ g b.1) ]
      ];
      all = λ g i lt. elim (in_either functions _ g i) [
        | inl p ↦ set_kept new f g (m.all g p lt)
        | inr q ↦ elim q [ inl e ↦ subst (λ n. IsMarked (slice_set new f true) n) e (set_here new f false free) | inr z ↦ absurd z ]
      ];
      waits_kept = λ g i. in_left now _ g (m.waits_kept g i);
      waits_only = λ g i. elim (in_either now _ g i) [
        | inl p ↦ elim (m.waits_only g p) [ inl a ↦ inl a | inr b ↦ inr (set_kept new f g b) ]
        | inr q ↦ elim q [ inl e ↦ inr (subst (λ n. IsMarked (slice_set new f true) n) e (set_here new f false free)) | inr z ↦ absurd z ]
      ];
      measure = omega (arith, set_fewer new f free, length-append now (f ∷ []), m.measure);
    }

-- one function more has a mark already, or is none
pub marks_skip : (functions : List ℕ) (old new : List Bool) (waits now : List ℕ) (f : ℕ) → (f < length old → IsMarked new f) → MarksAll functions old new waits now →
    MarksAll (functions ++ f ∷ []) old new waits now
marks_skip functions old new waits now f has m =
    record {
      length_same = m.length_same;
      kept = m.kept;
      only = λ g h. elim (m.only g h) [ inl a ↦ inl a | inr b ↦ inr (in_left functions _ g b.0, b.1) ];
      all = λ g i lt. elim (in_either functions _ g i) [
        | inl p ↦ m.all g p lt
        | inr q ↦ elim q [ inl e ↦ subst (λ n. n < length old → IsMarked new n) e has lt | inr z ↦ absurd z ]
      ];
      waits_kept = m.waits_kept;
      waits_only = m.waits_only;
      measure = m.measure;
    }

-- ---- the search

-- what holds between two steps of the search
pub record IsSearch (count : ℕ) (callers : List (List ℕ)) (listed : List ℕ) (marks : List Bool) (waits : List ℕ) : Type 0 where
  pub count_same : length marks ≡ count
  pub sound : (f : ℕ) → IsMarked marks f → Reaches count callers listed f
  pub waiting : (f : ℕ) → IsIn waits f → IsMarked marks f
  pub listed_marked : (f : ℕ) → IsIn listed f → f < count → IsMarked marks f
  pub closed : (g f : ℕ) → IsMarked marks g → IsIn (row callers g) f → f < count → IsMarked marks f ⊎ IsIn waits g

-- the search begins with what is listed
pub search_begins : (count : ℕ) (callers : List (List ℕ)) (listed : List ℕ) (old marks : List Bool) (waits : List ℕ) → old ≡ replicate count false → length old ≡ count → MarksAll listed old marks [] waits →
    IsSearch count callers listed marks waits
search_begins count callers listed old marks waits is many m =
    let none : (f : ℕ) → IsMarked old f → ⊥ = λ f h. none_marked count f (subst (λ (ms : List Bool). IsMarked ms f) is h) in
    record {
      count_same = m.length_same ∙ many;
      sound = λ f h. elim (m.only f h) [ inl a ↦ absurd (none f a) | inr b ↦ Listed f (let lt = marked_there marks f h in omega (arith, m.length_same, many)) b.0 ];
      waiting = λ f i. elim (m.waits_only f i) [ inl z ↦ absurd z | inr h ↦ h ];
      listed_marked = λ f i lt. m.all f i (omega (arith, many));
      closed = λ g f h i lt. elim (m.only g h) [ inl a ↦ absurd (none g a) | inr b ↦ inr b.1 ];
    }

-- what waits at the end is taken, and its callers get marks
pub search_more : (count : ℕ) (callers : List (List ℕ)) (listed functions : List ℕ) (old marks : List Bool) (before waits now : List ℕ) (g : ℕ) → before ≡ waits ++ g ∷ [] → functions ≡ row callers g →
    IsSearch count callers listed old before → MarksAll functions old marks waits now → IsSearch count callers listed marks now
search_more count callers listed functions old marks before waits now g popped is s m =
    let was : (f : ℕ) → IsIn (waits ++ g ∷ []) f → IsIn before f = λ f i. subst (λ (xs : List ℕ). IsIn xs f) (sym popped) i in
    let caller : IsMarked old g = s.waiting g (was g (in_right waits _ g (inl refl))) in
    record {
      count_same = m.length_same ∙ s.count_same;
      sound = λ f h. elim (m.only f h) [
        | inl a ↦ s.sound f a
        | inr b ↦ Calling f g (let lt = marked_there marks f h in omega (arith, m.length_same, s.count_same)) (subst (λ (xs : List ℕ). IsIn xs f) is b.0) (s.sound g caller)
      ];
      waiting = λ f i. elim (m.waits_only f i) [ inl a ↦ m.kept f (s.waiting f (was f (in_left waits _ f a))) | inr h ↦ h ];
      listed_marked = λ f i lt. m.kept f (s.listed_marked f i lt);
      closed = λ h f marked i lt. elim (m.only h marked) [
        | inl a ↦ elim (s.closed h f a i lt) [
          | inl b ↦ inl (m.kept f b)
          | inr w ↦ elim (in_either waits _ h (subst (λ (xs : List ℕ). IsIn xs h) popped w)) [
            | inl p ↦ inr (m.waits_kept h p)
            | inr q ↦ elim q [
              | inl e ↦ inl (m.all f (subst (λ (xs : List ℕ). IsIn xs f) (sym is) (subst (λ n. IsIn (row callers n) f) (sym e) i)) (omega (arith, s.count_same)))
              | inr z ↦ absurd z
            ]
          ]
        ]
        | inr b ↦ inr b.1
      ];
    }

-- where nothing waits, what is reached has a mark
pub reached_marked : (count : ℕ) (callers : List (List ℕ)) (listed : List ℕ) (marks : List Bool) → IsSearch count callers listed marks [] → (f : ℕ) → Reaches count callers listed f → IsMarked marks f
reached_marked count callers listed marks s _ (Listed f lt i) = s.listed_marked f i lt
reached_marked count callers listed marks s _ (Calling f g lt i r) =
    elim (s.closed g f (reached_marked count callers listed marks s g r) i lt) [ inl h ↦ h | inr z ↦ absurd z ]

-- a mark read by an index
pub marks_step : (functions : List ℕ) (i f : ℕ) (old new new' : List Bool) (waits now now' : List ℕ) (d : ℕ) → i < length functions → f ≡ get_or functions i d → slice_get new f ≡ Some false → new' ≡ slice_set new f true → now' ≡ now ++ f ∷ [] →
    MarksAll (take i functions) old new waits now → MarksAll (take (i + 1) functions) old new' waits now'
marks_step functions i f old new new' waits now now' d lt is free m w before =
    let more : take (i + 1) functions ≡ take i functions ++ f ∷ [] = take_more functions i d lt ∙ ap (λ x. take i functions ++ x ∷ []) (sym is) in
    subst (λ (fs : List ℕ). MarksAll fs old new' waits now') (sym more)
    (subst (λ (ms : List Bool). MarksAll (take i functions ++ f ∷ []) old ms waits now') (sym m)
    (subst (λ (ws : List ℕ). MarksAll (take i functions ++ f ∷ []) old (slice_set new f true) waits ws) (sym w) (marks_set (take i functions) old new waits now f free before)))

pub marks_stay : (functions : List ℕ) (i f : ℕ) (old new new' : List Bool) (waits now now' : List ℕ) (d : ℕ) → i < length functions → f ≡ get_or functions i d → (f < length new → IsMarked new f) → new' ≡ new → now' ≡ now →
    MarksAll (take i functions) old new waits now → MarksAll (take (i + 1) functions) old new' waits now'
marks_stay functions i f old new new' waits now now' d lt is taken m w before =
    let more : take (i + 1) functions ≡ take i functions ++ f ∷ [] = take_more functions i d lt ∙ ap (λ x. take i functions ++ x ∷ []) (sym is) in
    subst (λ (fs : List ℕ). MarksAll fs old new' waits now') (sym more)
    (subst (λ (ms : List Bool). MarksAll (take i functions ++ f ∷ []) old ms waits now') (sym m)
    (subst (λ (ws : List ℕ). MarksAll (take i functions ++ f ∷ []) old new waits ws) (sym w) (marks_skip (take i functions) old new waits now f (λ low. taken (omega (arith, before.length_same))) before)))
