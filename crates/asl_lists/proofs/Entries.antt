-- What the functions of a source say of its entries.
use Rattle.std.proofs.Common.{◌≡◌, ℕ, List, ◌++◌, Result, Ok, Err, IfOk, Some, false, map, slice_get, subst, ◌⊎◌, ⊎_elim, inl, inr, zero, suc, [], ◌∷◌}
use Rattle.asl_syntax.specs.Tree.{Item}
use Rattle.asl_syntax.specs.Parsed.{Parses}
use Rattle.asl_syntax.specs.Rules.{parameter_counts, differs}
use Rattle.asl_syntax.specs.Fault.{IsFault}
use Rattle.asl_syntax.specs.declared.fault.SyntaxFault.{SyntaxFault}
use Rattle.asl_syntax.specs.declared.fault.SyntaxFault.TheVariants.{OutOfMemory}
use Rattle.asl_syntax.proofs.Plain.{one_tree}
use Rattle.asl_syntax.proofs.Outcomes.{no_fault}
use Rattle.asl_lists.specs.declared.driver.Entry.{Entry}
use Rattle.asl_lists.specs.Driver.{bare_main, HasParameters, AreEntries}

-- the function of the entry has no other number of parameters in the tree
abbrev pub Fits : List Item → Entry → Type 0
Fits tree e = differs (parameter_counts tree e.name.now) e.parameters ≡ false

-- so it is of all of these
abbrev pub AllFit : List Item → List Entry → Type 0
AllFit tree es = (n : ℕ) (e : Entry) → slice_get es n ≡ Some e → Fits tree e

-- the names of the entries
abbrev pub names_of : List Entry → List (List ℕ)
names_of es = map (λ (e : Entry). e.name.now) es

fits_parsed : (source : List ℕ) (tree : List Item) (e : Entry) → Parses (source ++ bare_main) tree → Fits tree e → HasParameters source e
fits_parsed source tree e p fits other q =
    subst (λ (t : List Item). Fits t e) (one_tree tree other _ p.spelled.spelled q.spelled.spelled) fits

fits_refused : (source : List ℕ) (fault : SyntaxFault) (e : Entry) → IsFault (source ++ bare_main) fault → (fault ≡ OutOfMemory → ⊥) → HasParameters source e
fits_refused source fault e is other tree p = absurd (other (no_fault (source ++ bare_main) tree fault p is))

-- entries that fit the tree of a source, with a `main` that calls nothing
pub entries_parsed : {E : Type 0} {X : Type 0} (items : X → List Entry) (source : List ℕ) (names : List (List ℕ)) (tree : List Item) (r : Result X E) → Parses (source ++ bare_main) tree → IfOk r (λ x. names_of (items x) ≡ names) → IfOk r (λ x. AllFit tree (items x)) → IfOk r (λ x. AreEntries source names (items x))
entries_parsed items source names tree (Ok x) p named fit =
    record { named = named; fit = λ n e at. fits_parsed source tree e p (fit n e at) }
entries_parsed items source names tree (Err e) p named fit = tt

-- those of a source that has none
pub entries_refused : {E : Type 0} {X : Type 0} (items : X → List Entry) (source : List ℕ) (names : List (List ℕ)) (fault : SyntaxFault) (r : Result X E) → IsFault (source ++ bare_main) fault → (fault ≡ OutOfMemory → ⊥) → IfOk r (λ x. names_of (items x) ≡ names) → IfOk r (λ x. AreEntries source names (items x))
entries_refused items source names fault (Ok x) is other named =
    record { named = named; fit = λ n e at. fits_refused source fault e is other }
entries_refused items source names fault (Err e) is other named = tt

one_of_more : (es : List Entry) (e : Entry) (n : ℕ) (d : Entry) → slice_get (es ++ e ∷ []) n ≡ Some d → (slice_get es n ≡ Some d) ⊎ (e ≡ d)
one_of_more [] e zero d at = inr cc
one_of_more [] e (suc n) d at = cc
one_of_more (x ∷ es) e zero d at = inl at
one_of_more (x ∷ es) e (suc n) d at = one_of_more es e n d at

-- what holds of each entry, and of one more, holds of all
pub all_more : (P : Entry → Type 0) (es : List Entry) (e : Entry) → ((n : ℕ) (d : Entry) → slice_get es n ≡ Some d → P d) → P e → (n : ℕ) (d : Entry) → slice_get (es ++ e ∷ []) n ≡ Some d → P d
all_more P es e all one n d at = ⊎_elim (λ h. all n d h) (λ h. subst P h one) (one_of_more es e n d at)
