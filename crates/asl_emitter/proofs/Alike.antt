-- A program has one inferred image.
use Rattle.std.proofs.Common.{◌≡◌, ◌<◌, ℕ, zero, suc, Bool, true, false, List, [], ◌∷◌, Some, length, slice_get, refl, ap₂, sym, ◌∙◌, subst, arith}
use Rattle.std.specs.Prelude.{IsTrue}
use Rattle.std.proofs.lemmas.Option.{slice_get_within}
use Rattle.asl_code.specs.declared.image.Image.{Image}
use Rattle.asl_syntax.specs.Tree.{Item}
use Rattle.asl_lower.specs.Lowered.{Lowered}
use Rattle.asl_lower.specs.Regions.{Inside}
use Rattle.asl_lower.proofs.Laid.{one_lowering}
use Rattle.asl_points_to.specs.Classes.{Classed, AreClasses}
use Rattle.asl_points_to.proofs.Uniques.{one_classed}
use Rattle.asl_lock_expr.specs.ClassOf.{TellsStores}
use Rattle.asl_backward_flow.specs.Needed.{Needed}
use Rattle.asl_emitter.specs.Inferred.{IsInferred, IsInferredFor}
use Rattle.asl_emitter.proofs.Fits.{fitted_one}

-- tests that tell the same are the same
same_test : (a b : Bool) → (IsTrue a → IsTrue b) → (IsTrue b → IsTrue a) → a ≡ b
same_test true true h k = refl
same_test true false h k = let t : false ≡ true = h refl in cc
same_test false true h k = let t : false ≡ true = k refl in cc
same_test false false h k = refl

pub one_test : (l : Lowered) (c : Classed) (stores other : ℕ → ℕ → Bool) → TellsStores l c stores → TellsStores l c other → stores ≡ other
one_test l c stores other h k =
    let same = λ (f x : ℕ). same_test (stores f x) (other f x) (λ t. (k f x).1 ((h f x).0 t)) (λ t. (h f x).1 ((k f x).0 t)) in
    λ i f x. same f x i

-- lists are the same that have the same at each place
same_lists : {X : Type 0} (xs ys : List X) → length xs ≡ length ys → ((n : ℕ) (x y : X) → slice_get xs n ≡ Some x → slice_get ys n ≡ Some y → x ≡ y) → xs ≡ ys
same_lists [] [] e h = refl
same_lists [] (y ∷ ys) e h = absurd (omega (arith, e))
same_lists (x ∷ xs) [] e h = absurd (omega (arith, e))
same_lists (x ∷ xs) (y ∷ ys) e h = ap₂ (λ a bs. a ∷ bs) (h zero x y refl refl) (same_lists xs ys (omega (arith, e)) (λ n a b p q. h (suc n) a b p q))

get_below : {X : Type 0} (xs : List X) (n : ℕ) → n < length xs → (x : X) × (slice_get xs n ≡ Some x)
get_below [] n lt = absurd (omega (arith, lt))
get_below (x ∷ xs) zero lt = (x, refl)
get_below (x ∷ xs) (suc n) lt = get_below xs n (omega (arith, lt))

one_inferred : (l : Lowered) (c : Classed) (stores : ℕ → ℕ → Bool) (k_limit : ℕ) (image other : Image) → IsInferred l c stores k_limit image → IsInferred l c stores k_limit other → image ≡ other
one_inferred l c stores k_limit image other h k =
    let version = h.version ∙ sym k.version in
    let classes = h.classes ∙ sym k.classes in
    let globals = h.globals ∙ sym k.globals in
    let functions = h.functions ∙ sym k.functions in
    let start = h.start ∙ sym k.start in
    let code = h.code ∙ sym k.code in
    let lists = same_lists image.lists other.lists (h.count ∙ sym k.count) (λ n xs ys p q.
    (let lt = slice_get_within image.lists n xs p in
    let count = h.count in
    let s = get_below l.sections n (omega (arith, lt, count)) in
    fitted_one c s.0.function 256 (Needed l c stores k_limit (Inside n) (suc s.0.acquire)) (Needed l c stores k_limit (Inside n) (suc s.0.acquire)) xs ys
    (λ a. (λ x. x, λ x. x)) (h.lists n s.0 xs s.1 p) (k.lists n s.0 ys s.1 q))) in
    λ i. record { version = version i; classes = classes i; globals = globals i; functions = functions i; start = start i; code = code i; lists = lists i }

pub one_image : (is : List Item) (k_limit : ℕ) (image other : Image) → IsInferredFor is k_limit image → IsInferredFor is k_limit other → image ≡ other
one_image is k_limit image other h k =
    let p = h.analysis.program in
    let q = k.analysis.program in
    let lowering : q.lowering ≡ p.lowering = one_lowering is q.lowering p.lowering q.lowers p.lowers in
    by_lowering p.lowering p.classes h.analysis.stores q.lowering lowering q.classes k.analysis.stores p.are_classes h.analysis.tells h.inferred q.are_classes k.analysis.tells k.inferred
  where
    by_stores : (l : Lowered) (c : Classed) (stores other_stores : ℕ → ℕ → Bool) → stores ≡ other_stores → IsInferred l c stores k_limit image → IsInferred l c other_stores k_limit other → image ≡ other
    by_stores l c stores other_stores e a b = one_inferred l c stores k_limit image other a (subst (λ s. IsInferred l c s k_limit other) (sym e) b)

    by_classes : (l : Lowered) (c : Classed) (stores : ℕ → ℕ → Bool) (d : Classed) → d ≡ c → (other_stores : ℕ → ℕ → Bool) → TellsStores l c stores → IsInferred l c stores k_limit image → TellsStores l d other_stores → IsInferred l d other_stores k_limit other → image ≡ other
    by_classes l c stores d e other_stores t a u b =
        by_stores l c stores other_stores (one_test l c stores other_stores t (subst (λ k. TellsStores l k other_stores) e u)) a (subst (λ k. IsInferred l k other_stores k_limit other) e b)

    by_lowering : (l : Lowered) (c : Classed) (stores : ℕ → ℕ → Bool) (m : Lowered) → m ≡ l → (d : Classed) (other_stores : ℕ → ℕ → Bool) → AreClasses l c → TellsStores l c stores → IsInferred l c stores k_limit image → AreClasses m d → TellsStores m d other_stores → IsInferred m d other_stores k_limit other → image ≡ other
    by_lowering l c stores m e d other_stores ac t a ad u b =
        let are = subst (λ k. AreClasses k d) e ad in
        by_classes l c stores d (one_classed l d c are ac) other_stores t a (subst (λ k. TellsStores k d other_stores) e u) (subst (λ k. IsInferred k d other_stores k_limit other) e b)
