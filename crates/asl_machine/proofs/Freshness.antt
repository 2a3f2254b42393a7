-- Which objects are fresh for a thread that makes one, and what that covers.
use Rattle.std.proofs.Common.{◌≡◌, ◌≢◌, ℕ, zero, suc, ◌<◌, ◌⊎◌, ◌||◌, ◌&&◌, ◌==◌, ◌++◌, Bool, true, false, cond, List, [], ◌∷◌, Some, length, get_or, slice_get, refl, ap, ap₂, sym, ◌∙◌, subst, inl, inr, arith, rules, eqb-true, eq-eqb}
use Rattle.std.specs.Prelude.{IsTrue, nat_lt, All}
use Rattle.std.specs.Option.{option_map_or}
use Rattle.std.proofs.lemmas.Bool.{or_right, and_parts}
use Rattle.asl_code.specs.declared.image.Image.{Image}
use Rattle.asl_code.specs.Versions.{has_fresh}
use Rattle.asl_code.specs.declared.value.Cell.{Cell}
use Rattle.asl_code.specs.declared.value.Effect.{Effect}
use Rattle.asl_code.specs.declared.value.Effect.TheVariants.{Read, Write}
use Rattle.asl_mode_lanes.specs.Mode.{is_at_most}
use Rattle.asl_lock_forest.specs.declared.node.Node.{Node}
use Rattle.asl_lock_forest.specs.declared.node.Node.TheVariants.{Root, Class, Leaf}
use Rattle.asl_lock_forest.specs.Holding.{Holding, held, covering_mode, Covers, is_covered, IsLawful}
use Rattle.asl_lock_forest.proofs.NinePairs.{nine_pairs}
use Rattle.asl_machine.specs.Cover.{is_fresh, cover, Allows}
use Rattle.asl_machine.specs.State.{Activity, State, class_of}
use Rattle.asl_machine.specs.Step.{made_fresh, is_allowed}

pub or_split : (a b : Bool) → (a || b) ≡ true → (a ≡ true) ⊎ (b ≡ true)
or_split true b e = inl refl
or_split false b e = inr e

pub no_fresh : (xs : List ℕ) (o : ℕ) → xs ≡ [] → IsTrue (is_fresh xs o) → ⊥
no_fresh xs o e f = let g : false ≡ true = sym (ap (λ ys. is_fresh ys o) e) ∙ f in cc

-- a list with one more
pub fresh_either : (xs : List ℕ) (n o : ℕ) → IsTrue (is_fresh (xs ++ n ∷ []) o) → IsTrue (is_fresh xs o) ⊎ (o ≡ n)
fresh_either [] n o e = elim (or_split (n == o) false e) [ inl same ↦ inr (sym (eqb-true n o same)) | inr f ↦ (let g : false ≡ true = f in cc) ]
fresh_either (x ∷ xs) n o e =
    elim (or_split (x == o) (is_fresh (xs ++ n ∷ []) o) e) [
      | inl same ↦ inl (ap (λ b. b || is_fresh xs o) same)
      | inr later ↦ elim (fresh_either xs n o later) [ inl old ↦ inl (or_right (x == o) (is_fresh xs o) old) | inr new ↦ inr new ]
    ]

pub fresh_before : (xs : List ℕ) (n o : ℕ) → IsTrue (is_fresh xs o) → IsTrue (is_fresh (xs ++ n ∷ []) o)
fresh_before [] n o e = let g : false ≡ true = e in cc
fresh_before (x ∷ xs) n o e =
    elim (x == o) as (λ b. (b || is_fresh xs o) ≡ true → (b || is_fresh (xs ++ n ∷ []) o) ≡ true) [ true ↦ λ f. refl | false ↦ λ f. fresh_before xs n o f ] e

pub fresh_last : (xs : List ℕ) (n : ℕ) → IsTrue (is_fresh (xs ++ n ∷ []) n)
fresh_last [] n = ap (λ b. b || false) (eq-eqb n n refl)
fresh_last (x ∷ xs) n = elim (x == n) as (λ b. (b || is_fresh (xs ++ n ∷ []) n) ≡ true) [ true ↦ refl | false ↦ fresh_last xs n ]

-- the fresh objects of a thread that makes one
pub made_either : (version depth n : ℕ) (xs : List ℕ) (o : ℕ) → IsTrue (is_fresh (made_fresh version depth n xs) o) → IsTrue (is_fresh xs o) ⊎ ((o ≡ n) × IsTrue (has_fresh version))
made_either version depth n xs o e =
    elim (has_fresh version && nat_lt 0 depth) as (λ b. (has_fresh version && nat_lt 0 depth) ≡ b → IsTrue (is_fresh (cond b (xs ++ n ∷ []) xs) o) → IsTrue (is_fresh xs o) ⊎ ((o ≡ n) × IsTrue (has_fresh version))) [
      | true ↦ λ is f. elim (fresh_either xs n o f) [ inl old ↦ inl old | inr new ↦ inr (new, (and_parts (has_fresh version) (nat_lt 0 depth) is).0) ]
      | false ↦ λ is f. inl f
    ] refl e

pub made_keeps : (version depth n : ℕ) (xs : List ℕ) (o : ℕ) → IsTrue (is_fresh xs o) → IsTrue (is_fresh (made_fresh version depth n xs) o)
made_keeps version depth n xs o e =
    elim (has_fresh version && nat_lt 0 depth) as (λ b. IsTrue (is_fresh (cond b (xs ++ n ∷ []) xs) o)) [ true ↦ fresh_before xs n o e | false ↦ e ]

pub made_new : (version depth n : ℕ) (xs : List ℕ) → IsTrue (has_fresh version) → 0 < depth → IsTrue (is_fresh (made_fresh version depth n xs) n)
made_new version depth n xs has inside =
    let lt : nat_lt 0 depth ≡ true = search (rules, arith) in
    subst (λ (b : Bool). IsTrue (is_fresh (cond b (xs ++ n ∷ []) xs) n)) (sym (ap₂ (λ a b. a && b) has lt)) (fresh_last xs n)

pub made_outside : (version depth n : ℕ) (xs : List ℕ) → depth ≡ 0 → made_fresh version depth n xs ≡ xs
made_outside version depth n xs z =
    ap (λ (d : ℕ). cond (has_fresh version && nat_lt 0 d) (xs ++ n ∷ []) xs) z ∙ by (has_fresh version) xs n
  where
    by : (b : Bool) (xs : List ℕ) (n : ℕ) → cond (b && nat_lt 0 0) (xs ++ n ∷ []) xs ≡ xs
    by true xs n = refl
    by false xs n = refl

-- what stands at a place is one of them
pub fresh_there : (xs : List ℕ) (k d : ℕ) → k < length xs → IsTrue (is_fresh xs (get_or xs k d))
fresh_there [] k d lt = absurd (omega arith)
fresh_there (x ∷ xs) zero d lt = ap (λ b. b || is_fresh xs x) (eq-eqb x x refl)
fresh_there (x ∷ xs) (suc k) d lt = or_right (x == get_or xs k d) (is_fresh xs (get_or xs k d)) (fresh_there xs k d (omega arith))

-- all are below a number where each that is one of them is
pub fresh_within : (n : ℕ) (xs : List ℕ) → ((o : ℕ) → IsTrue (is_fresh xs o) → o < n) → All (λ o. o < n) xs
fresh_within n xs f k d lt = f (get_or xs k d) (fresh_there xs k d lt)

-- what stands at a place is one of them, by what is got there
pub fresh_got : (xs : List ℕ) (k o : ℕ) → slice_get xs k ≡ Some o → IsTrue (is_fresh xs o)
fresh_got [] k o e = cc
fresh_got (x ∷ xs) zero o e = let is : x ≡ o = cc in ap (λ b. b || is_fresh xs o) (eq-eqb x o is)
fresh_got (x ∷ xs) (suc k) o e = or_right (x == o) (is_fresh xs o) (fresh_got xs k o e)

-- ---- coverage

pub covers_held : (h new : Holding) (u : ℕ) (cell : Cell) (x : ℕ) (effect : Effect) → ((node : Node) → held new u node ≡ held h u node) → Covers h u cell x effect → Covers new u cell x effect
covers_held h new u cell x effect same p =
    ap₂ (λ a b. a || b) (ap₂ (λ m n. is_at_most (covering_mode effect) m || is_at_most (covering_mode effect) n) (same (Leaf cell x)) (same (Class x))) (ap (λ m. is_at_most (covering_mode effect) m) (same Root)) ∙ p

-- an allowed access is covered
pub allowed_covers : (image : Image) (s : State) (t : ℕ) (a : Activity) (effect : Effect) (cell : Cell) (x : ℕ) → is_allowed (record { image = image; state = s; thread = t; activity = a }) effect cell ≡ true →
    class_of s.objects cell.object ≡ Some x → Allows (cover s.holding a.fresh) t cell x effect
allowed_covers image s t a effect cell x e of =
    sym (ap (λ o. option_map_or (λ class. is_fresh a.fresh cell.object || is_covered s.holding t cell class effect) o false) of) ∙ (and_parts (nat_lt 0 a.depth) _ e).1

-- two threads: what one may read and another may write is fresh for one of them
pub allowed_pairs : (h : Holding) → IsLawful h → (t u : ℕ) (fresh others : List ℕ) → t ≢ u → (cell : Cell) (x : ℕ) → Allows (cover h fresh) t cell x Read → Allows (cover h others) u cell x Write →
    (IsTrue (is_fresh fresh cell.object) → ⊥) → (IsTrue (is_fresh others cell.object) → ⊥) → ⊥
allowed_pairs h lawful t u fresh others apart cell x reads writes own other =
    elim (or_split (is_fresh fresh cell.object) (is_covered h t cell x Read) reads) [
      | inl f ↦ own f
      | inr r ↦ elim (or_split (is_fresh others cell.object) (is_covered h u cell x Write) writes) [
        | inl f ↦ other f
        | inr w ↦ nine_pairs h lawful t u apart cell x r w
      ]
    ]
