-- The readers of effects, of operations and of paths read their fields.
use Rattle.std.proofs.Common.{◌≡◌, ℕ, zero, suc, ◌<◌, List, [], ◌∷◌, ◌++◌, length, drop, Ok, refl, ap, arith, lit<, lit≤}
use Rattle.std.specs.List.{flat_map, AllByRecursion}
use Rattle.asl_code.specs.declared.path.Op.{Op}
use Rattle.asl_code.specs.declared.path.Op.TheVariants.{Deref, Off}
use Rattle.asl_code.specs.declared.value.Effect.{Effect}
use Rattle.asl_code.specs.declared.value.Effect.TheVariants.{Read, Write}
use Rattle.asl_loader.specs.Bytes.{one, effect_field, op_fields, path_fields, IsOp, IsPath}
use Rattle.asl_loader.specs.SharedFields.{byte_at, below_at, effect_of, effect_at}
use Rattle.asl_loader.specs.ImageFields.{op_of, op_at, items_at, path_at}
use Rattle.asl_loader.proofs.FieldNumbers.{reads_as}
use Rattle.asl_loader.proofs.Fields.{byte_reads, below_reads}
use Rattle.asl_loader.proofs.Items.{AreSoMany, items_reads}
use Rattle.asl_loader.proofs.Reader.{Reads, reads_nothing}
use Rattle.asl_loader.proofs.WrongInTwo.{reads_both, reads_key}

-- the byte of an effect
effect_number : Effect → ℕ
effect_number Read = 0
effect_number Write = 1

effect_below : (e : Effect) → effect_number e < 2
unfolding effect_number
effect_below Read = lit< tt
effect_below Write = lit< tt

effect_shows : (e : Effect) → effect_field e ∷ [] ≡ one (effect_number e) ∷ []
unfolding effect_number
effect_shows Read = refl
effect_shows Write = refl

effect_from_zero : (e : Effect) → effect_number e ≡ 0 → e ≡ Read
unfolding effect_number
effect_from_zero Read h = refl
effect_from_zero Write h = absurd (omega arith)

effect_from_one : (e : Effect) → effect_number e ≡ 1 → e ≡ Write
unfolding effect_number
effect_from_one Read h = absurd (omega arith)
effect_from_one Write h = refl

effect_reads_rest : (n : ℕ) → n < 2 → Reads Effect (λ e. Unit {0} × (effect_number e ≡ n)) (λ e. []) (λ bytes. Ok (effect_of n, bytes))
unfolding effect_number
effect_reads_rest zero is = reads_nothing Effect (λ e. Unit {0} × (effect_number e ≡ 0)) (λ e. []) Read (tt, refl) (λ e is_e. effect_from_zero e is_e.1) refl
effect_reads_rest (suc zero) is = reads_nothing Effect (λ e. Unit {0} × (effect_number e ≡ 1)) (λ e. []) Write (tt, refl) (λ e is_e. effect_from_one e is_e.1) refl
effect_reads_rest (suc (suc n)) is = absurd (omega arith)

effect_filled : (n : ℕ) → n < 2 → (e : Effect) × Unit {0} × (effect_number e ≡ n)
unfolding effect_number
effect_filled zero is = (Read, tt, refl)
effect_filled (suc zero) is = (Write, tt, refl)
effect_filled (suc (suc n)) is = absurd (omega arith)

pub effect_reads : Reads Effect (λ e. Unit {0}) (λ e. effect_field e ∷ []) effect_at
unfolding effect_at
effect_reads =
    reads_key ℕ Effect (λ n. n < 2) (λ e. Unit {0}) (λ n. one n ∷ []) (λ e. effect_field e ∷ []) (below_at 2) (λ n bytes. Ok (effect_of n, bytes))
    effect_number (λ e. []) (below_reads 2 (lit< tt) (lit≤ tt)) effect_reads_rest (λ e is. effect_below e) (λ e is. effect_shows e) effect_filled

-- the byte of an operation
op_number : Op → ℕ
op_number Deref = 0
op_number (Off offset) = 1

op_below : (o : Op) → op_number o < 2
unfolding op_number
op_below Deref = lit< tt
op_below (Off offset) = lit< tt

op_shows : (o : Op) → op_fields o ≡ (one (op_number o) ∷ []) ++ drop 1 (op_fields o)
unfolding op_number
op_shows Deref = refl
op_shows (Off offset) = refl

op_from_zero : (o : Op) → op_number o ≡ 0 → o ≡ Deref
unfolding op_number
op_from_zero Deref h = refl
op_from_zero (Off n) h = absurd (omega arith)

op_from_one : (o : Op) → IsOp o → op_number o ≡ 1 → (n : ℕ) × (n < 256) × (o ≡ Off n)
unfolding op_number
op_from_one Deref is h = absurd (omega arith)
op_from_one (Off n) is h = (n, is, refl)

op_reads_rest : (n : ℕ) → n < 2 → Reads Op (λ o. IsOp o × (op_number o ≡ n)) (λ o. drop 1 (op_fields o)) (op_of n)
unfolding op_number
op_reads_rest zero is = reads_nothing Op (λ o. IsOp o × (op_number o ≡ 0)) (λ o. drop 1 (op_fields o)) Deref (tt, refl) (λ o is_o. op_from_zero o is_o.1) refl
op_reads_rest (suc zero) is =
    reads_both ℕ Op (λ n. n < 256) (λ o. IsOp o × (op_number o ≡ 1)) (λ n. one n ∷ []) (λ o. drop 1 (op_fields o)) byte_at (λ offset bytes. Ok (Off offset, bytes))
    (λ o n. o ≡ Off n) (λ o. []) byte_reads
    (λ n is_n. reads_nothing Op (λ o. (IsOp o × (op_number o ≡ 1)) × (o ≡ Off n)) (λ o. []) (Off n) ((is_n, refl), refl) (λ o is_o. is_o.1) refl)
    (λ o is_o. op_from_one o is_o.0 is_o.1)
    (λ n o is_n is_o has. ap (λ (x : Op). drop 1 (op_fields x)) has)
    (λ n is_n. (Off n, (is_n, refl), refl))
op_reads_rest (suc (suc n)) is = absurd (omega arith)

op_filled : (n : ℕ) → n < 2 → (o : Op) × IsOp o × (op_number o ≡ n)
unfolding op_number
op_filled zero is = (Deref, tt, refl)
op_filled (suc zero) is = (Off 0, lit< tt, refl)
op_filled (suc (suc n)) is = absurd (omega arith)

pub op_reads : Reads Op IsOp op_fields op_at
unfolding op_at
op_reads =
    reads_key ℕ Op (λ n. n < 2) IsOp (λ n. one n ∷ []) op_fields (below_at 2) op_of
    op_number (λ o. drop 1 (op_fields o)) (below_reads 2 (lit< tt) (lit≤ tt)) op_reads_rest (λ o is. op_below o) (λ o is. op_shows o) op_filled

-- so many dereferences: a path of each length
derefs : ℕ → List Op
derefs zero = []
derefs (suc n) = Deref ∷ derefs n

derefs_are : (n : ℕ) → AllByRecursion IsOp (derefs n)
unfolding derefs
derefs_are zero = tt
derefs_are (suc n) = (tt, derefs_are n)

length-derefs : (n : ℕ) → length (derefs n) ≡ n
unfolding derefs
length-derefs zero = refl
length-derefs (suc n) = ap suc (length-derefs n)

pub path_reads : Reads (List Op) IsPath path_fields path_at
unfolding path_at
path_reads =
    reads_key ℕ (List Op) (λ n. n < 9) IsPath (λ n. one n ∷ []) path_fields (below_at 9) (λ n bytes. items_at op_at n bytes)
    (λ p. length p) (λ p. flat_map op_fields p) (below_reads 9 (lit< tt) (lit≤ tt))
    (λ n is. reads_as (List Op) (AreSoMany Op IsOp n) (λ p. IsPath p × (length p ≡ n)) (λ p. flat_map op_fields p) (items_at op_at n) (items_reads Op IsOp op_fields op_at op_reads Deref tt n)
    (λ p are. (record { few = omega (arith, are.count, is); each = are.each }, are.count))
    (λ p are. record { each = are.0.each; count = are.1 }))
    (λ p is. omega (arith, is.few)) (λ p is. refl)
    (λ n is. (derefs n, record { few = omega (arith, length-derefs n, is); each = derefs_are n }, length-derefs n))
