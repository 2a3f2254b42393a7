-- The readers of locks and of lists read their fields: first the kind, then the effect, then what a lock of that kind names.
use Rattle.std.proofs.Common.{◌≡◌, ℕ, zero, suc, ◌<◌, ◌^◌, List, [], ◌∷◌, ◌++◌, drop, Ok, refl, sym, ap, ◌∙◌, arith, lit<, lit≤}
use Rattle.std.specs.Int.{w16}
use Rattle.std.proofs.lemmas.List.{append-nil}
use Rattle.asl_code.specs.declared.lock.Base.{Base}
use Rattle.asl_code.specs.declared.lock.Base.TheVariants.{Reg, Global}
use Rattle.asl_code.specs.declared.lock.Lock.{Lock}
use Rattle.asl_code.specs.declared.lock.Lock.TheVariants as lock
use Rattle.asl_code.specs.declared.path.Op.{Op}
use Rattle.asl_code.specs.declared.value.Effect.{Effect}
use Rattle.asl_code.specs.declared.value.Effect.TheVariants.{Read}
use Rattle.asl_loader.specs.Bytes.{Field, one, two, effect_field, path_fields, expr_fields, lock_fields, list_fields, IsBase, IsPath, IsLock, IsList}
use Rattle.asl_loader.specs.SharedFields.{◌>>=◌, byte_at, number_at, below_at, effect_at}
use Rattle.asl_loader.specs.ImageFields.{path_at, expr_at, lock_of, lock_at, list_at}
use Rattle.asl_loader.proofs.Fields.{byte_reads, two_reads, below_reads}
use Rattle.asl_loader.proofs.Items.{counted_reads}
use Rattle.asl_loader.proofs.Reader.{Reads, reads_nothing}
use Rattle.asl_loader.proofs.WrongInTwo.{reads_both, reads_key}
use Rattle.asl_loader.proofs.Paths.{effect_reads, path_reads}

-- the byte of a lock's kind; that of an expression tells its base
kind_of_base : Base → ℕ
kind_of_base (Reg r) = 2
kind_of_base (Global g) = 3

kind_of : Lock → ℕ
kind_of (lock.Root effect) = 0
kind_of (lock.Class class effect) = 1
kind_of (lock.Expr expr effect) = kind_of_base expr.base

-- the effect of a lock
effect_in : Lock → Effect
effect_in (lock.Root effect) = effect
effect_in (lock.Class class effect) = effect
effect_in (lock.Expr expr effect) = effect

-- the lock of an expression
expr_lock : Base → List Op → Effect → Lock
expr_lock base path effect = lock.Expr (record { base = base; path = path }) effect

-- the fields after the kind, and after the effect
after_kind : Lock → List Field
after_kind l = drop 1 (lock_fields l)

after_effect : Lock → List Field
after_effect l = drop 2 (lock_fields l)

-- what holds of both bases holds of each
base_cases : (P : Base → Type 0) → ((r : ℕ) → P (Reg r)) → ((g : ℕ) → P (Global g)) → (b : Base) → P b
base_cases P p q (Reg r) = p r
base_cases P p q (Global g) = q g

-- there are four kinds
kind_below : (l : Lock) → kind_of l < 4
unfolding kind_of kind_of_base
kind_below (lock.Root effect) = lit< tt
kind_below (lock.Class class effect) = lit< tt
kind_below (lock.Expr expr effect) = base_cases (λ b. kind_of_base b < 4) (λ r. lit< tt) (λ g. lit< tt) expr.base

-- a lock's fields begin with its kind
kind_shows : (l : Lock) → lock_fields l ≡ (one (kind_of l) ∷ []) ++ after_kind l
unfolding kind_of kind_of_base after_kind
kind_shows (lock.Root effect) = refl
kind_shows (lock.Class class effect) = refl
kind_shows (lock.Expr expr effect) = base_cases (λ b. expr_fields b effect expr.path ≡ (one (kind_of_base b) ∷ []) ++ drop 1 (expr_fields b effect expr.path)) (λ r. refl) (λ g. refl) expr.base

-- then its effect
effect_shown : (l : Lock) → after_kind l ≡ (effect_field (effect_in l) ∷ []) ++ after_effect l
unfolding after_kind after_effect effect_in
effect_shown (lock.Root effect) = refl
effect_shown (lock.Class class effect) = refl
effect_shown (lock.Expr expr effect) = base_cases (λ b. drop 1 (expr_fields b effect expr.path) ≡ (effect_field effect ∷ []) ++ drop 2 (expr_fields b effect expr.path)) (λ r. refl) (λ g. refl) expr.base

-- a lock of this kind and this effect
lock_filled : (kind : ℕ) → kind < 4 → (effect : Effect) → (l : Lock) × (IsLock l × (kind_of l ≡ kind)) × (effect_in l ≡ effect)
unfolding kind_of kind_of_base effect_in
lock_filled zero is effect = (lock.Root effect, (tt, refl), refl)
lock_filled (suc zero) is effect = (lock.Class 0 effect, (lit< tt, refl), refl)
lock_filled (suc (suc zero)) is effect = (lock.Expr (record { base = Reg 0; path = [] }) effect, ((lit< tt, record { few = lit≤ tt; each = tt }), refl), refl)
lock_filled (suc (suc (suc zero))) is effect = (lock.Expr (record { base = Global 0; path = [] }) effect, ((lit< tt, record { few = lit≤ tt; each = tt }), refl), refl)
lock_filled (suc (suc (suc (suc kind)))) is effect = absurd (omega arith)

lock_of_kind : (kind : ℕ) → kind < 4 → (l : Lock) × IsLock l × (kind_of l ≡ kind)
lock_of_kind kind is = let w = lock_filled kind is Read in (w.0, w.1.0, w.1.1)

-- the locks of a kind and an effect
abbrev IsOfKind : ℕ → Effect → Lock → Type 0
IsOfKind kind effect l = (IsLock l × (kind_of l ≡ kind)) × (effect_in l ≡ effect)

-- the lock of each kind and effect, with what it names
root_is : (l : Lock) (effect : Effect) → kind_of l ≡ 0 → effect_in l ≡ effect → l ≡ lock.Root effect
unfolding kind_of kind_of_base effect_in
root_is (lock.Root e) effect k h = ap (λ (x : Effect). lock.Root x) h
root_is (lock.Class class e) effect k h = absurd (omega arith)
root_is (lock.Expr expr e) effect k h = base_cases (λ b. kind_of_base b ≡ 0 → lock.Expr expr e ≡ lock.Root effect) (λ r z. absurd (omega arith)) (λ g z. absurd (omega arith)) expr.base k

class_is : (l : Lock) (effect : Effect) → IsLock l → kind_of l ≡ 1 → effect_in l ≡ effect → (class : ℕ) × (class < 2 ^ 16) × (l ≡ lock.Class class effect)
unfolding kind_of kind_of_base effect_in
class_is (lock.Root e) effect is k h = absurd (omega arith)
class_is (lock.Class class e) effect is k h = (class, is, ap (λ (x : Effect). lock.Class class x) h)
class_is (lock.Expr expr e) effect is k h = base_cases (λ b. kind_of_base b ≡ 1 → (class : ℕ) × (class < 2 ^ 16) × (lock.Expr expr e ≡ lock.Class class effect)) (λ r z. absurd (omega arith)) (λ g z. absurd (omega arith)) expr.base k

-- an expression of this base
expr_reads : (base : Base) (effect : Effect) (Is : Lock → Type 0) (after : Lock → List Field)
    → ((path : List Op) → IsPath path → Is (expr_lock base path effect)) → ((l : Lock) → Is l → (path : List Op) × IsPath path × (l ≡ expr_lock base path effect))
    → ((path : List Op) → after (expr_lock base path effect) ≡ path_fields path)
    → Reads Lock Is after (expr_at base effect)
unfolding expr_at expr_lock
expr_reads base effect Is after makes part shows =
    reads_both (List Op) Lock IsPath Is path_fields after path_at (λ path bytes. Ok (lock.Expr (record { base = base; path = path }) effect, bytes))
    (λ l path. l ≡ expr_lock base path effect) (λ l. []) path_reads
    (λ path is. reads_nothing Lock (λ l. Is l × (l ≡ expr_lock base path effect)) (λ l. []) (expr_lock base path effect) (makes path is, refl) (λ l is_l. is_l.1) refl)
    part
    (λ path l is is_l has. ap after has ∙ shows path ∙ sym (append-nil (path_fields path)))
    (λ path is. (expr_lock base path effect, makes path is, refl))

-- the locks of expressions on a register, and on a global
abbrev IsOnRegister : ℕ → Effect → Lock → Type 0
IsOnRegister r effect l = (path : List Op) × IsPath path × (l ≡ expr_lock (Reg r) path effect)

abbrev IsOnGlobal : ℕ → Effect → Lock → Type 0
IsOnGlobal g effect l = (path : List Op) × IsPath path × (l ≡ expr_lock (Global g) path effect)

-- the locks of expressions are of these two
on_register : (l : Lock) (effect : Effect) → IsLock l → kind_of l ≡ 2 → effect_in l ≡ effect → (r : ℕ) × (r < 256) × IsOnRegister r effect l
unfolding kind_of kind_of_base effect_in expr_lock
on_register (lock.Root e) effect is k h = absurd (omega arith)
on_register (lock.Class class e) effect is k h = absurd (omega arith)
on_register (lock.Expr expr e) effect is k h =
    base_cases (λ b. IsBase b → kind_of_base b ≡ 2 → expr.base ≡ b → (r : ℕ) × (r < 256) × IsOnRegister r effect (lock.Expr expr e))
    (λ r fits z same. (r, fits, (expr.path, is.1, rw (← h, ← same) refl)))
    (λ g fits z same. absurd (omega arith)) expr.base is.0 k refl

on_global : (l : Lock) (effect : Effect) → IsLock l → kind_of l ≡ 3 → effect_in l ≡ effect → (g : ℕ) × (g < 2 ^ 16) × IsOnGlobal g effect l
unfolding kind_of kind_of_base effect_in expr_lock
on_global (lock.Root e) effect is k h = absurd (omega arith)
on_global (lock.Class class e) effect is k h = absurd (omega arith)
on_global (lock.Expr expr e) effect is k h =
    base_cases (λ b. IsBase b → kind_of_base b ≡ 3 → expr.base ≡ b → (g : ℕ) × (g < 2 ^ 16) × IsOnGlobal g effect (lock.Expr expr e))
    (λ r fits z same. absurd (omega arith))
    (λ g fits z same. (g, fits, (expr.path, is.1, rw (← h, ← same) refl))) expr.base is.0 k refl

-- what is read after the kind and the effect
lock_reads_rest : (kind : ℕ) → kind < 4 → (effect : Effect) → Reads Lock (IsOfKind kind effect) after_effect (lock_of kind effect)
unfolding lock_of kind_of kind_of_base effect_in after_effect expr_lock
lock_reads_rest zero is effect =
    reads_nothing Lock (IsOfKind 0 effect) after_effect (lock.Root effect) ((tt, refl), refl) (λ l is_l. root_is l effect is_l.0.1 is_l.1) refl
lock_reads_rest (suc zero) is effect =
    reads_both ℕ Lock (λ n. n < 2 ^ 16) (IsOfKind 1 effect) (λ n. two n ∷ []) after_effect (number_at w16) (λ class bytes. Ok (lock.Class class effect, bytes))
    (λ l class. l ≡ lock.Class class effect) (λ l. []) two_reads
    (λ class is_c. reads_nothing Lock (λ l. IsOfKind 1 effect l × (l ≡ lock.Class class effect)) (λ l. []) (lock.Class class effect) (((is_c, refl), refl), refl) (λ l is_l. is_l.1) refl)
    (λ l is_l. class_is l effect is_l.0.0 is_l.0.1 is_l.1)
    (λ class l is_c is_l has. ap after_effect has)
    (λ class is_c. (lock.Class class effect, ((is_c, refl), refl), refl))
lock_reads_rest (suc (suc zero)) is effect =
    reads_both ℕ Lock (λ n. n < 256) (IsOfKind 2 effect) (λ n. one n ∷ []) after_effect byte_at (λ r bytes. expr_at (Reg r) effect bytes)
    (λ l r. IsOnRegister r effect l) (λ l. drop 3 (lock_fields l)) byte_reads
    (λ r is_r. expr_reads (Reg r) effect (λ l. IsOfKind 2 effect l × IsOnRegister r effect l) (λ l. drop 3 (lock_fields l))
    (λ path is_p. (((((is_r, is_p), refl), refl), (path, is_p, refl))))
    (λ l is_l. is_l.1) (λ path. refl))
    (λ l is_l. on_register l effect is_l.0.0 is_l.0.1 is_l.1)
    (λ r l is_r is_l has. ap after_effect has.2 ∙ ap (λ (x : Lock). one r ∷ drop 3 (lock_fields x)) (sym has.2))
    (λ r is_r. (expr_lock (Reg r) [] effect, (((is_r, record { few = lit≤ tt; each = tt }), refl), refl), ([], record { few = lit≤ tt; each = tt }, refl)))
lock_reads_rest (suc (suc (suc zero))) is effect =
    reads_both ℕ Lock (λ n. n < 2 ^ 16) (IsOfKind 3 effect) (λ n. two n ∷ []) after_effect (number_at w16) (λ g bytes. expr_at (Global g) effect bytes)
    (λ l g. IsOnGlobal g effect l) (λ l. drop 3 (lock_fields l)) two_reads
    (λ g is_g. expr_reads (Global g) effect (λ l. IsOfKind 3 effect l × IsOnGlobal g effect l) (λ l. drop 3 (lock_fields l))
    (λ path is_p. (((((is_g, is_p), refl), refl), (path, is_p, refl))))
    (λ l is_l. is_l.1) (λ path. refl))
    (λ l is_l. on_global l effect is_l.0.0 is_l.0.1 is_l.1)
    (λ g l is_g is_l has. ap after_effect has.2 ∙ ap (λ (x : Lock). two g ∷ drop 3 (lock_fields x)) (sym has.2))
    (λ g is_g. (expr_lock (Global g) [] effect, (((is_g, record { few = lit≤ tt; each = tt }), refl), refl), ([], record { few = lit≤ tt; each = tt }, refl)))
lock_reads_rest (suc (suc (suc (suc kind)))) is effect = absurd (omega arith)

pub lock_reads : Reads Lock IsLock lock_fields lock_at
unfolding lock_at
lock_reads =
    reads_key ℕ Lock (λ n. n < 4) IsLock (λ n. one n ∷ []) lock_fields (below_at 4) (λ kind bytes. effect_at bytes >>= λ effect. lock_of kind effect.0 effect.1)
    kind_of after_kind (below_reads 4 (lit< tt) (lit≤ tt))
    (λ kind is. reads_key Effect Lock (λ e. Unit {0}) (λ l. IsLock l × (kind_of l ≡ kind)) (λ e. effect_field e ∷ []) after_kind effect_at (lock_of kind)
    effect_in after_effect effect_reads (λ effect is_e. lock_reads_rest kind is effect) (λ l is_l. tt) (λ l is_l. effect_shown l) (λ effect is_e. lock_filled kind is effect))
    (λ l is. kind_below l) (λ l is. kind_shows l)
    (λ kind is. lock_of_kind kind is)

pub list_reads : Reads (List Lock) IsList list_fields list_at
unfolding list_at
list_reads = counted_reads Lock IsLock lock_fields lock_at lock_reads (lock.Root Read) tt
