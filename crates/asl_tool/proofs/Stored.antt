-- What a text spells can be stored: each number of it fits its field of the image's bytes.
use Rattle.std.proofs.Common.{◌≡◌, ℕ, suc, ◌≤◌, List, [], ◌∷◌, length, Some, slice_get, refl, arith}
use Rattle.std.specs.List.{AllByRecursion}
use Rattle.std.proofs.lemmas.List.Sums.{sum_by-cons}
use Rattle.asl_code.specs.declared.image.Image.{Image}
use Rattle.asl_code.specs.declared.image.Function.{Function}
use Rattle.asl_code.specs.declared.lock.Base.{Base}
use Rattle.asl_code.specs.declared.lock.Base.TheVariants as base
use Rattle.asl_code.specs.declared.lock.Lock.{Lock}
use Rattle.asl_code.specs.declared.lock.Lock.TheVariants as lock
use Rattle.asl_code.specs.declared.path.Op.{Op}
use Rattle.asl_code.specs.declared.path.Op.TheVariants as op
use Rattle.asl_code.specs.Bodies.{total_len}
use Rattle.asl_code.specs.Verified.{IsVerified}
use Rattle.asl_code.proofs.FitsLaws.{image_fits}
use Rattle.asl_code.proofs.Versions.{few_locks}
use Rattle.asl_assembler.specs.Text.{Spells}
use Rattle.asl_assembler.proofs.Spelled.{FitsBase, FitsOp, FitsLock, FitsRegisters, spelled_fields}
use Rattle.asl_loader.specs.Bytes.{IsOp, IsBase, IsLock, IsList, IsFunction, IsImage, SpellsImage, image_fields, text_of}

base_fits : (b : Base) → FitsBase b → IsBase b
base_fits (base.Reg r) h = h
base_fits (base.Global g) h = h

ops_fit : (path : List Op) → AllByRecursion FitsOp path → AllByRecursion IsOp path
ops_fit [] h = tt
ops_fit (op.Deref ∷ path) h = (tt, ops_fit path h.1)
ops_fit (op.Off offset ∷ path) h = (h.0, ops_fit path h.1)

lock_fits : (l : Lock) → FitsLock l → IsLock l
lock_fits (lock.Root e) h = tt
lock_fits (lock.Class class e) h = h
lock_fits (lock.Expr expr e) h = (base_fits expr.base h.0, record { few = h.1; each = ops_fit expr.path h.2 })

locks_fit : (locks : List Lock) → AllByRecursion FitsLock locks → AllByRecursion IsLock locks
locks_fit [] h = tt
locks_fit (l ∷ locks) h = (lock_fits l h.0, locks_fit locks h.1)

lists_fit : (ls : List (List Lock)) → AllByRecursion (AllByRecursion FitsLock) ls → ((n : ℕ) (locks : List Lock) → slice_get ls n ≡ Some locks → length locks ≤ 256) → AllByRecursion IsList ls
lists_fit [] h few = tt
lists_fit (locks ∷ ls) h few =
    let short : length locks ≤ 256 = few 0 locks refl in
    (record { counted = omega (arith, short); each = locks_fit locks h.0 }, lists_fit ls h.1 (λ n other is. few (suc n) other is))

functions_fit : (fs : List Function) → AllByRecursion FitsRegisters fs → total_len fs ≤ 65535 → AllByRecursion IsFunction fs
functions_fit [] h few = tt
functions_fit (f ∷ fs) h few =
    let total = sum_by-cons (λ (g : Function). g.len) f fs in
    (record { params_fits = h.0.0; regs_fits = h.0.1; len_fits = omega (arith, total) }, functions_fit fs h.1 (omega (arith, total)))

is_image : (text : List ℕ) (i : Image) → Spells text i → IsVerified i → IsImage i
is_image text i s v =
    let facts = image_fits i v in
    let fields = spelled_fields text i s in
    record {
      version_is = fields.version;
      classes_fits = fields.classes;
      globals_fit = record { counted = omega (arith, facts.few_globals); each = fields.globals };
      functions_fit = record { counted = omega (arith, facts.few_functions); each = functions_fit i.functions fields.functions (omega (arith, facts.total, facts.few_instrs)) };
      start_fits = fields.start;
      code_fits = record { counted = omega (arith, facts.few_instrs); each = fields.code };
      lists_fit = record { counted = omega (arith, facts.few_lists); each = lists_fit i.lists fields.lists (λ n locks at. omega (arith, facts.few_locks n locks at, few_locks i.version)) };
    }

-- the bytes of a program that a text spells
pub stored : (text : List ℕ) (image : Image) → Spells text image → IsVerified image → (bytes : List ℕ) × SpellsImage image bytes
stored text image s v = (text_of (image_fields image), record { fits = is_image text image s v; spelled = refl })
