-- Nothing that is told has a floating-point number, so its text is known.
use Rattle.std.proofs.Common.{◌≡◌, ℕ, zero, suc, List, [], ◌∷◌, ◌++◌, map, Bool, true, false, ◌||◌, if◌then◌else◌, ◌==◌, slice_get, Option, None, Some, refl}
use Rattle.std.specs.List.{flat_map}
use Rattle.serde_json.specs.Data.{Data}
use Rattle.serde_json.specs.View.{items_of}
use Rattle.serde_json.specs.Written.{has_float, items_have_float}
use Rattle.asl_code.specs.declared.lock.Base.TheVariants.{Reg, Global}
use Rattle.asl_code.specs.declared.lock.Lock.{Lock}
use Rattle.asl_code.specs.declared.lock.Lock.TheVariants as lock
use Rattle.asl_code.specs.declared.lock.Base.{Base}
use Rattle.asl_code.specs.declared.instr.Instr.{Instr}
use Rattle.asl_code.specs.declared.path.Op.{Op}
use Rattle.asl_code.specs.declared.path.Op.TheVariants.{Deref, Off}
use Rattle.asl_map.specs.declared.text_piece.Area.{Area}
use Rattle.asl_map.specs.declared.text_piece.Named.{Named}
use Rattle.asl_explain.specs.declared.explained_value.Step.{Step}
use Rattle.asl_explain.specs.declared.explained_value.Need.{Need}
use Rattle.asl_explain.specs.declared.explained_value.Listed.{Listed}
use Rattle.asl_lock_expr.specs.ClassOf.{class_of}
use Rattle.asl_warnings.specs.Lacking.{has_no_class, is_reached}
use Rattle.asl_lists.specs.declared.facts.Facts.{Facts}
use Rattle.asl_lists.specs.Numbered.{numbered}
use Rattle.asl_lists.specs.Document.{base_data, lock_base, class_or_null, lock_class, op_data, lock_path, first_data, statement_data, need_data, lock_data, global_data, area_list, site_data, class_data, classes_from, function_data, section_at, unreached_data, classless_data, warnings_data}

-- none of these has one
abbrev pub ArePlain : List Data → Type 0
ArePlain ds = items_have_float (items_of ds) ≡ false

none_behind : (a b c : Bool) → (a || b) ≡ false → (b ≡ false → c ≡ false) → (a || c) ≡ false
none_behind true b c h f = h
none_behind false b c h f = f h

joined : (xs ys : List Data) → ArePlain xs → ArePlain ys → ArePlain (xs ++ ys)
joined [] ys h k = k
joined (x ∷ xs) ys h k = none_behind (has_float x) (items_have_float (items_of xs)) (items_have_float (items_of (xs ++ ys))) h (λ e. joined xs ys e k)

one : (d : Data) → has_float d ≡ false → ArePlain (d ∷ [])
one d h = rw h refl

numbered_plain : {A : Type 0} (made : ℕ → A → List Data) → ((n : ℕ) (x : A) → ArePlain (made n x)) → (n : ℕ) (xs : List A) → ArePlain (numbered made n xs)
numbered_plain made each n [] = refl
numbered_plain made each n (x ∷ xs) = joined (made n x) (numbered made (suc n) xs) (each n x) (numbered_plain made each (suc n) xs)

flat_plain : {A : Type 0} (made : A → List Data) → ((x : A) → ArePlain (made x)) → (xs : List A) → ArePlain (flat_map made xs)
flat_plain made each [] = refl
flat_plain made each (x ∷ xs) = joined (made x) (flat_map made xs) (each x) (flat_plain made each xs)

map_plain : {A : Type 0} (made : A → Data) → ((x : A) → has_float (made x) ≡ false) → (xs : List A) → ArePlain (map made xs)
map_plain made each [] = refl
map_plain made each (x ∷ xs) = joined (made x ∷ []) (map made xs) (one (made x) (each x)) (map_plain made each xs)

chosen : (b : Bool) (xs : List Data) → ArePlain xs → ArePlain (if b then xs else [])
chosen true xs h = h
chosen false xs h = refl

otherwise : (b : Bool) (xs : List Data) → ArePlain xs → ArePlain (if b then [] else xs)
otherwise true xs h = refl
otherwise false xs h = h

-- ---- locks

base_plain : (f : Facts) (function : ℕ) (b : Base) → has_float (base_data f function b) ≡ false
base_plain f function (Reg register) = refl
base_plain f function (Global global) = refl

lock_base_plain : (f : Facts) (function : ℕ) (k : Lock) → has_float (lock_base f function k) ≡ false
lock_base_plain f function (lock.Expr e effect) = base_plain f function e.base
lock_base_plain f function (lock.Class class effect) = refl
lock_base_plain f function (lock.Root effect) = refl

class_plain : (o : Option ℕ) → has_float (class_or_null o) ≡ false
class_plain None = refl
class_plain (Some class) = refl

lock_class_plain : (f : Facts) (function : ℕ) (k : Lock) → has_float (lock_class f function k) ≡ false
lock_class_plain f function (lock.Expr e effect) = class_plain (class_of f.classes function e)
lock_class_plain f function (lock.Class class effect) = refl
lock_class_plain f function (lock.Root effect) = refl

op_plain : (op : Op) → has_float (op_data op) ≡ false
op_plain Deref = refl
op_plain (Off cells) = refl

path_plain : (k : Lock) → has_float (lock_path k) ≡ false
path_plain (lock.Expr e effect) = map_plain op_data op_plain e.path
path_plain (lock.Class class effect) = refl
path_plain (lock.Root effect) = refl

first_plain : (f : Facts) (o : Option Step) → ArePlain (first_data f o)
first_plain f None = refl
first_plain f (Some s) = refl

need_plain : (f : Facts) (function : ℕ) (d : Need) → has_float (need_data f function d) ≡ false
need_plain f function d = rw (flat_plain (statement_data f) (λ c. first_plain f (slice_get c.steps 0)) d.chains) refl

lock_plain : (f : Facts) (function : ℕ) (d : Listed) → has_float (lock_data f function d) ≡ false
lock_plain f function d =
    rw (lock_base_plain f function d.lock, lock_class_plain f function d.lock, map_plain (need_data f function) (need_plain f function) d.needs, path_plain d.lock) refl

-- ---- the others

area_plain : (f : Facts) (o : Option Area) → ArePlain (area_list f o)
area_plain f None = refl
area_plain f (Some a) = refl

class_entry_plain : (f : Facts) (class : ℕ) → has_float (class_data f class) ≡ false
class_entry_plain f class =
    rw (numbered_plain (global_data f class) (λ n of. chosen (of == class) _ refl) 0 f.map.global_classes.items, numbered_plain (site_data f class) (λ n of. chosen (of == class) _ (area_plain f (slice_get f.map.sites.items n))) 0 f.map.site_classes.items) refl

pub classes_plain : (f : Facts) (first many : ℕ) → ArePlain (classes_from f first many)
unfolding classes_from
classes_plain f first zero = refl
classes_plain f first (suc many) = joined (class_data f first ∷ []) (classes_from f (suc first) many) (one (class_data f first) (class_entry_plain f first)) (classes_plain f (suc first) many)

pub functions_plain : (f : Facts) (functions : List Named) → ArePlain (numbered (function_data f) 0 functions)
functions_plain f functions = numbered_plain (function_data f) (λ n x. refl) 0 functions

pub section_plain : (f : Facts) (a : Area) (list : List Listed) → has_float (section_at f a list) ≡ false
section_plain f a list = rw (map_plain (lock_data f a.function) (lock_plain f a.function) list) refl

unreached_plain : (f : Facts) (n : ℕ) (x : Named) → ArePlain (unreached_data f n x)
unreached_plain f n x = otherwise (is_reached f.map n) _ refl

classless_plain : (f : Facts) (pc : ℕ) (i : Instr) → ArePlain (classless_data f pc i)
classless_plain f pc i = chosen (has_no_class f.map f.lowering f.classes pc i) _ refl

pub warnings_plain : (f : Facts) → ArePlain (warnings_data f)
warnings_plain f =
    joined (numbered (unreached_data f) 0 f.map.functions.items) (numbered (classless_data f) 0 f.lowering.code)
    (numbered_plain (unreached_data f) (unreached_plain f) 0 f.map.functions.items) (numbered_plain (classless_data f) (classless_plain f) 0 f.lowering.code)
