-- Why the members of a class share it, below the locks on it (docs/ANALYSIS.md, "Explanations").
use Rattle.std.specs.Prelude.{◌≡◌, ℕ, suc, List, [], ◌∷◌, ◌++◌, Bool, false, if◌then◌else◌, ◌==◌, nat_lt, codes, length, Option, None, Some, slice_get}
use Rattle.std.specs.Fmt.{decimal}
use Rattle.std.specs.List.{list_any}
use Rattle.asl_code.specs.declared.lock.Lock.{Lock}
use Rattle.asl_code.specs.declared.lock.Lock.TheVariants.{Root, Class, Expr}
use Rattle.asl_class_text.specs.declared.facts.Facts.{Facts}
use Rattle.asl_class_text.specs.Classes.{IsToldClass}
use Rattle.asl_class_text.specs.Texts.{reasons_block}
use Rattle.asl_class_text.specs.Reasoned.{Reasoned}
use Rattle.asl_explain.specs.declared.class_reasons.ClassTold.{ClassTold}
use Rattle.asl_explain.specs.declared.explained_value.Listed.{Listed}

-- the lock is on the class
abbrev pub is_on : ℕ → Lock → Bool
is_on class (Class own effect) = own == class
is_on class (Expr e effect) = false
is_on class (Root effect) = false

-- the list has a lock on the class
abbrev pub has_class : ℕ → List Listed → Bool
has_class class list = list_any (λ (d : Listed). is_on class d.lock) list

-- the first section whose list has a lock on the class, where the sections are numbered from this number on
abbrev pub first_section : ℕ → ℕ → List (List Listed) → Option ℕ
first_section class n [] = None
first_section class n (list ∷ rest) = if has_class class list then Some n else first_section class (suc n) rest

-- ---- what is told

-- the members of the class, and why they share it
pub record IsToldIn (r : Reasoned) (all : Bool) (class section : ℕ) (t : ClassTold) : Type 0 where
  pub section_is : t.section ≡ section
  pub told : IsToldClass r.known.facts.lowering r.known.facts.classes.items r.steps all class t.told

-- so where some list has a lock on the class; else nothing
abbrev pub IsToldIf : Reasoned → Bool → ℕ → Option ℕ → Option ClassTold → Type 0
IsToldIf r all class None o = o ≡ None
IsToldIf r all class (Some section) o = (t : ClassTold) × (o ≡ Some t) × IsToldIn r all class section t

-- so of the first classes, so many of them
pub record AreTold (r : Reasoned) (all : Bool) (sections : List (List Listed)) (count : ℕ) (ts : List (Option ClassTold)) : Type 0 where
  pub count_is : length ts ≡ count
  pub each : (class : ℕ) (o : Option ClassTold) → slice_get ts class ≡ Some o → IsToldIf r all class (first_section class 0 sections) o

-- ---- the words

-- in which section it is told why the class is one
abbrev pub again_line : ClassTold → List ℕ
again_line t =
    if nat_lt 1 (length t.told.members.items) then codes "    why one class: see section " ++ (decimal t.section ++ codes "\n") else []

-- why the members share the class: told in the first section whose list has a lock on it
abbrev pub block_of : Facts → Bool → ℕ → ClassTold → List ℕ
block_of f all section t = if t.section == section then reasons_block f all t.told else again_line t

-- the same of what is known of a class, which may be missing, or may be that nothing is told: then no words
abbrev pub told_at : Facts → Bool → ℕ → Option (Option ClassTold) → List ℕ
told_at f all section None = []
told_at f all section (Some None) = []
told_at f all section (Some (Some t)) = block_of f all section t

-- the same of the class of this number, by what is known of each class
abbrev pub class_block : Facts → Bool → List (Option ClassTold) → ℕ → ℕ → List ℕ
class_block f all ts section class = told_at f all section (slice_get ts class)

-- so below a lock; nothing where it is on no class
abbrev pub lock_block : Facts → Bool → List (Option ClassTold) → ℕ → Lock → List ℕ
lock_block f all ts section (Class class effect) = class_block f all ts section class
lock_block f all ts section (Expr e effect) = []
lock_block f all ts section (Root effect) = []
