-- The reader of a fault reads its fields: its number, and for a missing lock the cell and the effect.
use Rattle.std.proofs.Common.{◌≡◌, ℕ, zero, suc, ◌<◌, ◌^◌, Option, Some, None, List, [], ◌∷◌, ◌++◌, drop, Ok, refl, sym, ap, ◌∙◌, arith, lit<, lit≤, w16}
use Rattle.asl_code.specs.declared.value.Effect.{Effect}
use Rattle.asl_code.specs.declared.value.Effect.TheVariants.{Read}
use Rattle.asl_machine.specs.declared.fault.Fault.{Fault}
use Rattle.asl_machine.specs.declared.fault.Fault.TheVariants as fault
use Rattle.asl_loader.specs.Bytes.{Field, one, two, effect_field}
use Rattle.asl_loader.specs.SharedFields.{◌>>=◌, byte_at, number_at, below_at, effect_at}
use Rattle.asl_loader.proofs.Reader.{Reads, reads_nothing}
use Rattle.asl_loader.proofs.WrongInTwo.{reads_both, reads_key}
use Rattle.asl_loader.proofs.Fields.{byte_reads, two_reads, below_reads}
use Rattle.asl_loader.proofs.Paths.{effect_reads}
use Rattle.asl_journal.specs.Bytes.{fault_fields, IsFault}
use Rattle.asl_journal.specs.JournalFields.{unprotected_at, fault_of, fault_at}

-- the byte of a fault
fault_number : Fault → ℕ
fault_number fault.BadType = 0
fault_number fault.Null = 1
fault_number fault.Bounds = 2
fault_number (fault.Unprotected cell effect) = 3
fault_number fault.Full = 4
fault_number fault.Stack = 5
fault_number fault.Open = 6
fault_number fault.Deep = 7
fault_number fault.NoSection = 8

-- the fields after it
after_fault : Fault → List Field
after_fault f = drop 1 (fault_fields f)

-- there are nine faults
fault_below : (f : Fault) → fault_number f < 9
unfolding fault_number
fault_below fault.BadType = lit< tt
fault_below fault.Null = lit< tt
fault_below fault.Bounds = lit< tt
fault_below (fault.Unprotected cell effect) = lit< tt
fault_below fault.Full = lit< tt
fault_below fault.Stack = lit< tt
fault_below fault.Open = lit< tt
fault_below fault.Deep = lit< tt
fault_below fault.NoSection = lit< tt

fault_shows : (f : Fault) → fault_fields f ≡ (one (fault_number f) ∷ []) ++ after_fault f
unfolding fault_number after_fault
fault_shows fault.BadType = refl
fault_shows fault.Null = refl
fault_shows fault.Bounds = refl
fault_shows (fault.Unprotected cell effect) = refl
fault_shows fault.Full = refl
fault_shows fault.Stack = refl
fault_shows fault.Open = refl
fault_shows fault.Deep = refl
fault_shows fault.NoSection = refl

-- the fault of a number that names nothing more
plain_fault : ℕ → Option Fault
plain_fault zero = Some fault.BadType
plain_fault (suc zero) = Some fault.Null
plain_fault (suc (suc zero)) = Some fault.Bounds
plain_fault (suc (suc (suc zero))) = None
plain_fault (suc (suc (suc (suc zero)))) = Some fault.Full
plain_fault (suc (suc (suc (suc (suc zero))))) = Some fault.Stack
plain_fault (suc (suc (suc (suc (suc (suc zero)))))) = Some fault.Open
plain_fault (suc (suc (suc (suc (suc (suc (suc zero))))))) = Some fault.Deep
plain_fault (suc (suc (suc (suc (suc (suc (suc (suc n)))))))) = Some fault.NoSection

abbrev nothing : Option Fault
nothing = None

-- a fault with such a number is that one
fault_is : (f g : Fault) (n : ℕ) → fault_number f ≡ n → plain_fault n ≡ Some g → f ≡ g
unfolding fault_number plain_fault
fault_is fault.BadType g n h e = let same : Some fault.BadType ≡ Some g = ap plain_fault h ∙ e in cc
fault_is fault.Null g n h e = let same : Some fault.Null ≡ Some g = ap plain_fault h ∙ e in cc
fault_is fault.Bounds g n h e = let same : Some fault.Bounds ≡ Some g = ap plain_fault h ∙ e in cc
fault_is (fault.Unprotected cell effect) g n h e = let none : nothing ≡ Some g = ap plain_fault h ∙ e in absurd cc
fault_is fault.Full g n h e = let same : Some fault.Full ≡ Some g = ap plain_fault h ∙ e in cc
fault_is fault.Stack g n h e = let same : Some fault.Stack ≡ Some g = ap plain_fault h ∙ e in cc
fault_is fault.Open g n h e = let same : Some fault.Open ≡ Some g = ap plain_fault h ∙ e in cc
fault_is fault.Deep g n h e = let same : Some fault.Deep ≡ Some g = ap plain_fault h ∙ e in cc
fault_is fault.NoSection g n h e = let same : Some fault.NoSection ≡ Some g = ap plain_fault h ∙ e in cc

-- nothing more is read of it
plain_reads : (g : Fault) (n : ℕ) → plain_fault n ≡ Some g → IsFault g → fault_number g ≡ n → after_fault g ≡ [] → Reads Fault (λ f. IsFault f × (fault_number f ≡ n)) after_fault (λ bytes. Ok (g, bytes))
plain_reads g n e is number nothing = reads_nothing Fault (λ f. IsFault f × (fault_number f ≡ n)) after_fault g (is, number) (λ f is_f. fault_is f g n is_f.1 e) nothing

-- an unprotected access to this cell
access : ℕ → ℕ → Effect → Fault
access object offset effect = fault.Unprotected (record { object = object; offset = offset }) effect

-- the faults for a missing lock, and those of an object and of a cell
abbrev IsAccess : Fault → Type 0
IsAccess f = IsFault f × (fault_number f ≡ 3)

-- such a fault, by what it names
access_is : (f : Fault) → IsAccess f → (object : ℕ) × (object < 2 ^ 16) × ((offset : ℕ) × (offset < 256) × ((effect : Effect) × (f ≡ access object offset effect)))
unfolding fault_number access
access_is fault.BadType is = absurd (omega arith)
access_is fault.Null is = absurd (omega arith)
access_is fault.Bounds is = absurd (omega arith)
access_is (fault.Unprotected cell effect) is = (cell.object, is.0.0, (cell.offset, is.0.1, (effect, refl)))
access_is fault.Full is = absurd (omega arith)
access_is fault.Stack is = absurd (omega arith)
access_is fault.Open is = absurd (omega arith)
access_is fault.Deep is = absurd (omega arith)
access_is fault.NoSection is = absurd (omega arith)

abbrev IsAt : ℕ → Fault → Type 0
IsAt object f = (offset : ℕ) × (offset < 256) × ((effect : Effect) × (f ≡ access object offset effect))

abbrev IsOf : ℕ → ℕ → Fault → Type 0
IsOf object offset f = (effect : Effect) × (f ≡ access object offset effect)

-- what is read after the cell, after the object, and after the number
effect_part : (object offset : ℕ) → object < 2 ^ 16 → offset < 256 → Reads Fault (λ f. (IsAccess f × IsAt object f) × IsOf object offset f) (λ f. drop 3 (fault_fields f)) (λ bytes. effect_at bytes >>= λ effect. Ok (access object offset effect.0, effect.1))
unfolding fault_number access
effect_part object offset is_o is_f =
    reads_both Effect Fault (λ e. Unit {0}) (λ f. (IsAccess f × IsAt object f) × IsOf object offset f) (λ e. effect_field e ∷ []) (λ f. drop 3 (fault_fields f)) effect_at (λ effect bytes. Ok (access object offset effect, bytes))
    (λ f effect. f ≡ access object offset effect) (λ f. []) effect_reads
    (λ effect is_e. reads_nothing Fault (λ f. ((IsAccess f × IsAt object f) × IsOf object offset f) × (f ≡ access object offset effect)) (λ f. []) (access object offset effect) (((((is_o, is_f), refl), (offset, is_f, (effect, refl))), (effect, refl)), refl) (λ f is. is.1) refl)
    (λ f is. (is.1.0, tt, is.1.1))
    (λ effect f is_e is has. ap (λ (x : Fault). drop 3 (fault_fields x)) has)
    (λ effect is_e. (access object offset effect, ((((is_o, is_f), refl), (offset, is_f, (effect, refl))), (effect, refl)), refl))

offset_part : (object : ℕ) → object < 2 ^ 16 → Reads Fault (λ f. IsAccess f × IsAt object f) (λ f. drop 2 (fault_fields f)) (λ bytes. byte_at bytes >>= λ offset. effect_at offset.1 >>= λ effect. Ok (access object offset.0 effect.0, effect.1))
unfolding fault_number access
offset_part object is_o =
    reads_both ℕ Fault (λ n. n < 256) (λ f. IsAccess f × IsAt object f) (λ n. one n ∷ []) (λ f. drop 2 (fault_fields f)) byte_at (λ offset bytes. effect_at bytes >>= λ effect. Ok (access object offset effect.0, effect.1))
    (λ f offset. IsOf object offset f) (λ f. drop 3 (fault_fields f)) byte_reads
    (λ offset is_f. effect_part object offset is_o is_f)
    (λ f is. is.1)
    (λ offset f is_f is has. ap (λ (x : Fault). drop 2 (fault_fields x)) has.1 ∙ ap (λ (x : Fault). one offset ∷ drop 3 (fault_fields x)) (sym has.1))
    (λ offset is_f. (access object offset Read, (((is_o, is_f), refl), (offset, is_f, (Read, refl))), (Read, refl)))

unprotected_reads : Reads Fault IsAccess after_fault unprotected_at
unfolding unprotected_at after_fault fault_number access
unprotected_reads =
    reads_both ℕ Fault (λ n. n < 2 ^ 16) IsAccess (λ n. two n ∷ []) after_fault (number_at w16) (λ object bytes. byte_at bytes >>= λ offset. effect_at offset.1 >>= λ effect. Ok (access object offset.0 effect.0, effect.1))
    (λ f object. IsAt object f) (λ f. drop 2 (fault_fields f)) two_reads
    offset_part
    access_is
    (λ object f is_o is has. ap after_fault has.2.1 ∙ ap (λ (x : Fault). two object ∷ drop 2 (fault_fields x)) (sym has.2.1))
    (λ object is_o. (access object 0 Read, ((is_o, lit< tt), refl), (0, lit< tt, (Read, refl))))

-- there is a fault of each number
fault_filled : (n : ℕ) → n < 9 → (f : Fault) × IsFault f × (fault_number f ≡ n)
unfolding fault_number
fault_filled zero is = (fault.BadType, tt, refl)
fault_filled (suc zero) is = (fault.Null, tt, refl)
fault_filled (suc (suc zero)) is = (fault.Bounds, tt, refl)
fault_filled (suc (suc (suc zero))) is = (fault.Unprotected (record { object = 0; offset = 0 }) Read, (lit< tt, lit< tt), refl)
fault_filled (suc (suc (suc (suc zero)))) is = (fault.Full, tt, refl)
fault_filled (suc (suc (suc (suc (suc zero))))) is = (fault.Stack, tt, refl)
fault_filled (suc (suc (suc (suc (suc (suc zero)))))) is = (fault.Open, tt, refl)
fault_filled (suc (suc (suc (suc (suc (suc (suc zero))))))) is = (fault.Deep, tt, refl)
fault_filled (suc (suc (suc (suc (suc (suc (suc (suc zero)))))))) is = (fault.NoSection, tt, refl)
fault_filled (suc (suc (suc (suc (suc (suc (suc (suc (suc n))))))))) is = absurd (omega arith)

-- the rest of a fault of each number
fault_reads_rest : (n : ℕ) → n < 9 → Reads Fault (λ f. IsFault f × (fault_number f ≡ n)) after_fault (fault_of n)
unfolding fault_of fault_number plain_fault after_fault
fault_reads_rest zero is = plain_reads fault.BadType 0 refl tt refl refl
fault_reads_rest (suc zero) is = plain_reads fault.Null 1 refl tt refl refl
fault_reads_rest (suc (suc zero)) is = plain_reads fault.Bounds 2 refl tt refl refl
fault_reads_rest (suc (suc (suc zero))) is = unprotected_reads
fault_reads_rest (suc (suc (suc (suc zero)))) is = plain_reads fault.Full 4 refl tt refl refl
fault_reads_rest (suc (suc (suc (suc (suc zero))))) is = plain_reads fault.Stack 5 refl tt refl refl
fault_reads_rest (suc (suc (suc (suc (suc (suc zero)))))) is = plain_reads fault.Open 6 refl tt refl refl
fault_reads_rest (suc (suc (suc (suc (suc (suc (suc zero))))))) is = plain_reads fault.Deep 7 refl tt refl refl
fault_reads_rest (suc (suc (suc (suc (suc (suc (suc (suc zero)))))))) is = plain_reads fault.NoSection 8 refl tt refl refl
fault_reads_rest (suc (suc (suc (suc (suc (suc (suc (suc (suc n))))))))) is = absurd (omega arith)

pub fault_reads : Reads Fault IsFault fault_fields fault_at
unfolding fault_at
fault_reads =
    reads_key ℕ Fault (λ n. n < 9) IsFault (λ n. one n ∷ []) fault_fields (below_at 9) fault_of
    fault_number after_fault (below_reads 9 (lit< tt) (lit≤ tt)) fault_reads_rest (λ f is. fault_below f) (λ f is. fault_shows f) fault_filled
