-- The list of a section of a source's program has the section's number.
use Rattle.std.proofs.Common.{◌≡◌, ℕ, zero, suc, ◌+◌, List, [], ◌∷◌, length, take, map, refl, sym, ap, ◌∙◌, arith}
use Rattle.std.specs.Prelude.{Option, Some, None, slice_get, option_map, count_by, Bool, if◌then◌else◌}
use Rattle.std.proofs.lemmas.Option.{slice_get-map}
use Rattle.std.proofs.lemmas.List.{take-map}
use Rattle.std.proofs.lemmas.List.Sums.{sum_by-cons}
use Rattle.asl_code.specs.declared.instr.Instr.{Instr}
use Rattle.asl_code.specs.declared.instr.Instr.TheVariants.{SetInt, SetNull, Move, Add, Subtract, LessThan, Equals, GlobalAddress, FieldAddress, Load, Store, New, Jump, JumpIfZero, Call, Return, Output, Acquire, Release}
use Rattle.asl_code.specs.declared.image.Image.{Image}
use Rattle.asl_lower.specs.Lowered.{Lowered}
use Rattle.asl_lower.specs.Facts.{IsNumbered}
use Rattle.asl_lower.specs.OpenSections.{is_acquire, sections_before}
use Rattle.asl_points_to.specs.Classes.{Classed}
use Rattle.asl_soundness.specs.Coded.{classed}
use Rattle.asl_c_programs.specs.Tables.{IsSection}
use Rattle.asl_c_programs.specs.declared.entries.SectionEntry.{SectionEntry}

-- classes in place of sites make no `acq`, and lose none
same_kind : (c : Classed) (i : Instr) → is_acquire (classed c i) ≡ is_acquire i
same_kind c (SetInt to value) = refl
same_kind c (SetNull to) = refl
same_kind c (Move to from) = refl
same_kind c (Add to left right) = refl
same_kind c (Subtract to left right) = refl
same_kind c (LessThan to left right) = refl
same_kind c (Equals to left right) = refl
same_kind c (GlobalAddress to global) = refl
same_kind c (FieldAddress to from offset) = refl
same_kind c (Load to address) = refl
same_kind c (Store address from) = refl
same_kind c (New to cells class) = refl
same_kind c (Jump target) = refl
same_kind c (JumpIfZero test target) = refl
same_kind c (Call to first function) = refl
same_kind c (Return from) = refl
same_kind c (Output from) = refl
same_kind c (Acquire list) = refl
same_kind c Release = refl

same_acquire : (c : Classed) (i : Instr) (list : ℕ) → classed c i ≡ Acquire list → i ≡ Acquire list
same_acquire c (SetInt to value) list e = absurd cc
same_acquire c (SetNull to) list e = absurd cc
same_acquire c (Move to from) list e = absurd cc
same_acquire c (Add to left right) list e = absurd cc
same_acquire c (Subtract to left right) list e = absurd cc
same_acquire c (LessThan to left right) list e = absurd cc
same_acquire c (Equals to left right) list e = absurd cc
same_acquire c (GlobalAddress to global) list e = absurd cc
same_acquire c (FieldAddress to from offset) list e = absurd cc
same_acquire c (Load to address) list e = absurd cc
same_acquire c (Store address from) list e = absurd cc
same_acquire c (New to cells class) list e = absurd cc
same_acquire c (Jump target) list e = absurd cc
same_acquire c (JumpIfZero test target) list e = absurd cc
same_acquire c (Call to first function) list e = absurd cc
same_acquire c (Return from) list e = absurd cc
same_acquire c (Output from) list e = absurd cc
same_acquire c (Acquire own) list e = e
same_acquire c Release list e = absurd cc

same_count : (c : Classed) (code : List Instr) → count_by is_acquire (map (classed c) code) ≡ count_by is_acquire code
same_count c [] = refl
same_count c (i ∷ code) =
    let f : Instr → ℕ = λ (x : Instr). if is_acquire x then 1 else 0 in
    sum_by-cons f (classed c i) (map (classed c) code) ∙ ap (λ (b : Bool). (if b then 1 else 0) + count_by is_acquire (map (classed c) code)) (same_kind c i)
    ∙ ap (λ (n : ℕ). f i + n) (same_count c code) ∙ sym (sum_by-cons f i code)

-- what is the instruction there, before classes stood for sites
same_place : (c : Classed) (o : Option Instr) (list : ℕ) → option_map (classed c) o ≡ Some (Acquire list) → o ≡ Some (Acquire list)
same_place c None list e = absurd cc
same_place c (Some i) list e =
    let own : classed c i ≡ Acquire list = cc in
    ap Some (same_acquire c i list own)

-- the `acq` of a section of the image is one of the lowering, with the same list
acquires : (l : Lowered) (c : Classed) (image : Image) (n : ℕ) (s : SectionEntry) → image.code ≡ map (classed c) l.code → IsSection image n s → slice_get l.code s.place ≡ Some (Acquire s.list)
acquires l c image n s coded section =
    let there : option_map (classed c) (slice_get l.code s.place) ≡ Some (Acquire s.list) =
    sym (slice_get-map (classed c) l.code s.place) ∙ ap (λ (code : List Instr). slice_get code s.place) (sym coded) ∙ section.enters in
    same_place c (slice_get l.code s.place) s.list there

pub own_list : (l : Lowered) (c : Classed) (image : Image) (n : ℕ) (s : SectionEntry) → image.code ≡ map (classed c) l.code → IsNumbered l → IsSection image n s → s.list ≡ n
own_list l c image n s coded numbered section =
    let own : s.list ≡ sections_before l.code s.place = numbered.sections s.place s.list (acquires l c image n s coded section) in
    let counted : sections_before image.code s.place ≡ sections_before l.code s.place =
    ap (λ (code : List Instr). sections_before code s.place) coded ∙ ap (count_by is_acquire) (take-map (classed c) s.place l.code) ∙ same_count c (take s.place l.code) in
    own ∙ sym counted ∙ section.number

pub own_place : (l : Lowered) (c : Classed) (image : Image) (n : ℕ) (s : SectionEntry) → image.code ≡ map (classed c) l.code → IsNumbered l → IsSection image n s → slice_get l.code s.place ≡ Some (Acquire n)
own_place l c image n s coded numbered section = acquires l c image n s coded section ∙ ap (λ (list : ℕ). Some (Acquire list)) (own_list l c image n s coded numbered section)
