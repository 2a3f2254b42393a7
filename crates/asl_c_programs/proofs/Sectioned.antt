-- The map of a source has the function of each section of its program.
use Rattle.std.proofs.Common.{◌≡◌, ℕ, zero, suc, ◌+◌, ◌<◌, ◌≤◌, List, [], ◌∷◌, length, map, refl, sym, subst, ap, ◌∙◌, arith}
use Rattle.std.specs.Prelude.{Option, Some, None, slice_get, option_map}
use Rattle.std.specs.Option.{option_map_or}
use Rattle.std.proofs.lemmas.Option.{slice_get-map}
use Rattle.asl_code.specs.Fits.{LiesIn}
use Rattle.asl_code.specs.declared.image.Function.{Function}
use Rattle.asl_code.specs.declared.image.Image.{Image}
use Rattle.asl_code.specs.declared.instr.Instr.{Instr}
use Rattle.asl_code.specs.declared.instr.Instr.TheVariants.{Acquire}
use Rattle.asl_syntax.specs.Tree.{Item}
use Rattle.asl_syntax.specs.Parsed.{Parses}
use Rattle.asl_lower.specs.declared.section.Section.{Section}
use Rattle.asl_lower.specs.Facts.{HasSections, IsNumbered}
use Rattle.asl_lower.specs.Lowered.{Lowered, IsLowering}
use Rattle.asl_lower.specs.OpenSections.{InBody, acquire_of}
use Rattle.asl_lower.specs.OpenSections as lowered
use Rattle.asl_map.specs.Areas.{section_area}
use Rattle.asl_map.specs.declared.map.Map.{Map}
use Rattle.asl_map.specs.declared.text_piece.Area.{Area}
use Rattle.asl_map.specs.declared.text_piece.Piece.{Piece}
use Rattle.asl_points_to.specs.Classes.{Classed}
use Rattle.asl_soundness.specs.Coded.{classed}
use Rattle.asl_c_programs.specs.Locks.{function_of_list}
use Rattle.asl_c_programs.specs.Tables.{IsSection}
use Rattle.asl_c_programs.specs.declared.entries.SectionEntry.{SectionEntry}
use Rattle.asl_c_programs.proofs.Numbered.{own_list, own_place}

some_section : (o : Option Section) (place : ℕ) → option_map (λ (s : Section). s.acquire) o ≡ Some place → (s : Section) × (o ≡ Some s) × (s.acquire ≡ place)
some_section None place e = absurd cc
some_section (Some s) place e = (s, refl, cc)

below : {A : Type 0} (xs : List A) (n : ℕ) (x : A) → slice_get xs n ≡ Some x → n < length xs
below [] n x e = absurd cc
below (y ∷ ys) zero x e = omega arith
below (y ∷ ys) (suc n) x e = omega (arith, below ys n x e)

-- the area of a section in the map
area_of : (m : Map) (l : Lowered) (pieces : List Piece) (n : ℕ) (s : Section) → m.sections.items ≡ map (section_area pieces) l.sections → slice_get l.sections n ≡ Some s → function_of_list m n ≡ s.function
area_of m l pieces n s mapped there =
    let at : slice_get m.sections.items n ≡ Some (section_area pieces s) =
    ap (λ (areas : List Area). slice_get areas n) mapped ∙ slice_get-map (section_area pieces) l.sections n ∙ ap (option_map (section_area pieces)) there in
    ap (λ (o : Option Area). option_map_or (λ (a : Area). a.function) o 0) at

pub with_lowering : (m : Map) (l o : Lowered) → l ≡ o → m.sections.items ≡ map (section_area m.pieces.items) l.sections → m.sections.items ≡ map (section_area m.pieces.items) o.sections
with_lowering m l o same mapped = mapped ∙ ap (λ (x : Lowered). map (section_area m.pieces.items) x.sections) same

-- a body of the lowering is one of the image
lies_so : (image : Image) (l : Lowered) (number pc : ℕ) → image.functions ≡ l.functions → InBody l number pc → (f : Function) × LiesIn image number pc f
lies_so image l number pc same body = (
  body.function,
  record {
    function = ap (λ (fs : List Function). slice_get fs number) same ∙ body.in_table;
    low = subst (λ (fs : List Function). lowered.start_of fs number ≤ pc) (sym same) body.start;
    high = subst (λ (fs : List Function). pc < lowered.start_of fs number + body.function.len) (sym same) body.before_end;
  },
)

pub own_function : (l : Lowered) (c : Classed) (image : Image) (m : Map) (pieces : List Piece) (n : ℕ) (s : SectionEntry) → image.code ≡ map (classed c) l.code → image.functions ≡ l.functions
    → m.sections.items ≡ map (section_area pieces) l.sections → IsNumbered l → HasSections l
    → ((i : Image) (n m pc : ℕ) (f g : Function) → LiesIn i n pc f → LiesIn i m pc g → n ≡ m) → IsSection image n s → function_of_list m n ≡ s.function
own_function l c image m pieces n s coded same mapped numbered sections once section =
    let list = own_list l c image n s coded numbered section in
    let enters : slice_get l.code s.place ≡ Some (Acquire n) = own_place l c image n s coded numbered section in
    let acquired : acquire_of l n ≡ Some s.place = sections.entered s.place n enters in
    let one = some_section (slice_get l.sections n) s.place acquired in
    let own = sections.there n (below l.sections n one.0 one.1) in
    let same_section : own.section ≡ one.0 = cc (own.in_table, one.1) in
    let stands : own.section.acquire ≡ s.place = ap (λ (x : Section). x.acquire) same_section ∙ one.2 in
    let body : InBody l own.section.function s.place = subst (λ (pc : ℕ). InBody l own.section.function pc) stands own.first_inside in
    let there = lies_so image l own.section.function s.place same body in
    area_of m l pieces n own.section mapped own.in_table ∙ once image own.section.function s.function s.place there.0 section.body.0 there.1 section.body.1
