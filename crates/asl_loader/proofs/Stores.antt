-- What a verified image gives its writer, and what the writer has written in the end.
use Rattle.std.proofs.Common.{◌≡◌, ℕ, suc, ◌<◌, ◌^◌, List, [], ◌∷◌, ◌++◌, length, refl, ap, ◌∙◌, append_assoc, arith}
use Rattle.std.specs.Prelude.{slice_get, Some}
use Rattle.std.specs.List.{AllByRecursion}
use Rattle.asl_code.specs.declared.image.Function.{Function}
use Rattle.asl_code.specs.declared.image.Image.{Image}
use Rattle.asl_code.specs.declared.instr.Instr.{Instr}
use Rattle.asl_code.specs.declared.lock.Lock.{Lock}
use Rattle.asl_code.specs.Spelling.{IsInstr}
use Rattle.asl_code.specs.Verified.{IsVerified}
use Rattle.asl_code.specs.Versions.{IsVersion}
use Rattle.asl_code.proofs.BodyPlaces.{body_within}
use Rattle.asl_code.proofs.FitsLaws.{image_fits}
use Rattle.asl_code.proofs.Versions.{few_locks}
use Rattle.asl_loader.specs.Bytes.{Field, text_of, two, magic, counted, class_fields, function_fields, instr_fields, list_fields, IsFunction, IsList, AreItems, SpellsImage}
use Rattle.asl_loader.specs.SharedFields.{Writes}
use Rattle.asl_loader.specs.Writing.{HasFields}
use Rattle.asl_loader.proofs.Reader.{text_of-append}

-- what holds of each item by its place holds of all
all_from_places : (X : Type 0) (P : X → Type 0) (xs : List X) → ((n : ℕ) (x : X) → slice_get xs n ≡ Some x → P x) → AllByRecursion P xs
all_from_places X P [] h = tt
all_from_places X P (x ∷ xs) h = (h 0 x refl, all_from_places X P xs (λ n y e. h (suc n) y e))

pub verified_has : (i : Image) → IsVerified i → HasFields i
verified_has i v =
    let f = image_fits i v in
    record {
      version = f.version;
      classes = omega (arith, f.few_classes);
      globals = omega (arith, f.few_globals);
      functions = omega (arith, f.few_functions);
      lens = all_from_places Function (λ g. g.len < 2 ^ 16) i.functions (λ n g e. omega (arith, body_within i n g e, f.total, f.few_instrs));
      code = omega (arith, f.few_instrs);
      lists = omega (arith, f.few_lists);
      locks = all_from_places (List Lock) (λ l. length l < 2 ^ 16) i.lists (λ n l e. omega (arith, f.few_locks n l e, few_locks i.version));
    }

texts : (m v k g f s c l : List Field) → ((((((text_of m ++ text_of v) ++ text_of k) ++ text_of g) ++ text_of f) ++ text_of s) ++ text_of c) ++ text_of l ≡ text_of (m ++ (v ++ (k ++ (g ++ (f ++ (s ++ (c ++ l)))))))
texts m v k g f s c l = simp (text_of-append, append_assoc)

-- the writer has written the fields of the image, one after the other
pub image_written : (i : Image) (b0 b1 b2 b3 b4 b5 b6 b7 : List ℕ) → IsVersion i.version → b0 ≡ text_of (magic ∷ [])
    → Writes ℕ (λ n. n < 2 ^ 16) (λ n. two n ∷ []) b0 b1 i.version
    → Writes ℕ (λ n. n < 2 ^ 16) (λ n. two n ∷ []) b1 b2 i.classes
    → Writes (List ℕ) (AreItems ℕ (λ class. class < 2 ^ 16)) (counted class_fields) b2 b3 i.globals
    → Writes (List Function) (AreItems Function IsFunction) (counted function_fields) b3 b4 i.functions
    → Writes ℕ (λ n. n < 2 ^ 16) (λ n. two n ∷ []) b4 b5 i.start
    → Writes (List Instr) (AreItems Instr IsInstr) (counted instr_fields) b5 b6 i.code
    → Writes (List (List Lock)) (AreItems (List Lock) IsList) (counted list_fields) b6 b7 i.lists
    → SpellsImage i b7
image_written i b0 b1 b2 b3 b4 b5 b6 b7 version e0 w1 w2 w3 w4 w5 w6 w7 =
    let m : List Field = magic ∷ [] in
    let v : List Field = two i.version ∷ [] in
    let k : List Field = two i.classes ∷ [] in
    let g : List Field = counted class_fields i.globals in
    let f : List Field = counted function_fields i.functions in
    let s : List Field = two i.start ∷ [] in
    let c : List Field = counted instr_fields i.code in
    let l : List Field = counted list_fields i.lists in
    let e1 : b1 ≡ text_of m ++ text_of v = w1.added ∙ ap (λ (t : List ℕ). t ++ text_of v) e0 in
    let e2 : b2 ≡ (text_of m ++ text_of v) ++ text_of k = w2.added ∙ ap (λ (t : List ℕ). t ++ text_of k) e1 in
    let e3 : b3 ≡ ((text_of m ++ text_of v) ++ text_of k) ++ text_of g = w3.added ∙ ap (λ (t : List ℕ). t ++ text_of g) e2 in
    let e4 : b4 ≡ (((text_of m ++ text_of v) ++ text_of k) ++ text_of g) ++ text_of f = w4.added ∙ ap (λ (t : List ℕ). t ++ text_of f) e3 in
    let e5 : b5 ≡ ((((text_of m ++ text_of v) ++ text_of k) ++ text_of g) ++ text_of f) ++ text_of s = w5.added ∙ ap (λ (t : List ℕ). t ++ text_of s) e4 in
    let e6 : b6 ≡ (((((text_of m ++ text_of v) ++ text_of k) ++ text_of g) ++ text_of f) ++ text_of s) ++ text_of c = w6.added ∙ ap (λ (t : List ℕ). t ++ text_of c) e5 in
    let e7 : b7 ≡ ((((((text_of m ++ text_of v) ++ text_of k) ++ text_of g) ++ text_of f) ++ text_of s) ++ text_of c) ++ text_of l = w7.added ∙ ap (λ (t : List ℕ). t ++ text_of l) e6 in
    record {
      fits = record { version_is = version; classes_fits = w2.is; globals_fit = w3.is; functions_fit = w4.is; start_fits = w5.is; code_fits = w6.is; lists_fit = w7.is };
      spelled = e7 ∙ texts m v k g f s c l;
    }
