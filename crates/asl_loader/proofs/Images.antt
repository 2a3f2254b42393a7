-- The readers of functions and of whole images read their fields. So bytes are the spelling of at most one image.
use Rattle.std.proofs.Common.{◌≡◌, ℕ, ◌<◌, ◌^◌, List, [], ◌∷◌, ◌++◌, Ok, refl, sym, ap, ◌∙◌, inl, lit<}
use Rattle.std.specs.Int.{w16, w32, to_be_bytes}
use Rattle.std.proofs.lemmas.List.{append-nil}
use Rattle.asl_code.specs.declared.image.Function.{Function}
use Rattle.asl_code.specs.declared.image.Image.{Image}
use Rattle.asl_code.specs.declared.instr.Instr.{Instr}
use Rattle.asl_code.specs.declared.instr.Instr.TheVariants.{Release}
use Rattle.asl_code.specs.declared.lock.Lock.{Lock}
use Rattle.asl_code.specs.Spelling.{IsInstr}
use Rattle.asl_code.specs.Versions.{IsVersion}
use Rattle.asl_loader.specs.Bytes.{Plain, one, two, counted, class_fields, function_fields, instr_fields, list_fields, image_fields, IsFunction, AreItems, IsList, IsImage, ImageOfSpellingIsOne}
use Rattle.asl_loader.specs.SharedFields.{◌>>=◌, byte_at, number_at, letters_at, version_at}
use Rattle.asl_loader.specs.ImageFields.{instr_at, function_at, counted_at, list_at, image_at}
use Rattle.asl_loader.proofs.Fields.{byte_reads, two_reads, version_reads, letters_reads}
use Rattle.asl_loader.proofs.InstrFields.{instr_reads}
use Rattle.asl_loader.proofs.Items.{counted_reads}
use Rattle.asl_loader.proofs.Reader.{Reads, reads_nothing, done, ok_is}
use Rattle.asl_loader.proofs.WrongInTwo.{reads_key}
use Rattle.asl_loader.proofs.Locks.{list_reads}

-- a function is told by its three fields
function_is : (f : Function) (params regs len : ℕ) → f.params ≡ params → f.regs ≡ regs → f.len ≡ len → f ≡ record { params = params; regs = regs; len = len }
function_is f params regs len p q r = rw (← p, ← q, ← r) refl

pub function_reads : Reads Function IsFunction function_fields function_at
unfolding function_at
function_reads =
    reads_key ℕ Function (λ n. n < 256) IsFunction (λ n. one n ∷ []) function_fields byte_at
    (λ params bytes. byte_at bytes >>= λ regs. number_at w16 regs.1 >>= λ len. Ok (record { params = params; regs = regs.0; len = len.0 }, len.1))
    (λ f. f.params) (λ f. one f.regs ∷ two f.len ∷ []) byte_reads
    (λ params is_p. reads_key ℕ Function (λ n. n < 256) (λ f. IsFunction f × (f.params ≡ params)) (λ n. one n ∷ []) (λ f. one f.regs ∷ two f.len ∷ []) byte_at
    (λ regs bytes. number_at w16 bytes >>= λ len. Ok (record { params = params; regs = regs; len = len.0 }, len.1))
    (λ f. f.regs) (λ f. two f.len ∷ []) byte_reads
    (λ regs is_r. reads_key ℕ Function (λ n. n < 2 ^ 16) (λ f. (IsFunction f × (f.params ≡ params)) × (f.regs ≡ regs)) (λ n. two n ∷ []) (λ f. two f.len ∷ []) (number_at w16)
    (λ len bytes. Ok (record { params = params; regs = regs; len = len }, bytes))
    (λ f. f.len) (λ f. []) two_reads
    (λ len is_l. reads_nothing Function (λ f. ((IsFunction f × (f.params ≡ params)) × (f.regs ≡ regs)) × (f.len ≡ len)) (λ f. []) (record { params = params; regs = regs; len = len })
    (((record { params_fits = is_p; regs_fits = is_r; len_fits = is_l }, refl), refl), refl)
    (λ f is. function_is f params regs len is.0.0.1 is.0.1 is.1) refl)
    (λ f is. is.0.0.len_fits) (λ f is. refl)
    (λ len is_l. (record { params = params; regs = regs; len = len }, ((record { params_fits = is_p; regs_fits = is_r; len_fits = is_l }, refl), refl), refl)))
    (λ f is. is.0.regs_fits) (λ f is. refl)
    (λ regs is_r. (record { params = params; regs = regs; len = 0 }, (record { params_fits = is_p; regs_fits = is_r; len_fits = lit< tt }, refl), refl)))
    (λ f is. is.params_fits) (λ f is. refl)
    (λ params is_p. (record { params = params; regs = 0; len = 0 }, record { params_fits = is_p; regs_fits = lit< tt; len_fits = lit< tt }, refl))

-- ---- images

abbrev IsTwo : ℕ → Type 0
IsTwo n = n < 2 ^ 16

-- an image is told by its parts
image_eq : (i : Image) (v k : ℕ) (g : List ℕ) (f : List Function) (s : ℕ) (c : List Instr) (l : List (List Lock)) → i.version ≡ v → i.classes ≡ k → i.globals ≡ g → i.functions ≡ f → i.start ≡ s → i.code ≡ c → i.lists ≡ l → i ≡ record { version = v; classes = k; globals = g; functions = f; start = s; code = c; lists = l }
image_eq i v k g f s c l p1 p2 p3 p4 p5 p6 p7 = rw (← p1, ← p2, ← p3, ← p4, ← p5, ← p6, ← p7) refl

-- the parts of an image, from the last to the first: what is read after each
image_reads_end : (m : ℕ) (is_m : m ≡ 1095978061) (v : ℕ) (is_v : IsVersion v) (k : ℕ) (is_k : IsTwo k) (g : (List ℕ)) (is_g : (AreItems ℕ IsTwo) g) (f : (List Function)) (is_f : (AreItems Function IsFunction) f) (s : ℕ) (is_s : IsTwo s) (c : (List Instr)) (is_c : (AreItems Instr IsInstr) c) (l : (List (List Lock))) (is_l : (AreItems (List Lock) IsList) l) → Reads Image (λ (i : Image). ((((((((IsImage i) × (1095978061 ≡ m)) × (i.version ≡ v)) × (i.classes ≡ k)) × (i.globals ≡ g)) × (i.functions ≡ f)) × (i.start ≡ s)) × (i.code ≡ c)) × (i.lists ≡ l)) (λ (i : Image). []) (λ bytes. Ok (record { version = v; classes = k; globals = g; functions = f; start = s; code = c; lists = l }, bytes))
image_reads_end m is_m v is_v k is_k g is_g f is_f s is_s c is_c l is_l = reads_nothing Image (λ (i : Image). ((((((((IsImage i) × (1095978061 ≡ m)) × (i.version ≡ v)) × (i.classes ≡ k)) × (i.globals ≡ g)) × (i.functions ≡ f)) × (i.start ≡ s)) × (i.code ≡ c)) × (i.lists ≡ l)) (λ (i : Image). []) (record { version = v; classes = k; globals = g; functions = f; start = s; code = c; lists = l }) (((((((((record { version_is = is_v; classes_fits = is_k; globals_fit = is_g; functions_fit = is_f; start_fits = is_s; code_fits = is_c; lists_fit = is_l }, sym is_m), refl), refl), refl), refl), refl), refl), refl)) (λ i is. image_eq i v k g f s c l is.0.0.0.0.0.0.1 is.0.0.0.0.0.1 is.0.0.0.0.1 is.0.0.0.1 is.0.0.1 is.0.1 is.1) refl

image_reads_lists : (m : ℕ) (is_m : m ≡ 1095978061) (v : ℕ) (is_v : IsVersion v) (k : ℕ) (is_k : IsTwo k) (g : (List ℕ)) (is_g : (AreItems ℕ IsTwo) g) (f : (List Function)) (is_f : (AreItems Function IsFunction) f) (s : ℕ) (is_s : IsTwo s) (c : (List Instr)) (is_c : (AreItems Instr IsInstr) c) → Reads Image (λ (i : Image). (((((((IsImage i) × (1095978061 ≡ m)) × (i.version ≡ v)) × (i.classes ≡ k)) × (i.globals ≡ g)) × (i.functions ≡ f)) × (i.start ≡ s)) × (i.code ≡ c)) (λ (i : Image). counted list_fields i.lists) (λ bytes. (counted_at list_at) bytes >>= λ l_at. Ok (record { version = v; classes = k; globals = g; functions = f; start = s; code = c; lists = l_at.0 }, l_at.1))
image_reads_lists m is_m v is_v k is_k g is_g f is_f s is_s c is_c =
    reads_key (List (List Lock)) Image (AreItems (List Lock) IsList) (λ (i : Image). (((((((IsImage i) × (1095978061 ≡ m)) × (i.version ≡ v)) × (i.classes ≡ k)) × (i.globals ≡ g)) × (i.functions ≡ f)) × (i.start ≡ s)) × (i.code ≡ c)) (λ xs. counted list_fields xs) (λ (i : Image). counted list_fields i.lists) (counted_at list_at) (λ l bytes. Ok (record { version = v; classes = k; globals = g; functions = f; start = s; code = c; lists = l }, bytes))
    (λ (i : Image). i.lists) (λ (i : Image). []) (counted_reads (List Lock) IsList list_fields list_at list_reads [] (record { counted = lit< tt; each = tt }))
    (λ l is_l. image_reads_end m is_m v is_v k is_k g is_g f is_f s is_s c is_c l is_l)
    (λ i is. is.0.0.0.0.0.0.0.lists_fit) (λ i is. sym (append-nil (counted list_fields i.lists)))
    (λ l is_l. (record { version = v; classes = k; globals = g; functions = f; start = s; code = c; lists = l }, (((((((record { version_is = is_v; classes_fits = is_k; globals_fit = is_g; functions_fit = is_f; start_fits = is_s; code_fits = is_c; lists_fit = is_l }, sym is_m), refl), refl), refl), refl), refl), refl), refl))

image_reads_code : (m : ℕ) (is_m : m ≡ 1095978061) (v : ℕ) (is_v : IsVersion v) (k : ℕ) (is_k : IsTwo k) (g : (List ℕ)) (is_g : (AreItems ℕ IsTwo) g) (f : (List Function)) (is_f : (AreItems Function IsFunction) f) (s : ℕ) (is_s : IsTwo s) → Reads Image (λ (i : Image). ((((((IsImage i) × (1095978061 ≡ m)) × (i.version ≡ v)) × (i.classes ≡ k)) × (i.globals ≡ g)) × (i.functions ≡ f)) × (i.start ≡ s)) (λ (i : Image). counted instr_fields i.code ++ counted list_fields i.lists) (λ bytes. (counted_at instr_at) bytes >>= λ c_at. (counted_at list_at) c_at.1 >>= λ l_at. Ok (record { version = v; classes = k; globals = g; functions = f; start = s; code = c_at.0; lists = l_at.0 }, l_at.1))
image_reads_code m is_m v is_v k is_k g is_g f is_f s is_s =
    reads_key (List Instr) Image (AreItems Instr IsInstr) (λ (i : Image). ((((((IsImage i) × (1095978061 ≡ m)) × (i.version ≡ v)) × (i.classes ≡ k)) × (i.globals ≡ g)) × (i.functions ≡ f)) × (i.start ≡ s)) (λ xs. counted instr_fields xs) (λ (i : Image). counted instr_fields i.code ++ counted list_fields i.lists) (counted_at instr_at) (λ c bytes. (counted_at list_at) bytes >>= λ l_at. Ok (record { version = v; classes = k; globals = g; functions = f; start = s; code = c; lists = l_at.0 }, l_at.1))
    (λ (i : Image). i.code) (λ (i : Image). counted list_fields i.lists) (counted_reads Instr IsInstr instr_fields instr_at instr_reads Release tt)
    (λ c is_c. image_reads_lists m is_m v is_v k is_k g is_g f is_f s is_s c is_c)
    (λ i is. is.0.0.0.0.0.0.code_fits) (λ i is. refl)
    (λ c is_c. (record { version = v; classes = k; globals = g; functions = f; start = s; code = c; lists = [] }, ((((((record { version_is = is_v; classes_fits = is_k; globals_fit = is_g; functions_fit = is_f; start_fits = is_s; code_fits = is_c; lists_fit = record { counted = lit< tt; each = tt } }, sym is_m), refl), refl), refl), refl), refl), refl))

image_reads_start : (m : ℕ) (is_m : m ≡ 1095978061) (v : ℕ) (is_v : IsVersion v) (k : ℕ) (is_k : IsTwo k) (g : (List ℕ)) (is_g : (AreItems ℕ IsTwo) g) (f : (List Function)) (is_f : (AreItems Function IsFunction) f) → Reads Image (λ (i : Image). (((((IsImage i) × (1095978061 ≡ m)) × (i.version ≡ v)) × (i.classes ≡ k)) × (i.globals ≡ g)) × (i.functions ≡ f)) (λ (i : Image). two i.start ∷ counted instr_fields i.code ++ counted list_fields i.lists) (λ bytes. (number_at w16) bytes >>= λ s_at. (counted_at instr_at) s_at.1 >>= λ c_at. (counted_at list_at) c_at.1 >>= λ l_at. Ok (record { version = v; classes = k; globals = g; functions = f; start = s_at.0; code = c_at.0; lists = l_at.0 }, l_at.1))
image_reads_start m is_m v is_v k is_k g is_g f is_f =
    reads_key ℕ Image IsTwo (λ (i : Image). (((((IsImage i) × (1095978061 ≡ m)) × (i.version ≡ v)) × (i.classes ≡ k)) × (i.globals ≡ g)) × (i.functions ≡ f)) (λ n. two n ∷ []) (λ (i : Image). two i.start ∷ counted instr_fields i.code ++ counted list_fields i.lists) (number_at w16) (λ s bytes. (counted_at instr_at) bytes >>= λ c_at. (counted_at list_at) c_at.1 >>= λ l_at. Ok (record { version = v; classes = k; globals = g; functions = f; start = s; code = c_at.0; lists = l_at.0 }, l_at.1))
    (λ (i : Image). i.start) (λ (i : Image). counted instr_fields i.code ++ counted list_fields i.lists) two_reads
    (λ s is_s. image_reads_code m is_m v is_v k is_k g is_g f is_f s is_s)
    (λ i is. is.0.0.0.0.0.start_fits) (λ i is. refl)
    (λ s is_s. (record { version = v; classes = k; globals = g; functions = f; start = s; code = []; lists = [] }, (((((record { version_is = is_v; classes_fits = is_k; globals_fit = is_g; functions_fit = is_f; start_fits = is_s; code_fits = record { counted = lit< tt; each = tt }; lists_fit = record { counted = lit< tt; each = tt } }, sym is_m), refl), refl), refl), refl), refl))

image_reads_functions : (m : ℕ) (is_m : m ≡ 1095978061) (v : ℕ) (is_v : IsVersion v) (k : ℕ) (is_k : IsTwo k) (g : (List ℕ)) (is_g : (AreItems ℕ IsTwo) g) → Reads Image (λ (i : Image). ((((IsImage i) × (1095978061 ≡ m)) × (i.version ≡ v)) × (i.classes ≡ k)) × (i.globals ≡ g)) (λ (i : Image). counted function_fields i.functions ++ (two i.start ∷ counted instr_fields i.code ++ counted list_fields i.lists)) (λ bytes. (counted_at function_at) bytes >>= λ f_at. (number_at w16) f_at.1 >>= λ s_at. (counted_at instr_at) s_at.1 >>= λ c_at. (counted_at list_at) c_at.1 >>= λ l_at. Ok (record { version = v; classes = k; globals = g; functions = f_at.0; start = s_at.0; code = c_at.0; lists = l_at.0 }, l_at.1))
image_reads_functions m is_m v is_v k is_k g is_g =
    reads_key (List Function) Image (AreItems Function IsFunction) (λ (i : Image). ((((IsImage i) × (1095978061 ≡ m)) × (i.version ≡ v)) × (i.classes ≡ k)) × (i.globals ≡ g)) (λ xs. counted function_fields xs) (λ (i : Image). counted function_fields i.functions ++ (two i.start ∷ counted instr_fields i.code ++ counted list_fields i.lists)) (counted_at function_at) (λ f bytes. (number_at w16) bytes >>= λ s_at. (counted_at instr_at) s_at.1 >>= λ c_at. (counted_at list_at) c_at.1 >>= λ l_at. Ok (record { version = v; classes = k; globals = g; functions = f; start = s_at.0; code = c_at.0; lists = l_at.0 }, l_at.1))
    (λ (i : Image). i.functions) (λ (i : Image). two i.start ∷ counted instr_fields i.code ++ counted list_fields i.lists) (counted_reads Function IsFunction function_fields function_at function_reads (record { params = 0; regs = 0; len = 0 }) (record { params_fits = lit< tt; regs_fits = lit< tt; len_fits = lit< tt }))
    (λ f is_f. image_reads_start m is_m v is_v k is_k g is_g f is_f)
    (λ i is. is.0.0.0.0.functions_fit) (λ i is. refl)
    (λ f is_f. (record { version = v; classes = k; globals = g; functions = f; start = 0; code = []; lists = [] }, ((((record { version_is = is_v; classes_fits = is_k; globals_fit = is_g; functions_fit = is_f; start_fits = lit< tt; code_fits = record { counted = lit< tt; each = tt }; lists_fit = record { counted = lit< tt; each = tt } }, sym is_m), refl), refl), refl), refl))

image_reads_globals : (m : ℕ) (is_m : m ≡ 1095978061) (v : ℕ) (is_v : IsVersion v) (k : ℕ) (is_k : IsTwo k) → Reads Image (λ (i : Image). (((IsImage i) × (1095978061 ≡ m)) × (i.version ≡ v)) × (i.classes ≡ k)) (λ (i : Image). counted class_fields i.globals ++ (counted function_fields i.functions ++ (two i.start ∷ counted instr_fields i.code ++ counted list_fields i.lists))) (λ bytes. (counted_at (number_at w16)) bytes >>= λ g_at. (counted_at function_at) g_at.1 >>= λ f_at. (number_at w16) f_at.1 >>= λ s_at. (counted_at instr_at) s_at.1 >>= λ c_at. (counted_at list_at) c_at.1 >>= λ l_at. Ok (record { version = v; classes = k; globals = g_at.0; functions = f_at.0; start = s_at.0; code = c_at.0; lists = l_at.0 }, l_at.1))
image_reads_globals m is_m v is_v k is_k =
    reads_key (List ℕ) Image (AreItems ℕ IsTwo) (λ (i : Image). (((IsImage i) × (1095978061 ≡ m)) × (i.version ≡ v)) × (i.classes ≡ k)) (λ xs. counted class_fields xs) (λ (i : Image). counted class_fields i.globals ++ (counted function_fields i.functions ++ (two i.start ∷ counted instr_fields i.code ++ counted list_fields i.lists))) (counted_at (number_at w16)) (λ g bytes. (counted_at function_at) bytes >>= λ f_at. (number_at w16) f_at.1 >>= λ s_at. (counted_at instr_at) s_at.1 >>= λ c_at. (counted_at list_at) c_at.1 >>= λ l_at. Ok (record { version = v; classes = k; globals = g; functions = f_at.0; start = s_at.0; code = c_at.0; lists = l_at.0 }, l_at.1))
    (λ (i : Image). i.globals) (λ (i : Image). counted function_fields i.functions ++ (two i.start ∷ counted instr_fields i.code ++ counted list_fields i.lists)) (counted_reads ℕ IsTwo class_fields (number_at w16) two_reads 0 (lit< tt))
    (λ g is_g. image_reads_functions m is_m v is_v k is_k g is_g)
    (λ i is. is.0.0.0.globals_fit) (λ i is. refl)
    (λ g is_g. (record { version = v; classes = k; globals = g; functions = []; start = 0; code = []; lists = [] }, (((record { version_is = is_v; classes_fits = is_k; globals_fit = is_g; functions_fit = record { counted = lit< tt; each = tt }; start_fits = lit< tt; code_fits = record { counted = lit< tt; each = tt }; lists_fit = record { counted = lit< tt; each = tt } }, sym is_m), refl), refl), refl))

image_reads_classes : (m : ℕ) (is_m : m ≡ 1095978061) (v : ℕ) (is_v : IsVersion v) → Reads Image (λ (i : Image). ((IsImage i) × (1095978061 ≡ m)) × (i.version ≡ v)) (λ (i : Image). two i.classes ∷ counted class_fields i.globals ++ (counted function_fields i.functions ++ (two i.start ∷ counted instr_fields i.code ++ counted list_fields i.lists))) (λ bytes. (number_at w16) bytes >>= λ k_at. (counted_at (number_at w16)) k_at.1 >>= λ g_at. (counted_at function_at) g_at.1 >>= λ f_at. (number_at w16) f_at.1 >>= λ s_at. (counted_at instr_at) s_at.1 >>= λ c_at. (counted_at list_at) c_at.1 >>= λ l_at. Ok (record { version = v; classes = k_at.0; globals = g_at.0; functions = f_at.0; start = s_at.0; code = c_at.0; lists = l_at.0 }, l_at.1))
image_reads_classes m is_m v is_v =
    reads_key ℕ Image IsTwo (λ (i : Image). ((IsImage i) × (1095978061 ≡ m)) × (i.version ≡ v)) (λ n. two n ∷ []) (λ (i : Image). two i.classes ∷ counted class_fields i.globals ++ (counted function_fields i.functions ++ (two i.start ∷ counted instr_fields i.code ++ counted list_fields i.lists))) (number_at w16) (λ k bytes. (counted_at (number_at w16)) bytes >>= λ g_at. (counted_at function_at) g_at.1 >>= λ f_at. (number_at w16) f_at.1 >>= λ s_at. (counted_at instr_at) s_at.1 >>= λ c_at. (counted_at list_at) c_at.1 >>= λ l_at. Ok (record { version = v; classes = k; globals = g_at.0; functions = f_at.0; start = s_at.0; code = c_at.0; lists = l_at.0 }, l_at.1))
    (λ (i : Image). i.classes) (λ (i : Image). counted class_fields i.globals ++ (counted function_fields i.functions ++ (two i.start ∷ counted instr_fields i.code ++ counted list_fields i.lists))) two_reads
    (λ k is_k. image_reads_globals m is_m v is_v k is_k)
    (λ i is. is.0.0.classes_fits) (λ i is. refl)
    (λ k is_k. (record { version = v; classes = k; globals = []; functions = []; start = 0; code = []; lists = [] }, ((record { version_is = is_v; classes_fits = is_k; globals_fit = record { counted = lit< tt; each = tt }; functions_fit = record { counted = lit< tt; each = tt }; start_fits = lit< tt; code_fits = record { counted = lit< tt; each = tt }; lists_fit = record { counted = lit< tt; each = tt } }, sym is_m), refl), refl))

image_reads_version : (m : ℕ) (is_m : m ≡ 1095978061) → Reads Image (λ (i : Image). (IsImage i) × (1095978061 ≡ m)) (λ (i : Image). two i.version ∷ two i.classes ∷ counted class_fields i.globals ++ (counted function_fields i.functions ++ (two i.start ∷ counted instr_fields i.code ++ counted list_fields i.lists))) (λ bytes. version_at bytes >>= λ v_at. (number_at w16) v_at.1 >>= λ k_at. (counted_at (number_at w16)) k_at.1 >>= λ g_at. (counted_at function_at) g_at.1 >>= λ f_at. (number_at w16) f_at.1 >>= λ s_at. (counted_at instr_at) s_at.1 >>= λ c_at. (counted_at list_at) c_at.1 >>= λ l_at. Ok (record { version = v_at.0; classes = k_at.0; globals = g_at.0; functions = f_at.0; start = s_at.0; code = c_at.0; lists = l_at.0 }, l_at.1))
image_reads_version m is_m =
    reads_key ℕ Image IsVersion (λ (i : Image). (IsImage i) × (1095978061 ≡ m)) (λ n. two n ∷ []) (λ (i : Image). two i.version ∷ two i.classes ∷ counted class_fields i.globals ++ (counted function_fields i.functions ++ (two i.start ∷ counted instr_fields i.code ++ counted list_fields i.lists))) version_at (λ v bytes. (number_at w16) bytes >>= λ k_at. (counted_at (number_at w16)) k_at.1 >>= λ g_at. (counted_at function_at) g_at.1 >>= λ f_at. (number_at w16) f_at.1 >>= λ s_at. (counted_at instr_at) s_at.1 >>= λ c_at. (counted_at list_at) c_at.1 >>= λ l_at. Ok (record { version = v; classes = k_at.0; globals = g_at.0; functions = f_at.0; start = s_at.0; code = c_at.0; lists = l_at.0 }, l_at.1))
    (λ (i : Image). i.version) (λ (i : Image). two i.classes ∷ counted class_fields i.globals ++ (counted function_fields i.functions ++ (two i.start ∷ counted instr_fields i.code ++ counted list_fields i.lists))) version_reads
    (λ v is_v. image_reads_classes m is_m v is_v)
    (λ i is. is.0.version_is) (λ i is. refl)
    (λ v is_v. (record { version = v; classes = 0; globals = []; functions = []; start = 0; code = []; lists = [] }, (record { version_is = is_v; classes_fits = lit< tt; globals_fit = record { counted = lit< tt; each = tt }; functions_fit = record { counted = lit< tt; each = tt }; start_fits = lit< tt; code_fits = record { counted = lit< tt; each = tt }; lists_fit = record { counted = lit< tt; each = tt } }, sym is_m), refl))

pub image_reads : Reads Image IsImage image_fields image_at
unfolding image_at
image_reads =
    reads_key ℕ Image (λ n. n ≡ 1095978061) IsImage (λ n. Plain (to_be_bytes w32 n) ∷ []) image_fields (letters_at 1095978061)
    (λ m bytes. version_at bytes >>= λ v_at. (number_at w16) v_at.1 >>= λ k_at. (counted_at (number_at w16)) k_at.1 >>= λ g_at. (counted_at function_at) g_at.1 >>= λ f_at. (number_at w16) f_at.1 >>= λ s_at. (counted_at instr_at) s_at.1 >>= λ c_at. (counted_at list_at) c_at.1 >>= λ l_at. Ok (record { version = v_at.0; classes = k_at.0; globals = g_at.0; functions = f_at.0; start = s_at.0; code = c_at.0; lists = l_at.0 }, l_at.1))
    (λ (i : Image). 1095978061) (λ (i : Image). two i.version ∷ two i.classes ∷ counted class_fields i.globals ++ (counted function_fields i.functions ++ (two i.start ∷ counted instr_fields i.code ++ counted list_fields i.lists))) (letters_reads 1095978061 (lit< tt))
    (λ m is_m. image_reads_version m is_m)
    (λ i is. refl) (λ i is. refl)
    (λ m is_m. (record { version = 1; classes = 0; globals = []; functions = []; start = 0; code = []; lists = [] }, record { version_is = inl refl; classes_fits = lit< tt; globals_fit = record { counted = lit< tt; each = tt }; functions_fit = record { counted = lit< tt; each = tt }; start_fits = lit< tt; code_fits = record { counted = lit< tt; each = tt }; lists_fit = record { counted = lit< tt; each = tt } }, sym is_m))

-- a spelling is of one image
pub image_is_one : ImageOfSpellingIsOne
image_is_one i j bytes p q =
    let first : image_at (bytes ++ []) ≡ Ok (i, []) = ap (λ (t : List ℕ). image_at (t ++ [])) p.spelled ∙ image_reads.again i [] p.fits in
    let second : image_at (bytes ++ []) ≡ Ok (j, []) = ap (λ (t : List ℕ). image_at (t ++ [])) q.spelled ∙ image_reads.again j [] q.fits in
    let both : done (i, []) ≡ done (j, []) = sym first ∙ second in
    ap (λ (u : Image × List ℕ). u.0) (ok_is (i, []) (j, []) both)
