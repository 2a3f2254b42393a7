-- The lines of a listing are taken in, and nothing else is.
use Rattle.std.proofs.Common.{◌≡◌, ℕ, ◌+◌, List, [], ◌∷◌, ◌++◌, length, map, Option, Some, refl, sym, ap, ◌∙◌, suc, arith, append_assoc, append-nil, add-zero, zero-add}
use Rattle.std.specs.List.{flat_map}
use Rattle.asl_code.specs.declared.image.Image.{Image}
use Rattle.asl_code.specs.declared.image.Function.{Function}
use Rattle.asl_code.specs.declared.instr.Instr.{Instr}
use Rattle.asl_code.specs.declared.lock.Lock.{Lock}
use Rattle.asl_assembler.specs.declared.line.Line.{Line}
use Rattle.asl_assembler.specs.declared.line.Line.TheVariants as line
use Rattle.asl_assembler.specs.declared.image_draft.Place.TheVariants as place
use Rattle.asl_assembler.specs.Text.{Body, Listing, lines_in, image_of, function_lines, list_lines, function_of, shortened}
use Rattle.asl_assembler.specs.Reading.{◌>>=◌, State, next, finished, longer, blank_image}

-- The image that the lines leave, from a state on.
abbrev pub complete : List Line → State → Option Image
complete [] s = finished s.0 s.1
complete (l ∷ ls) s = next s.0 l s.1 >>= λ t. complete ls t

abbrev pub counted : ℕ → ℕ → ℕ → Function
counted p r n = record { params = p; regs = r; len = shortened n }

counted_more : (p r n : ℕ) → longer (counted p r n) ≡ counted p r (n + 1)
counted_more p r n =
    let same : shortened (shortened n + 1) ≡ shortened (n + 1) = omega arith in
    ap (λ len. record { params = p; regs = r; len = len }) same

counted_at : (p r m n : ℕ) → m ≡ n → counted p r m ≡ counted p r n
counted_at p r m n e = ap (counted p r) e

abbrev pub codes_of : List Body → List Instr
codes_of = flat_map (λ f. f.code)

module _ (version : ℕ) where
  abbrev pub made : ℕ → List ℕ → List Function → ℕ → List Instr → List (List Lock) → Image
  made c gs fs s code lists = record { version = version; classes = c; globals = gs; functions = fs; start = s; code = code; lists = lists }

  -- What the lines must be where they complete an image. First within a lock list.
  pub record InList (ms : List Line) (locks : List Lock) (c : ℕ) (gs : List ℕ) (fs : List Function) (s : ℕ) (code : List Instr) (lists : List (List Lock)) (j : Image) : Type 0 where
    pub more : List Lock
    pub rest : List (List Lock)
    pub lines : ms ≡ map line.Lock more ++ flat_map list_lines rest
    pub image : j ≡ made c gs fs s code (lists ++ (locks ++ more) ∷ rest)

  in_list : (ms : List Line) (locks : List Lock) (c : ℕ) (gs : List ℕ) (fs : List Function) (s : ℕ) (code : List Instr) (lists : List (List Lock)) (j : Image)
      → complete ms (place.Locks locks, made c gs fs s code lists) ≡ Some j → InList ms locks c gs fs s code lists j
  unfolding next finished
  in_list [] locks c gs fs s code lists j e = record { more = []; rest = []; lines = refl; image = (let same : made c gs fs s code (lists ++ locks ∷ []) ≡ j = cc in sym same ∙ simp append-nil) }
  in_list (line.Lock l ∷ ms) locks c gs fs s code lists j e =
      let r = in_list ms (locks ++ l ∷ []) c gs fs s code lists j e in
      record { more = l ∷ r.more; rest = r.rest; lines = ap (λ x. line.Lock l ∷ x) r.lines; image = r.image ∙ simp append_assoc }
  in_list (line.List ∷ ms) locks c gs fs s code lists j e =
      let r = in_list ms [] c gs fs s code (lists ++ locks ∷ []) j e in
      record { more = []; rest = r.more ∷ r.rest; lines = ap (λ x. line.List ∷ x) r.lines; image = r.image ∙ simp (append_assoc, append-nil) }
  in_list (_ ∷ ms) locks c gs fs s code lists j e = absurd (cc)

  -- Within a function.
  pub record InBody (ms : List Line) (p r n : ℕ) (c : ℕ) (gs : List ℕ) (fs : List Function) (s : ℕ) (code : List Instr) (j : Image) : Type 0 where
    pub more : List Instr
    pub bodies : List Body
    pub lists : List (List Lock)
    pub lines : ms ≡ map line.Instruction more ++ (flat_map function_lines bodies ++ flat_map list_lines lists)
    pub image : j ≡ made c gs (fs ++ counted p r (n + length more) ∷ map function_of bodies) s (code ++ (more ++ codes_of bodies)) lists

  in_body : (ms : List Line) (p r n : ℕ) (c : ℕ) (gs : List ℕ) (fs : List Function) (s : ℕ) (code : List Instr) (j : Image)
      → complete ms (place.Body (counted p r n), made c gs fs s code []) ≡ Some j → InBody ms p r n c gs fs s code j
  unfolding next finished
  in_body [] p r n c gs fs s code j e = record {
    more = [];
    bodies = [];
    lists = [];
    lines = refl;
    image = (let same : made c gs (fs ++ counted p r n ∷ []) s code [] ≡ j = cc in sym same ∙ simp (add-zero, append-nil));
  }
  in_body (line.Instruction x ∷ ms) p r n c gs fs s code j e =
      let later : complete ms (place.Body (counted p r (n + 1)), made c gs fs s (code ++ x ∷ []) []) ≡ Some j = ap (λ f. complete ms (place.Body f, made c gs fs s (code ++ x ∷ []) [])) (sym (counted_more p r n)) ∙ e in
      let h = in_body ms p r (n + 1) c gs fs s (code ++ x ∷ []) j later in
      let len : n + 1 + length h.more ≡ n + suc (length h.more) = omega arith in
      record { more = x ∷ h.more; bodies = h.bodies; lists = h.lists; lines = ap (λ l. line.Instruction x ∷ l) h.lines; image = h.image ∙ rw len (simp append_assoc) }
  in_body (line.Function q t ∷ ms) p r n c gs fs s code j e =
      let h = in_body ms q t 0 c gs (fs ++ counted p r n ∷ []) s code j e in
      record {
        more = [];
        bodies = record { params = q; regs = t; code = h.more } ∷ h.bodies;
        lists = h.lists;
        lines = ap (λ l. line.Function q t ∷ l) (h.lines ∙ sym (append_assoc (map line.Instruction h.more) (flat_map function_lines h.bodies) (flat_map list_lines h.lists)));
        image = h.image ∙ simp (append_assoc, add-zero, zero-add);
      }
  in_body (line.List ∷ ms) p r n c gs fs s code j e =
      let h = in_list ms [] c gs (fs ++ counted p r n ∷ []) s code [] j e in
      record { more = []; bodies = []; lists = h.more ∷ h.rest; lines = ap (λ l. line.List ∷ l) h.lines; image = h.image ∙ simp (append-nil, add-zero) }
  in_body (_ ∷ ms) p r n c gs fs s code j e = absurd (cc)

  -- After the header.
  pub record InFunctions (ms : List Line) (c : ℕ) (gs : List ℕ) (s : ℕ) (j : Image) : Type 0 where
    pub bodies : List Body
    pub lists : List (List Lock)
    pub lines : ms ≡ flat_map function_lines bodies ++ flat_map list_lines lists
    pub image : j ≡ made c gs (map function_of bodies) s (codes_of bodies) lists

  in_functions : (ms : List Line) (c : ℕ) (gs : List ℕ) (s : ℕ) (j : Image)
      → complete ms (place.Functions, made c gs [] s [] []) ≡ Some j → InFunctions ms c gs s j
  unfolding next finished
  in_functions [] c gs s j e = record { bodies = []; lists = []; lines = refl; image = cc }
  in_functions (line.Function q t ∷ ms) c gs s j e =
      let h = in_body ms q t 0 c gs [] s [] j e in
      record {
        bodies = record { params = q; regs = t; code = h.more } ∷ h.bodies;
        lists = h.lists;
        lines = ap (λ l. line.Function q t ∷ l) (h.lines ∙ sym (append_assoc (map line.Instruction h.more) (flat_map function_lines h.bodies) (flat_map list_lines h.lists)));
        image = h.image ∙ simp zero-add;
      }
  in_functions (line.List ∷ ms) c gs s j e =
      let h = in_list ms [] c gs [] s [] [] j e in
      record { bodies = []; lists = h.more ∷ h.rest; lines = ap (λ l. line.List ∷ l) h.lines; image = h.image }
  in_functions (_ ∷ ms) c gs s j e = absurd (cc)

  -- In the header.
  pub record InGlobals (ms : List Line) (c : ℕ) (gs : List ℕ) (j : Image) : Type 0 where
    pub more : List ℕ
    pub start : ℕ
    pub bodies : List Body
    pub lists : List (List Lock)
    pub lines : ms ≡ map line.Global more ++ line.Entry start ∷ (flat_map function_lines bodies ++ flat_map list_lines lists)
    pub image : j ≡ made c (gs ++ more) (map function_of bodies) start (codes_of bodies) lists

  in_globals : (ms : List Line) (c : ℕ) (gs : List ℕ) (j : Image)
      → complete ms (place.Globals, made c gs [] 0 [] []) ≡ Some j → InGlobals ms c gs j
  unfolding next finished
  in_globals [] c gs j e = absurd (cc)
  in_globals (line.Global g ∷ ms) c gs j e =
      let h = in_globals ms c (gs ++ g ∷ []) j e in
      record { more = g ∷ h.more; start = h.start; bodies = h.bodies; lists = h.lists; lines = ap (λ l. line.Global g ∷ l) h.lines; image = h.image ∙ simp append_assoc }
  in_globals (line.Entry s ∷ ms) c gs j e =
      let h = in_functions ms c gs s j e in
      record { more = []; start = s; bodies = h.bodies; lists = h.lists; lines = ap (λ l. line.Entry s ∷ l) h.lines; image = h.image ∙ simp append-nil }
  in_globals (_ ∷ ms) c gs j e = absurd (cc)

  -- The lines of a listing complete its image. Those within a list, and all lists:
  locks_taken : (more locks : List Lock) (rest : List Line) (c : ℕ) (gs : List ℕ) (fs : List Function) (s : ℕ) (code : List Instr) (lists : List (List Lock))
      → complete (map line.Lock more ++ rest) (place.Locks locks, made c gs fs s code lists) ≡ complete rest (place.Locks (locks ++ more), made c gs fs s code lists)
  unfolding next
  locks_taken [] locks rest c gs fs s code lists = ap (λ l. complete rest (place.Locks l, made c gs fs s code lists)) (sym (append-nil locks))
  locks_taken (l ∷ more) locks rest c gs fs s code lists =
      locks_taken more (locks ++ l ∷ []) rest c gs fs s code lists ∙ ap (λ x. complete rest (place.Locks x, made c gs fs s code lists)) (append_assoc locks (l ∷ []) more)

  lists_taken : (rest : List (List Lock)) (locks : List Lock) (c : ℕ) (gs : List ℕ) (fs : List Function) (s : ℕ) (code : List Instr) (lists : List (List Lock))
      → complete (flat_map list_lines rest) (place.Locks locks, made c gs fs s code lists) ≡ Some (made c gs fs s code (lists ++ locks ∷ rest))
  unfolding next finished
  lists_taken [] locks c gs fs s code lists = refl
  lists_taken (more ∷ rest) locks c gs fs s code lists =
      locks_taken more [] (flat_map list_lines rest) c gs fs s code (lists ++ locks ∷ [])
      ∙ lists_taken rest more c gs fs s code (lists ++ locks ∷ [])
      ∙ ap (λ x. Some (made c gs fs s code x)) (append_assoc lists (locks ∷ []) (more ∷ rest))

  -- Those within a function, and all functions:
  code_taken : (more : List Instr) (p r n : ℕ) (rest : List Line) (c : ℕ) (gs : List ℕ) (fs : List Function) (s : ℕ) (code : List Instr)
      → complete (map line.Instruction more ++ rest) (place.Body (counted p r n), made c gs fs s code []) ≡ complete rest (place.Body (counted p r (n + length more)), made c gs fs s (code ++ more) [])
  unfolding next
  code_taken [] p r n rest c gs fs s code = simp (add-zero, append-nil)
  code_taken (x ∷ more) p r n rest c gs fs s code =
      let len : n + 1 + length more ≡ n + suc (length more) = omega arith in
      ap (λ f. complete (map line.Instruction more ++ rest) (place.Body f, made c gs fs s (code ++ x ∷ []) [])) (counted_more p r n)
      ∙ code_taken more p r (n + 1) rest c gs fs s (code ++ x ∷ [])
      ∙ rw len (simp append_assoc)

  functions_taken : (bodies : List Body) (p r n : ℕ) (lists : List (List Lock)) (c : ℕ) (gs : List ℕ) (fs : List Function) (s : ℕ) (code : List Instr)
      → complete (flat_map function_lines bodies ++ flat_map list_lines lists) (place.Body (counted p r n), made c gs fs s code [])
      ≡ Some (made c gs (fs ++ counted p r n ∷ map function_of bodies) s (code ++ codes_of bodies) lists)
  unfolding next finished
  functions_taken [] p r n [] c gs fs s code = simp append-nil
  functions_taken [] p r n (locks ∷ lists) c gs fs s code =
      locks_taken locks [] (flat_map list_lines lists) c gs (fs ++ counted p r n ∷ []) s code []
      ∙ lists_taken lists locks c gs (fs ++ counted p r n ∷ []) s code []
      ∙ simp append-nil
  functions_taken (b ∷ bodies) p r n lists c gs fs s code =
      let open_lines : complete (map line.Instruction b.code ++ flat_map function_lines bodies ++ flat_map list_lines lists) (place.Body (counted b.params b.regs 0), made c gs (fs ++ counted p r n ∷ []) s code [])
      ≡ complete (map line.Instruction b.code ++ (flat_map function_lines bodies ++ flat_map list_lines lists)) (place.Body (counted b.params b.regs 0), made c gs (fs ++ counted p r n ∷ []) s code [])
      = ap (λ l. complete l (place.Body (counted b.params b.regs 0), made c gs (fs ++ counted p r n ∷ []) s code [])) (append_assoc (map line.Instruction b.code) (flat_map function_lines bodies) (flat_map list_lines lists)) in
      open_lines
      ∙ code_taken b.code b.params b.regs 0 (flat_map function_lines bodies ++ flat_map list_lines lists) c gs (fs ++ counted p r n ∷ []) s code
      ∙ functions_taken bodies b.params b.regs (0 + length b.code) lists c gs (fs ++ counted p r n ∷ []) s (code ++ b.code)
      ∙ simp (append_assoc, zero-add)

  after_header : (bodies : List Body) (lists : List (List Lock)) (c : ℕ) (gs : List ℕ) (s : ℕ)
      → complete (flat_map function_lines bodies ++ flat_map list_lines lists) (place.Functions, made c gs [] s [] []) ≡ Some (made c gs (map function_of bodies) s (codes_of bodies) lists)
  unfolding next finished
  after_header [] [] c gs s = refl
  after_header [] (locks ∷ lists) c gs s =
      locks_taken locks [] (flat_map list_lines lists) c gs [] s [] [] ∙ lists_taken lists locks c gs [] s [] []
  after_header (b ∷ bodies) lists c gs s =
      let open_lines : complete (map line.Instruction b.code ++ flat_map function_lines bodies ++ flat_map list_lines lists) (place.Body (counted b.params b.regs 0), made c gs [] s [] [])
      ≡ complete (map line.Instruction b.code ++ (flat_map function_lines bodies ++ flat_map list_lines lists)) (place.Body (counted b.params b.regs 0), made c gs [] s [] [])
      = ap (λ l. complete l (place.Body (counted b.params b.regs 0), made c gs [] s [] [])) (append_assoc (map line.Instruction b.code) (flat_map function_lines bodies) (flat_map list_lines lists)) in
      open_lines
      ∙ code_taken b.code b.params b.regs 0 (flat_map function_lines bodies ++ flat_map list_lines lists) c gs [] s []
      ∙ functions_taken bodies b.params b.regs (0 + length b.code) lists c gs [] s b.code
      ∙ simp zero-add

  globals_taken : (more gs : List ℕ) (rest : List Line) (c : ℕ) → complete (map line.Global more ++ rest) (place.Globals, made c gs [] 0 [] []) ≡ complete rest (place.Globals, made c (gs ++ more) [] 0 [] [])
  unfolding next
  globals_taken [] gs rest c = simp append-nil
  globals_taken (g ∷ more) gs rest c = globals_taken more (gs ++ g ∷ []) rest c ∙ simp append_assoc

-- The whole.
pub record IsListing (ms : List Line) (j : Image) : Type 0 where
  pub listing : Listing
  pub lines : ms ≡ lines_in listing
  pub image : j ≡ image_of listing

in_classes : (v : ℕ) (ms : List Line) (j : Image) → complete ms (place.Classes, record blank_image { version = v }) ≡ Some j → IsListing (line.Version v ∷ ms) j
unfolding next finished
in_classes v [] j e = absurd (cc)
in_classes v (line.Classes c ∷ ms) j e =
    let h = in_globals v ms c [] j e in
    record {
      listing = record { version = v; classes = c; globals = h.more; start = h.start; functions = h.bodies; lists = h.lists };
      lines = ap (λ l. line.Version v ∷ line.Classes c ∷ l) h.lines;
      image = h.image;
    }
in_classes v (_ ∷ ms) j e = absurd (cc)

pub is_listing : (ms : List Line) (j : Image) → complete ms (place.Version, blank_image) ≡ Some j → IsListing ms j
unfolding next finished
is_listing [] j e = absurd (cc)
is_listing (line.Version v ∷ ms) j e = in_classes v ms j e
is_listing (_ ∷ ms) j e = absurd (cc)

pub listing_taken : (l : Listing) → complete (lines_in l) (place.Version, blank_image) ≡ Some (image_of l)
unfolding next
listing_taken l =
    globals_taken l.version l.globals [] (line.Entry l.start ∷ (flat_map function_lines l.functions ++ flat_map list_lines l.lists)) l.classes
    ∙ after_header l.version l.functions l.lists l.classes l.globals l.start
