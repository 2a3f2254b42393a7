-- The canonical text of a verified image spells it.
use Rattle.std.proofs.Common.{◌≡◌, ℕ, ◌≤◌, List, [], ◌∷◌, ◌++◌, length, map, take, drop, refl, sym, ap, subst, ◌∙◌, arith, length-append, length-drop}
use Rattle.std.specs.List.{flat_map, AllByRecursion}
use Rattle.std.proofs.lemmas.List.{take-append-drop, nil_from_length, length-take-le}
use Rattle.std.proofs.lemmas.List.Sums.{sum_by-cons}
use Rattle.std.proofs.Math.Seq.{take-append_seam, drop-append_seam}
use Rattle.asl_code.specs.declared.image.Image.{Image}
use Rattle.asl_code.specs.declared.image.Function.{Function}
use Rattle.asl_code.specs.declared.instr.Instr.{Instr}
use Rattle.asl_code.specs.Bodies.{total_len}
use Rattle.asl_code.specs.Verified.{IsVerified}
use Rattle.asl_code.proofs.FitsLaws.{image_fits}
use Rattle.asl_assembler.specs.Words.{lines_of}
use Rattle.asl_assembler.specs.Text.{Body, Listing, lines_in, image_of, function_of, shortened, worded, Spells}
use Rattle.asl_assembler.specs.Canonical.{bodies, listing_of, canonical_text, FitsLine, FitsText}
use Rattle.asl_assembler.proofs.Lines.{lines_spelled, lines_fit}
use Rattle.asl_assembler.proofs.Texts.{one_image}

-- The bodies of functions whose lengths add up to the code are the code.
len_left : (f : Function) (fs : List Function) (code : List Instr) → total_len (f ∷ fs) ≡ length code → total_len fs ≡ length (drop f.len code)
len_left f fs code e = omega (arith, e, sum_by-cons (λ (g : Function). g.len) f fs, length-drop f.len code)

bodies_code : (fs : List Function) (code : List Instr) → total_len fs ≡ length code → flat_map (λ (b : Body). b.code) (bodies fs code) ≡ code
bodies_code [] code e = sym (nil_from_length code (sym e))
bodies_code (f ∷ fs) code e =
    ap (λ (rest : List Instr). take f.len code ++ rest) (bodies_code fs (drop f.len code) (len_left f fs code e)) ∙ take-append-drop f.len code

bodies_functions : (fs : List Function) (code : List Instr) → total_len fs ≡ length code → length code ≤ 65535 → map function_of (bodies fs code) ≡ fs
bodies_functions [] code e few = refl
bodies_functions (f ∷ fs) code e few =
    let low : f.len ≤ length code = omega (arith, e, sum_by-cons (λ (g : Function). g.len) f fs) in
    let whole : shortened f.len ≡ f.len = omega arith in
    let len : shortened (length (take f.len code)) ≡ f.len = ap shortened (length-take-le f.len code low) ∙ whole in
    let rest = bodies_functions fs (drop f.len code) (len_left f fs code e) (omega (arith, length-drop f.len code)) in
    ap (λ (n : ℕ). record { params = f.params; regs = f.regs; len = n } ∷ map function_of (bodies fs (drop f.len code))) len
    ∙ ap (λ (gs : List Function). f ∷ gs) rest

-- So the image is that of its listing.
abbrev made : Image → ℕ → List Function → List Instr → Image
made i v fs code = record { version = v; classes = i.classes; globals = i.globals; functions = fs; start = i.start; code = code; lists = i.lists }

is_listed : (i : Image) → IsVerified i → i ≡ image_of (listing_of i)
is_listed i v =
    let f = image_fits i v in
    ap (λ (fs : List Function). made i i.version fs i.code) (sym (bodies_functions i.functions i.code f.total f.few_instrs))
    ∙ ap (λ (code : List Instr). made i i.version (map function_of (bodies i.functions i.code)) code) (sym (bodies_code i.functions i.code f.total))

pub canonical_spelled : (i : Image) → IsVerified i → FitsText i → Spells (canonical_text i) i
canonical_spelled i v fits = (listing_of i, lines_spelled (lines_in (listing_of i)) fits, is_listed i v)

-- And a listing is that of its image.
bodies_of : (bs : List Body) → length (flat_map (λ (b : Body). b.code) bs) ≤ 65535 → bodies (map function_of bs) (flat_map (λ (b : Body). b.code) bs) ≡ bs
bodies_of [] few = refl
bodies_of (b ∷ bs) few =
    let rest : List Instr = flat_map (λ (c : Body). c.code) bs in
    let len : shortened (length b.code) ≡ length b.code = omega (arith, few, length-append b.code rest) in
    let front : take (shortened (length b.code)) (b.code ++ rest) ≡ b.code = ap (λ n. take n (b.code ++ rest)) len ∙ take-append_seam b.code rest in
    let after : drop (shortened (length b.code)) (b.code ++ rest) ≡ rest = ap (λ n. drop n (b.code ++ rest)) len ∙ drop-append_seam b.code rest in
    ap (λ (code : List Instr). record { params = b.params; regs = b.regs; code = code } ∷ bodies (map function_of bs) (drop (shortened (length b.code)) (b.code ++ rest))) front
    ∙ ap (λ (left : List Instr). b ∷ bodies (map function_of bs) left) after
    ∙ ap (λ (cs : List Body). b ∷ cs) (bodies_of bs (omega (arith, few, length-append b.code rest)))

listing_back : (l : Listing) → length (image_of l).code ≤ 65535 → listing_of (image_of l) ≡ l
listing_back l few = ap (λ (bs : List Body). record { version = l.version; classes = l.classes; globals = l.globals; start = l.start; functions = bs; lists = l.lists }) (bodies_of l.functions few)

pub spelled_fits : (i : Image) (text : List ℕ) → IsVerified i → Spells text i → FitsText i
spelled_fits i text v s =
    let few : length i.code ≤ 65535 = (image_fits i v).few_instrs in
    let back : listing_of (image_of s.0) ≡ s.0 = listing_back s.0 (rw s.2 at few) in
    let listed : listing_of i ≡ s.0 = ap listing_of s.2 ∙ back in
    subst (λ (l : Listing). AllByRecursion FitsLine (lines_in l)) (sym listed) (lines_fit (lines_in s.0) (worded (lines_of text)) s.1)

pub spelled_back : (i other : Image) (text : List ℕ) → IsVerified i → Spells text i → Spells (canonical_text i) other → other ≡ i
spelled_back i other text v s t = one_image (canonical_text i) other i t (canonical_spelled i v (spelled_fits i text v s))
