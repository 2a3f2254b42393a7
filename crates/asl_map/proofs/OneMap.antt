-- A source has one map: each of its lines goes by the source.
use Rattle.std.proofs.Common.{◌≡◌, ℕ, zero, suc, ◌+◌, ◌-◌, ◌<◌, inl, inr, Bool, true, false, cond, List, [], ◌∷◌, ◌++◌, length, take, map, if◌then◌else◌, Option, Some, None, slice_get, unwrap_or, refl, sym, ap, ap₂, ◌∙◌, subst, arith}
use Rattle.std.specs.Prelude.{codes, count_by, Vec}
use Rattle.std.specs.Fmt.{decimal}
use Rattle.std.specs.declared.alloc.Global.{Global}
use Rattle.std.proofs.lemmas.Bool.{cases_eq, cases_Bool}
use Rattle.std.proofs.lemmas.List.{take_all}
use Rattle.std.proofs.lemmas.List.Recursion.{is_count_by}
use Rattle.asl_code.specs.declared.instr.Instr.{Instr}
use Rattle.asl_code.specs.declared.instr.Instr.TheVariants as instr
use Rattle.asl_grammar.specs.Lex.{tokens_of}
use Rattle.asl_syntax.specs.Tree.{Item, globals_of, functions_of}
use Rattle.asl_syntax.proofs.Plain.{one_tree}
use Rattle.asl_lower.specs.Names.{locals_of}
use Rattle.asl_lower.specs.Lowered.{Lowered, IsLowering}
use Rattle.asl_lower.specs.OpenSections.{is_new}
use Rattle.asl_lower.specs.Facts.{IsNumbered}
use Rattle.asl_lower.proofs.Laid.{one_lowering}
use Rattle.asl_lower.proofs.SectionFacts.{lowering_numbered}
use Rattle.asl_points_to.specs.Classes.{Classed, AreClasses}
use Rattle.asl_points_to.proofs.Uniques.{one_classed}
use Rattle.asl_map.specs.declared.map.Map.{Map}
use Rattle.asl_map.specs.declared.text_piece.Area.{Area}
use Rattle.asl_map.specs.declared.text_piece.Named.{Named}
use Rattle.asl_map.specs.declared.text_piece.Piece.{Piece}
use Rattle.asl_map.specs.Areas.{section_area, AreSites}
use Rattle.asl_map.specs.Reached.{IsReached}
use Rattle.asl_map.specs.Walked.{items_pieces, items_named}
use Rattle.asl_map.specs.Text.{numbered, texts_from, is_marked, function_line, unreached_line, register_line, registers_text, global_line, global_member, site_member, members_text, section_line, site_line, place_line, map_text}
use Rattle.asl_map.specs.Mapped.{IsMapped}
use Rattle.asl_map.proofs.SamePieces.{same_below, has_walked}

-- ---- sites

-- how many `new` there are
abbrev news : List Instr → ℕ
news [] = 0
news (c ∷ cs) = cond (is_new c) (1 + news cs) (news cs)

news_counted : (code : List Instr) → news code ≡ count_by is_new code
news_counted code = is_count_by news is_new refl (λ c cs. refl) code

-- the one with so many before it
record Nth (code : List Instr) (n : ℕ) : Type 0 where
  pc : ℕ
  instruction : Instr
  there : slice_get code pc ≡ Some instruction
  new : is_new instruction ≡ true
  before : news (take pc code) ≡ n

nth : (code : List Instr) (n : ℕ) → n < news code → Nth code n
nth [] n lt = absurd (omega (arith, lt))
nth (c ∷ cs) n lt =
    elim (cases_Bool (is_new c)) [
      | inl some_new ↦ elim (cases_eq n 0) [
        | inl none ↦ record { pc = 0; instruction = c; there = refl; new = some_new; before = sym none }
        | inr some ↦ (let all : news (c ∷ cs) ≡ 1 + news cs = ap (λ (b : Bool). cond b (1 + news cs) (news cs)) some_new in
            let r = nth cs (n - 1) (omega (arith, lt, all, some)) in
            let front : news (c ∷ take r.pc cs) ≡ 1 + news (take r.pc cs) = ap (λ (b : Bool). cond b (1 + news (take r.pc cs)) (news (take r.pc cs))) some_new in
            record { pc = suc r.pc; instruction = r.instruction; there = r.there; new = r.new; before = omega (arith, front, r.before, some) })
      ]
      | inr not_new ↦ (let all : news (c ∷ cs) ≡ news cs = ap (λ (b : Bool). cond b (1 + news cs) (news cs)) not_new in
          let r = nth cs n (omega (arith, lt, all)) in
          let front : news (c ∷ take r.pc cs) ≡ news (take r.pc cs) = ap (λ (b : Bool). cond b (1 + news (take r.pc cs)) (news (take r.pc cs))) not_new in
          record { pc = suc r.pc; instruction = r.instruction; there = r.there; new = r.new; before = front ∙ r.before })
    ]

new_is : (i : Instr) → is_new i ≡ true → (to : ℕ) × ((cells : ℕ) × ((site : ℕ) × (i ≡ instr.New to cells site)))
new_is (instr.New to cells site) e = (to, (cells, (site, refl)))
new_is (instr.SetInt a b) e = absurd cc
new_is (instr.SetNull a) e = absurd cc
new_is (instr.Move a b) e = absurd cc
new_is (instr.Add a b c) e = absurd cc
new_is (instr.Subtract a b c) e = absurd cc
new_is (instr.LessThan a b c) e = absurd cc
new_is (instr.Equals a b c) e = absurd cc
new_is (instr.GlobalAddress a b) e = absurd cc
new_is (instr.FieldAddress a b c) e = absurd cc
new_is (instr.Load a b) e = absurd cc
new_is (instr.Store a b) e = absurd cc
new_is (instr.Jump a) e = absurd cc
new_is (instr.JumpIfZero a b) e = absurd cc
new_is (instr.Call a b c) e = absurd cc
new_is (instr.Return a) e = absurd cc
new_is (instr.Output a) e = absurd cc
new_is (instr.Acquire a) e = absurd cc
new_is instr.Release e = absurd cc

sites_same : (l : Lowered) (pieces : List Piece) (xs ys : List Area) → IsNumbered l → AreSites l pieces xs → AreSites l pieces ys → xs ≡ ys
sites_same l pieces xs ys numbered_so h k =
    let many : news l.code ≡ l.sites = news_counted l.code ∙ ap (λ (c : List Instr). count_by is_new c) (sym (take_all (length l.code) l.code (omega arith))) ∙ numbered_so.all_sites in
    same_below xs ys (h.count ∙ sym k.count) (λ n low.
    (let r = nth l.code n (omega (arith, low, h.count, many)) in
    let i = new_is r.instruction r.new in
    let at : slice_get l.code r.pc ≡ Some (instr.New i.0 i.1.0 i.1.1.0) = r.there ∙ ap Some i.1.1.1 in
    let site : i.1.1.0 ≡ n = numbered_so.sites r.pc _ _ _ at ∙ sym (news_counted (take r.pc l.code)) ∙ r.before in
    let P : ℕ → Type 0 = λ s. slice_get xs s ≡ slice_get ys s in
    subst P site (h.stand r.pc _ _ _ at ∙ sym (k.stand r.pc _ _ _ at))))

-- ---- lines

numbered_same : {A : Type 0} (f g : ℕ → A → List ℕ) (n : ℕ) (xs : List A) → ((k : ℕ) (x : A) → f k x ≡ g k x) → numbered f n xs ≡ numbered g n xs
numbered_same f g n [] same = refl
numbered_same f g n (x ∷ xs) same = ap₂ (λ (a b : List ℕ). a ++ b) (same n x) (numbered_same f g (suc n) xs same)

-- registers by their names alone
abbrev names_text : ℕ → List (List ℕ) → List ℕ
names_text f names = numbered (register_line f) 0 names

by_names : (n : ℕ) (rs : List (Vec (List ℕ) Global)) → numbered registers_text n rs ≡ numbered names_text n (map (λ (r : Vec (List ℕ) Global). r.items) rs)
by_names n [] = refl
by_names n (r ∷ rs) = ap (λ (l : List ℕ). registers_text n r ++ l) (by_names (suc n) rs)

-- marks that are the same where they are set
marked_same : (a b : Option Bool) → (a ≡ Some true → b ≡ Some true) → (b ≡ Some true → a ≡ Some true) → unwrap_or a false ≡ unwrap_or b false
marked_same None None f g = refl
marked_same None (Some false) f g = refl
marked_same None (Some true) f g = let e : None ≡ Some true = g refl in absurd cc
marked_same (Some false) None f g = refl
marked_same (Some false) (Some false) f g = refl
marked_same (Some false) (Some true) f g = let e : Some false ≡ Some true = g refl in absurd cc
marked_same (Some true) b f g = sym (ap (λ (o : Option Bool). unwrap_or o false) (f refl))

abbrev unreached_if : Bool → ℕ → List ℕ
unreached_if marked n = if marked then [] else codes "unreached " ++ decimal n ++ 10 ∷ []

-- the members of classes
abbrev members : List ℕ → List ℕ → ℕ → List ℕ
members globals sites count = texts_from (λ class. numbered (global_member class) 0 globals ++ numbered (site_member class) 0 sites) 0 count

both : {a b c d : List ℕ} → a ≡ b → c ≡ d → a ++ c ≡ b ++ d
both p q = ap₂ (λ (x y : List ℕ). x ++ y) p q

pub one_text : (source : List ℕ) (m n : Map) → IsMapped source m → IsMapped source n → map_text m ≡ map_text n
one_text source m n h k =
    let ss = tokens_of source in
    let tree : h.tree ≡ k.tree = one_tree h.tree k.tree ss h.parses.spelled.spelled k.parses.spelled.spelled in
    let lowered : h.lowered ≡ k.lowered = one_lowering k.tree h.lowered k.lowered (subst (λ (t : List Item). IsLowering t h.lowered) tree h.lowering) k.lowering in
    let classed : h.classed ≡ k.classed = one_classed k.lowered h.classed k.classed (subst (λ (l : Lowered). AreClasses l h.classed) lowered h.classes) k.classes in
    let a = has_walked source m h in
    let b = has_walked source n k in
    let pieces : m.pieces.items ≡ n.pieces.items = a.0 ∙ ap (λ (t : List Item). items_pieces t ss) tree ∙ sym b.0 in
    let functions : m.functions.items ≡ n.functions.items = a.1 ∙ ap (λ (t : List Item). items_named t ss) tree ∙ sym b.1 in
    let registers = h.names.registers ∙ ap (λ (t : List Item). map locals_of (functions_of t)) tree ∙ sym k.names.registers in
    let globals : m.globals.items ≡ n.globals.items = h.names.globals ∙ ap globals_of tree ∙ sym k.names.globals in
    let classes : m.classes ≡ n.classes = h.members.classes ∙ ap (λ (c : Classed). c.count) classed ∙ sym k.members.classes in
    let of_globals : m.global_classes.items ≡ n.global_classes.items = h.members.globals ∙ ap (λ (c : Classed). c.globals) classed ∙ sym k.members.globals in
    let of_sites : m.site_classes.items ≡ n.site_classes.items = h.members.sites ∙ ap (λ (c : Classed). c.sites) classed ∙ sym k.members.sites in
    let sections : m.sections.items ≡ n.sections.items =
    h.sections ∙ ap (λ (ps : List Piece). map (section_area ps) h.lowered.sections) pieces ∙ ap (λ (l : Lowered). map (section_area n.pieces.items) l.sections) lowered ∙ sym k.sections in
    let AtPieces : List Piece → Type 0 = λ ps. AreSites h.lowered ps m.sites.items in
    let AtLowered : Lowered → Type 0 = λ l. AreSites l n.pieces.items m.sites.items in
    let sites : m.sites.items ≡ n.sites.items =
    sites_same k.lowered n.pieces.items m.sites.items n.sites.items (lowering_numbered k.tree k.lowered k.lowering) (subst AtLowered lowered (subst AtPieces pieces h.sites)) k.sites in
    let marked : (f : ℕ) → is_marked m.reached f ≡ is_marked n.reached f =
    λ f. marked_same (slice_get m.reached f) (slice_get n.reached f) (λ e. (k.reached f).1 (subst (λ (l : Lowered). IsReached l f) lowered ((h.reached f).0 e))) (λ e. (h.reached f).1 (subst (λ (l : Lowered). IsReached l f) (sym lowered) ((k.reached f).0 e))) in
    both (ap (λ (fs : List Named). numbered function_line 0 fs) functions)
    (both (numbered_same (unreached_line m.reached) (unreached_line n.reached) 0 m.functions.items (λ f x. ap (λ (r : Bool). unreached_if r f) (marked f)) ∙ ap (λ (fs : List Named). numbered (unreached_line n.reached) 0 fs) functions)
    (both (by_names 0 m.registers.items ∙ ap (λ (rs : List (List (List ℕ))). numbered names_text 0 rs) registers ∙ sym (by_names 0 n.registers.items))
    (both (ap (λ (gs : List (List ℕ)). numbered global_line 0 gs) globals)
    (both (ap (λ (gs : List ℕ). members gs m.site_classes.items m.classes) of_globals ∙ ap (λ (xs : List ℕ). members n.global_classes.items xs m.classes) of_sites ∙ ap (λ (c : ℕ). members n.global_classes.items n.site_classes.items c) classes)
    (both (ap (λ (xs : List Area). numbered section_line 0 xs) sections)
    (both (ap (λ (xs : List Area). numbered site_line 0 xs) sites) (ap (λ (ps : List Piece). numbered place_line 0 ps) pieces)))))))
