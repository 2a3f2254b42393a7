-- Where src/unknown.rt finds the first use of an unknown name is the place of the first mention that uses one.
use Rattle.std.proofs.Common.{◌≡◌, ◌+◌, ◌≤◌, ℕ, zero, suc, List, [], ◌∷◌, ◌++◌, Bool, false, if◌then◌else◌, bytes_eq, Option, Some, None, length, drop, refl, ap, ◌∙◌, arith, length-append}
use Rattle.std.proofs.lemmas.List.{map-append, length-map}
use Rattle.asl_grammar.specs.Token.{Spot}
use Rattle.asl_grammar.specs.Grammar.{bare}
use Rattle.asl_syntax.specs.declared.names.Space.TheVariants.{Globals, Functions, Locals}
use Rattle.asl_syntax.specs.Tree.{Function, Item, GlobalItem, FunctionItem}
use Rattle.asl_syntax.specs.Mentions.{DeclaresFunction, mentions}
use Rattle.asl_syntax.specs.Rules.{Names, names_in, or_name, first_unknown_use, first_unknown, unknown, name_places}
use Rattle.asl_syntax.specs.Spelled.{Spells}
use Rattle.asl_diagnose_text.specs.declared.declared.Declares.TheVariants as what
use Rattle.asl_diagnose_text.specs.declared.name_role.Sign.TheVariants.{Other}
use Rattle.asl_diagnose_text.specs.Unknown.{use_from, or_place, unknown_from, unknown_place}
use Rattle.asl_diagnose_text.specs.UsesView.{has_declared, first_use}
use Rattle.asl_diagnose_text.proofs.Roles.{Told, told, said, all_said, tree_told}
use Rattle.asl_diagnose_text.proofs.NameSearch.{declared, local, first, declared_read, use_read, told_length}
use Rattle.asl_diagnose_text.proofs.ToldDeclarations.{and_false, globals_said, functions_said, inner, none_inside, no_local, locals_said}
use Rattle.asl_diagnose_text.proofs.FunctionSearch.{Finds, all_passed, one_found}

-- ---- over items

abbrev FindsItems : List ℕ → Names → Names → Bool → List Item → List ℕ → Type 0
FindsItems x G F l is places =
    (at : ℕ) × Finds (first x (G x) (F x) l (all_said (mentions is)) places) (unknown_from G F is places) at

length_drop : (n : ℕ) (m : ℕ) (places : List ℕ) → n + m ≤ length places → m ≤ length (drop n places)
length_drop zero m places h = omega (arith, h)
length_drop (suc n) m [] h = absurd (omega (arith, h))
length_drop (suc n) m (p ∷ places) h = length_drop n m places (omega (arith, h))

-- of a function's mentions after its name
function_found : (x : List ℕ) (G F : Names) (f : Function) (is : List Item) (at : ℕ) (places : List ℕ) (o : Option (List ℕ)) → length (inner f) + length (mentions is) ≤ length places → first_unknown_use G F (names_in Locals (inner f)) (inner f) ≡ o
    → or_name o (first_unknown G F is) ≡ Some x → ((l : Bool) (ps : List ℕ) → length (mentions is) ≤ length ps → first_unknown G F is ≡ Some x → FindsItems x G F l is ps)
    → (at : ℕ) × Finds (first x (G x) (F x) (names_in Locals (inner f) x) (all_said (inner f) ++ all_said (mentions is)) places) (or_place (use_from G F (names_in Locals (inner f)) (inner f) places) (unknown_from G F is (drop (length (inner f)) places))) at
function_found x G F f is at places None few u e later =
    let L : Names = names_in Locals (inner f) in
    let p = all_passed x G F L (inner f) (all_said (mentions is)) places (none_inside f) (omega (arith, few)) u in
    let k = later (L x) (drop (length (inner f)) places) (length_drop (length (inner f)) (length (mentions is)) places few) e in (
      k.0,
      record {
        found = p.0 ∙ k.1.found;
        is = ap (λ (q : Option ℕ). or_place q (unknown_from G F is (drop (length (inner f)) places))) p.1 ∙ k.1.is;
      },
    )
function_found x G F f is at places (Some y) few u e later =
    let L : Names = names_in Locals (inner f) in
    let k = one_found x G F L (inner f) (all_said (mentions is)) places (none_inside f) (omega (arith, few)) (u ∙ e) in (
      k.0,
      record {
        found = k.1.found;
        is = ap (λ (q : Option ℕ). or_place q (unknown_from G F is (drop (length (inner f)) places))) k.1.is;
      },
    )

-- over the items of a program
items_found : (x : List ℕ) (G F : Names) (is : List Item) (l : Bool) (places : List ℕ) → length (mentions is) ≤ length places → first_unknown G F is ≡ Some x → FindsItems x G F l is places
items_found x G F [] l places few e = absurd cc
items_found x G F (GlobalItem y ∷ is) l [] few e = absurd (omega (arith, few))
items_found x G F (GlobalItem y ∷ is) l (at ∷ places) few e =
    let k = items_found x G F is l places (omega (arith, few)) e in (
      k.0,
      record {
        found = ap (λ (b : Bool). if b then Some at else first x (G x) (F x) l (all_said (mentions is)) places) (and_false (bytes_eq y x)) ∙ k.1.found;
        is = k.1.is;
      },
    )
items_found x G F (FunctionItem f ∷ is) l [] few e = absurd (omega (arith, few))
items_found x G F (FunctionItem f ∷ is) l (at ∷ places) few e =
    let us : List Told = all_said (inner f) ++ all_said (mentions is) in
    let enough : length (inner f) + length (mentions is) ≤ length places = omega (arith, few, length-append (inner f) (mentions is)) in
    let k = function_found x G F f is at places (first_unknown_use G F (names_in Locals (inner f)) (inner f)) enough refl e (items_found x G F is) in
    let told_so : all_said (inner f ++ mentions is) ≡ us = map-append said (inner f) (mentions is) in
    let locals : local x us ≡ names_in Locals (inner f) x = locals_said x (inner f) (all_said (mentions is)) (none_inside f) (no_local x is) in (
      k.0,
      record {
        found =
            ap (λ (vs : List Told). first x (G x) (F x) l (said (DeclaresFunction f.name) ∷ vs) (at ∷ places)) told_so
            ∙ ap (λ (b : Bool). if b then Some at else first x (G x) (F x) (local x us) us places) (and_false (bytes_eq f.name x))
            ∙ ap (λ (b : Bool). first x (G x) (F x) b us places) locals
            ∙ k.1.found;
        is = k.1.is;
      },
    )

-- ---- of a text

-- as src/unknown.rt finds it
abbrev pub first_use_in : List ℕ → List Spot → Option ℕ
first_use_in x ss = first_use x (has_declared what.Global x what.Nothing Other (bare ss)) (has_declared what.Function x what.Nothing Other (bare ss)) false what.Nothing Other ss

pub unknown_found : (tree : List Item) (ss : List Spot) (x : List ℕ) → Spells tree (bare ss) → unknown tree ≡ Some x → (at : ℕ) × Finds (first_use_in x ss) (unknown_place tree ss) at
unknown_found tree ss x h e =
    let G : Names = names_in Globals (mentions tree) in
    let F : Names = names_in Functions (mentions tree) in
    let us : List Told = told what.Nothing Other (bare ss) in
    let same : us ≡ all_said (mentions tree) = tree_told tree (bare ss) h in
    let gs : has_declared what.Global x what.Nothing Other (bare ss) ≡ G x =
    declared_read what.Global what.Nothing x Other (bare ss) ∙ ap (declared what.Global x) same ∙ globals_said x (mentions tree) in
    let fs : has_declared what.Function x what.Nothing Other (bare ss) ≡ F x =
    declared_read what.Function what.Nothing x Other (bare ss) ∙ ap (declared what.Function x) same ∙ functions_said x (mentions tree) in
    let many : length (mentions tree) ≤ length (name_places ss) =
    omega (arith, length-map (mentions tree) said, ap length same, told_length ss what.Nothing Other) in
    let k = items_found x G F tree false (name_places ss) many e in (
      k.0,
      record {
        found =
            ap (λ (g : Bool). first_use x g (has_declared what.Function x what.Nothing Other (bare ss)) false what.Nothing Other ss) gs
            ∙ ap (λ (f : Bool). first_use x (G x) f false what.Nothing Other ss) fs
            ∙ use_read x (G x) (F x) ss false what.Nothing Other
            ∙ ap (λ (vs : List Told). first x (G x) (F x) false vs (name_places ss)) same
            ∙ k.1.found;
        is = k.1.is;
      },
    )
