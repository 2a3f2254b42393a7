-- The sections of a program are few, and its `main` is there.
use Rattle.std.proofs.Common.{◌≡◌, ℕ, suc, ◌+◌, ◌≤◌, inl, inr, Bool, true, false, ◌||◌, ◌&&◌, ◌==◌, if◌then◌else◌, Option, Some, None, codes, List, [], ◌∷◌, ◌++◌, length, map, slice_get, refl, sym, ap, ◌∙◌, subst, arith}
use Rattle.std.specs.Prelude.{bytes_eq}
use Rattle.std.proofs.lemmas.Bool.{false≢true, leb-false, eqb-true}
use Rattle.std.specs.List.{All}
use Rattle.std.proofs.lemmas.List.Elements.{All-nil, All-cons}
use Rattle.std.proofs.lemmas.Slice.Eq.{bytes_eq-Decides}
use Rattle.asl_code.specs.declared.image.Function as entry
use Rattle.asl_grammar.specs.declared.token.Mark.TheVariants as mark
use Rattle.asl_grammar.specs.Token.{Token, Fixed, Name, Spot}
use Rattle.asl_grammar.specs.Written as w
use Rattle.asl_grammar.specs.Spelling.{later_names_on, names_on, right_on, line_on, stmt_on, block_on, else_on, function_on, program_on}
use Rattle.asl_grammar.specs.Lex.{tokens_of}
use Rattle.asl_grammar.specs.Grammar.{bare}
use Rattle.asl_syntax.specs.declared.names.Space.TheVariants.{Functions}
use Rattle.asl_syntax.specs.Tree.{Function, Item, GlobalItem, FunctionItem, functions_of}
use Rattle.asl_syntax.specs.Limit.{atomics_in, tally_of, is_over, limit_from, byte_over}
use Rattle.asl_syntax.specs.Spelled.{right_meaning, line_meaning, stmt_meaning, block_meaning, else_meaning, function_meaning, item_meaning}
use Rattle.asl_syntax.specs.Parsed.{IsParsed}
use Rattle.asl_syntax.specs.Mentions.{Mention, DeclaresGlobal, DeclaresFunction, DeclaresParameter, AssignsLocal, UsesLocal, UsesGlobal, CallsFunction, block_mentions, mentions}
use Rattle.asl_syntax.specs.Rules.{Names, with_name, with_declared, declared_in, names_in, first_twice, has_main}
use Rattle.asl_syntax.proofs.Few.{few_functions, few_globals, goes_on}
use Rattle.asl_syntax.proofs.Made.{none_first}
use Rattle.asl_lower.specs.Names.{function_names, number_of}
use Rattle.asl_lower.specs.Place.{Place, next, entered, origin, past_moves, past_value, past_stmt, past_block, past_else, past_function, past_functions}
use Rattle.asl_lower.specs.Lowered.{Lowered, AreLoweredFunctions, IsLowering, entry_of}
use Rattle.asl_lower.specs.Layout.{functions_table}
use Rattle.asl_lower.specs.Limits.{HasMain, FitsTable, KeepsLimits}
use Rattle.asl_lower.proofs.Grows.{by_block}
use Rattle.asl_lower.proofs.Numbering.{block_locals_grow}
use Rattle.asl_lower.proofs.Laid.{lowering_is_computed}
use Rattle.asl_lower.proofs.Passed.{AreWithin, functions_within}
use Rattle.asl_lower.proofs.Mentioned.{or_cases, or_first, or_second}

-- what tokens weigh together, and what limits count of a section
abbrev weigh : (Token → ℕ) → List Token → ℕ
weigh g [] = 0
weigh g (t ∷ ts) = g t + weigh g ts

abbrev is_atomic : Token → ℕ
is_atomic (Fixed mark.Atomic) = 1
is_atomic t = 0

-- the sections of the code are counted by the `atomic` of the text
later_names_count : (xs : List (List ℕ)) (rest : List Token) → weigh is_atomic rest ≤ weigh is_atomic (later_names_on xs rest)
later_names_count [] rest = omega arith
later_names_count (x ∷ xs) rest = omega (arith, later_names_count xs rest)

names_count : (xs : List (List ℕ)) (rest : List Token) → weigh is_atomic rest ≤ weigh is_atomic (names_on xs rest)
names_count [] rest = omega arith
names_count (x ∷ xs) rest = omega (arith, later_names_count xs rest)

moves_section : (args : List (List ℕ)) (p : Place) → (past_moves args p).section ≡ p.section
moves_section [] p = refl
moves_section (x ∷ rest) p = moves_section rest (next p)

right_counts : (r : w.Right) (rest : List Token) (p : Place) → (past_value (right_meaning r) p).section + weigh is_atomic rest ≤ p.section + weigh is_atomic (right_on r rest)
right_counts (w.Literal true n) rest p = omega arith
right_counts (w.Literal false n) rest p = omega arith
right_counts w.NullValue rest p = omega arith
right_counts (w.Copied y) rest p = omega arith
right_counts (w.Binary y o z) rest p = omega arith
right_counts (w.GlobalAddress y) rest p = omega arith
right_counts (w.FieldAddress y n) rest p = omega arith
right_counts (w.Loaded y) rest p = omega arith
right_counts (w.Created n) rest p = omega arith

line_counts : (l : w.Line) (rest : List Token) (p : Place) → (past_stmt (line_meaning l) p).section + weigh is_atomic rest ≤ p.section + weigh is_atomic (line_on l rest)
line_counts (w.Assigns x r) rest p = omega (arith, right_counts r rest p)
line_counts (w.Calls x f args) rest p =
    omega (arith, moves_section args p, names_count args (Fixed mark.CloseParen ∷ rest))
line_counts (w.Stores x y) rest p = omega arith
line_counts (w.Shows x) rest p = omega arith

-- what follows the block of an `if` has the sections of the other block
else_section : (e : w.Else) (p : Place) → (past_else (else_meaning e) p).section ≡ (past_block (else_meaning e) (next p)).section
else_section w.NoElse p = refl
else_section (w.Otherwise w.End) p = refl
else_section (w.Otherwise (w.More s b)) p = refl

mutual
  stmt_counts : (s : w.Stmt) (rest : List Token) (p : Place) → (past_stmt (stmt_meaning s) p).section + weigh is_atomic rest ≤ p.section + weigh is_atomic (stmt_on s rest)
  stmt_counts (w.Simple l) rest p = omega (arith, line_counts l (Fixed mark.Semicolon ∷ rest) p)
  stmt_counts (w.IfStmt x a e) rest p =
      let mid : Place = past_block (block_meaning a) (next p) in
      omega (arith, block_counts a (Fixed mark.CloseBrace ∷ else_on e rest) (next p), else_section e mid, else_counts e rest (next mid))
  stmt_counts (w.WhileStmt x a) rest p = omega (arith, block_counts a (Fixed mark.CloseBrace ∷ rest) (next p))
  stmt_counts (w.AtomicStmt a) rest p = omega (arith, block_counts a (Fixed mark.CloseBrace ∷ rest) (entered p))

  block_counts : (b : w.Block) (rest : List Token) (p : Place) → (past_block (block_meaning b) p).section + weigh is_atomic rest ≤ p.section + weigh is_atomic (block_on b rest)
  block_counts w.End rest p = omega arith
  block_counts (w.More s b) rest p =
      omega (arith, stmt_counts s (block_on b rest) p, block_counts b rest (past_stmt (stmt_meaning s) p))

  else_counts : (e : w.Else) (rest : List Token) (p : Place) → (past_block (else_meaning e) p).section + weigh is_atomic rest ≤ p.section + weigh is_atomic (else_on e rest)
  else_counts w.NoElse rest p = omega arith
  else_counts (w.Otherwise b) rest p = omega (arith, block_counts b (Fixed mark.CloseBrace ∷ rest) p)

function_counts : (f : w.Function) (rest : List Token) (p : Place) → (past_function (function_meaning f) p).section + weigh is_atomic rest ≤ p.section + weigh is_atomic (function_on f rest)
function_counts f rest p =
    let tail : List Token = Fixed mark.Return ∷ Name f.returned ∷ Fixed mark.Semicolon ∷ Fixed mark.CloseBrace ∷ rest in
    let head : List Token = Fixed mark.CloseParen ∷ Fixed mark.OpenBrace ∷ block_on f.body tail in
    omega (arith, names_count f.parameters head, block_counts f.body tail p)

items_count : (is : List w.Item) (p : Place) → (past_functions (functions_of (map item_meaning is)) p).section ≤ p.section + weigh is_atomic (program_on is [])
items_count [] p = omega arith
items_count (w.GlobalItem x ∷ is) p = omega (arith, items_count is p)
items_count (w.FunctionItem f ∷ is) p =
    omega (arith, function_counts f (program_on is []) p, items_count is (past_function (function_meaning f) p))

-- and these are few
one_more_atomic : (t : Token) (before : List Token) → is_over (tally_of before) t ≡ false → atomics_in before ≤ 1024 → (atomics_in (t ∷ before) ≡ is_atomic t + atomics_in before) × (atomics_in (t ∷ before) ≤ 1024)
one_more_atomic (Fixed mark.Atomic) before e h = (omega arith, omega (arith, leb-false 1024 (atomics_in before) e))
one_more_atomic _ before e h = (omega arith, h)

few_atomic : (ss : List Spot) (before : List Token) → limit_from before ss ≡ None → atomics_in before ≤ 1024 → weigh is_atomic (bare ss) + atomics_in before ≤ 1024
few_atomic [] before e h = omega arith
few_atomic (s ∷ ss) before e h =
    let k = goes_on (is_over (tally_of before) s.token) s.at (limit_from (s.token ∷ before) ss) e in
    let m = one_more_atomic s.token before k.0 h in
    omega (arith, m.0, few_atomic ss (s.token ∷ before) k.1 m.1)

few_sections : (is : List Item) → IsParsed is → (past_functions (functions_of is) origin).section ≤ 1024
few_sections is p =
    let s = p.parses.spelled in
    let k : limit_from [] (tokens_of p.text) ≡ None = none_first _ (byte_over (length p.text)) s.limits in
    omega (arith, few_atomic (tokens_of p.text) [] k (omega arith), items_count s.spelled.written origin, ap (weigh is_atomic) s.spelled.spelled, ap (λ (t : List Item). (past_functions (functions_of t) origin).section) s.spelled.meaning)

-- the table of functions within the limits
fits_table : (fs : List Function) (p : Place) → AreWithin fs → All FitsTable (functions_table fs p)
fits_table [] p h = All-nil FitsTable
fits_table (f ∷ fs) p h =
    All-cons FitsTable (entry_of f p) (functions_table fs (past_function f p))
    (record { some_code = omega (arith, (by_block f.body p).pc); parameters = omega (arith, block_locals_grow f.parameters f.body); few_parameters = h.0.few_parameters })
    (fits_table fs (past_function f p) h.1)

pub lowering_limits : (is : List Item) (l : Lowered) → IsParsed is → IsLowering is l → KeepsLimits l
lowering_limits is l p h =
    record {
      few_globals = omega (arith, h.globals, few_globals is ∣ p ∣₁);
      few_functions = omega (arith, h.functions, few_functions is ∣ p ∣₁);
      few_sections = omega (arith, h.sections, few_sections is p);
      functions =
          let P : List entry.Function → Type 0 = All FitsTable in
          subst P (sym (ap (λ (m : Lowered). m.functions) (lowering_is_computed is l h))) (fits_table (functions_of is) origin (functions_within is p));
    }

-- a function's name is not declared again
twice_function : (gs fs ps : Names) (ms : List Mention) (x : List ℕ) → first_twice gs fs ps ms ≡ None → fs x ≡ true → names_in Functions ms x ≡ true → ⊥
twice_function gs fs ps [] x e f n = false≢true n
twice_function gs fs ps (DeclaresGlobal y ∷ ms) x e f n =
    twice_function (with_name y gs) fs ps ms x (goes_on (gs y) y (first_twice (with_name y gs) fs ps ms) e).1 f n
twice_function gs fs ps (DeclaresFunction y ∷ ms) x e f n =
    let k = goes_on (fs y) y (first_twice gs (with_name y fs) (λ q. false) ms) e in
    elim (or_cases (bytes_eq y x) (names_in Functions ms x) n) [
      | inl here ↦ false≢true (sym k.0 ∙ ap fs ((bytes_eq-Decides y x).0 here) ∙ f)
      | inr there ↦ twice_function gs (with_name y fs) (λ q. false) ms x k.1 (or_second (bytes_eq y x) (fs x) f) there
    ]
twice_function gs fs ps (DeclaresParameter y ∷ ms) x e f n =
    twice_function gs fs (with_name y ps) ms x (goes_on (ps y) y (first_twice gs fs (with_name y ps) ms) e).1 f n
twice_function gs fs ps (AssignsLocal y ∷ ms) x e f n = twice_function gs fs ps ms x e f n
twice_function gs fs ps (UsesLocal y ∷ ms) x e f n = twice_function gs fs ps ms x e f n
twice_function gs fs ps (UsesGlobal y ∷ ms) x e f n = twice_function gs fs ps ms x e f n
twice_function gs fs ps (CallsFunction y k ∷ ms) x e f n = twice_function gs fs ps ms x e f n

-- what is declared twice nowhere is not in the rest
twice_after : (gs fs ps : Names) (ms ns : List Mention) → first_twice gs fs ps (ms ++ ns) ≡ None → (gs' : Names) × (fs' : Names) × (ps' : Names) × (first_twice gs' fs' ps' ns ≡ None) × ((x : List ℕ) → fs x ≡ true → fs' x ≡ true)
twice_after gs fs ps [] ns e = (gs, fs, ps, e, λ x f. f)
twice_after gs fs ps (DeclaresGlobal y ∷ ms) ns e =
    twice_after (with_name y gs) fs ps ms ns (goes_on (gs y) y (first_twice (with_name y gs) fs ps (ms ++ ns)) e).1
twice_after gs fs ps (DeclaresFunction y ∷ ms) ns e =
    let t = twice_after gs (with_name y fs) (λ q. false) ms ns (goes_on (fs y) y (first_twice gs (with_name y fs) (λ q. false) (ms ++ ns)) e).1 in
    (t.0, t.1, t.2, t.3, λ x f. t.4 x (or_second (bytes_eq y x) (fs x) f))
twice_after gs fs ps (DeclaresParameter y ∷ ms) ns e =
    twice_after gs fs (with_name y ps) ms ns (goes_on (ps y) y (first_twice gs fs (with_name y ps) (ms ++ ns)) e).1
twice_after gs fs ps (AssignsLocal y ∷ ms) ns e = twice_after gs fs ps ms ns e
twice_after gs fs ps (UsesLocal y ∷ ms) ns e = twice_after gs fs ps ms ns e
twice_after gs fs ps (UsesGlobal y ∷ ms) ns e = twice_after gs fs ps ms ns e
twice_after gs fs ps (CallsFunction y k ∷ ms) ns e = twice_after gs fs ps ms ns e

-- a program with a `main` of one parameter declares it
more_declared : (o : Option (List ℕ)) (known : Names) (x : List ℕ) → known x ≡ true → with_declared o known x ≡ true
more_declared None known x e = e
more_declared (Some y) known x e = or_second (bytes_eq y x) (known x) e

and_first : (a b : Bool) → (a && b) ≡ true → a ≡ true
and_first true b e = refl
and_first false b e = e

names_second : (ms ns : List Mention) (x : List ℕ) → names_in Functions ns x ≡ true → names_in Functions (ms ++ ns) x ≡ true
names_second [] ns x e = e
names_second (m ∷ ms) ns x e =
    more_declared (declared_in Functions m) (names_in Functions (ms ++ ns)) x (names_second ms ns x e)

main_named : (is : List Item) → has_main is ≡ true → names_in Functions (mentions is) (codes "main") ≡ true
main_named [] e = absurd (false≢true e)
main_named (GlobalItem y ∷ is) e = main_named is e
main_named (FunctionItem f ∷ is) e =
    let own : List Mention = map DeclaresParameter f.parameters ++ (block_mentions f.body ++ UsesLocal f.returned ∷ []) in
    let others : Bool = names_in Functions (own ++ mentions is) (codes "main") in
    let same : Bool = bytes_eq f.name (codes "main") in
    elim (or_cases (same && length f.parameters == 1) (has_main is) e) [
      | inl here ↦ or_first same others (and_first same (length f.parameters == 1) here)
      | inr there ↦ or_second same others (names_second own (mentions is) (codes "main") (main_named is there))
    ]

-- the first function of that name has one parameter
main_step : (l : Lowered) (n m own : ℕ) (b c r : Bool) (g : entry.Function) → slice_get l.functions n ≡ Some g → g.params ≡ own → (c ≡ true → own ≡ 1) → (b ≡ true → r ≡ true → ⊥) → (r ≡ true → (x : entry.Function) × (slice_get l.functions (suc n + m) ≡ Some x) × (x.params ≡ 1)) → ((b && c) || r) ≡ true → (x : entry.Function) × (slice_get l.functions (n + (if b then 0 else suc m)) ≡ Some x) × (x.params ≡ 1)
main_step l n m own true c r g there same one never go e =
    elim (or_cases c r e) [
      | inl here ↦ (let z : n + 0 ≡ n = omega arith in
          (g, ap (slice_get l.functions) z ∙ there, same ∙ one here))
      | inr again ↦ absurd (never refl again)
    ]
main_step l n m own false c r g there same one never go e =
    let w = go e in
    let z : n + suc m ≡ suc n + m = omega arith in
    (w.0, ap (slice_get l.functions) z ∙ w.1, w.2)

main_at : (all : List Item) (l : Lowered) (n : ℕ) (is : List Item) (p : Place) (gs fs ps : Names) → AreLoweredFunctions all l n (functions_of is) p → first_twice gs fs ps (mentions is) ≡ None → has_main is ≡ true → (g : entry.Function) × (slice_get l.functions (n + number_of (function_names (functions_of is)) (codes "main")) ≡ Some g) × (g.params ≡ 1)
main_at all l n [] p gs fs ps h e m = absurd (false≢true m)
main_at all l n (GlobalItem y ∷ is) p gs fs ps h e m =
    main_at all l n is p (with_name y gs) fs ps h (goes_on (gs y) y (first_twice (with_name y gs) fs ps (mentions is)) e).1 m
main_at all l n (FunctionItem f ∷ is) p gs fs ps h e m =
    let own : List Mention = map DeclaresParameter f.parameters ++ (block_mentions f.body ++ UsesLocal f.returned ∷ []) in
    let k = goes_on (fs f.name) f.name (first_twice gs (with_name f.name fs) (λ q. false) (own ++ mentions is)) e in
    let t = twice_after gs (with_name f.name fs) (λ q. false) own (mentions is) k.1 in
    main_step l n (number_of (function_names (functions_of is)) (codes "main")) (length f.parameters) (bytes_eq f.name (codes "main")) (length f.parameters == 1) (has_main is) (entry_of f p) h.0.in_table refl (eqb-true (length f.parameters) 1)
    (λ here again. twice_function t.0 t.1 t.2 (mentions is) (codes "main") t.3 (t.4 (codes "main") (or_first (bytes_eq f.name (codes "main")) (fs (codes "main")) here)) (main_named is again))
    (λ again. main_at all l (suc n) is (past_function f p) t.0 t.1 t.2 h.1 t.3 again) m

pub lowering_main : (is : List Item) (l : Lowered) → IsParsed is → IsLowering is l → HasMain l
lowering_main is l p h =
    let w = main_at is l 0 is origin (λ q. false) (λ q. false) (λ q. false) h.bodies p.parses.twice p.parses.main in
    let number : ℕ = number_of (function_names (functions_of is)) (codes "main") in
    let z : l.main ≡ 0 + number = omega (arith, h.main) in
    record { function = w.0; in_table = ap (slice_get l.functions) z ∙ w.1; one_parameter = w.2 }
