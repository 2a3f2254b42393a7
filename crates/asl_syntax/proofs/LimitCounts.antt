-- The functions, the globals and the sections of a tree, counted among its tokens; and a block has no parameters.
use Rattle.std.proofs.Common.{◌≡◌, ◌↔◌, ℕ, suc, ◌+◌, ◌<◌, ◌≤◌, List, [], ◌∷◌, true, false, None, Some, length, map, refl, ap, ◌∙◌, arith}
use Rattle.std.specs.List.{AllByRecursion}
use Rattle.asl_grammar.specs.declared.token.Mark.TheVariants as mark
use Rattle.asl_grammar.specs.declared.control.Operator.TheVariants.{Add, Subtract, IsLess, IsEqual}
use Rattle.asl_grammar.specs.Token.{Token, Fixed, Name}
use Rattle.asl_grammar.specs.Written as w
use Rattle.asl_grammar.specs.Spelling.{later_names_on, names_on, line_on, stmt_on, block_on, else_on, program_on}
use Rattle.asl_syntax.specs.Tree.{Function, globals_of, functions_of}
use Rattle.asl_syntax.specs.Spelled.{line_meaning, stmt_meaning, block_meaning, else_meaning, item_meaning}
use Rattle.asl_syntax.specs.Limit.{functions_in, globals_in, atomics_in}
use Rattle.asl_syntax.specs.WithinLimits.{statement_sections, block_sections, sections_in}
use Rattle.asl_syntax.proofs.EachLimit.{HeadsPass}

-- tokens before others have so many `atomic`, and are no items
record Adds (n : ℕ) (ts rest : List Token) : Type 0 where
  functions : functions_in ts ≡ functions_in rest
  globals : globals_in ts ≡ globals_in rest
  atomics : atomics_in ts ≡ n + atomics_in rest
  heads : HeadsPass ts None ↔ HeadsPass rest None

both_same : {A : Type 0} → A ↔ A
both_same {A} = (λ h. h, λ h. h)

nothing : (rest : List Token) → Adds 0 rest rest
nothing rest = record { functions = refl; globals = refl; atomics = omega arith; heads = both_same }

-- ---- lines

later_names_add : (xs : List (List ℕ)) (rest : List Token) → Adds 0 (later_names_on xs rest) rest
later_names_add [] rest = nothing rest
later_names_add (x ∷ xs) rest =
    let k = later_names_add xs rest in
    record { functions = k.functions; globals = k.globals; atomics = k.atomics; heads = k.heads }

names_add : (xs : List (List ℕ)) (rest : List Token) → Adds 0 (names_on xs rest) rest
names_add [] rest = nothing rest
names_add (x ∷ xs) rest =
    let k = later_names_add xs rest in
    record { functions = k.functions; globals = k.globals; atomics = k.atomics; heads = k.heads }

line_adds : (l : w.Line) (rest : List Token) → Adds (statement_sections (line_meaning l)) (line_on l (Fixed mark.Semicolon ∷ rest)) rest
line_adds (w.Assigns x (w.Literal true n)) rest =
    record { functions = refl; globals = refl; atomics = omega arith; heads = both_same }
line_adds (w.Assigns x (w.Literal false n)) rest =
    record { functions = refl; globals = refl; atomics = omega arith; heads = both_same }
line_adds (w.Assigns x w.NullValue) rest =
    record { functions = refl; globals = refl; atomics = omega arith; heads = both_same }
line_adds (w.Assigns x (w.Copied y)) rest =
    record { functions = refl; globals = refl; atomics = omega arith; heads = both_same }
line_adds (w.Assigns x (w.Binary y Add z)) rest =
    record { functions = refl; globals = refl; atomics = omega arith; heads = both_same }
line_adds (w.Assigns x (w.Binary y Subtract z)) rest =
    record { functions = refl; globals = refl; atomics = omega arith; heads = both_same }
line_adds (w.Assigns x (w.Binary y IsLess z)) rest =
    record { functions = refl; globals = refl; atomics = omega arith; heads = both_same }
line_adds (w.Assigns x (w.Binary y IsEqual z)) rest =
    record { functions = refl; globals = refl; atomics = omega arith; heads = both_same }
line_adds (w.Assigns x (w.GlobalAddress y)) rest =
    record { functions = refl; globals = refl; atomics = omega arith; heads = both_same }
line_adds (w.Assigns x (w.FieldAddress y n)) rest =
    record { functions = refl; globals = refl; atomics = omega arith; heads = both_same }
line_adds (w.Assigns x (w.Loaded y)) rest =
    record { functions = refl; globals = refl; atomics = omega arith; heads = both_same }
line_adds (w.Assigns x (w.Created n)) rest =
    record { functions = refl; globals = refl; atomics = omega arith; heads = both_same }
line_adds (w.Calls x f args) rest =
    let k = names_add args (Fixed mark.CloseParen ∷ Fixed mark.Semicolon ∷ rest) in
    record { functions = k.functions; globals = k.globals; atomics = k.atomics; heads = k.heads }
line_adds (w.Stores x y) rest = record { functions = refl; globals = refl; atomics = omega arith; heads = both_same }
line_adds (w.Shows x) rest = record { functions = refl; globals = refl; atomics = omega arith; heads = both_same }

-- ---- statements

one_then : {A B C : Type 0} → A ↔ B → B ↔ C → A ↔ C
one_then p q = (λ a. q.0 (p.0 a), λ c. p.1 (q.1 c))

mutual
  stmt_adds : (s : w.Stmt) (rest : List Token) → Adds (statement_sections (stmt_meaning s)) (stmt_on s rest) rest
  stmt_adds (w.Simple l) rest = line_adds l rest
  stmt_adds (w.IfStmt x a e) rest =
      let h = block_adds a (Fixed mark.CloseBrace ∷ else_on e rest) in
      let k = else_adds e rest in
      record {
        functions = h.functions ∙ k.functions;
        globals = h.globals ∙ k.globals;
        atomics = omega (arith, h.atomics, k.atomics);
        heads = one_then h.heads k.heads;
      }
  stmt_adds (w.WhileStmt x a) rest =
      let h = block_adds a (Fixed mark.CloseBrace ∷ rest) in
      record { functions = h.functions; globals = h.globals; atomics = h.atomics; heads = h.heads }
  stmt_adds (w.AtomicStmt a) rest =
      let h = block_adds a (Fixed mark.CloseBrace ∷ rest) in
      record { functions = h.functions; globals = h.globals; atomics = omega (arith, h.atomics); heads = h.heads }

  block_adds : (b : w.Block) (rest : List Token) → Adds (block_sections (block_meaning b)) (block_on b rest) rest
  block_adds w.End rest = nothing rest
  block_adds (w.More s b) rest =
      let h = stmt_adds s (block_on b rest) in
      let k = block_adds b rest in
      record {
        functions = h.functions ∙ k.functions;
        globals = h.globals ∙ k.globals;
        atomics = omega (arith, h.atomics, k.atomics);
        heads = one_then h.heads k.heads;
      }

  else_adds : (e : w.Else) (rest : List Token) → Adds (block_sections (else_meaning e)) (else_on e rest) rest
  else_adds w.NoElse rest = nothing rest
  else_adds (w.Otherwise b) rest =
      let h = block_adds b (Fixed mark.CloseBrace ∷ rest) in
      record { functions = h.functions; globals = h.globals; atomics = h.atomics; heads = h.heads }

-- ---- parameters

later_parameters : (xs : List (List ℕ)) (n : ℕ) (rest : List Token) → n ≤ 5 → HeadsPass (later_names_on xs (Fixed mark.CloseParen ∷ rest)) (Some n) ↔ ((n + length xs ≤ 5) × HeadsPass rest None)
later_parameters [] n rest low = (λ h. (omega (arith, low), h), λ h. h.1)
later_parameters (x ∷ xs) n rest low = (
  λ h. (let k = (later_parameters xs (suc n) rest (omega (arith, h.0))).0 h.1 in (omega (arith, k.0), k.1)),
  λ h. (let less : n < 5 = omega (arith, h.0) in (less, (later_parameters xs (suc n) rest (omega (arith, less))).1 (omega (arith, h.0), h.1))),
)

parameters : (xs : List (List ℕ)) (rest : List Token) → HeadsPass (names_on xs (Fixed mark.CloseParen ∷ rest)) (Some 1) ↔ ((length xs ≤ 4) × HeadsPass rest None)
parameters [] rest = (λ h. (omega arith, h), λ h. h.1)
parameters (x ∷ xs) rest =
    let k = later_parameters xs 2 rest (omega arith) in
    (λ h. (let p = k.0 h.1 in (omega (arith, p.0), p.1)), λ h. (omega arith, k.1 (omega (arith, h.0), h.1)))

-- ---- items

-- what stands after the statements of a function
abbrev pub after_body : List ℕ → List Token → List Token
after_body x rest = Fixed mark.Return ∷ Name x ∷ Fixed mark.Semicolon ∷ Fixed mark.CloseBrace ∷ rest

-- as many as the tree has
pub record Counted (is : List w.Item) : Type 0 where
  pub functions : functions_in (program_on is []) ≡ length (functions_of (map item_meaning is))
  pub globals : globals_in (program_on is []) ≡ length (globals_of (map item_meaning is))
  pub sections : atomics_in (program_on is []) ≡ sections_in (map item_meaning is)

pub counted : (is : List w.Item) → Counted is
counted [] = record { functions = refl; globals = refl; sections = refl }
counted (w.GlobalItem x ∷ is) =
    let k = counted is in
    record { functions = k.functions; globals = ap suc k.globals; sections = k.sections }
counted (w.FunctionItem f ∷ is) =
    let k = counted is in
    let after = after_body f.returned (program_on is []) in
    let h = names_add f.parameters (Fixed mark.CloseParen ∷ Fixed mark.OpenBrace ∷ block_on f.body after) in
    let b = block_adds f.body after in
    record {
      functions = ap suc (h.functions ∙ b.functions ∙ k.functions);
      globals = h.globals ∙ b.globals ∙ k.globals;
      sections = omega (arith, h.atomics, b.atomics, k.sections);
    }

-- functions have at most four parameters exactly where no head has a fifth
pub few_parameters : (is : List w.Item) → HeadsPass (program_on is []) None ↔ AllByRecursion (λ (f : Function). length f.parameters ≤ 4) (functions_of (map item_meaning is))
few_parameters [] = both_same
few_parameters (w.GlobalItem x ∷ is) = few_parameters is
few_parameters (w.FunctionItem f ∷ is) =
    let k = few_parameters is in
    let after = after_body f.returned (program_on is []) in
    let h = parameters f.parameters (Fixed mark.OpenBrace ∷ block_on f.body after) in
    let b = block_adds f.body after in
    (λ e. (let p = h.0 e.1 in (p.0, k.0 (b.heads.0 p.1))), λ e. (omega arith, h.1 (e.0, b.heads.1 (k.1 e.1))))
