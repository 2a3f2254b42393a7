-- The blocks of a tree stand in one another at most 63 deep exactly where at most 64 braces are open at once.
use Rattle.std.proofs.Common.{◌≡◌, ◌↔◌, ℕ, suc, ◌+◌, ◌<◌, ◌≤◌, max, List, [], ◌∷◌, true, false, map, refl, arith}
use Rattle.std.specs.List.{AllByRecursion}
use Rattle.asl_grammar.specs.declared.token.Mark.TheVariants as mark
use Rattle.asl_grammar.specs.declared.control.Operator.TheVariants.{Add, Subtract, IsLess, IsEqual}
use Rattle.asl_grammar.specs.Token.{Token, Fixed}
use Rattle.asl_grammar.specs.Written as w
use Rattle.asl_grammar.specs.Spelling.{later_names_on, names_on, line_on, stmt_on, block_on, else_on, program_on}
use Rattle.asl_syntax.specs.Tree.{Function, functions_of}
use Rattle.asl_syntax.specs.Spelled.{line_meaning, stmt_meaning, block_meaning, else_meaning, item_meaning}
use Rattle.asl_syntax.specs.WithinLimits.{statement_depth, block_depth}
use Rattle.asl_syntax.proofs.EachLimit.{BracesPass}
use Rattle.asl_syntax.proofs.LimitCounts.{after_body}

-- ---- lines

later_names_pass : (xs : List (List ℕ)) (rest : List Token) (n : ℕ) → BracesPass (later_names_on xs rest) n ↔ BracesPass rest n
later_names_pass [] rest n = (λ h. h, λ h. h)
later_names_pass (x ∷ xs) rest n = later_names_pass xs rest n

names_pass : (xs : List (List ℕ)) (rest : List Token) (n : ℕ) → BracesPass (names_on xs rest) n ↔ BracesPass rest n
names_pass [] rest n = (λ h. h, λ h. h)
names_pass (x ∷ xs) rest n = later_names_pass xs rest n

line_passes : (l : w.Line) (rest : List Token) (n : ℕ) → BracesPass (line_on l (Fixed mark.Semicolon ∷ rest)) n ↔ BracesPass rest n
line_passes (w.Assigns x (w.Literal true k)) rest n = (λ h. h, λ h. h)
line_passes (w.Assigns x (w.Literal false k)) rest n = (λ h. h, λ h. h)
line_passes (w.Assigns x w.NullValue) rest n = (λ h. h, λ h. h)
line_passes (w.Assigns x (w.Copied y)) rest n = (λ h. h, λ h. h)
line_passes (w.Assigns x (w.Binary y Add z)) rest n = (λ h. h, λ h. h)
line_passes (w.Assigns x (w.Binary y Subtract z)) rest n = (λ h. h, λ h. h)
line_passes (w.Assigns x (w.Binary y IsLess z)) rest n = (λ h. h, λ h. h)
line_passes (w.Assigns x (w.Binary y IsEqual z)) rest n = (λ h. h, λ h. h)
line_passes (w.Assigns x (w.GlobalAddress y)) rest n = (λ h. h, λ h. h)
line_passes (w.Assigns x (w.FieldAddress y k)) rest n = (λ h. h, λ h. h)
line_passes (w.Assigns x (w.Loaded y)) rest n = (λ h. h, λ h. h)
line_passes (w.Assigns x (w.Created k)) rest n = (λ h. h, λ h. h)
line_passes (w.Calls x f args) rest n = names_pass args (Fixed mark.CloseParen ∷ Fixed mark.Semicolon ∷ rest) n
line_passes (w.Stores x y) rest n = (λ h. h, λ h. h)
line_passes (w.Shows x) rest n = (λ h. h, λ h. h)

line_depth : (l : w.Line) → statement_depth (line_meaning l) ≡ 0
line_depth (w.Assigns x r) = refl
line_depth (w.Calls x f args) = refl
line_depth (w.Stores x y) = refl
line_depth (w.Shows x) = refl

-- ---- statements

-- within n braces, tokens before others open at most d more at once
abbrev Opens : ℕ → ℕ → List Token → List Token → Type 0
Opens n d ts rest = BracesPass ts n ↔ ((n + d ≤ 64) × BracesPass rest n)

none_opened : (n : ℕ) (rest : List Token) → n ≤ 64 → Opens n 0 rest rest
none_opened n rest low = (λ h. (omega (arith, low), h), λ h. h.1)

-- a block and its closing brace
inside : (n d : ℕ) (ts rest : List Token) → (suc n ≤ 64 → Opens (suc n) d ts (Fixed mark.CloseBrace ∷ rest)) → Opens n (suc d) (Fixed mark.OpenBrace ∷ ts) rest
inside n d ts rest p = (
  λ h. (let k = (p (omega (arith, h.0))).0 h.1 in (omega (arith, k.0), k.1)),
  λ h. (let low : n < 64 = omega (arith, h.0) in (low, (p (omega (arith, low))).1 (omega (arith, h.0), h.1))),
)

-- one part and another after it
both_open : (n a b : ℕ) (ts us rest : List Token) → Opens n a ts us → Opens n b us rest → Opens n (max a b) ts rest
both_open n a b ts us rest p q = (
  λ h. (let k = p.0 h in let m = q.0 k.1 in (omega (arith, k.0, m.0), m.1)),
  λ h. p.1 (omega (arith, h.0), q.1 (omega (arith, h.0), h.1)),
)

abbrev BlockOpens : w.Block → Type 0
BlockOpens b =
    (rest : List Token) (n : ℕ) → n ≤ 64 → Opens n (block_depth (block_meaning b)) (block_on b rest) rest

in_braces : (b : w.Block) (rest : List Token) (n : ℕ) → BlockOpens b → Opens n (suc (block_depth (block_meaning b))) (Fixed mark.OpenBrace ∷ block_on b (Fixed mark.CloseBrace ∷ rest)) rest
in_braces b rest n p =
    inside n (block_depth (block_meaning b)) (block_on b (Fixed mark.CloseBrace ∷ rest)) rest (p (Fixed mark.CloseBrace ∷ rest) (suc n))

mutual
  stmt_opens : (s : w.Stmt) (rest : List Token) (n : ℕ) → n ≤ 64 → Opens n (statement_depth (stmt_meaning s)) (stmt_on s rest) rest
  stmt_opens (w.Simple l) rest n low =
      let k = line_passes l rest n in
      (λ h. (omega (arith, low, line_depth l), k.0 h), λ h. k.1 h.1)
  stmt_opens (w.IfStmt x a e) rest n low =
      let k = in_braces a (else_on e rest) n (block_opens a) in
      let m = else_opens e rest n in (
        λ h. (let p = k.0 h in let q = (m (omega (arith, p.0))).0 p.1 in (omega (arith, p.0, q.0), q.1)),
        λ h. (let less : n < 64 = omega (arith, h.0) in k.1 (omega (arith, h.0), (m less).1 (omega (arith, h.0), h.1))),
      )
  stmt_opens (w.WhileStmt x a) rest n low = in_braces a rest n (block_opens a)
  stmt_opens (w.AtomicStmt a) rest n low = in_braces a rest n (block_opens a)

  block_opens : (b : w.Block) → BlockOpens b
  block_opens w.End rest n low = none_opened n rest low
  block_opens (w.More s b) rest n low =
      both_open n (statement_depth (stmt_meaning s)) (block_depth (block_meaning b)) (stmt_on s (block_on b rest)) (block_on b rest) rest (stmt_opens s (block_on b rest) n low) (block_opens b rest n low)

  -- after a block, which has opened one already
  else_opens : (e : w.Else) (rest : List Token) (n : ℕ) → n < 64 → Opens n (suc (block_depth (else_meaning e))) (else_on e rest) rest
  else_opens w.NoElse rest n low = (λ h. (omega (arith, low), h), λ h. h.1)
  else_opens (w.Otherwise b) rest n low = in_braces b rest n (block_opens b)

-- ---- items

pub blocks_in_one_another : (is : List w.Item) → BracesPass (program_on is []) 0 ↔ AllByRecursion (λ (f : Function). block_depth f.body ≤ 63) (functions_of (map item_meaning is))
blocks_in_one_another [] = (λ h. h, λ h. h)
blocks_in_one_another (w.GlobalItem x ∷ is) = blocks_in_one_another is
blocks_in_one_another (w.FunctionItem f ∷ is) =
    let k = blocks_in_one_another is in
    let after = after_body f.returned (program_on is []) in
    let h = names_pass f.parameters (Fixed mark.CloseParen ∷ Fixed mark.OpenBrace ∷ block_on f.body after) 0 in
    let b = block_opens f.body after 1 (omega arith) in (
      λ e. (let p = b.0 (h.0 e).1 in (omega (arith, p.0), k.0 p.1)),
      λ e. h.1 (omega arith, b.1 (omega (arith, e.0), k.1 e.1)),
    )
