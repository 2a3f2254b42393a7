-- A text has a name for each mention of its program. So where no call of the text is found wrong, no mention is a wrong call.
use Rattle.std.proofs.Common.{◌≡◌, ℕ, suc, ◌+◌, ◌≤◌, Bool, true, false, if◌then◌else◌, Option, Some, None, List, [], ◌∷◌, ◌++◌, length, map, refl, ap, arith, length-append}
use Rattle.asl_grammar.specs.declared.token.Mark.TheVariants as mark
use Rattle.asl_grammar.specs.Token.{Token, Fixed, Name, Number, Spot}
use Rattle.asl_grammar.specs.Written as w
use Rattle.asl_grammar.specs.Spelling.{later_names_on, names_on, right_on, line_on, stmt_on, block_on, else_on, function_on, program_on}
use Rattle.asl_grammar.specs.Lex.{tokens_of}
use Rattle.asl_grammar.specs.Grammar.{bare}
use Rattle.asl_syntax.specs.Tree.{Function, Item}
use Rattle.asl_syntax.specs.Spelled.{right_meaning, line_meaning, stmt_meaning, block_meaning, else_meaning, function_meaning, item_meaning}
use Rattle.asl_syntax.specs.Parsed.{IsParsed}
use Rattle.asl_syntax.specs.Mentions.{Mention, DeclaresParameter, UsesLocal, value_mentions, statement_mentions, block_mentions, function_mentions, mentions}
use Rattle.asl_syntax.specs.Rules.{Counts, parameter_counts, is_wrong_call, wrong_call_from, name_place, name_places}
use Rattle.asl_lower.proofs.Named.{Each}

-- how many names stand among tokens
abbrev names_among : List Token → ℕ
names_among [] = 0
names_among (Name x ∷ ts) = suc (names_among ts)
names_among (t ∷ ts) = names_among ts

-- a written program has a name for each mention
later_names_named : (xs : List (List ℕ)) (rest : List Token) → length xs + names_among rest ≤ names_among (later_names_on xs rest)
later_names_named [] rest = omega arith
later_names_named (x ∷ xs) rest = omega (arith, later_names_named xs rest)

names_named : (xs : List (List ℕ)) (rest : List Token) → length xs + names_among rest ≤ names_among (names_on xs rest)
names_named [] rest = omega arith
names_named (x ∷ xs) rest = omega (arith, later_names_named xs rest)

right_named : (r : w.Right) (rest : List Token) → length (value_mentions (right_meaning r)) + names_among rest ≤ names_among (right_on r rest)
right_named (w.Literal true n) rest = omega arith
right_named (w.Literal false n) rest = omega arith
right_named w.NullValue rest = omega arith
right_named (w.Copied y) rest = omega arith
right_named (w.Binary y o z) rest = omega arith
right_named (w.GlobalAddress y) rest = omega arith
right_named (w.FieldAddress y n) rest = omega arith
right_named (w.Loaded y) rest = omega arith
right_named (w.Created n) rest = omega arith

as_many : (f : List ℕ → Mention) (xs : List (List ℕ)) → length (map f xs) ≡ length xs
as_many f [] = refl
as_many f (x ∷ xs) = ap suc (as_many f xs)

line_named : (l : w.Line) (rest : List Token) → length (statement_mentions (line_meaning l)) + names_among rest ≤ names_among (line_on l rest)
line_named (w.Assigns x r) rest = omega (arith, right_named r rest)
line_named (w.Calls x f args) rest =
    omega (arith, as_many UsesLocal args, names_named args (Fixed mark.CloseParen ∷ rest))
line_named (w.Stores x y) rest = omega arith
line_named (w.Shows x) rest = omega arith

mutual
  stmt_named : (s : w.Stmt) (rest : List Token) → length (statement_mentions (stmt_meaning s)) + names_among rest ≤ names_among (stmt_on s rest)
  stmt_named (w.Simple l) rest = omega (arith, line_named l (Fixed mark.Semicolon ∷ rest))
  stmt_named (w.IfStmt x a e) rest =
      omega (arith, length-append (block_mentions (block_meaning a)) (block_mentions (else_meaning e)), block_named_on a (Fixed mark.CloseBrace ∷ else_on e rest), else_named e rest)
  stmt_named (w.WhileStmt x a) rest = omega (arith, block_named_on a (Fixed mark.CloseBrace ∷ rest))
  stmt_named (w.AtomicStmt a) rest = omega (arith, block_named_on a (Fixed mark.CloseBrace ∷ rest))

  block_named_on : (b : w.Block) (rest : List Token) → length (block_mentions (block_meaning b)) + names_among rest ≤ names_among (block_on b rest)
  block_named_on w.End rest = omega arith
  block_named_on (w.More s b) rest =
      omega (arith, length-append (statement_mentions (stmt_meaning s)) (block_mentions (block_meaning b)), stmt_named s (block_on b rest), block_named_on b rest)

  else_named : (e : w.Else) (rest : List Token) → length (block_mentions (else_meaning e)) + names_among rest ≤ names_among (else_on e rest)
  else_named w.NoElse rest = omega arith
  else_named (w.Otherwise b) rest = omega (arith, block_named_on b (Fixed mark.CloseBrace ∷ rest))

function_named : (f : w.Function) (rest : List Token) → length (function_mentions (function_meaning f)) + names_among rest ≤ names_among (function_on f rest)
function_named f rest =
    let g : Function = function_meaning f in
    let last : List Mention = UsesLocal f.returned ∷ [] in
    let own : List Mention = block_mentions g.body ++ last in
    let tail : List Token = Fixed mark.Return ∷ Name f.returned ∷ Fixed mark.Semicolon ∷ Fixed mark.CloseBrace ∷ rest in
    let head : List Token = Fixed mark.CloseParen ∷ Fixed mark.OpenBrace ∷ block_on f.body tail in
    omega (arith, as_many DeclaresParameter f.parameters, length-append (map DeclaresParameter f.parameters) own, length-append (block_mentions g.body) last, names_named f.parameters head, block_named_on f.body tail)

items_named : (is : List w.Item) → length (mentions (map item_meaning is)) ≤ names_among (program_on is [])
items_named [] = omega arith
items_named (w.GlobalItem x ∷ is) = omega (arith, items_named is)
items_named (w.FunctionItem f ∷ is) =
    omega (arith, items_named is, function_named f (program_on is []), length-append (function_mentions (function_meaning f)) (mentions (map item_meaning is)))

placed_name : (t : Token) (at : ℕ) (places : List ℕ) (ts : List Token) → length places ≡ names_among ts → length (name_place t at places) ≡ names_among (t ∷ ts)
placed_name (Name x) at places ts e = ap suc e
placed_name (Fixed m) at places ts e = e
placed_name (Number n) at places ts e = e

names_placed : (ss : List Spot) → length (name_places ss) ≡ names_among (bare ss)
names_placed [] = refl
names_placed (s ∷ ss) = placed_name s.token s.at (name_places ss) (bare ss) (names_placed ss)

-- no call is wrong
call_step : (b : Bool) (at : ℕ) (o : Option ℕ) → (if b then Some at else o) ≡ None → (b ≡ false) × (o ≡ None)
call_step true at o e = absurd cc
call_step false at o e = (refl, e)

no_wrong_call : (counts : Counts) (ms : List Mention) (places : List ℕ) → wrong_call_from counts ms places ≡ None → length ms ≤ length places → Each (λ m. is_wrong_call counts m ≡ false) ms
no_wrong_call counts [] places e low = tt
no_wrong_call counts (m ∷ ms) [] e low = absurd (omega arith)
no_wrong_call counts (m ∷ ms) (at ∷ places) e low =
    let k = call_step (is_wrong_call counts m) at (wrong_call_from counts ms places) e in
    (k.0, no_wrong_call counts ms places k.1 (omega arith))

pub right_calls : (is : List Item) → IsParsed is → Each (λ m. is_wrong_call (parameter_counts is) m ≡ false) (mentions is)
right_calls is p =
    let s = p.parses.spelled.spelled in
    let ss : List Spot = tokens_of p.text in
    no_wrong_call (parameter_counts is) (mentions is) (name_places ss) p.parses.arity
    (omega (arith, items_named s.written, names_placed ss, ap names_among s.spelled, ap (λ (t : List Item). length (mentions t)) s.meaning))
