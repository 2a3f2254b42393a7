-- Where a line ends in a text, how many tokens a statement has, and that none begins with `else`.
use Rattle.std.proofs.Common.{◌≡◌, ℕ, suc, ◌+◌, Bool, true, false, cond, List, [], ◌∷◌, ◌++◌, length, drop, refl, ap, ◌∙◌, arith, length-append}
use Rattle.asl_grammar.specs.declared.token.Mark.TheVariants as mark
use Rattle.asl_grammar.specs.declared.control.Operator.TheVariants.{Add, Subtract, IsLess, IsEqual}
use Rattle.asl_grammar.specs.Token.{Token, Fixed, Name, Spot}
use Rattle.asl_grammar.specs.Grammar.{bare}
use Rattle.asl_grammar.specs.Written as w
use Rattle.asl_grammar.specs.Spelling.{later_names_on, names_on, line_on, stmt_on, block_on, else_on}
use Rattle.asl_syntax.specs.Spelled.{line_meaning}
use Rattle.asl_map.specs.Pieces.{first_place}
use Rattle.asl_map.specs.Taken.{is_end, end_place, past_end, is_else_token, is_else}
use Rattle.asl_map.specs.Walked.{stmt_rest}

-- ---- tokens up to the first semicolon or opening brace

-- none of these is one
abbrev pub no_end : List Token → Type 0
no_end [] = Unit {0}
no_end (t ∷ ts) = (is_end t ≡ false) × no_end ts

pub record Ends (front ts : List Token) (ss : List Spot) : Type 0 where
  pub past : past_end ss ≡ drop (suc (length front)) ss
  pub place : end_place ss ≡ first_place (drop (length front) ss) + 1
  pub left : bare (past_end ss) ≡ ts

pub ends : (front : List Token) (t : Token) (ts : List Token) (ss : List Spot) → no_end front → is_end t ≡ true → bare ss ≡ front ++ t ∷ ts → Ends front ts ss
ends [] t ts [] none is e = absurd cc
ends (u ∷ front) t ts [] none is e = absurd cc
ends [] t ts (s ∷ ss) none is e =
    let first : s.token ≡ t = cc in
    let rest : bare ss ≡ ts = cc in
    let here : is_end s.token ≡ true = ap is_end first ∙ is in
    record {
      past = ap (λ (b : Bool). cond b ss (past_end ss)) here;
      place = ap (λ (b : Bool). cond b (s.at + 1) (end_place ss)) here;
      left = ap (λ (b : Bool). bare (cond b ss (past_end ss))) here ∙ rest;
    }
ends (u ∷ front) t ts (s ∷ ss) none is e =
    let first : s.token ≡ u = cc in
    let rest : bare ss ≡ front ++ t ∷ ts = cc in
    let here : is_end s.token ≡ false = ap is_end first ∙ none.0 in
    let later = ends front t ts ss none.1 is rest in
    record {
      past = ap (λ (b : Bool). cond b ss (past_end ss)) here ∙ later.past;
      place = ap (λ (b : Bool). cond b (s.at + 1) (end_place ss)) here ∙ later.place;
      left = ap (λ (b : Bool). bare (cond b ss (past_end ss))) here ∙ later.left;
    }

-- ---- lines

later_on : (xs : List (List ℕ)) (rest : List Token) → later_names_on xs (Fixed mark.CloseParen ∷ rest) ≡ later_names_on xs (Fixed mark.CloseParen ∷ []) ++ rest
later_on [] rest = refl
later_on (x ∷ xs) rest = ap (λ (ts : List Token). Fixed mark.Comma ∷ Name x ∷ ts) (later_on xs rest)

pub names_on_append : (xs : List (List ℕ)) (rest : List Token) → names_on xs (Fixed mark.CloseParen ∷ rest) ≡ names_on xs (Fixed mark.CloseParen ∷ []) ++ rest
names_on_append [] rest = refl
names_on_append (x ∷ xs) rest = ap (λ (ts : List Token). Name x ∷ ts) (later_on xs rest)

later_none : (xs : List (List ℕ)) → no_end (later_names_on xs (Fixed mark.CloseParen ∷ []))
later_none [] = (refl, tt)
later_none (x ∷ xs) = (refl, (refl, later_none xs))

pub names_none : (xs : List (List ℕ)) → no_end (names_on xs (Fixed mark.CloseParen ∷ []))
names_none [] = (refl, tt)
names_none (x ∷ xs) = (refl, later_none xs)

line_on_append : (l : w.Line) (rest : List Token) → line_on l rest ≡ line_on l [] ++ rest
line_on_append (w.Assigns x (w.Literal true n)) rest = refl
line_on_append (w.Assigns x (w.Literal false n)) rest = refl
line_on_append (w.Assigns x w.NullValue) rest = refl
line_on_append (w.Assigns x (w.Copied y)) rest = refl
line_on_append (w.Assigns x (w.Binary y o z)) rest = refl
line_on_append (w.Assigns x (w.GlobalAddress y)) rest = refl
line_on_append (w.Assigns x (w.FieldAddress y n)) rest = refl
line_on_append (w.Assigns x (w.Loaded y)) rest = refl
line_on_append (w.Assigns x (w.Created n)) rest = refl
line_on_append (w.Calls x f args) rest =
    ap (λ (ts : List Token). Name x ∷ Fixed mark.Becomes ∷ Name f ∷ Fixed mark.OpenParen ∷ ts) (names_on_append args rest)
line_on_append (w.Stores x y) rest = refl
line_on_append (w.Shows x) rest = refl

line_none : (l : w.Line) → no_end (line_on l [])
line_none (w.Assigns x (w.Literal true n)) = (refl, (refl, (refl, (refl, tt))))
line_none (w.Assigns x (w.Literal false n)) = (refl, (refl, (refl, tt)))
line_none (w.Assigns x w.NullValue) = (refl, (refl, (refl, tt)))
line_none (w.Assigns x (w.Copied y)) = (refl, (refl, (refl, tt)))
line_none (w.Assigns x (w.Binary y Add z)) = (refl, (refl, (refl, (refl, (refl, tt)))))
line_none (w.Assigns x (w.Binary y Subtract z)) = (refl, (refl, (refl, (refl, (refl, tt)))))
line_none (w.Assigns x (w.Binary y IsLess z)) = (refl, (refl, (refl, (refl, (refl, tt)))))
line_none (w.Assigns x (w.Binary y IsEqual z)) = (refl, (refl, (refl, (refl, (refl, tt)))))
line_none (w.Assigns x (w.GlobalAddress y)) = (refl, (refl, (refl, (refl, tt))))
line_none (w.Assigns x (w.FieldAddress y n)) = (refl, (refl, (refl, (refl, (refl, (refl, (refl, tt)))))))
line_none (w.Assigns x (w.Loaded y)) = (refl, (refl, (refl, (refl, tt))))
line_none (w.Assigns x (w.Created n)) = (refl, (refl, (refl, (refl, tt))))
line_none (w.Calls x f args) = (refl, (refl, (refl, (refl, names_none args))))
line_none (w.Stores x y) = (refl, (refl, (refl, (refl, tt))))
line_none (w.Shows x) = (refl, (refl, tt))

pub line_ends : (l : w.Line) (ts : List Token) (ss : List Spot) → bare ss ≡ stmt_on (w.Simple l) ts → Ends (line_on l []) ts ss
line_ends l ts ss e =
    ends (line_on l []) (Fixed mark.Semicolon) ts ss (line_none l) refl (e ∙ line_on_append l (Fixed mark.Semicolon ∷ ts))

pub line_rest : (l : w.Line) (ss : List Spot) → stmt_rest (line_meaning l) ss ≡ past_end ss
line_rest (w.Assigns x r) ss = refl
line_rest (w.Calls x f args) ss = refl
line_rest (w.Stores x y) ss = refl
line_rest (w.Shows x) ss = refl

-- ---- how many tokens

pub line_count : (l : w.Line) (rest : List Token) → length (line_on l rest) ≡ length (line_on l []) + length rest
line_count l rest = ap length (line_on_append l rest) ∙ length-append (line_on l []) rest

mutual
  pub stmt_count : (s : w.Stmt) (ts : List Token) → length (stmt_on s ts) ≡ length (stmt_on s []) + length ts
  stmt_count (w.Simple l) ts =
      omega (arith, line_count l (Fixed mark.Semicolon ∷ ts), line_count l (Fixed mark.Semicolon ∷ []))
  stmt_count (w.IfStmt x a e) ts =
      omega (arith, block_count a (Fixed mark.CloseBrace ∷ else_on e ts), block_count a (Fixed mark.CloseBrace ∷ else_on e []), else_count e ts)
  stmt_count (w.WhileStmt x a) ts =
      omega (arith, block_count a (Fixed mark.CloseBrace ∷ ts), block_count a (Fixed mark.CloseBrace ∷ []))
  stmt_count (w.AtomicStmt a) ts =
      omega (arith, block_count a (Fixed mark.CloseBrace ∷ ts), block_count a (Fixed mark.CloseBrace ∷ []))

  pub block_count : (b : w.Block) (ts : List Token) → length (block_on b ts) ≡ length (block_on b []) + length ts
  block_count w.End ts = omega arith
  block_count (w.More s b) ts =
      omega (arith, stmt_count s (block_on b ts), stmt_count s (block_on b []), block_count b ts)

  pub else_count : (e : w.Else) (ts : List Token) → length (else_on e ts) ≡ length (else_on e []) + length ts
  else_count w.NoElse ts = omega arith
  else_count (w.Otherwise b) ts =
      omega (arith, block_count b (Fixed mark.CloseBrace ∷ ts), block_count b (Fixed mark.CloseBrace ∷ []))

-- ---- what begins with `else`

abbrev pub starts_else : List Token → Bool
starts_else [] = false
starts_else (t ∷ ts) = is_else_token t

pub is_else_bare : (ss : List Spot) → is_else ss ≡ starts_else (bare ss)
is_else_bare [] = refl
is_else_bare (s ∷ ss) = refl

line_no_else : (l : w.Line) (ts : List Token) → starts_else (line_on l ts) ≡ false
line_no_else (w.Assigns x r) ts = refl
line_no_else (w.Calls x f args) ts = refl
line_no_else (w.Stores x y) ts = refl
line_no_else (w.Shows x) ts = refl

stmt_no_else : (s : w.Stmt) (ts : List Token) → starts_else (stmt_on s ts) ≡ false
stmt_no_else (w.Simple l) ts = line_no_else l (Fixed mark.Semicolon ∷ ts)
stmt_no_else (w.IfStmt x a e) ts = refl
stmt_no_else (w.WhileStmt x a) ts = refl
stmt_no_else (w.AtomicStmt a) ts = refl

pub block_no_else : (b : w.Block) (ts : List Token) → starts_else ts ≡ false → starts_else (block_on b ts) ≡ false
block_no_else w.End ts none = none
block_no_else (w.More s b) ts none = stmt_no_else s (block_on b ts)
