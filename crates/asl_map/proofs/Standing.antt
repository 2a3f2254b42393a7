-- Where in a text a statement ends: the walk finds the tokens after those that the grammar gives it.
use Rattle.std.proofs.Common.{◌≡◌, ℕ, suc, ◌+◌, Bool, false, cond, List, [], ◌∷◌, length, drop, refl, sym, ap, ◌∙◌, subst, arith, drop-drop}
use Rattle.asl_grammar.specs.declared.token.Mark.TheVariants as mark
use Rattle.asl_grammar.specs.Token.{Token, Fixed, Name, Spot}
use Rattle.asl_grammar.specs.Grammar.{bare}
use Rattle.asl_grammar.specs.Written as w
use Rattle.asl_grammar.specs.Spelling.{line_on, stmt_on, block_on, else_on}
use Rattle.asl_syntax.specs.Spelled.{line_meaning, stmt_meaning, block_meaning, else_meaning}
use Rattle.asl_map.specs.Taken.{past_end}
use Rattle.asl_map.specs.Walked.{past_no_else, stmt_rest, block_rest, else_rest}
use Rattle.asl_map.proofs.StatementTokens.{Ends, ends, line_ends, line_rest, line_count, stmt_count, block_count, starts_else, is_else_bare, block_no_else}

-- what is left is what stands after so many tokens, and begins with these
pub record Left (n : ℕ) (ts : List Token) (ss rest : List Spot) : Type 0 where
  pub behind : rest ≡ drop n ss
  pub tokens : bare rest ≡ ts

-- what is left after one part and the next
pub left_more : (m n k : ℕ) (us ts : List Token) (ss mid rest : List Spot) → m + n ≡ k → Left m us ss mid → Left n ts mid rest → Left k ts ss rest
left_more m n k us ts ss mid rest sum a b =
    record {
      behind = b.behind ∙ ap (drop n) a.behind ∙ drop-drop n m ss ∙ ap (λ (i : ℕ). drop i ss) sum;
      tokens = b.tokens;
    }

pub drop_one : (t : Token) (ts : List Token) (ss : List Spot) → bare ss ≡ t ∷ ts → Left 1 ts ss (drop 1 ss)
drop_one t ts [] e = absurd cc
drop_one t ts (s ∷ ss) e =
    let rest : bare ss ≡ ts = cc in
    record { behind = refl; tokens = rest }

pub left_end : (front : List Token) (ts : List Token) (ss : List Spot) → Ends front ts ss → Left (suc (length front)) ts ss (past_end ss)
left_end front ts ss e = record { behind = e.past; tokens = e.left }

left_is : (n : ℕ) (ts : List Token) (ss rest other : List Spot) → other ≡ rest → Left n ts ss rest → Left n ts ss other
left_is n ts ss rest other e l = let P : List Spot → Type 0 = λ r. Left n ts ss r in subst P (sym e) l

-- before a block
pub if_ends : (x : List ℕ) (ts : List Token) (ss : List Spot) → bare ss ≡ Fixed mark.If ∷ Name x ∷ Fixed mark.OpenBrace ∷ ts → Ends (Fixed mark.If ∷ Name x ∷ []) ts ss
if_ends x ts ss e =
    ends (Fixed mark.If ∷ Name x ∷ []) (Fixed mark.OpenBrace) ts ss (refl, (refl, tt)) refl e

pub while_ends : (x : List ℕ) (ts : List Token) (ss : List Spot) → bare ss ≡ Fixed mark.While ∷ Name x ∷ Fixed mark.OpenBrace ∷ ts → Ends (Fixed mark.While ∷ Name x ∷ []) ts ss
while_ends x ts ss e =
    ends (Fixed mark.While ∷ Name x ∷ []) (Fixed mark.OpenBrace) ts ss (refl, (refl, tt)) refl e

pub atomic_ends : (ts : List Token) (ss : List Spot) → bare ss ≡ Fixed mark.Atomic ∷ Fixed mark.OpenBrace ∷ ts → Ends (Fixed mark.Atomic ∷ []) ts ss
atomic_ends ts ss e =
    ends (Fixed mark.Atomic ∷ []) (Fixed mark.OpenBrace) ts ss (refl, tt) refl e

pub else_ends : (ts : List Token) (ss : List Spot) → bare ss ≡ Fixed mark.Else ∷ Fixed mark.OpenBrace ∷ ts → Ends (Fixed mark.Else ∷ []) ts ss
else_ends ts ss e =
    ends (Fixed mark.Else ∷ []) (Fixed mark.OpenBrace) ts ss (refl, tt) refl e

no_else_left : (ts : List Token) (ss : List Spot) → starts_else ts ≡ false → bare ss ≡ ts → past_no_else ss ≡ ss
no_else_left ts ss none e =
    ap (λ (b : Bool). cond b (drop 1 (past_end ss)) ss) (is_else_bare ss ∙ ap starts_else e ∙ none)

an_else_left : (ts : List Token) (ss : List Spot) → bare ss ≡ Fixed mark.Else ∷ ts → past_no_else ss ≡ drop 1 (past_end ss)
an_else_left ts ss e =
    ap (λ (b : Bool). cond b (drop 1 (past_end ss)) ss) (is_else_bare ss ∙ ap starts_else e)

mutual
  pub stmt_left : (s : w.Stmt) (ts : List Token) (ss : List Spot) → starts_else ts ≡ false → bare ss ≡ stmt_on s ts → Left (length (stmt_on s [])) ts ss (stmt_rest (stmt_meaning s) ss)
  stmt_left (w.Simple l) ts ss none e =
      let n : length (line_on l (Fixed mark.Semicolon ∷ [])) ≡ suc (length (line_on l [])) = omega (arith, line_count l (Fixed mark.Semicolon ∷ [])) in
      let P : ℕ → Type 0 = λ k. Left k ts ss (stmt_rest (line_meaning l) ss) in
      subst P (sym n) (left_is (suc (length (line_on l []))) ts ss (past_end ss) (stmt_rest (line_meaning l) ss) (line_rest l ss) (left_end (line_on l []) ts ss (line_ends l ts ss e)))
  stmt_left (w.IfStmt x a y) ts ss none e =
      let us = block_on a (Fixed mark.CloseBrace ∷ else_on y ts) in
      let first = left_end (Fixed mark.If ∷ Name x ∷ []) us ss (if_ends x us ss e) in
      let body = block_left a (Fixed mark.CloseBrace ∷ else_on y ts) (past_end ss) refl first.tokens in
      let other = else_left y ts (block_rest (block_meaning a) (past_end ss)) none body.tokens in
      left_more 3 (length (block_on a []) + suc (length (else_on y []))) (length (stmt_on (w.IfStmt x a y) [])) us ts ss (past_end ss) _ (omega (arith, block_count a (Fixed mark.CloseBrace ∷ else_on y []))) first
      (left_more (length (block_on a [])) (suc (length (else_on y []))) (length (block_on a []) + suc (length (else_on y []))) (Fixed mark.CloseBrace ∷ else_on y ts) ts (past_end ss) _ _ refl body other)
  stmt_left (w.WhileStmt x a) ts ss none e =
      let us = block_on a (Fixed mark.CloseBrace ∷ ts) in
      let first = left_end (Fixed mark.While ∷ Name x ∷ []) us ss (while_ends x us ss e) in
      let body = block_left a (Fixed mark.CloseBrace ∷ ts) (past_end ss) refl first.tokens in
      let brace = drop_one (Fixed mark.CloseBrace) ts (block_rest (block_meaning a) (past_end ss)) body.tokens in
      left_more 3 (length (block_on a []) + 1) (length (stmt_on (w.WhileStmt x a) [])) us ts ss (past_end ss) _ (omega (arith, block_count a (Fixed mark.CloseBrace ∷ []))) first
      (left_more (length (block_on a [])) 1 (length (block_on a []) + 1) (Fixed mark.CloseBrace ∷ ts) ts (past_end ss) _ _ refl body brace)
  stmt_left (w.AtomicStmt a) ts ss none e =
      let us = block_on a (Fixed mark.CloseBrace ∷ ts) in
      let first = left_end (Fixed mark.Atomic ∷ []) us ss (atomic_ends us ss e) in
      let body = block_left a (Fixed mark.CloseBrace ∷ ts) (past_end ss) refl first.tokens in
      let brace = drop_one (Fixed mark.CloseBrace) ts (block_rest (block_meaning a) (past_end ss)) body.tokens in
      left_more 2 (length (block_on a []) + 1) (length (stmt_on (w.AtomicStmt a) [])) us ts ss (past_end ss) _ (omega (arith, block_count a (Fixed mark.CloseBrace ∷ []))) first
      (left_more (length (block_on a [])) 1 (length (block_on a []) + 1) (Fixed mark.CloseBrace ∷ ts) ts (past_end ss) _ _ refl body brace)

  pub block_left : (b : w.Block) (ts : List Token) (ss : List Spot) → starts_else ts ≡ false → bare ss ≡ block_on b ts → Left (length (block_on b [])) ts ss (block_rest (block_meaning b) ss)
  block_left w.End ts ss none e = record { behind = refl; tokens = e }
  block_left (w.More s b) ts ss none e =
      let us = block_on b ts in
      let first = stmt_left s us ss (block_no_else b ts none) e in
      let others = block_left b ts (stmt_rest (stmt_meaning s) ss) none first.tokens in
      left_more (length (stmt_on s [])) (length (block_on b [])) (length (block_on (w.More s b) [])) us ts ss (stmt_rest (stmt_meaning s) ss) _ (omega (arith, stmt_count s (block_on b []))) first others

  -- after the first block of an `if`, its brace first
  pub else_left : (y : w.Else) (ts : List Token) (ss : List Spot) → starts_else ts ≡ false → bare ss ≡ Fixed mark.CloseBrace ∷ else_on y ts → Left (suc (length (else_on y []))) ts ss (else_rest (else_meaning y) ss)
  else_left w.NoElse ts ss none e =
      let brace = drop_one (Fixed mark.CloseBrace) ts ss e in
      left_is 1 ts ss (drop 1 ss) _ (no_else_left ts (drop 1 ss) none brace.tokens) brace
  else_left (w.Otherwise w.End) ts ss none e =
      let us = Fixed mark.Else ∷ Fixed mark.OpenBrace ∷ Fixed mark.CloseBrace ∷ ts in
      let brace = drop_one (Fixed mark.CloseBrace) us ss e in
      let first = left_end (Fixed mark.Else ∷ []) (Fixed mark.CloseBrace ∷ ts) (drop 1 ss) (else_ends (Fixed mark.CloseBrace ∷ ts) (drop 1 ss) brace.tokens) in
      let last = drop_one (Fixed mark.CloseBrace) ts (past_end (drop 1 ss)) first.tokens in
      left_is 4 ts ss (drop 1 (past_end (drop 1 ss))) _ (an_else_left _ (drop 1 ss) brace.tokens)
      (left_more 1 3 4 us ts ss (drop 1 ss) _ refl brace (left_more 2 1 3 (Fixed mark.CloseBrace ∷ ts) ts (drop 1 ss) (past_end (drop 1 ss)) _ refl first last))
  else_left (w.Otherwise (w.More s b)) ts ss none e =
      let block = w.More s b in
      let us = Fixed mark.Else ∷ Fixed mark.OpenBrace ∷ block_on block (Fixed mark.CloseBrace ∷ ts) in
      let brace = drop_one (Fixed mark.CloseBrace) us ss e in
      let first = left_end (Fixed mark.Else ∷ []) (block_on block (Fixed mark.CloseBrace ∷ ts)) (drop 1 ss) (else_ends _ (drop 1 ss) brace.tokens) in
      let head = stmt_left s (block_on b (Fixed mark.CloseBrace ∷ ts)) (past_end (drop 1 ss)) (block_no_else b (Fixed mark.CloseBrace ∷ ts) refl) first.tokens in
      let others = block_left b (Fixed mark.CloseBrace ∷ ts) (stmt_rest (stmt_meaning s) (past_end (drop 1 ss))) refl head.tokens in
      let body = left_more (length (stmt_on s [])) (length (block_on b [])) (length (block_on block [])) (block_on b (Fixed mark.CloseBrace ∷ ts)) (Fixed mark.CloseBrace ∷ ts) (past_end (drop 1 ss)) (stmt_rest (stmt_meaning s) (past_end (drop 1 ss))) (block_rest (block_meaning block) (past_end (drop 1 ss))) (omega (arith, stmt_count s (block_on b []))) head others in
      let last = drop_one (Fixed mark.CloseBrace) ts (block_rest (block_meaning block) (past_end (drop 1 ss))) body.tokens in
      left_more 1 (2 + (length (block_on block []) + 1)) (suc (length (else_on (w.Otherwise block) []))) us ts ss (drop 1 ss) _ (omega (arith, block_count block (Fixed mark.CloseBrace ∷ []))) brace
      (left_more 2 (length (block_on block []) + 1) (2 + (length (block_on block []) + 1)) (block_on block (Fixed mark.CloseBrace ∷ ts)) ts (drop 1 ss) (past_end (drop 1 ss)) _ refl first
      (left_more (length (block_on block [])) 1 (length (block_on block []) + 1) (Fixed mark.CloseBrace ∷ ts) ts (past_end (drop 1 ss)) _ _ refl body last))
