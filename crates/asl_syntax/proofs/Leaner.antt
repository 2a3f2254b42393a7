-- A tree's own writing is what any text of the tree writes, but for the minus of `-0` and empty `else`s.
use Rattle.std.proofs.Common.{ℕ, zero, suc, List, [], ◌∷◌, true, false, subst, map}
use Rattle.asl_grammar.specs.declared.token.Mark.TheVariants as mark
use Rattle.asl_grammar.specs.Token.{Token, Fixed, Number}
use Rattle.asl_grammar.specs.Written as w
use Rattle.asl_grammar.specs.Spelling.{later_names_on, names_on, line_on, stmt_on, block_on, else_on, item_on, program_on}
use Rattle.asl_syntax.specs.Tree.{Item}
use Rattle.asl_syntax.specs.Spelled.{line_meaning, stmt_meaning, block_meaning, else_meaning, item_meaning, Spells}
use Rattle.asl_syntax.specs.Writing.{statement_writing, block_writing, else_writing, item_writing, writing}

-- what is kept where tokens are left out so
pub record Keeps (R : List Token → List Token → Type 0) : Type 0 where
  pub none : R [] []
  pub same : (t : Token) (ts us : List Token) → R ts us → R (t ∷ ts) (t ∷ us)
  pub sign : (ts us : List Token) → R ts us → R (Fixed mark.Becomes ∷ Fixed mark.Minus ∷ Number 0 ∷ ts) (Fixed mark.Becomes ∷ Number 0 ∷ us)
  pub empty : (ts us : List Token) → R ts us → R (Fixed mark.CloseBrace ∷ Fixed mark.Else ∷ Fixed mark.OpenBrace ∷ Fixed mark.CloseBrace ∷ ts) (Fixed mark.CloseBrace ∷ us)

module _ (R : List Token → List Token → Type 0) (k : Keeps R) where
  later_names_kept : (xs : List (List ℕ)) (ts us : List Token) → R ts us → R (later_names_on xs ts) (later_names_on xs us)
  later_names_kept [] ts us r = r
  later_names_kept (x ∷ xs) ts us r = k.same _ _ _ (k.same _ _ _ (later_names_kept xs ts us r))

  names_kept : (xs : List (List ℕ)) (ts us : List Token) → R ts us → R (names_on xs ts) (names_on xs us)
  names_kept [] ts us r = r
  names_kept (x ∷ xs) ts us r = k.same _ _ _ (later_names_kept xs ts us r)

  next : {t : Token} {ts us : List Token} → R ts us → R (t ∷ ts) (t ∷ us)
  next {t} {ts} {us} r = k.same t ts us r

  line_kept : (l : w.Line) (ts us : List Token) → R ts us → R (line_on l (Fixed mark.Semicolon ∷ ts)) (stmt_on (statement_writing (line_meaning l)) us)
  line_kept (w.Assigns x (w.Literal true zero)) ts us r = next (k.sign _ _ (next r))
  line_kept (w.Assigns x (w.Literal true (suc n))) ts us r = next (next (next (next (next r))))
  line_kept (w.Assigns x (w.Literal false n)) ts us r = next (next (next (next r)))
  line_kept (w.Assigns x w.NullValue) ts us r = next (next (next (next r)))
  line_kept (w.Assigns x (w.Copied y)) ts us r = next (next (next (next r)))
  line_kept (w.Assigns x (w.Binary y o z)) ts us r = next (next (next (next (next (next r)))))
  line_kept (w.Assigns x (w.GlobalAddress y)) ts us r = next (next (next (next (next r))))
  line_kept (w.Assigns x (w.FieldAddress y n)) ts us r = next (next (next (next (next (next (next (next r)))))))
  line_kept (w.Assigns x (w.Loaded y)) ts us r = next (next (next (next (next r))))
  line_kept (w.Assigns x (w.Created n)) ts us r = next (next (next (next (next r))))
  line_kept (w.Calls x f args) ts us r = next (next (next (next (names_kept args _ _ (next (next r))))))
  line_kept (w.Stores x y) ts us r = next (next (next (next (next r))))
  line_kept (w.Shows x) ts us r = next (next (next r))

  mutual
    stmt_kept : (s : w.Stmt) (ts us : List Token) → R ts us → R (stmt_on s ts) (stmt_on (statement_writing (stmt_meaning s)) us)
    stmt_kept (w.Simple l) ts us r = line_kept l ts us r
    stmt_kept (w.IfStmt x a e) ts us r = next (next (next (block_kept a _ _ (else_kept e ts us r))))
    stmt_kept (w.WhileStmt x a) ts us r = next (next (next (block_kept a _ _ (next r))))
    stmt_kept (w.AtomicStmt a) ts us r = next (next (block_kept a _ _ (next r)))

    block_kept : (b : w.Block) (ts us : List Token) → R ts us → R (block_on b ts) (block_on (block_writing (block_meaning b)) us)
    block_kept w.End ts us r = r
    block_kept (w.More s b) ts us r = stmt_kept s _ _ (block_kept b ts us r)

    else_kept : (e : w.Else) (ts us : List Token) → R ts us → R (Fixed mark.CloseBrace ∷ else_on e ts) (Fixed mark.CloseBrace ∷ else_on (else_writing (else_meaning e)) us)
    else_kept w.NoElse ts us r = next r
    else_kept (w.Otherwise b) ts us r = otherwise_kept b ts us r

    otherwise_kept : (b : w.Block) (ts us : List Token) → R ts us → R (Fixed mark.CloseBrace ∷ else_on (w.Otherwise b) ts) (Fixed mark.CloseBrace ∷ else_on (else_writing (block_meaning b)) us)
    otherwise_kept w.End ts us r = k.empty ts us r
    otherwise_kept (w.More s b) ts us r = next (next (next (stmt_kept s _ _ (block_kept b _ _ (next r)))))

  item_kept : (i : w.Item) (ts us : List Token) → R ts us → R (item_on i ts) (item_on (item_writing (item_meaning i)) us)
  item_kept (w.GlobalItem x) ts us r = next (next (next r))
  item_kept (w.FunctionItem f) ts us r =
      next (next (next (names_kept f.parameters _ _ (next (next (block_kept f.body _ _ (next (next (next (next r))))))))))

  items_kept : (is : List w.Item) → R (program_on is []) (program_on (writing (map item_meaning is)) [])
  items_kept [] = k.none
  items_kept (i ∷ is) = item_kept i _ _ (items_kept is)

  -- from the tokens of a tree to those that the tree is printed as
  pub leaner : (tree : List Item) (ts : List Token) → Spells tree ts → R ts (program_on (writing tree) [])
  leaner tree ts s =
      subst (λ (us : List Token). R us (program_on (writing tree) [])) s.spelled
      (subst (λ (t : List Item). R (program_on s.written []) (program_on (writing t) [])) s.meaning (items_kept s.written))
