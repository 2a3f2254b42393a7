-- Every state that the automaton reaches can be completed to a program.
use Rattle.std.proofs.Common.{◌≡◌, ℕ, List, [], ◌∷◌, ◌++◌, Option, Some, None, IsTrue, refl, ap, ◌∙◌}
use Rattle.std.proofs.lemmas.Bool.{and_from, and_parts}
use Rattle.asl_grammar.specs.declared.token.Mark.TheVariants as mark
use Rattle.asl_grammar.specs.Token.{Token, Fixed, Name, Number}
use Rattle.asl_grammar.specs.Written.{Line, Stmt, Item}
use Rattle.asl_grammar.specs.Lex.{are_tokens}
use Rattle.asl_grammar.specs.Automaton.{Opening, Control, ItemStart, AfterGlobal, GlobalNamed, AfterFn, FunctionNamed, FirstParameter, AfterParameter, NextParameter, BodyStart, StatementStart, AfterThen, Target, AfterBecomes, AfterMinus, AfterValue, AfterOperator, AfterAmpersand, AfterAddress, AfterBracket, AfterIndex, AfterStar, AfterNew, FirstArgument, AfterArgument, NextArgument, CallEnd, LineEnd, StoreStart, StoreTarget, StoreValue, AfterOut, AfterIf, AfterWhile, AfterHeader, AfterReturn, Returned, BodyEnd}
use Rattle.asl_grammar.proofs.Stacks.{Header, ThenBlock, ElseBlock, WhileBlock, AtomicBlock, Frame, Stack, State, to_block, closed, settle, run, run_with, next, whole}
use Rattle.asl_grammar.proofs.Complete.{at, GoesOn, settles}

-- some tokens lead from a state to the end of a program
pub record CanEnd (w : State) : Type 0 where
  pub more : List Token
  pub real : IsTrue (are_tokens more)
  pub items : List Item
  pub ends : whole (run w more) ≡ Some items

-- the same, and they do not begin with `else`
record BodyEnds (s : Stack) : Type 0 where
  more : List Token
  real : IsTrue (are_tokens more)
  items : List Item
  ends : whole (run (at StatementStart s) more) ≡ Some items
  goes : GoesOn more

pub run-append : (ts us : List Token) (w : State) → run w (ts ++ us) ≡ run_with (run w ts) (λ n. run n us)
run-append [] us w = refl
run-append (t ∷ ts) us w = then_run ts us (next w t) (λ n. run-append ts us n)
  where
    then_run : (ts us : List Token) (o : Option State) → ((n : State) → run n (ts ++ us) ≡ run_with (run n ts) (λ m. run m us)) → run_with o (λ n. run n (ts ++ us)) ≡ run_with (run_with o (λ n. run n ts)) (λ n. run n us)
    then_run ts us None h = refl
    then_run ts us (Some n) h = h n

pub are_tokens-append : (ts us : List Token) → IsTrue (are_tokens ts) → IsTrue (are_tokens us) → IsTrue (are_tokens (ts ++ us))
are_tokens-append [] us h k = k
are_tokens-append (t ∷ ts) us h k =
    and_from _ _ (and_parts _ _ h).0 (are_tokens-append ts us (and_parts _ _ h).1 k)

-- tokens that lead to a state which can end
by_tokens : (w v : State) (ts : List Token) → IsTrue (are_tokens ts) → run w ts ≡ Some v → CanEnd v → CanEnd w
by_tokens w v ts r e c = record {
  more = ts ++ c.more;
  real = are_tokens-append ts c.more r c.real;
  items = c.items;
  ends = ap whole (run-append ts c.more w ∙ ap (λ (o : Option State). run_with o (λ n. run n c.more)) e) ∙ c.ends;
}

-- the body's last line
last_line : (s : Stack) → BodyEnds (record s { frames = [] })
last_line s = record {
  more = Fixed mark.Return ∷ Name (97 ∷ []) ∷ Fixed mark.Semicolon ∷ Fixed mark.CloseBrace ∷ [];
  real = refl;
  items = _;
  ends = refl;
  goes = tt;
}

-- a block's brace, and then what ends the block around it
close_then : (x : List ℕ) (d : List Stmt) (fs : List Frame) (s : Stack) → BodyEnds (settle (record s { top = closed (ThenBlock x) (to_block s.top.done) d; frames = fs })) → BodyEnds (record s { frames = record { header = ThenBlock x; outer = d } ∷ fs })
close_then x d fs s b = record {
  more = Fixed mark.CloseBrace ∷ b.more;
  real = b.real;
  items = b.items;
  ends = ap whole (settles (record s { top = closed (ThenBlock x) (to_block s.top.done) d; frames = fs }) b.more b.goes) ∙ b.ends;
  goes = tt;
}

close_inner : (h : Header) (d : List Stmt) (fs : List Frame) (s : Stack) → ((c : Stack) → BodyEnds (record c { frames = fs })) → BodyEnds (record s { frames = record { header = h; outer = d } ∷ fs })
close_inner (ThenBlock x) d fs s go =
    close_then x d fs s (go (settle (record s { top = closed (ThenBlock x) (to_block s.top.done) d })))
close_inner (ElseBlock x a) d fs s go =
    let b = go (record s { top = closed (ElseBlock x a) (to_block s.top.done) d }) in
    record { more = Fixed mark.CloseBrace ∷ b.more; real = b.real; items = b.items; ends = b.ends; goes = tt }
close_inner (WhileBlock x) d fs s go =
    let b = go (record s { top = closed (WhileBlock x) (to_block s.top.done) d }) in
    record { more = Fixed mark.CloseBrace ∷ b.more; real = b.real; items = b.items; ends = b.ends; goes = tt }
close_inner AtomicBlock d fs s go =
    let b = go (record s { top = closed AtomicBlock (to_block s.top.done) d }) in
    record { more = Fixed mark.CloseBrace ∷ b.more; real = b.real; items = b.items; ends = b.ends; goes = tt }

body_ends : (fs : List Frame) (s : Stack) → BodyEnds (record s { frames = fs })
body_ends [] s = last_line s
body_ends (f ∷ fs) s = close_inner f.header f.outer fs s (λ c. body_ends fs c)

statement_ends : (s : Stack) → CanEnd (at StatementStart s)
statement_ends s =
    let b = body_ends s.frames s in
    record { more = b.more; real = b.real; items = b.items; ends = b.ends }

then_ends : (s : Stack) → CanEnd (at AfterThen s)
then_ends s =
    let b = body_ends s.frames (settle s) in
    record { more = b.more; real = b.real; items = b.items; ends = ap whole (settles s b.more b.goes) ∙ b.ends }

-- a name and a number to complete with
abbrev a_name : Token
a_name = Name (97 ∷ [])

abbrev one : Token
one = Number 1

line_ends : (l : Line) (s : Stack) → CanEnd (at (LineEnd l) s)
line_ends l s = by_tokens _ _ (Fixed mark.Semicolon ∷ []) refl refl (statement_ends _)

opening_ends : (o : Opening) (s : Stack) → CanEnd (at (AfterHeader o) s)
opening_ends o s = by_tokens _ _ (Fixed mark.OpenBrace ∷ []) refl refl (statement_ends _)

body_start_ends : (s : Stack) → CanEnd (at BodyStart s)
body_start_ends s = by_tokens _ _ (Fixed mark.OpenBrace ∷ []) refl refl (statement_ends _)

body_end_ends : (x : List ℕ) (s : Stack) → CanEnd (at (BodyEnd x) s)
body_end_ends x s = record { more = Fixed mark.CloseBrace ∷ []; real = refl; items = _; ends = refl }

call_ends : (x f : List ℕ) (s : Stack) → CanEnd (at (CallEnd x f) s)
call_ends x f s = by_tokens _ _ (Fixed mark.Semicolon ∷ []) refl refl (statement_ends _)

pub can_end : (c : Control) (s : Stack) → CanEnd (at c s)
can_end ItemStart s = record { more = []; real = refl; items = s.items; ends = refl }
can_end AfterGlobal s =
    record { more = a_name ∷ Fixed mark.Semicolon ∷ []; real = refl; items = _; ends = refl }
can_end (GlobalNamed x) s = record { more = Fixed mark.Semicolon ∷ []; real = refl; items = _; ends = refl }
can_end AfterFn s =
    by_tokens _ _ (a_name ∷ Fixed mark.OpenParen ∷ Fixed mark.CloseParen ∷ []) refl refl (body_start_ends _)
can_end (FunctionNamed x) s =
    by_tokens _ _ (Fixed mark.OpenParen ∷ Fixed mark.CloseParen ∷ []) refl refl (body_start_ends _)
can_end FirstParameter s = by_tokens _ _ (Fixed mark.CloseParen ∷ []) refl refl (body_start_ends _)
can_end AfterParameter s = by_tokens _ _ (Fixed mark.CloseParen ∷ []) refl refl (body_start_ends _)
can_end NextParameter s = by_tokens _ _ (a_name ∷ Fixed mark.CloseParen ∷ []) refl refl (body_start_ends _)
can_end BodyStart s = body_start_ends s
can_end StatementStart s = statement_ends s
can_end AfterThen s = then_ends s
can_end (Target x) s = by_tokens _ _ (Fixed mark.Becomes ∷ Fixed mark.Null ∷ []) refl refl (line_ends _ s)
can_end (AfterBecomes x) s = by_tokens _ _ (Fixed mark.Null ∷ []) refl refl (line_ends _ s)
can_end (AfterMinus x) s = by_tokens _ _ (one ∷ []) refl refl (line_ends _ s)
can_end (AfterValue x y) s = by_tokens _ _ (Fixed mark.Semicolon ∷ []) refl refl (statement_ends _)
can_end (AfterOperator x y o) s = by_tokens _ _ (a_name ∷ []) refl refl (line_ends _ s)
can_end (AfterAmpersand x) s = by_tokens _ _ (a_name ∷ Fixed mark.Semicolon ∷ []) refl refl (statement_ends _)
can_end (AfterAddress x y) s = by_tokens _ _ (Fixed mark.Semicolon ∷ []) refl refl (statement_ends _)
can_end (AfterBracket x y) s = by_tokens _ _ (one ∷ Fixed mark.CloseBracket ∷ []) refl refl (line_ends _ s)
can_end (AfterIndex x y n) s = by_tokens _ _ (Fixed mark.CloseBracket ∷ []) refl refl (line_ends _ s)
can_end (AfterStar x) s = by_tokens _ _ (a_name ∷ []) refl refl (line_ends _ s)
can_end (AfterNew x) s = by_tokens _ _ (one ∷ []) refl refl (line_ends _ s)
can_end (FirstArgument x f) s = by_tokens _ _ (Fixed mark.CloseParen ∷ []) refl refl (call_ends x f s)
can_end (AfterArgument x f) s = by_tokens _ _ (Fixed mark.CloseParen ∷ []) refl refl (call_ends x f s)
can_end (NextArgument x f) s = by_tokens _ _ (a_name ∷ Fixed mark.CloseParen ∷ []) refl refl (call_ends x f _)
can_end (CallEnd x f) s = call_ends x f s
can_end (LineEnd l) s = line_ends l s
can_end StoreStart s =
    by_tokens _ _ (a_name ∷ Fixed mark.Becomes ∷ a_name ∷ []) refl refl (line_ends _ s)
can_end (StoreTarget x) s = by_tokens _ _ (Fixed mark.Becomes ∷ a_name ∷ []) refl refl (line_ends _ s)
can_end (StoreValue x) s = by_tokens _ _ (a_name ∷ []) refl refl (line_ends _ s)
can_end AfterOut s = by_tokens _ _ (a_name ∷ []) refl refl (line_ends _ s)
can_end AfterIf s = by_tokens _ _ (a_name ∷ []) refl refl (opening_ends _ s)
can_end AfterWhile s = by_tokens _ _ (a_name ∷ []) refl refl (opening_ends _ s)
can_end (AfterHeader o) s = opening_ends o s
can_end AfterReturn s = by_tokens _ _ (a_name ∷ Fixed mark.Semicolon ∷ []) refl refl (body_end_ends _ s)
can_end (Returned x) s = by_tokens _ _ (Fixed mark.Semicolon ∷ []) refl refl (body_end_ends x s)
can_end (BodyEnd x) s = body_end_ends x s
