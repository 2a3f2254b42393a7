-- What a change of the stack adds to the tokens read: one more item, statement or name, a block that begins, a block that ends.
use Rattle.std.proofs.Common.{◌≡◌, ℕ, List, [], ◌∷◌, ◌++◌, Option, Some, None, refl, ap}
use Rattle.asl_grammar.specs.declared.token.Mark.TheVariants as mark
use Rattle.asl_grammar.specs.declared.control.Kind.{Kind}
use Rattle.asl_grammar.specs.declared.control.Kind.TheVariants.{Body, Then, Inner}
use Rattle.asl_grammar.specs.Token.{Token, Fixed, Name}
use Rattle.asl_grammar.specs.Written.{Stmt, Block, Item}
use Rattle.asl_grammar.specs.Spelling.{later_names_on, names_on, stmt_on, block_on, item_on, program_on}
use Rattle.asl_grammar.specs.Automaton.{Opening, OfIf, OfElse, OfWhile, OfAtomic, Control, BodyStart, StatementStart, AfterThen, AfterHeader, BodyEnd, Act, Begin, Close}
use Rattle.asl_grammar.proofs.Stacks.{Header, ThenBlock, ElseBlock, WhileBlock, AtomicBlock, Part, Frame, Stack, no_part, to_block, put, push, else_header, close_frames, closed, function_of, apply, kind_of, header_kind}
use Rattle.asl_grammar.proofs.ReadTokens.{stmts_on, pending_on, part_on, header_on, frames_on, head_on, body_on, state_on, IsOutside, IsInside, IsFilled, IsThere, OpeningFits, Fits}

-- one more item, statement, name
pub program_on-push : (is : List Item) (i : Item) (r : List Token) → program_on (is ++ i ∷ []) r ≡ program_on is (item_on i r)
program_on-push [] i r = refl
program_on-push (j ∷ is) i r = ap (item_on j) (program_on-push is i r)

pub stmts_on-push : (ss : List Stmt) (s : Stmt) (r : List Token) → stmts_on (ss ++ s ∷ []) r ≡ stmts_on ss (stmt_on s r)
stmts_on-push [] s r = refl
stmts_on-push (t ∷ ss) s r = ap (stmt_on t) (stmts_on-push ss s r)

block_on-to_block : (ss : List Stmt) (r : List Token) → block_on (to_block ss) r ≡ stmts_on ss r
block_on-to_block [] r = refl
block_on-to_block (s ∷ ss) r = ap (stmt_on s) (block_on-to_block ss r)

later_names_on-push : (xs : List (List ℕ)) (x : List ℕ) (r : List Token) → later_names_on (xs ++ x ∷ []) r ≡ later_names_on xs (Fixed mark.Comma ∷ Name x ∷ r)
later_names_on-push [] x r = refl
later_names_on-push (y ∷ xs) x r =
    ap (λ (ts : List Token). Fixed mark.Comma ∷ Name y ∷ ts) (later_names_on-push xs x r)

pub names_on-push : (xs : List (List ℕ)) (x : List ℕ) (r : List Token) → IsFilled xs → names_on (xs ++ x ∷ []) r ≡ names_on xs (Fixed mark.Comma ∷ Name x ∷ r)
names_on-push [] x r h = absurd h
names_on-push (y ∷ xs) x r h = ap (λ (ts : List Token). Name y ∷ ts) (later_names_on-push xs x r)

pub IsFilled-push : (xs : List (List ℕ)) (x : List ℕ) → IsFilled (xs ++ x ∷ [])
IsFilled-push [] x = tt
IsFilled-push (y ∷ xs) x = tt

-- what a step keeps: the new state fits, and spells the old state and the token
abbrev pub After : Control → Stack → Token → Option (Control × Act) → Type 0
After c s t None = Unit {0}
After c s t (Some (d, a)) =
    Fits d (apply a s) × ((r : List Token) → state_on d (apply a s) r ≡ state_on c s (t ∷ r))

-- one more statement
pub body_on-put : (s : Stack) (x : Stmt) (r : List Token) → s.top.pending ≡ None → body_on (put x s) r ≡ body_on s (stmt_on x r)
body_on-put s x r e = simp (e, stmts_on-push)

-- the part of an equation that `simp` finds: a body that opens
pub body_on-open : (s : Stack) (r : List Token) → IsOutside s → body_on s r ≡ state_on BodyStart s (Fixed mark.OpenBrace ∷ r)
body_on-open s r o =
    let e : s.top ≡ no_part = o.top in let f : s.frames ≡ [] = o.frames in simp (e, f)

pub parameter_first : (s : Stack) (x : List ℕ) (r : List Token) → s.parameters ≡ [] → names_on (s.parameters ++ x ∷ []) r ≡ Name x ∷ r
parameter_first s x r e = simp (e)

pub parameters_none : (s : Stack) (r : List Token) → s.parameters ≡ [] → names_on s.parameters r ≡ r
parameters_none s r e = simp (e)

pub arguments_first : (s : Stack) (x : List ℕ) (r : List Token) → s.arguments ≡ [] → names_on (s.arguments ++ x ∷ []) r ≡ Name x ∷ r
arguments_first s x r e = simp (e)

pub arguments_none : (s : Stack) (r : List Token) → s.arguments ≡ [] → names_on s.arguments r ≡ r
arguments_none s r e = simp (e)

-- an open block begins
opened_if : (s : Stack) (h : Header) (r : List Token) → s.top.pending ≡ None → body_on (push h s) r ≡ body_on s (header_on h r)
opened_if s h r e = simp (e)

else_pending : (p : Option (List ℕ × Block)) (r : List Token) → IsThere p → header_on (else_header p) r ≡ pending_on p (Fixed mark.Else ∷ Fixed mark.OpenBrace ∷ r)
else_pending None r h = absurd h
else_pending (Some (x, a)) r h = refl

opened_else : (s : Stack) (r : List Token) → IsThere s.top.pending → body_on (push (else_header s.top.pending) s) r ≡ body_on s (Fixed mark.Else ∷ Fixed mark.OpenBrace ∷ r)
opened_else s r h =
    ap (λ (ts : List Token). head_on s (names_on s.parameters (Fixed mark.CloseParen ∷ Fixed mark.OpenBrace ∷ frames_on s.frames (stmts_on s.top.done ts)))) (else_pending s.top.pending r h)

-- each opening begins its block
pub begin_fits : (o : Opening) (s : Stack) (k : Kind) → OpeningFits o s → After (AfterHeader o) s (Fixed mark.OpenBrace) (Some (StatementStart, Begin o))
begin_fits (OfIf x) s k h = (record { pending = refl; arguments = h.arguments }, λ r. opened_if s (ThenBlock x) r h.pending)
begin_fits OfElse s k h = (record { pending = refl; arguments = h.1 }, λ r. opened_else s r h.0)
begin_fits (OfWhile x) s k h = (record { pending = refl; arguments = h.arguments }, λ r. opened_if s (WhileBlock x) r h.pending)
begin_fits OfAtomic s k h = (record { pending = refl; arguments = h.arguments }, λ r. opened_if s AtomicBlock r h.pending)

-- a block ends
closed_on : (h : Header) (b : List Stmt) (d : List Stmt) (r : List Token) → part_on (closed h (to_block b) d) r ≡ stmts_on d (header_on h (stmts_on b (Fixed mark.CloseBrace ∷ r)))
closed_on (ThenBlock x) b d r = simp (block_on-to_block)
closed_on (ElseBlock x a) b d r = simp (stmts_on-push, block_on-to_block)
closed_on (WhileBlock x) b d r = simp (stmts_on-push, block_on-to_block)
closed_on AtomicBlock b d r = simp (stmts_on-push, block_on-to_block)

close_on : (s : Stack) (f : Frame) (fs : List Frame) (r : List Token) → s.top.pending ≡ None → body_on (close_frames (f ∷ fs) s) r ≡ body_on (record s { frames = f ∷ fs }) (Fixed mark.CloseBrace ∷ r)
close_on s f fs r e = simp (e, closed_on)

close_fits_then : (h : Header) (s : Stack) (b d : List Stmt) → header_kind h ≡ Then → IsThere (closed h (to_block b) d).pending
close_fits_then (ThenBlock x) s b d e = tt
close_fits_then (ElseBlock x a) s b d e = cc
close_fits_then (WhileBlock x) s b d e = cc
close_fits_then AtomicBlock s b d e = cc

close_fits_inner : (h : Header) (s : Stack) (b d : List Stmt) → header_kind h ≡ Inner → (closed h (to_block b) d).pending ≡ None
close_fits_inner (ThenBlock x) s b d e = cc
close_fits_inner (ElseBlock x a) s b d e = refl
close_fits_inner (WhileBlock x) s b d e = refl
close_fits_inner AtomicBlock s b d e = refl

-- the first block of an `if` ends, and an `else` may follow
pub close_then : (fs : List Frame) (s : Stack) → kind_of fs ≡ Then → IsInside s → After StatementStart (record s { frames = fs }) (Fixed mark.CloseBrace) (Some (AfterThen, Close))
close_then [] s k h = cc
close_then (f ∷ fs) s k h =
    ((close_fits_then f.header s s.top.done f.outer k, h.arguments), λ r. close_on s f fs r h.pending)

-- another block ends
pub close_inner : (fs : List Frame) (s : Stack) → kind_of fs ≡ Inner → IsInside s → After StatementStart (record s { frames = fs }) (Fixed mark.CloseBrace) (Some (StatementStart, Close))
close_inner [] s k h = cc
close_inner (f ∷ fs) s k h =
    (record { pending = close_fits_inner f.header s s.top.done f.outer k; arguments = h.arguments }, λ r. close_on s f fs r h.pending)

pub no_frames : (fs : List Frame) → kind_of fs ≡ Body → fs ≡ []
no_frames [] k = refl
no_frames (f ∷ fs) k = absurd (not_body f.header k)
  where
    not_body : (h : Header) → header_kind h ≡ Body → ⊥
    not_body (ThenBlock x) e = cc
    not_body (ElseBlock x a) e = cc
    not_body (WhileBlock x) e = cc
    not_body AtomicBlock e = cc

-- the brace at the end of a body makes a function of it
pub finished : (x : List ℕ) (s : Stack) (r : List Token) → IsInside s → s.frames ≡ [] → program_on (s.items ++ function_of x s ∷ []) r ≡ state_on (BodyEnd x) s (Fixed mark.CloseBrace ∷ r)
finished x s r h e =
    let p : s.top.pending ≡ None = h.pending in simp (program_on-push, block_on-to_block, e, p)

pub inside_body : (s : Stack) → IsOutside s → IsInside s
inside_body s o = record { pending = ap (λ (p : Part). p.pending) o.top; arguments = o.arguments }

pub still_outside : (s : Stack) (xs : List (List ℕ)) → IsOutside s → IsOutside (record s { parameters = xs })
still_outside s xs o = record { top = o.top; frames = o.frames; arguments = o.arguments }
