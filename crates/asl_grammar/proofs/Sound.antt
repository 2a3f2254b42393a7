-- Each step adds its token to those that the state has read, so the program that a run ends with spells all tokens.
use Rattle.std.proofs.Common.{◌≡◌, ℕ, List, [], ◌∷◌, ◌++◌, Option, Some, None, refl, ap, ◌∙◌}
use Rattle.asl_grammar.specs.declared.token.Mark.TheVariants as mark
use Rattle.asl_grammar.specs.declared.control.Kind.{Kind}
use Rattle.asl_grammar.specs.declared.control.Kind.TheVariants.{Body, Then, Inner}
use Rattle.asl_grammar.specs.Token.{Token, Fixed, Name, Number}
use Rattle.asl_grammar.specs.Written.{Copied, GlobalAddress, Assigns, Calls, Stmt, Simple, IfStmt, Block, NoElse, GlobalItem}
use Rattle.asl_grammar.specs.Spelling.{names_on}
use Rattle.asl_grammar.specs.Automaton.{Control, ItemStart, AfterGlobal, GlobalNamed, AfterFn, FunctionNamed, FirstParameter, AfterParameter, NextParameter, BodyStart, StatementStart, AfterThen, Target, AfterBecomes, AfterMinus, AfterValue, AfterOperator, AfterAmpersand, AfterAddress, AfterBracket, AfterIndex, AfterStar, AfterNew, FirstArgument, AfterArgument, NextArgument, CallEnd, LineEnd, StoreStart, StoreTarget, StoreValue, AfterOut, AfterIf, AfterWhile, AfterHeader, AfterReturn, Returned, BodyEnd, Act, step}
use Rattle.asl_grammar.proofs.Stacks.{Stack, State, settle, kind_of, ready, ready_then, moved, next_ready, next, run, run_with}
use Rattle.asl_grammar.proofs.ReadTokens.{stmts_on, pending_on, frames_on, head_on, body_on, state_on, IsWaiting, Fits}
use Rattle.asl_grammar.proofs.StackTokens.{program_on-push, stmts_on-push, names_on-push, IsFilled-push, After, body_on-put, body_on-open, parameter_first, parameters_none, arguments_first, arguments_none, begin_fits, close_then, close_inner, no_frames, finished, inside_body, still_outside}

-- a step keeps what a state is to keep
good : (c : Control) (k : Kind) (s : Stack) (t : Token) → kind_of s.frames ≡ k → Fits c s → After c s t (step c k t)
good ItemStart k s (Fixed mark.Global) e f = (f, λ r. refl)
good ItemStart k s (Fixed mark.Fn) e f = (f, λ r. refl)
good AfterGlobal k s (Name x) e f = (f, λ r. refl)
good (GlobalNamed x) k s (Fixed mark.Semicolon) e f =
    (record { top = f.top; frames = f.frames; arguments = f.arguments }, λ r. program_on-push s.items (GlobalItem x) r)
good AfterFn k s (Name x) e f = (f, λ r. refl)
good (FunctionNamed x) k s (Fixed mark.OpenParen) e f =
    ((record { top = f.top; frames = f.frames; arguments = f.arguments }, refl), λ r. refl)
good FirstParameter k s (Name x) e f =
    ((still_outside s (s.parameters ++ x ∷ []) f.0, IsFilled-push s.parameters x), λ r. ap (head_on s) (parameter_first s x r f.1))
good FirstParameter k s (Fixed mark.CloseParen) e f =
    (f.0, λ r. ap (head_on s) (parameters_none s (Fixed mark.CloseParen ∷ r) f.1))
good AfterParameter k s (Fixed mark.Comma) e f = (f, λ r. refl)
good AfterParameter k s (Fixed mark.CloseParen) e f = (f.0, λ r. refl)
good NextParameter k s (Name x) e f =
    ((still_outside s (s.parameters ++ x ∷ []) f.0, IsFilled-push s.parameters x), λ r. ap (head_on s) (names_on-push s.parameters x r f.1))
good BodyStart k s (Fixed mark.OpenBrace) e f = (inside_body s f, λ r. body_on-open s r f)
good StatementStart k s (Name x) e f = (f, λ r. refl)
good StatementStart k s (Fixed mark.Star) e f = (f, λ r. refl)
good StatementStart k s (Fixed mark.Out) e f = (f, λ r. refl)
good StatementStart k s (Fixed mark.If) e f = (f, λ r. refl)
good StatementStart k s (Fixed mark.While) e f = (f, λ r. refl)
good StatementStart k s (Fixed mark.Atomic) e f = (f, λ r. refl)
good StatementStart Body s (Fixed mark.Return) e f = ((f, no_frames s.frames e), λ r. refl)
good StatementStart Then s (Fixed mark.CloseBrace) e f = close_then s.frames s e f
good StatementStart Inner s (Fixed mark.CloseBrace) e f = close_inner s.frames s e f
good AfterThen k s (Fixed mark.Else) e f = (f, λ r. refl)
good (Target x) k s (Fixed mark.Becomes) e f = (f, λ r. refl)
good (AfterBecomes x) k s (Fixed mark.Minus) e f = (f, λ r. refl)
good (AfterBecomes x) k s (Fixed mark.Null) e f = (f, λ r. refl)
good (AfterBecomes x) k s (Fixed mark.Ampersand) e f = (f, λ r. refl)
good (AfterBecomes x) k s (Fixed mark.Star) e f = (f, λ r. refl)
good (AfterBecomes x) k s (Fixed mark.New) e f = (f, λ r. refl)
good (AfterBecomes x) k s (Name y) e f = (f, λ r. refl)
good (AfterBecomes x) k s (Number n) e f = (f, λ r. refl)
good (AfterMinus x) k s (Number n) e f = (f, λ r. refl)
good (AfterValue x y) k s (Fixed mark.Semicolon) e f =
    (record { pending = f.pending; arguments = f.arguments }, λ r. body_on-put s (Simple (Assigns x (Copied y))) r f.pending)
good (AfterValue x y) k s (Fixed mark.Plus) e f = (f, λ r. refl)
good (AfterValue x y) k s (Fixed mark.Minus) e f = (f, λ r. refl)
good (AfterValue x y) k s (Fixed mark.Less) e f = (f, λ r. refl)
good (AfterValue x y) k s (Fixed mark.Same) e f = (f, λ r. refl)
good (AfterValue x y) k s (Fixed mark.OpenParen) e f = (f, λ r. refl)
good (AfterOperator x y o) k s (Name z) e f = (f, λ r. refl)
good (AfterAmpersand x) k s (Name y) e f = (f, λ r. refl)
good (AfterAddress x y) k s (Fixed mark.Semicolon) e f =
    (record { pending = f.pending; arguments = f.arguments }, λ r. body_on-put s (Simple (Assigns x (GlobalAddress y))) r f.pending)
good (AfterAddress x y) k s (Fixed mark.OpenBracket) e f = (f, λ r. refl)
good (AfterBracket x y) k s (Number n) e f = (f, λ r. refl)
good (AfterIndex x y n) k s (Fixed mark.CloseBracket) e f = (f, λ r. refl)
good (AfterStar x) k s (Name y) e f = (f, λ r. refl)
good (AfterNew x) k s (Number n) e f = (f, λ r. refl)
good (FirstArgument x g) k s (Name a) e f =
    ((f.pending, IsFilled-push s.arguments a), λ r. ap (λ (ts : List Token). body_on s (Name x ∷ Fixed mark.Becomes ∷ Name g ∷ Fixed mark.OpenParen ∷ ts)) (arguments_first s a r f.arguments))
good (FirstArgument x g) k s (Fixed mark.CloseParen) e f =
    (f.pending, λ r. ap (λ (ts : List Token). body_on s (Name x ∷ Fixed mark.Becomes ∷ Name g ∷ Fixed mark.OpenParen ∷ ts)) (arguments_none s (Fixed mark.CloseParen ∷ r) f.arguments))
good (AfterArgument x g) k s (Fixed mark.Comma) e f = (f, λ r. refl)
good (AfterArgument x g) k s (Fixed mark.CloseParen) e f = (f.0, λ r. refl)
good (NextArgument x g) k s (Name a) e f =
    ((f.0, IsFilled-push s.arguments a), λ r. ap (λ (ts : List Token). body_on s (Name x ∷ Fixed mark.Becomes ∷ Name g ∷ Fixed mark.OpenParen ∷ ts)) (names_on-push s.arguments a r f.1))
good (CallEnd x g) k s (Fixed mark.Semicolon) e f =
    (record { pending = f; arguments = refl }, λ r. body_on-put s (Simple (Calls x g s.arguments)) r f)
good (LineEnd l) k s (Fixed mark.Semicolon) e f =
    (record { pending = f.pending; arguments = f.arguments }, λ r. body_on-put s (Simple l) r f.pending)
good StoreStart k s (Name x) e f = (f, λ r. refl)
good (StoreTarget x) k s (Fixed mark.Becomes) e f = (f, λ r. refl)
good (StoreValue x) k s (Name y) e f = (f, λ r. refl)
good AfterOut k s (Name x) e f = (f, λ r. refl)
good AfterIf k s (Name x) e f = (f, λ r. refl)
good AfterWhile k s (Name x) e f = (f, λ r. refl)
good (AfterHeader o) k s (Fixed mark.OpenBrace) e f = begin_fits o s k f
good AfterReturn k s (Name x) e f = (f, λ r. refl)
good (Returned x) k s (Fixed mark.Semicolon) e f = (f, λ r. refl)
good (BodyEnd x) k s (Fixed mark.CloseBrace) e f =
    (record { top = refl; frames = f.1; arguments = f.0.arguments }, λ r. finished x s r f.0 f.1)
good _ k s t e f = tt

-- what many tokens keep
abbrev pub Kept : State → List Token → Option State → Type 0
Kept w ts None = Unit {0}
Kept w ts (Some v) =
    Fits v.control v.stack × ((r : List Token) → state_on v.control v.stack r ≡ state_on w.control w.stack (ts ++ r))

-- an `if` that waits is a statement where no `else` follows
settled_on : (d : List Stmt) (p : Option (List ℕ × Block)) (r : List Token) → stmts_on (settle (record { items = []; name = []; parameters = []; arguments = []; top = record { done = d; pending = p }; frames = [] })).top.done r ≡ stmts_on d (pending_on p r)
settled_on d None r = refl
settled_on d (Some (x, a)) r = stmts_on-push d (IfStmt x a NoElse) r

-- getting ready for a token keeps all
abbrev Readied : Control → Stack → State → Type 0
Readied c s v = Fits v.control v.stack × ((r : List Token) → state_on v.control v.stack r ≡ state_on c s r)

readied_then : (t : Token) (s : Stack) → IsWaiting s → Readied AfterThen s (ready_then t s)
readied_then (Fixed mark.Else) s f = (f, λ r. refl)
readied_then _ s f = (record { pending = refl; arguments = f.1 }, λ r. ap (λ (ts : List Token). head_on s (names_on s.parameters (Fixed mark.CloseParen ∷ Fixed mark.OpenBrace ∷ frames_on s.frames ts))) (settled_on s.top.done s.top.pending r))

readied : (c : Control) (t : Token) (s : Stack) → Fits c s → Readied c s (ready c t s)
readied AfterThen t s f = readied_then t s f
readied _ t s f = (f, λ r. refl)

-- one token
moved_keeps : (c : Control) (s : Stack) (t : Token) (o : Option (Control × Act)) → After c s t o → Kept (record { control = c; stack = s }) (t ∷ []) (moved o s)
moved_keeps c s t None h = tt
moved_keeps c s t (Some (d, a)) h = h

from_ready : (w v : State) (t : Token) (o : Option State) → Readied w.control w.stack v → Kept v (t ∷ []) o → Kept w (t ∷ []) o
from_ready w v t None h k = tt
from_ready w v t (Some u) h k = (k.0, λ r. k.1 r ∙ h.1 (t ∷ r))

next_keeps : (w : State) (t : Token) → Fits w.control w.stack → Kept w (t ∷ []) (next w t)
next_keeps w t f =
    let v = ready w.control t w.stack in
    let h : Readied w.control w.stack v = readied w.control t w.stack f in
    from_ready w v t (next_ready v t) h
    (moved_keeps v.control v.stack t (step v.control (kind_of v.stack.frames) t) (good v.control (kind_of v.stack.frames) v.stack t refl h.0))

after_one : (w u : State) (t : Token) (ts : List Token) (o : Option State) → Kept w (t ∷ []) (Some u) → Kept u ts o → Kept w (t ∷ ts) o
after_one w u t ts None h k = tt
after_one w u t ts (Some v) h k = (k.0, λ r. k.1 r ∙ h.1 (ts ++ r))

from_next : (ts : List Token) (w : State) (t : Token) (o : Option State) → Kept w (t ∷ []) o → ((u : State) → Fits u.control u.stack → Kept u ts (run u ts)) → Kept w (t ∷ ts) (run_with o (λ n. run n ts))
from_next ts w t None k go = tt
from_next ts w t (Some u) k go = after_one w u t ts (run u ts) k (go u k.0)

-- a run does
pub run_keeps : (ts : List Token) (w : State) → Fits w.control w.stack → Kept w ts (run w ts)
run_keeps [] w f = (f, λ r. refl)
run_keeps (t ∷ ts) w f = from_next ts w t (next w t) (next_keeps w t f) (λ u h. run_keeps ts u h)
