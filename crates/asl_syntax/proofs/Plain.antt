-- Building the trees that written ones mean is building written ones and taking their meaning.
use Rattle.std.proofs.Common.{◌≡◌, ℕ, List, [], ◌∷◌, ◌++◌, Option, Some, None, refl, sym, ap, ◌∙◌, map}
use Rattle.std.proofs.lemmas.List.{map-append}
use Rattle.asl_grammar.specs.declared.token.Mark.TheVariants as mark
use Rattle.asl_grammar.specs.declared.control.Kind.{Kind}
use Rattle.asl_grammar.specs.Token.{Token, Fixed, Spot}
use Rattle.asl_grammar.specs.Written as w
use Rattle.asl_grammar.specs.Spelling.{program_on}
use Rattle.asl_grammar.specs.Automaton.{Opening, OfIf, OfElse, OfWhile, OfAtomic, Control, ItemStart, AfterThen, Act, Keep, Declare, Start, Parameter, Argument, Emit, EmitCall, Begin, Close, Finish, step}
use Rattle.asl_grammar.proofs.Stacks as a
use Rattle.asl_grammar.specs.Grammar.{bare}
use Rattle.asl_grammar.specs.Seen.{settled, settled_by}
use Rattle.asl_grammar.proofs.Complete.{run_program}
use Rattle.asl_grammar.proofs.Judged.{spelled}
use Rattle.asl_syntax.specs.Tree.{Statement, Block, Then, Item}
use Rattle.asl_syntax.specs.View.{block}
use Rattle.asl_syntax.specs.Spelled.{stmt_meaning, block_meaning, item_meaning, Spells}
use Rattle.asl_syntax.specs.Built.{Header, ThenBlock, ElseBlock, WhileBlock, AtomicBlock, Part, Frame, Stack, no_stack, settle_pending, else_header, closed, close_frames, apply, header_kind, kind_of, ready, ready_then, State, moved, next_ready, next, whole_at}
use Rattle.asl_syntax.proofs.Whole.{built_with, built_from}

abbrev statements : List w.Stmt → List Statement
statements ss = map stmt_meaning ss

abbrev waiting : Option (List ℕ × w.Block) → Option (List ℕ × Block)
waiting None = None
waiting (Some (x, b)) = Some (x, block_meaning b)

abbrev part : a.Part → Part
part p = record { done = statements p.done; pending = waiting p.pending }

abbrev header : a.Header → Header
header (a.ThenBlock x) = ThenBlock x
header (a.ElseBlock x b) = ElseBlock x (block_meaning b)
header (a.WhileBlock x) = WhileBlock x
header a.AtomicBlock = AtomicBlock

abbrev frame : a.Frame → Frame
frame f = record { header = header f.header; outer = statements f.outer }

-- the meaning of a stack
abbrev pub stack : a.Stack → Stack
stack s = record {
  items = map item_meaning s.items;
  name = s.name;
  parameters = s.parameters;
  arguments = s.arguments;
  top = part s.top;
  frames = map frame s.frames;
}

block_meaning-to_block : (ss : List w.Stmt) → block_meaning (a.to_block ss) ≡ block (statements ss)
block_meaning-to_block [] = refl
block_meaning-to_block (s ∷ ss) = ap (Then (stmt_meaning s)) (block_meaning-to_block ss)

statements-push : (ss : List w.Stmt) (s : w.Stmt) → statements (ss ++ s ∷ []) ≡ statements ss ++ stmt_meaning s ∷ []
statements-push ss s = map-append stmt_meaning ss (s ∷ [])

items-push : (is : List w.Item) (i : w.Item) → map item_meaning (is ++ i ∷ []) ≡ map item_meaning is ++ item_meaning i ∷ []
items-push is i = map-append item_meaning is (i ∷ [])

else_header-waiting : (p : Option (List ℕ × w.Block)) → header (a.else_header p) ≡ else_header (waiting p)
else_header-waiting None = refl
else_header-waiting (Some (x, b)) = refl

opened : (o : Opening) (s : a.Stack) → stack (a.apply (Begin o) s) ≡ apply (Begin o) (stack s)
opened (OfIf x) s = refl
opened OfElse s = simp (else_header-waiting s.top.pending)
opened (OfWhile x) s = refl
opened OfAtomic s = refl

closed-part : (h : a.Header) (ss : List w.Stmt) (outer : List w.Stmt) → part (a.closed h (a.to_block ss) outer) ≡ closed (header h) (block (statements ss)) (statements outer)
closed-part (a.ThenBlock x) ss outer = simp (block_meaning-to_block)
closed-part (a.ElseBlock x b) ss outer = simp (statements-push, block_meaning-to_block)
closed-part (a.WhileBlock x) ss outer = simp (statements-push, block_meaning-to_block)
closed-part a.AtomicBlock ss outer = simp (statements-push, block_meaning-to_block)

shut : (fs : List a.Frame) (s : a.Stack) → stack (a.close_frames fs (record s { frames = fs })) ≡ close_frames (map frame fs) (stack (record s { frames = fs }))
shut [] s = refl
shut (f ∷ fs) s =
    ap (λ (p : Part). record (stack (record s { frames = fs })) { top = p }) (closed-part f.header s.top.done f.outer)

applied : (x : Act) (s : a.Stack) → stack (a.apply x s) ≡ apply x (stack s)
applied Keep s = refl
applied (Declare x) s = simp (items-push)
applied (Start x) s = refl
applied (Parameter x) s = refl
applied (Argument x) s = refl
applied (Emit l) s = simp (statements-push)
applied (EmitCall x f) s = simp (statements-push)
applied (Begin o) s = opened o s
applied Close s = shut s.frames s
applied (Finish x) s = simp (items-push, block_meaning-to_block)

settled-pending : (ss : List w.Stmt) (p : Option (List ℕ × w.Block)) → statements (a.settle_pending ss p) ≡ settle_pending (statements ss) (waiting p)
settled-pending ss None = refl
settled-pending ss (Some (x, b)) = statements-push ss (w.IfStmt x b w.NoElse)

-- getting ready for a token
abbrev ReadyAs : Control → Stack → a.State → Type 0
ReadyAs c s v = (v.control ≡ c) × (stack v.stack ≡ s)

ready_then_as : (t : Token) (s : a.Stack) → ReadyAs (settled_by t) (ready_then t (stack s)) (a.ready_then t s)
ready_then_as (Fixed mark.Else) s = (refl, refl)
ready_then_as _ s =
    (refl, ap (λ (ss : List Statement). record (stack s) { top = record { done = ss; pending = None } }) (settled-pending s.top.done s.top.pending))

ready_as : (c : Control) (t : Token) (s : a.Stack) → ReadyAs (settled c t) (ready c t (stack s)) (a.ready c t s)
ready_as AfterThen t s = ready_then_as t s
ready_as _ t s = (refl, refl)

header-kind : (h : a.Header) → header_kind (header h) ≡ a.header_kind h
header-kind (a.ThenBlock x) = refl
header-kind (a.ElseBlock x b) = refl
header-kind (a.WhileBlock x) = refl
header-kind a.AtomicBlock = refl

frames-kind : (fs : List a.Frame) → kind_of (map frame fs) ≡ a.kind_of fs
frames-kind [] = refl
frames-kind (f ∷ fs) = header-kind f.header

abbrev meant : Option a.State → Option State
meant None = None
meant (Some v) = Some (record { control = v.control; stack = stack v.stack })

moved-meant : (o : Option (Control × Act)) (s : a.Stack) → meant (a.moved o s) ≡ moved o (stack s)
moved-meant None s = refl
moved-meant (Some (c, x)) s =
    ap (λ (r : Stack). Some (record { control = c; stack = r })) (applied x s)

ready-meant : (v : a.State) (c : Control) (s : Stack) (t : Token) → v.control ≡ c → stack v.stack ≡ s → meant (a.next_ready v t) ≡ next_ready c s t
ready-meant v c s t e f =
    moved-meant (step v.control (a.kind_of v.stack.frames) t) v.stack
    ∙ ap (λ (k : Kind). moved (step v.control k t) (stack v.stack)) (sym (frames-kind v.stack.frames))
    ∙ ap (λ (r : Stack). moved (step v.control (kind_of r.frames) t) r) f
    ∙ ap (λ (d : Control). moved (step d (kind_of s.frames) t) s) e

next-meant : (v : a.State) (t : Token) → meant (a.next v t) ≡ next v.control (stack v.stack) t
next-meant v t =
    let h = ready_as v.control t v.stack in
    ready-meant (a.ready v.control t v.stack) (settled v.control t) (ready v.control t (stack v.stack)) t h.0 h.1

-- what a program means, if there is one
abbrev meanings : Option (List w.Item) → Option (List Item)
meanings None = None
meanings (Some is) = Some (map item_meaning is)

whole-meant : (c : Control) (s : a.Stack) → meanings (a.whole_at c s) ≡ whole_at c (stack s)
whole-meant ItemStart s = refl
whole-meant _ s = refl

run-meant : (ss : List Spot) (v : a.State) → meanings (a.whole (a.run v (bare ss))) ≡ built_from v.control (stack v.stack) ss
run-meant [] v = whole-meant v.control v.stack
run-meant (s ∷ ss) v =
    then_meant ss (a.next v s.token) (λ u. run-meant ss u)
    ∙ ap (λ (o : Option State). built_with o (λ d r. built_from d r ss)) (next-meant v s.token)
  where
    then_meant : (ss : List Spot) (o : Option a.State) → ((u : a.State) → meanings (a.whole (a.run u (bare ss))) ≡ built_from u.control (stack u.stack) ss) → meanings (a.whole (a.run_with o (λ n. a.run n (bare ss)))) ≡ built_with (meant o) (λ d r. built_from d r ss)
    then_meant ss None go = refl
    then_meant ss (Some u) go = go u

-- what the tokens of a program build is what it means
pub built_meaning : (ss : List Spot) (is : List w.Item) → program_on is [] ≡ bare ss → built_from ItemStart no_stack ss ≡ Some (map item_meaning is)
built_meaning ss is e =
    sym (run-meant ss (a.state_of []))
    ∙ ap (λ o. meanings (a.whole o)) (ap (a.run (a.state_of [])) (sym e) ∙ run_program is)

-- a list of tokens spells one tree at most
pub one_tree : (t u : List Item) (ss : List Spot) → Spells t (bare ss) → Spells u (bare ss) → t ≡ u
one_tree t u ss p q =
    let e : Some t ≡ Some u = ap Some (sym p.meaning) ∙ sym (built_meaning ss p.written p.spelled) ∙ built_meaning ss q.written q.spelled ∙ ap Some q.meaning in
    cc

-- what is built is spelled
built_spells : (ss : List Spot) (t : List Item) (o : Option (List w.Item)) → a.whole (a.run (a.state_of []) (bare ss)) ≡ o → meanings o ≡ Some t → Spells t (bare ss)
built_spells ss t None e h = cc
built_spells ss t (Some is) e h =
    record { written = is; meaning = (let f : map item_meaning is ≡ t = cc in f); spelled = spelled (bare ss) is e }

pub spells_built : (ss : List Spot) (t : List Item) → built_from ItemStart no_stack ss ≡ Some t → Spells t (bare ss)
spells_built ss t e =
    built_spells ss t (a.whole (a.run (a.state_of []) (bare ss))) refl (run-meant ss (a.state_of []) ∙ e)
