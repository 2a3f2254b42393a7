-- The automaton stops at the first token with which no program continues, and nowhere else.
use Rattle.std.proofs.Common.{◌≡◌, ℕ, List, [], ◌∷◌, ◌++◌, Option, Some, None, refl, sym, ap, ◌∙◌, subst, append_assoc, map}
use Rattle.std.proofs.lemmas.List.{append-nil, map-append}
use Rattle.asl_grammar.specs.declared.token.Mark.TheVariants as mark
use Rattle.asl_grammar.specs.declared.control.Kind.{Kind}
use Rattle.asl_grammar.specs.declared.control.Kind.TheVariants.{Inner}
use Rattle.asl_grammar.specs.Token.{Token, Fixed, Spot}
use Rattle.asl_grammar.specs.Written.{Block, Item}
use Rattle.asl_grammar.specs.Spelling.{program_on}
use Rattle.asl_grammar.specs.Automaton.{Opening, OfIf, OfElse, OfWhile, OfAtomic, Control, ItemStart, AfterThen, Act, Keep, Declare, Start, Parameter, Argument, Emit, EmitCall, Begin, Close, Finish, step}
use Rattle.asl_grammar.proofs.Stacks.{Frame, Stack, State, state_of, apply, close_frames, else_header, kind_of, header_kind, ready, ready_then, moved, next_ready, next, run, run_with, whole, whole_at}
use Rattle.asl_grammar.specs.Grammar.{IsProgram, IsViable, IsGrammarFault, bare, Judges}
use Rattle.asl_grammar.specs.Seen.{Place, start_place, innermost, settled, settled_by, opening_kind, outer_kinds, kinds_after, placed, next_place, fault_at_end}
use Rattle.asl_grammar.proofs.Stopping.{fault_with, fault_from}
use Rattle.asl_grammar.proofs.Complete.{run_program}
use Rattle.asl_grammar.proofs.ReadTokens.{Fits}
use Rattle.asl_grammar.proofs.Sound.{Kept, run_keeps}
use Rattle.asl_grammar.proofs.Viable.{CanEnd, can_end, run-append}

-- the kinds of open blocks
abbrev kinds_of : List Frame → List Kind
kinds_of fs = map (λ (f : Frame). header_kind f.header) fs

-- a state without its trees
abbrev pub place_of : State → Place
place_of w = record { control = w.control; kinds = kinds_of w.stack.frames }

abbrev pub place_of_option : Option State → Option Place
place_of_option None = None
place_of_option (Some w) = Some (place_of w)

innermost_kind : (fs : List Frame) → innermost (kinds_of fs) ≡ kind_of fs
innermost_kind [] = refl
innermost_kind (f ∷ fs) = refl

else_kind : (p : Option (List ℕ × Block)) → header_kind (else_header p) ≡ Inner
else_kind None = refl
else_kind (Some (x, a)) = refl

opened_kinds : (o : Opening) (s : Stack) → kinds_of (apply (Begin o) s).frames ≡ opening_kind o ∷ kinds_of s.frames
opened_kinds (OfIf x) s = refl
opened_kinds OfElse s = ap (λ (k : Kind). k ∷ kinds_of s.frames) (else_kind s.top.pending)
opened_kinds (OfWhile x) s = refl
opened_kinds OfAtomic s = refl

closed_kinds : (fs : List Frame) (s : Stack) → kinds_of (close_frames fs (record s { frames = fs })).frames ≡ outer_kinds (kinds_of fs)
closed_kinds [] s = refl
closed_kinds (f ∷ fs) s = refl

applied_kinds : (a : Act) (s : Stack) → kinds_of (apply a s).frames ≡ kinds_after a (kinds_of s.frames)
applied_kinds Keep s = refl
applied_kinds (Declare x) s = refl
applied_kinds (Start x) s = refl
applied_kinds (Parameter x) s = refl
applied_kinds (Argument a) s = refl
applied_kinds (Emit l) s = refl
applied_kinds (EmitCall x f) s = refl
applied_kinds (Begin o) s = opened_kinds o s
applied_kinds Close s = closed_kinds s.frames s
applied_kinds (Finish x) s = refl

moved_place : (o : Option (Control × Act)) (s : Stack) → place_of_option (moved o s) ≡ placed o (kinds_of s.frames)
moved_place None s = refl
moved_place (Some (c, a)) s =
    ap (λ (ks : List Kind). Some (record { control = c; kinds = ks })) (applied_kinds a s)

-- getting ready keeps the open blocks
abbrev ReadyAs : Control → Stack → State → Type 0
ReadyAs c s v = (v.control ≡ c) × (v.stack.frames ≡ s.frames)

ready_then_as : (t : Token) (s : Stack) → ReadyAs (settled_by t) s (ready_then t s)
ready_then_as (Fixed mark.Else) s = (refl, refl)
ready_then_as _ s = (refl, refl)

ready_as : (c : Control) (t : Token) (s : Stack) → ReadyAs (settled c t) s (ready c t s)
ready_as AfterThen t s = ready_then_as t s
ready_as _ t s = (refl, refl)

next_ready_place : (v : State) (c : Control) (fs : List Frame) (t : Token) → v.control ≡ c → v.stack.frames ≡ fs → place_of_option (next_ready v t) ≡ placed (step c (innermost (kinds_of fs)) t) (kinds_of fs)
next_ready_place v c fs t e f =
    moved_place (step v.control (kind_of v.stack.frames) t) v.stack
    ∙ ap (λ (gs : List Frame). placed (step v.control (kind_of gs) t) (kinds_of gs)) f
    ∙ ap (λ (d : Control). placed (step d (kind_of fs) t) (kinds_of fs)) e
    ∙ ap (λ (k : Kind). placed (step c k t) (kinds_of fs)) (sym (innermost_kind fs))

pub next_as : (w : State) (t : Token) → place_of_option (next w t) ≡ next_place (place_of w) t
next_as w t =
    let h = ready_as w.control t w.stack in
    next_ready_place (ready w.control t w.stack) (settled w.control t) w.stack.frames t h.0 h.1

-- what the automaton has read to an end is a program
spelled_at : (c : Control) (s : Stack) (ts : List Token) (is : List Item) → Kept (state_of []) ts (Some (record { control = c; stack = s })) → whole_at c s ≡ Some is → program_on is [] ≡ ts
spelled_at ItemStart s ts is k e =
    let i : is ≡ s.items = cc in
    ap (λ (gs : List Item). program_on gs []) i ∙ k.1 [] ∙ append-nil ts
spelled_at _ s ts is k e = cc

spelled_by : (o : Option State) (ts : List Token) (is : List Item) → Kept (state_of []) ts o → whole o ≡ Some is → program_on is [] ≡ ts
spelled_by None ts is k e = cc
spelled_by (Some w) ts is k e = spelled_at w.control w.stack ts is k e

start_fits : Fits ItemStart (state_of []).stack
start_fits = record { top = refl; frames = refl; arguments = refl }

pub spelled : (ts : List Token) (is : List Item) → whole (run (state_of []) ts) ≡ Some is → program_on is [] ≡ ts
spelled ts is e = spelled_by (run (state_of []) ts) ts is (run_keeps ts (state_of []) start_fits) e

-- a program is read to its end
program_runs : (ts : List Token) → (p : IsProgram ts) → run (state_of []) ts ≡ Some (state_of p.program)
program_runs ts p = ap (run (state_of [])) (sym p.spelled) ∙ run_program p.program

-- what has been read can continue
pub viable : (ts : List Token) (w : State) → run (state_of []) ts ≡ Some w → IsViable ts
viable ts w e =
    let c : CanEnd w = can_end w.control w.stack in
    record {
      more = c.more;
      real = c.real;
      whole = record {
        program = c.items;
        spelled = spelled (ts ++ c.more) c.items (ap whole (run-append ts c.more (state_of []) ∙ ap (λ (o : Option State). run_with o (λ n. run n c.more)) e) ∙ c.ends);
      };
    }

-- what is not read to an end is not a program
not_program : (ts : List Token) (w : State) → run (state_of []) ts ≡ Some w → whole (Some w) ≡ None → IsProgram ts → ⊥
not_program ts w e n p =
    let h : whole (Some w) ≡ Some p.program = ap whole (sym e ∙ program_runs ts p) in cc

-- a token that is not read ends no beginning of a program
stuck : (ts : List Token) (t : Token) (more : List Token) (w : State) → run (state_of []) ts ≡ Some w → next w t ≡ None → run (state_of []) (ts ++ t ∷ more) ≡ None
stuck ts t more w e n =
    run-append ts (t ∷ more) (state_of [])
    ∙ ap (λ (o : Option State). run_with o (λ m. run m (t ∷ more))) e
    ∙ ap (λ (o : Option State). run_with o (λ m. run m more)) n

stuck_program : (ts : List Token) (t : Token) (more : List Token) (w : State) → run (state_of []) ts ≡ Some w → next w t ≡ None → IsProgram (ts ++ t ∷ more) → ⊥
stuck_program ts t more w e n p =
    let a : run (state_of []) (ts ++ t ∷ more) ≡ None = stuck ts t more w e n in
    let b : run (state_of []) (ts ++ t ∷ more) ≡ Some (state_of p.program) = program_runs (ts ++ t ∷ more) p in
    cc

stuck_viable : (ts : List Token) (t : Token) (w : State) → run (state_of []) ts ≡ Some w → next w t ≡ None → IsViable (ts ++ t ∷ []) → ⊥
stuck_viable ts t w e n v =
    let P : List Token → Type 0 = λ us. IsProgram us in
    stuck_program ts t v.more w e n (subst P (append_assoc ts (t ∷ []) v.more) v.whole)

judged_end : (c : Control) (s : Stack) (before : List Spot) (end : ℕ) → run (state_of []) (bare before) ≡ Some (record { control = c; stack = s }) → Judges before end (fault_at_end c end)
judged_end ItemStart s before end e = record { program = s.items; spelled = spelled (bare before) s.items (ap whole e) }
judged_end _ s before end e = record {
  before = before;
  rest = [];
  split = sym (append-nil before);
  begins = viable (bare before) _ e;
  stops = (refl, not_program (bare before) _ e refl);
  no_program = not_program (bare before) _ e refl;
}

judged_stop : (s : Spot) (rest before : List Spot) (end : ℕ) (w : State) → run (state_of []) (bare before) ≡ Some w → next w s.token ≡ None → IsGrammarFault (before ++ s ∷ rest) end s.at
judged_stop s rest before end w e n = record {
  before = before;
  rest = s ∷ rest;
  split = refl;
  begins = viable (bare before) w e;
  stops = (refl, stuck_viable (bare before) s.token w e n);
  no_program = λ p. stuck_program (bare before) s.token (bare rest) w e n (let P : List Token → Type 0 = λ us. IsProgram us in subst P (map-append (λ (x : Spot). x.token) before (s ∷ rest)) p);
}

-- one token further
pub pushed : (s : Spot) (before : List Spot) (w v : State) → run (state_of []) (bare before) ≡ Some w → next w s.token ≡ Some v → run (state_of []) (bare (before ++ s ∷ [])) ≡ Some v
pushed s before w v e n =
    ap (run (state_of [])) (map-append (λ (x : Spot). x.token) before (s ∷ []))
    ∙ run-append (bare before) (s.token ∷ []) (state_of [])
    ∙ ap (λ (o : Option State). run_with o (λ m. run m (s.token ∷ []))) e
    ∙ ap (λ (o : Option State). run_with o (λ m. run m [])) n

judged_next : (s : Spot) (rest before : List Spot) (end : ℕ) (w : State) (o : Option State) → run (state_of []) (bare before) ≡ Some w → next w s.token ≡ o → ((b : List Spot) (v : State) → run (state_of []) (bare b) ≡ Some v → Judges (b ++ rest) end (fault_from (place_of v) rest end)) → Judges (before ++ s ∷ rest) end (fault_with (place_of_option o) s.at (λ q. fault_from q rest end))
judged_next s rest before end w None e n go = judged_stop s rest before end w e n
judged_next s rest before end w (Some v) e n go =
    let P : List Spot → Type 0 = λ ss. Judges ss end (fault_from (place_of v) rest end) in
    subst P (append_assoc before (s ∷ []) rest) (go (before ++ s ∷ []) v (pushed s before w v e n))

judged_from : (rest before : List Spot) (end : ℕ) (w : State) → run (state_of []) (bare before) ≡ Some w → Judges (before ++ rest) end (fault_from (place_of w) rest end)
judged_from [] before end w e =
    let P : List Spot → Type 0 = λ ss. Judges ss end (fault_at_end w.control end) in
    subst P (sym (append-nil before)) (judged_end w.control w.stack before end e)
judged_from (s ∷ rest) before end w e =
    let P : Option Place → Type 0 = λ o. Judges (before ++ s ∷ rest) end (fault_with o s.at (λ q. fault_from q rest end)) in
    subst P (next_as w s.token) (judged_next s rest before end w (next w s.token) e refl (λ b v h. judged_from rest b end v h))

-- the automaton's answer: the tokens are a program, or it is the place of the first with which none continues
pub judged : (ss : List Spot) (end : ℕ) → Judges ss end (fault_from start_place ss end)
judged ss end = judged_from ss [] end (state_of []) refl

-- the answer stays the same after a token
pub goes_on : (p q : Place) (x : Spot) (rest left : List Spot) (end : ℕ) (all : Option ℕ) → fault_from p rest end ≡ all → rest ≡ x ∷ left → Some q ≡ next_place p x.token → fault_from q left end ≡ all
goes_on p q x rest left end all h e n =
    ap (λ (o : Option Place). fault_with o x.at (λ w. fault_from w left end)) n
    ∙ ap (λ (ss : List Spot). fault_from p ss end) (sym e)
    ∙ h

-- the answer where the recogniser stops, and at the end
pub stopped : (all rest left : List Spot) (end : ℕ) (p : Place) (s : Spot) → fault_from p rest end ≡ fault_from start_place all end → rest ≡ s ∷ left → None ≡ next_place p s.token → Judges all end (Some s.at)
stopped all rest left end p s e r n =
    let f : fault_from p (s ∷ left) end ≡ Some s.at = ap (λ (o : Option Place). fault_with o s.at (λ q. fault_from q left end)) (sym n) in
    let P : Option ℕ → Type 0 = λ o. Judges all end o in
    subst P (sym e ∙ ap (λ (ss : List Spot). fault_from p ss end) r ∙ f) (judged all end)

pub ended : (all rest : List Spot) (end : ℕ) (p : Place) → fault_from p rest end ≡ fault_from start_place all end → rest ≡ [] → Judges all end (fault_at_end p.control end)
ended all rest end p e r =
    let P : Option ℕ → Type 0 = λ o. Judges all end o in
    subst P (sym e ∙ ap (λ (ss : List Spot). fault_from p ss end) r) (judged all end)
