-- The kind of a token decides whether the automaton continues with it, and what is said where it stops.
use Rattle.std.proofs.Common.{◌≡◌, ◌≢◌, ◌↔◌, ℕ, List, [], ◌∷◌, ◌++◌, Bool, true, IsTrue, Option, Some, None, is_some, refl, sym, ◌∙◌, subst}
use Rattle.std.specs.List.{AllPairs}
use Rattle.std.proofs.lemmas.List.{append-nil}
use Rattle.asl_grammar.specs.declared.control.Kind.{Kind}
use Rattle.asl_grammar.specs.Token.{Token, Fixed, Name, Number, Spot}
use Rattle.asl_grammar.specs.Lex.{tokens_of}
use Rattle.asl_grammar.specs.Grammar.{IsProgram, IsGrammarFault, StopsAt, bare}
use Rattle.asl_grammar.specs.Automaton.{Control, Act, ItemStart, AfterGlobal, GlobalNamed, AfterFn, FunctionNamed, FirstParameter, AfterParameter, NextParameter, BodyStart, StatementStart, AfterThen, Target, AfterBecomes, AfterMinus, AfterValue, AfterOperator, AfterAmpersand, AfterAddress, AfterBracket, AfterIndex, AfterStar, AfterNew, FirstArgument, AfterArgument, NextArgument, CallEnd, LineEnd, StoreStart, StoreTarget, StoreValue, AfterOut, AfterIf, AfterWhile, AfterHeader, AfterReturn, Returned, BodyEnd, step}
use Rattle.asl_grammar.specs.Seen.{Place, innermost, settled, placed, step_at}
use Rattle.asl_grammar.proofs.OneFault.{one_fault}
use Rattle.asl_diagnose_text.specs.declared.kind.TokenKind.{TokenKind}
use Rattle.asl_diagnose_text.specs.Expected.{kind_of, GoOn, IsStop}
use Rattle.asl_diagnose_text.specs.WalkView.{sample_of, is_accepted, ListsAccepted, MayEnd, IsStuck, Stands, IsStopped}

-- whether a token may stand, in a control and a block
abbrev may : Control → Kind → Token → Bool
may c k t = is_some (step (settled c t) k t)

name_same : (c : Control) (k : Kind) (x y : List ℕ) → may c k (Name x) ≡ may c k (Name y)
name_same ItemStart k x y = refl
name_same AfterGlobal k x y = refl
name_same (GlobalNamed a) k x y = refl
name_same AfterFn k x y = refl
name_same (FunctionNamed a) k x y = refl
name_same FirstParameter k x y = refl
name_same AfterParameter k x y = refl
name_same NextParameter k x y = refl
name_same BodyStart k x y = refl
name_same StatementStart k x y = refl
name_same AfterThen k x y = refl
name_same (Target a) k x y = refl
name_same (AfterBecomes a) k x y = refl
name_same (AfterMinus a) k x y = refl
name_same (AfterValue a b) k x y = refl
name_same (AfterOperator a b o) k x y = refl
name_same (AfterAmpersand a) k x y = refl
name_same (AfterAddress a b) k x y = refl
name_same (AfterBracket a b) k x y = refl
name_same (AfterIndex a b n) k x y = refl
name_same (AfterStar a) k x y = refl
name_same (AfterNew a) k x y = refl
name_same (FirstArgument a b) k x y = refl
name_same (AfterArgument a b) k x y = refl
name_same (NextArgument a b) k x y = refl
name_same (CallEnd a b) k x y = refl
name_same (LineEnd l) k x y = refl
name_same StoreStart k x y = refl
name_same (StoreTarget a) k x y = refl
name_same (StoreValue a) k x y = refl
name_same AfterOut k x y = refl
name_same AfterIf k x y = refl
name_same AfterWhile k x y = refl
name_same (AfterHeader o) k x y = refl
name_same AfterReturn k x y = refl
name_same (Returned a) k x y = refl
name_same (BodyEnd a) k x y = refl

number_same : (c : Control) (k : Kind) (x y : ℕ) → may c k (Number x) ≡ may c k (Number y)
number_same ItemStart k x y = refl
number_same AfterGlobal k x y = refl
number_same (GlobalNamed a) k x y = refl
number_same AfterFn k x y = refl
number_same (FunctionNamed a) k x y = refl
number_same FirstParameter k x y = refl
number_same AfterParameter k x y = refl
number_same NextParameter k x y = refl
number_same BodyStart k x y = refl
number_same StatementStart k x y = refl
number_same AfterThen k x y = refl
number_same (Target a) k x y = refl
number_same (AfterBecomes a) k x y = refl
number_same (AfterMinus a) k x y = refl
number_same (AfterValue a b) k x y = refl
number_same (AfterOperator a b o) k x y = refl
number_same (AfterAmpersand a) k x y = refl
number_same (AfterAddress a b) k x y = refl
number_same (AfterBracket a b) k x y = refl
number_same (AfterIndex a b n) k x y = refl
number_same (AfterStar a) k x y = refl
number_same (AfterNew a) k x y = refl
number_same (FirstArgument a b) k x y = refl
number_same (AfterArgument a b) k x y = refl
number_same (NextArgument a b) k x y = refl
number_same (CallEnd a b) k x y = refl
number_same (LineEnd l) k x y = refl
number_same StoreStart k x y = refl
number_same (StoreTarget a) k x y = refl
number_same (StoreValue a) k x y = refl
number_same AfterOut k x y = refl
number_same AfterIf k x y = refl
number_same AfterWhile k x y = refl
number_same (AfterHeader o) k x y = refl
number_same AfterReturn k x y = refl
number_same (Returned a) k x y = refl
number_same (BodyEnd a) k x y = refl

same_kind : (p : Place) (t : Token) → is_accepted p t ≡ is_accepted p (sample_of (kind_of t))
same_kind p (Fixed m) = refl
same_kind p (Name x) = name_same p.control (innermost p.kinds) x (120 ∷ [])
same_kind p (Number n) = number_same p.control (innermost p.kinds) n 1

listed : (before : List Token) (p : Place) (kinds : List TokenKind) → Stands before p → ListsAccepted p kinds → GoOn before kinds
listed before p kinds s l t = (
  λ h. (s.goes t).0 (same_kind p t ∙ (l (kind_of t)).0 h),
  λ v. (l (kind_of t)).1 (sym (same_kind p t) ∙ (s.goes t).1 v),
)

-- the place of the next token, or the end
abbrev stop_place : List Spot → ℕ → ℕ
stop_place [] end = end
stop_place (s ∷ ss) end = s.at

not_placed : {A : Type 0} (o : Option (Control × Act)) (p : Place) → placed o p.kinds ≡ None → is_some o ≡ true → A
not_placed None p e h = cc
not_placed (Some (c, a)) p e h = cc

stops : (ss before rest : List Spot) (end : ℕ) (p : Place) → ss ≡ before ++ rest → Stands (bare before) p → IsStuck p rest → (IsProgram (bare ss) → ⊥) → StopsAt (bare before) rest end (stop_place rest end)
stops ss before [] end p e s k n =
    let P : List Spot → Type 0 = λ ts. IsProgram (bare ts) in
    (refl, λ q. n (subst P (sym (e ∙ append-nil before)) q))
stops ss before (x ∷ rest) end p e s k n = (refl, λ v. not_placed (step_at p x.token) p k ((s.goes x.token).1 v))

pub is_stop : (text : List ℕ) (end at : ℕ) (p : Place) (kinds : List TokenKind) (b : Bool) → IsStopped (tokens_of text) p → ListsAccepted p kinds → AllPairs (λ a b. a ≢ b) kinds → (IsTrue b ↔ MayEnd p) → IsGrammarFault (tokens_of text) end at → IsStop (tokens_of text) end at kinds b
is_stop text end at p kinds b h l once m g =
    let here : IsGrammarFault (tokens_of text) end (stop_place h.rest end) = record {
      before = h.before;
      rest = h.rest;
      split = h.split;
      begins = h.stands.begins;
      stops = stops (tokens_of text) h.before h.rest end p h.split h.stands h.stuck g.no_program;
      no_program = g.no_program;
    } in
    let same : stop_place h.rest end ≡ at = one_fault text end (stop_place h.rest end) at here g in
    record {
      fault = record {
        before = h.before;
        rest = h.rest;
        split = h.split;
        begins = h.stands.begins;
        stops = subst (λ (a : ℕ). StopsAt (bare h.before) h.rest end a) same here.stops;
        no_program = g.no_program;
      };
      listed = listed (bare h.before) p kinds h.stands l;
      once = once;
      ends = (λ t. h.stands.ends.0 (m.0 t), λ q. m.1 (h.stands.ends.1 q));
    }
