-- After a token that passes no limit, what the automaton completes fits the code's tree.
use Rattle.std.proofs.Common.{◌≡◌, ℕ, ◌≤◌, false, Option, Some, None, ◌||◌, ◌==◌, nat_lt, length, refl, sym, ap, ◌∙◌, subst}
use Rattle.std.proofs.lemmas.Bool.{ltb-false, or_parts}
use Rattle.asl_grammar.specs.declared.token.Mark.TheVariants as mark
use Rattle.asl_grammar.specs.declared.control.Kind.{Kind}
use Rattle.asl_grammar.specs.declared.control.Kind.TheVariants.{Body, Then, Inner}
use Rattle.asl_grammar.specs.Token.{Token, Fixed, Name, Number}
use Rattle.asl_grammar.specs.Automaton.{Control, Act, ItemStart, AfterGlobal, GlobalNamed, AfterFn, FunctionNamed, FirstParameter, AfterParameter, NextParameter, BodyStart, StatementStart, AfterThen, Target, AfterBecomes, AfterMinus, AfterValue, AfterOperator, AfterAmpersand, AfterAddress, AfterBracket, AfterIndex, AfterStar, AfterNew, FirstArgument, AfterArgument, NextArgument, CallEnd, LineEnd, StoreStart, StoreTarget, StoreValue, AfterOut, AfterIf, AfterWhile, AfterHeader, AfterReturn, Returned, BodyEnd, step}
use Rattle.asl_grammar.specs.Seen.{settled, settled_by}
use Rattle.asl_syntax.specs.Built.{Stack, State, kind_of, ready, apply, moved, next}
use Rattle.asl_syntax.specs.Limit.{Tally, is_over, number_over}
use Rattle.asl_syntax.specs.Fits.{NameFits, LineFits, OpeningFits, ActFits, NextFits}
use Rattle.asl_syntax.specs.Fits as fits

-- those of a line so far; a number is to come after the token that says its range
abbrev pub ControlFits : Control → Option Token → Type 0
ControlFits ItemStart last = Unit {0}
ControlFits AfterGlobal last = Unit {0}
ControlFits (GlobalNamed x) last = NameFits x
ControlFits AfterFn last = Unit {0}
ControlFits (FunctionNamed x) last = NameFits x
ControlFits FirstParameter last = Unit {0}
ControlFits AfterParameter last = Unit {0}
ControlFits NextParameter last = Unit {0}
ControlFits BodyStart last = Unit {0}
ControlFits StatementStart last = Unit {0}
ControlFits AfterThen last = Unit {0}
ControlFits (Target x) last = NameFits x
ControlFits (AfterBecomes x) last = NameFits x × (last ≡ Some (Fixed mark.Becomes))
ControlFits (AfterMinus x) last = NameFits x × (last ≡ Some (Fixed mark.Minus))
ControlFits (AfterValue x y) last = NameFits x × NameFits y
ControlFits (AfterOperator x y z) last = NameFits x × NameFits y
ControlFits (AfterAmpersand x) last = NameFits x
ControlFits (AfterAddress x y) last = NameFits x × NameFits y
ControlFits (AfterBracket x y) last = NameFits x × NameFits y × (last ≡ Some (Fixed mark.OpenBracket))
ControlFits (AfterIndex x y z) last = NameFits x × NameFits y × z ≤ 255
ControlFits (AfterStar x) last = NameFits x
ControlFits (AfterNew x) last = NameFits x × (last ≡ Some (Fixed mark.New))
ControlFits (FirstArgument x y) last = NameFits x × NameFits y
ControlFits (AfterArgument x y) last = NameFits x × NameFits y
ControlFits (NextArgument x y) last = NameFits x × NameFits y
ControlFits (CallEnd x y) last = NameFits x × NameFits y
ControlFits (LineEnd x) last = LineFits x
ControlFits StoreStart last = Unit {0}
ControlFits (StoreTarget x) last = NameFits x
ControlFits (StoreValue x) last = NameFits x
ControlFits AfterOut last = Unit {0}
ControlFits AfterIf last = Unit {0}
ControlFits AfterWhile last = Unit {0}
ControlFits (AfterHeader x) last = OpeningFits x
ControlFits AfterReturn last = Unit {0}
ControlFits (Returned x) last = NameFits x
ControlFits (BodyEnd x) last = NameFits x

-- a name is short enough, and a number in the range that the last token asks for
abbrev pub TokenFits : Option Token → Token → Type 0
TokenFits last (Fixed m) = Unit {0}
TokenFits last (Name x) = NameFits x
TokenFits last (Number n) = number_over last n ≡ false

index_fits : (last : Option Token) (n : ℕ) → last ≡ Some (Fixed mark.OpenBracket) → number_over last n ≡ false → n ≤ 255
index_fits last n e h = ltb-false 255 n (ap (λ o. number_over o n) (sym e) ∙ h)

size_fits : (last : Option Token) (n : ℕ) → last ≡ Some (Fixed mark.New) → number_over last n ≡ false → n ≤ 255
size_fits last n e h =
    let b : (n == 0 || nat_lt 255 n) ≡ false = ap (λ o. number_over o n) (sym e) ∙ h in
    ltb-false 255 n (or_parts _ _ b).1

negative_fits : (last : Option Token) (n : ℕ) → last ≡ Some (Fixed mark.Minus) → number_over last n ≡ false → n ≤ 2147483648
negative_fits last n e h = ltb-false 2147483648 n (ap (λ o. number_over o n) (sym e) ∙ h)

plain_fits : (last : Option Token) (n : ℕ) → last ≡ Some (Fixed mark.Becomes) → number_over last n ≡ false → n ≤ 2147483647
plain_fits last n e h = ltb-false 2147483647 n (ap (λ o. number_over o n) (sym e) ∙ h)

abbrev StepKeeps : Token → Option (Control × Act) → Type 0
StepKeeps t None = Unit {0}
StepKeeps t (Some (c, a)) = ControlFits c (Some t) × ActFits a

step_fits : (c : Control) (k : Kind) (t : Token) (last : Option Token) → ControlFits c last → TokenFits last t → StepKeeps t (step c k t)
step_fits (AfterMinus x) k (Number n) last fits ok = ((fits.0, negative_fits last n fits.1 ok), tt)
step_fits (AfterOperator x y o) k (Name z) last fits ok = ((fits.0, (fits.1, ok)), tt)
step_fits (AfterAmpersand x) k (Name y) last fits ok = ((fits, ok), tt)
step_fits (AfterAddress x y) k (Fixed mark.Semicolon) last fits ok = (tt, (fits.0, fits.1))
step_fits (AfterAddress x y) k (Fixed mark.OpenBracket) last fits ok = ((fits.0, fits.1, refl), tt)
step_fits (AfterBracket x y) k (Number n) last fits ok = ((fits.0, fits.1, index_fits last n fits.2 ok), tt)
step_fits (AfterIndex x y n) k (Fixed mark.CloseBracket) last fits ok = ((fits.0, (fits.1, fits.2)), tt)
step_fits (AfterStar x) k (Name y) last fits ok = ((fits, ok), tt)
step_fits (AfterNew x) k (Number n) last fits ok = ((fits.0, size_fits last n fits.1 ok), tt)
step_fits (FirstArgument x f) k (Name a) last fits ok = ((fits.0, fits.1), ok)
step_fits (FirstArgument x f) k (Fixed mark.CloseParen) last fits ok = ((fits.0, fits.1), tt)
step_fits (AfterArgument x f) k (Fixed mark.Comma) last fits ok = ((fits.0, fits.1), tt)
step_fits (AfterArgument x f) k (Fixed mark.CloseParen) last fits ok = ((fits.0, fits.1), tt)
step_fits (NextArgument x f) k (Name a) last fits ok = ((fits.0, fits.1), ok)
step_fits (CallEnd x f) k (Fixed mark.Semicolon) last fits ok = (tt, (fits.0, fits.1))
step_fits (AfterBecomes x) k (Fixed mark.Minus) last fits ok = ((fits.0, refl), tt)
step_fits (AfterBecomes x) k (Fixed mark.Null) last fits ok = ((fits.0, tt), tt)
step_fits (AfterBecomes x) k (Fixed mark.Ampersand) last fits ok = (fits.0, tt)
step_fits (AfterBecomes x) k (Fixed mark.Star) last fits ok = (fits.0, tt)
step_fits (AfterBecomes x) k (Fixed mark.New) last fits ok = ((fits.0, refl), tt)
step_fits (AfterBecomes x) k (Name y) last fits ok = ((fits.0, ok), tt)
step_fits (AfterBecomes x) k (Number n) last fits ok = ((fits.0, plain_fits last n fits.1 ok), tt)
step_fits (AfterValue x y) k (Fixed mark.Semicolon) last fits ok = (tt, (fits.0, fits.1))
step_fits (AfterValue x y) k (Fixed mark.Plus) last fits ok = ((fits.0, fits.1), tt)
step_fits (AfterValue x y) k (Fixed mark.Minus) last fits ok = ((fits.0, fits.1), tt)
step_fits (AfterValue x y) k (Fixed mark.Less) last fits ok = ((fits.0, fits.1), tt)
step_fits (AfterValue x y) k (Fixed mark.Same) last fits ok = ((fits.0, fits.1), tt)
step_fits (AfterValue x y) k (Fixed mark.OpenParen) last fits ok = ((fits.0, fits.1), tt)
step_fits ItemStart k (Fixed mark.Global) last fits ok = (tt, tt)
step_fits ItemStart k (Fixed mark.Fn) last fits ok = (tt, tt)
step_fits AfterGlobal k (Name x) last fits ok = (ok, tt)
step_fits (GlobalNamed x) k (Fixed mark.Semicolon) last fits ok = (tt, fits)
step_fits AfterFn k (Name x) last fits ok = (ok, tt)
step_fits (FunctionNamed x) k (Fixed mark.OpenParen) last fits ok = (tt, fits)
step_fits FirstParameter k (Name x) last fits ok = (tt, ok)
step_fits FirstParameter k (Fixed mark.CloseParen) last fits ok = (tt, tt)
step_fits AfterParameter k (Fixed mark.Comma) last fits ok = (tt, tt)
step_fits AfterParameter k (Fixed mark.CloseParen) last fits ok = (tt, tt)
step_fits NextParameter k (Name x) last fits ok = (tt, ok)
step_fits BodyStart k (Fixed mark.OpenBrace) last fits ok = (tt, tt)
step_fits AfterReturn k (Name x) last fits ok = (ok, tt)
step_fits (Returned x) k (Fixed mark.Semicolon) last fits ok = (fits, tt)
step_fits (BodyEnd x) k (Fixed mark.CloseBrace) last fits ok = (tt, fits)
step_fits StatementStart k (Name x) last fits ok = (ok, tt)
step_fits StatementStart k (Fixed mark.Star) last fits ok = (tt, tt)
step_fits StatementStart k (Fixed mark.Out) last fits ok = (tt, tt)
step_fits StatementStart k (Fixed mark.If) last fits ok = (tt, tt)
step_fits StatementStart k (Fixed mark.While) last fits ok = (tt, tt)
step_fits StatementStart k (Fixed mark.Atomic) last fits ok = (tt, tt)
step_fits StatementStart Body (Fixed mark.Return) last fits ok = (tt, tt)
step_fits StatementStart Then (Fixed mark.CloseBrace) last fits ok = (tt, tt)
step_fits StatementStart Inner (Fixed mark.CloseBrace) last fits ok = (tt, tt)
step_fits AfterThen k (Fixed mark.Else) last fits ok = (tt, tt)
step_fits (Target x) k (Fixed mark.Becomes) last fits ok = ((fits, refl), tt)
step_fits (LineEnd l) k (Fixed mark.Semicolon) last fits ok = (tt, fits)
step_fits StoreStart k (Name x) last fits ok = (ok, tt)
step_fits (StoreTarget x) k (Fixed mark.Becomes) last fits ok = (fits, tt)
step_fits (StoreValue x) k (Name y) last fits ok = ((fits, ok), tt)
step_fits AfterOut k (Name x) last fits ok = (ok, tt)
step_fits AfterIf k (Name x) last fits ok = (ok, tt)
step_fits AfterWhile k (Name x) last fits ok = (ok, tt)
step_fits (AfterHeader o) k (Fixed mark.OpenBrace) last fits ok = (tt, fits)
step_fits _ k t last fits ok = tt

settled_by_fits : (t : Token) (last : Option Token) → ControlFits (settled_by t) last
settled_by_fits (Fixed mark.Else) last = tt
settled_by_fits _ last = tt

settled_fits : (c : Control) (t : Token) (last : Option Token) → ControlFits c last → ControlFits (settled c t) last
settled_fits AfterThen t last f = settled_by_fits t last
settled_fits _ t last f = f

pub token_fits : (y : Tally) (t : Token) → is_over y t ≡ false → TokenFits y.last t
token_fits y (Fixed m) h = tt
token_fits y (Name x) h = ltb-false 64 (length x) (or_parts _ _ h).0
token_fits y (Number n) h = h

act_of_step : (t : Token) (o : Option (Control × Act)) → StepKeeps t o → fits.StepFits o
act_of_step t None f = tt
act_of_step t (Some (c, a)) f = f.1

-- what the step at a token keeps
step_keeps : (c : Control) (s : Stack) (y : Tally) (t : Token) → ControlFits c y.last → is_over y t ≡ false → StepKeeps t (step (settled c t) (kind_of (ready c t s).frames) t)
step_keeps c s y t f h =
    step_fits (settled c t) (kind_of (ready c t s).frames) t y.last (settled_fits c t y.last f) (token_fits y t h)

-- the act fits
pub next_fits : (c : Control) (s : Stack) (y : Tally) (t : Token) → ControlFits c y.last → is_over y t ≡ false → NextFits c s t
next_fits c s y t f h =
    act_of_step t (step (settled c t) (kind_of (ready c t s).frames) t) (step_keeps c s y t f h)

moved_keeps : (t : Token) (o : Option (Control × Act)) (q : Stack) (d : Control) (r : Stack) → StepKeeps t o → Some (record { control = d; stack = r }) ≡ moved o q → ControlFits d (Some t)
moved_keeps t None q d r f e = cc
moved_keeps t (Some (b, a)) q d r f e =
    let P : State → Type 0 = λ w. ControlFits w.control (Some t) in
    let g : record { control = b; stack = apply a q } ≡ record { control = d; stack = r } = cc in
    subst P g f.0

-- and what stands after it fits
pub keeps_fitting : (c d : Control) (s r : Stack) (y : Tally) (t : Token) → ControlFits c y.last → is_over y t ≡ false → Some (record { control = d; stack = r }) ≡ next c s t → ControlFits d (Some t)
keeps_fitting c d s r y t f h e =
    let q = ready c t s in
    moved_keeps t (step (settled c t) (kind_of q.frames) t) q d r (step_keeps c s y t f h) e
