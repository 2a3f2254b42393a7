-- What is remembered of a name while a text is passed, token by token, is what the mentions so far declare of it.
use Rattle.std.proofs.Common.{◌≡◌, ℕ, List, Bool, true, false, if◌then◌else◌, inl, inr, bytes_eq, None, refl, sym, ap, ◌∙◌}
use Rattle.std.specs.Option.{is_some}
use Rattle.std.proofs.lemmas.Bool.{false≢true, or_cases}
use Rattle.std.proofs.lemmas.Slice.Eq.{bytes_eq-Decides}
use Rattle.asl_grammar.specs.declared.token.Mark.{Mark}
use Rattle.asl_grammar.specs.declared.token.Mark.TheVariants as mark
use Rattle.asl_grammar.specs.Token.{Fixed, Name, Number}
use Rattle.asl_syntax.specs.Rules.{Names, no_name, with_name}
use Rattle.asl_diagnose_text.specs.declared.declared.Seen.{Seen}
use Rattle.asl_diagnose_text.specs.declared.declared.Declares.{Declares}
use Rattle.asl_diagnose_text.specs.declared.declared.Declares.TheVariants.{Global, Function, Parameter, Nothing}
use Rattle.asl_diagnose_text.specs.declared.word_place.Word.TheVariants as word
use Rattle.asl_diagnose_text.specs.Places.{is_word, declares_after}
use Rattle.asl_diagnose_text.specs.SeenView.{cell, noted_as, noted_if, entered_if, passed, again}

-- what is remembered of the name is what was declared; of parameters, where one is next
pub record Keeps (x : List ℕ) (gs fs ps : Names) (s : Seen) : Type 0 where
  pub globals : gs x ≡ true → is_some s.global ≡ true
  pub functions : fs x ≡ true → is_some s.function ≡ true
  pub parameters : s.next ≡ Parameter → ps x ≡ true → is_some s.parameter ≡ true

-- what was remembered stays so
kept_global_as : (d : Declares) (s : Seen) (at : ℕ) → is_some s.global ≡ true → is_some (noted_as s at d).global ≡ true
kept_global_as Global s at h = refl
kept_global_as Function s at h = h
kept_global_as Parameter s at h = h
kept_global_as Nothing s at h = h

kept_function_as : (d : Declares) (s : Seen) (at : ℕ) → is_some s.function ≡ true → is_some (noted_as s at d).function ≡ true
kept_function_as Global s at h = h
kept_function_as Function s at h = refl
kept_function_as Parameter s at h = h
kept_function_as Nothing s at h = h

kept_parameter_as : (d : Declares) (s : Seen) (at : ℕ) → is_some s.parameter ≡ true → is_some (noted_as s at d).parameter ≡ true
kept_parameter_as Global s at h = h
kept_parameter_as Function s at h = h
kept_parameter_as Parameter s at h = refl
kept_parameter_as Nothing s at h = h

kept_global : (b : Bool) (s : Seen) (at : ℕ) → is_some s.global ≡ true → is_some (noted_if b s at).global ≡ true
kept_global true s at h = kept_global_as s.next s at h
kept_global false s at h = h

kept_function : (b : Bool) (s : Seen) (at : ℕ) → is_some s.function ≡ true → is_some (noted_if b s at).function ≡ true
kept_function true s at h = kept_function_as s.next s at h
kept_function false s at h = h

kept_parameter : (b : Bool) (s : Seen) (at : ℕ) → is_some s.parameter ≡ true → is_some (noted_if b s at).parameter ≡ true
kept_parameter true s at h = kept_parameter_as s.next s at h
kept_parameter false s at h = h

-- a name that declares is remembered
set_global : (b : Bool) (s : Seen) (at : ℕ) → b ≡ true → s.next ≡ Global → is_some (noted_if b s at).global ≡ true
set_global true s at e n = ap (λ (d : Declares). is_some (noted_as s at d).global) n
set_global false s at e n = absurd cc

set_function : (b : Bool) (s : Seen) (at : ℕ) → b ≡ true → s.next ≡ Function → is_some (noted_if b s at).function ≡ true
set_function true s at e n = ap (λ (d : Declares). is_some (noted_as s at d).function) n
set_function false s at e n = absurd cc

set_parameter : (b : Bool) (s : Seen) (at : ℕ) → b ≡ true → s.next ≡ Parameter → is_some (noted_if b s at).parameter ≡ true
set_parameter true s at e n = ap (λ (d : Declares). is_some (noted_as s at d).parameter) n
set_parameter false s at e n = absurd cc

-- after another token than a name
fixed_parameter : (d : Declares) (m : Mark) → declares_after d (Fixed m) ≡ Parameter → (d ≡ Parameter) × (is_word word.Fn (Fixed m) ≡ false)
fixed_parameter d mark.Global h = absurd cc
fixed_parameter d mark.Fn h = absurd cc
fixed_parameter d mark.CloseParen h = absurd cc
fixed_parameter d _ h = (h, refl)

fixed_global : (b : Bool) (s : Seen) → is_some s.global ≡ true → is_some (entered_if b s).global ≡ true
fixed_global true s h = h
fixed_global false s h = h

fixed_function : (b : Bool) (s : Seen) → is_some s.function ≡ true → is_some (entered_if b s).function ≡ true
fixed_function true s h = h
fixed_function false s h = h

fixed_entered : (b : Bool) (s : Seen) → b ≡ false → is_some s.parameter ≡ true → is_some (entered_if b s).parameter ≡ true
fixed_entered true s e h = absurd cc
fixed_entered false s e h = h

pub keeps_fixed : (x : List ℕ) (gs fs ps : Names) (s : Seen) (m : Mark) (at : ℕ) → Keeps x gs fs ps s → Keeps x gs fs ps (passed x s (record { token = Fixed m; at = at }))
keeps_fixed x gs fs ps s m at k = record {
  globals = λ h. fixed_global (is_word word.Fn (Fixed m)) s (k.globals h);
  functions = λ h. fixed_function (is_word word.Fn (Fixed m)) s (k.functions h);
  parameters = λ e h. (let f = fixed_parameter s.next m e in fixed_entered (is_word word.Fn (Fixed m)) s f.1 (k.parameters f.0 h));
}

pub keeps_number : (x : List ℕ) (gs fs ps : Names) (s : Seen) (n at : ℕ) → Keeps x gs fs ps s → declares_after s.next (Number n) ≡ s.next → Keeps x gs fs ps (passed x s (record { token = Number n; at = at }))
keeps_number x gs fs ps s n at k same = record {
  globals = λ h. k.globals h;
  functions = λ h. k.functions h;
  parameters = λ e h. k.parameters (sym same ∙ e) h;
}

pub same_after : (d : Declares) (n : ℕ) → declares_after d (Number n) ≡ d
same_after Global n = refl
same_after Function n = refl
same_after Parameter n = refl
same_after Nothing n = refl

-- after a name that is no declaration
not_parameter : (d e : Declares) (y : List ℕ) → d ≡ e → (declares_after e (Name y) ≡ Parameter → ⊥) → declares_after d (Name y) ≡ Parameter → ⊥
not_parameter d e y same none h = none (ap (λ (u : Declares). declares_after u (Name y)) (sym same) ∙ h)

pub named_so : (y z x : List ℕ) → y ≡ z → z ≡ x → bytes_eq y x ≡ true
named_so y z x e f = (bytes_eq-Decides y x).1 (e ∙ f)

pub here : (x y : List ℕ) (s : Seen) (d : Declares) → bytes_eq y x ≡ true → s.next ≡ d → is_some (cell s d) ≡ true → is_some (again x s (Name y)) ≡ true
here x y s d b n h =
    ap (λ (c : Bool). is_some (if c then cell s s.next else None)) b ∙ ap (λ (u : Declares). is_some (cell s u)) n ∙ h

-- a name that declares, and what is known after it
pub keeps_global : (x y z : List ℕ) (gs fs ps : Names) (s : Seen) (at : ℕ) → s.next ≡ Global → y ≡ z → Keeps x gs fs ps s → Keeps x (with_name z gs) fs ps (passed x s (record { token = Name y; at = at }))
keeps_global x y z gs fs ps s at n same k = record {
  globals = λ h. elim (or_cases (bytes_eq z x) (gs x) h) [
    | inl new ↦ set_global (bytes_eq y x) s at (ap (λ (u : List ℕ). bytes_eq u x) same ∙ new) n
    | inr old ↦ kept_global (bytes_eq y x) s at (k.globals old)
  ];
  functions = λ h. kept_function (bytes_eq y x) s at (k.functions h);
  parameters = λ e h. absurd (not_parameter s.next Global y n (λ f. cc) e);
}

pub keeps_function : (x y z : List ℕ) (gs fs ps : Names) (s : Seen) (at : ℕ) → s.next ≡ Function → y ≡ z → Keeps x gs fs ps s → Keeps x gs (with_name z fs) no_name (passed x s (record { token = Name y; at = at }))
keeps_function x y z gs fs ps s at n same k = record {
  globals = λ h. kept_global (bytes_eq y x) s at (k.globals h);
  functions = λ h. elim (or_cases (bytes_eq z x) (fs x) h) [
    | inl new ↦ set_function (bytes_eq y x) s at (ap (λ (u : List ℕ). bytes_eq u x) same ∙ new) n
    | inr old ↦ kept_function (bytes_eq y x) s at (k.functions old)
  ];
  parameters = λ e h. absurd (false≢true h);
}

pub keeps_parameter : (x y z : List ℕ) (gs fs ps : Names) (s : Seen) (at : ℕ) → s.next ≡ Parameter → y ≡ z → Keeps x gs fs ps s → Keeps x gs fs (with_name z ps) (passed x s (record { token = Name y; at = at }))
keeps_parameter x y z gs fs ps s at n same k = record {
  globals = λ h. kept_global (bytes_eq y x) s at (k.globals h);
  functions = λ h. kept_function (bytes_eq y x) s at (k.functions h);
  parameters = λ e h. elim (or_cases (bytes_eq z x) (ps x) h) [
    | inl new ↦ set_parameter (bytes_eq y x) s at (ap (λ (u : List ℕ). bytes_eq u x) same ∙ new) n
    | inr old ↦ kept_parameter (bytes_eq y x) s at (k.parameters n old)
  ];
}

pub keeps_use : (x y : List ℕ) (gs fs ps : Names) (s : Seen) (at : ℕ) → s.next ≡ Nothing → Keeps x gs fs ps s → Keeps x gs fs ps (passed x s (record { token = Name y; at = at }))
keeps_use x y gs fs ps s at n k = record {
  globals = λ h. kept_global (bytes_eq y x) s at (k.globals h);
  functions = λ h. kept_function (bytes_eq y x) s at (k.functions h);
  parameters = λ e h. absurd (not_parameter s.next Nothing y n (λ f. cc) e);
}
