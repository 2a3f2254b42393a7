-- Where the first function of a name is declared.
use Rattle.std.proofs.Common.{◌≡◌, ℕ, List, [], ◌∷◌, ◌++◌, Bool, true, if◌then◌else◌, Some, None, codes, inl, inr, bytes_eq, length, refl, sym, ap, ◌∙◌}
use Rattle.std.proofs.lemmas.Bool.{cases_Bool}
use Rattle.std.proofs.lemmas.Slice.Eq.{bytes_eq-Decides}
use Rattle.asl_grammar.specs.Token.{Token, Spot}
use Rattle.asl_grammar.specs.Lex.{tokens_of}
use Rattle.asl_syntax.proofs.Few.{goes_on}
use Rattle.asl_diagnose_text.specs.declared.declared.Declares.{Declares}
use Rattle.asl_diagnose_text.specs.declared.declared.Declares.TheVariants.{Global, Function, Parameter, Nothing}
use Rattle.asl_diagnose_text.specs.Places.{named, is_named, declares_after, declares_from}
use Rattle.asl_diagnose_text.specs.SeenView.{is_function, first_function}
use Rattle.asl_diagnose_text.specs.SyntaxPlaces.{IsMainPlace}
use Rattle.asl_diagnose_text.proofs.Scanned.{named_spot}

function_next : (x : List ℕ) (next : Declares) (t : Token) → is_function x next t ≡ true → (next ≡ Function) × (is_named x t ≡ true)
function_next x Global t e = absurd cc
function_next x Function t e = (refl, e)
function_next x Parameter t e = absurd cc
function_next x Nothing t e = absurd cc

-- the tokens before it, and those after it
record IsFound (x : List ℕ) (next : Declares) (ss : List Spot) (at : ℕ) : Type 0 where
  before : List Spot
  behind : List Spot
  split : ss ≡ before ++ named x at ∷ behind
  is : declares_from next before ≡ Function

found : (x : List ℕ) (next : Declares) (ss : List Spot) (at : ℕ) → first_function x next ss ≡ Some at → IsFound x next ss at
found x next [] at e = absurd cc
found x next (s ∷ ss) at e =
    elim (cases_Bool (is_function x next s.token)) [
      | inl f ↦
          let k = function_next x next s.token f in
          let g : Some s.at ≡ Some at =
          sym (ap (λ (b : Bool). if b then Some s.at else first_function x (declares_after next s.token) ss) f) ∙ e in
          let same : s.at ≡ at = cc in
          let is : s ≡ named x s.at = named_spot x s.token s.at k.1 in
          record {
            before = [];
            behind = ss;
            split = ap (λ (t : Spot). t ∷ ss) (is ∙ ap (named x) same);
            is = k.0;
          }
      | inr f ↦
          let g : first_function x (declares_after next s.token) ss ≡ Some at =
          sym (ap (λ (b : Bool). if b then Some s.at else first_function x (declares_after next s.token) ss) f) ∙ e in
          let h = found x (declares_after next s.token) ss at g in
          record {
            before = s ∷ h.before;
            behind = h.behind;
            split = ap (λ (ts : List Spot). s ∷ ts) h.split;
            is = h.is;
          }
    ]

none_found : (x : List ℕ) (next : Declares) (before behind : List Spot) (at : ℕ) → first_function x next (before ++ named x at ∷ behind) ≡ None → declares_from next before ≡ Function → ⊥
none_found x next [] behind at e f =
    let same : bytes_eq x x ≡ true = (bytes_eq-Decides x x).1 refl in
    let g : first_function x Function (named x at ∷ behind) ≡ None =
    sym (ap (λ (d : Declares). first_function x d (named x at ∷ behind)) f) ∙ e in
    let h : Some at ≡ None =
    sym (ap (λ (b : Bool). if b then Some at else first_function x Parameter behind) same) ∙ g in
    absurd cc
none_found x next (s ∷ before) behind at e f =
    let k = goes_on (is_function x next s.token) s.at (first_function x (declares_after next s.token) (before ++ named x at ∷ behind)) e in
    none_found x (declares_after next s.token) before behind at k.1 f

pub main_found : (text : List ℕ) (at : ℕ) → Some at ≡ first_function (codes "main") Nothing (tokens_of text) → IsMainPlace text at
main_found text at e =
    let h = found (codes "main") Nothing (tokens_of text) at (sym e) in
    inl (record { before = h.before; behind = h.behind; split = h.split; function = h.is })

pub no_main : (text : List ℕ) (at : ℕ) → None ≡ first_function (codes "main") Nothing (tokens_of text) → at ≡ length text → IsMainPlace text at
no_main text at e f =
    inr (λ other k. none_found (codes "main") Nothing k.before k.behind other (ap (first_function (codes "main") Nothing) (sym k.split) ∙ sym e) k.function, f)
