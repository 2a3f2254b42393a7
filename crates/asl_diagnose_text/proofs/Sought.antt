-- The first function of a name that is looked for among tokens.
use Rattle.std.proofs.Common.{◌≡◌, ℕ, List, [], ◌∷◌, Bool, true, false, if◌then◌else◌, Some, None, sym, ap, ◌∙◌}
use Rattle.asl_grammar.specs.Token.{Spot}
use Rattle.asl_diagnose_text.specs.declared.declared.Declares.{Declares}
use Rattle.asl_diagnose_text.specs.declared.declared.Declares.TheVariants.{Nothing}
use Rattle.asl_diagnose_text.specs.Places.{declares_after}
use Rattle.asl_diagnose_text.specs.SeenView.{is_function, first_function}

pub function_here : (x : List ℕ) (next : Declares) (all left more : List Spot) (s : Spot) → first_function x next left ≡ first_function x Nothing all → left ≡ s ∷ more → is_function x next s.token ≡ true → Some s.at ≡ first_function x Nothing all
function_here x next all left more s h e f =
    sym (ap (λ (b : Bool). if b then Some s.at else first_function x (declares_after next s.token) more) f) ∙ sym (ap (first_function x next) e) ∙ h

pub function_later : (x : List ℕ) (next new : Declares) (all left more : List Spot) (s : Spot) → first_function x next left ≡ first_function x Nothing all → left ≡ s ∷ more → is_function x next s.token ≡ false → new ≡ declares_after next s.token → first_function x new more ≡ first_function x Nothing all
function_later x next new all left more s h e f g =
    ap (λ (d : Declares). first_function x d more) g
    ∙ sym (ap (λ (b : Bool). if b then Some s.at else first_function x (declares_after next s.token) more) f)
    ∙ sym (ap (first_function x next) e) ∙ h

pub no_function : (x : List ℕ) (next : Declares) (all left : List Spot) → first_function x next left ≡ first_function x Nothing all → left ≡ [] → None ≡ first_function x Nothing all
no_function x next all left h e = sym (ap (first_function x next) e) ∙ h
