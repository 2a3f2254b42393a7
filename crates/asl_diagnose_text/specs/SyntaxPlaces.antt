-- Where a fault of a text that is no program is, and with what a program continues there.
use Rattle.std.specs.Prelude.{◌≡◌, ℕ, ◌⊎◌, List, Bool, codes, length, Option, None, IsSomeAnd}
use Rattle.asl_grammar.specs.Lex.{tokens_of}
use Rattle.asl_syntax.specs.declared.fault.SyntaxFault.{SyntaxFault}
use Rattle.asl_syntax.specs.declared.fault.SyntaxFault.TheVariants as syntax
use Rattle.asl_diagnose_text.specs.declared.kind.TokenKind.{TokenKind}
use Rattle.asl_diagnose_text.specs.Expected.{IsStop}
use Rattle.asl_diagnose_text.specs.Unknown.{IsUnknownPlace}
use Rattle.asl_diagnose_text.specs.Places.{IsFunctionAt, AreFirstDeclaredAt}

-- where a missing `main` is told: at a function `main`, which then has another number of parameters, and where there is none, at the
-- text's end
abbrev pub IsMainPlace : List ℕ → ℕ → Type 0
IsMainPlace text at =
    IsFunctionAt (tokens_of text) (codes "main") at
    ⊎ (((other : ℕ) → ¬ IsFunctionAt (tokens_of text) (codes "main") other) × (at ≡ length text))

-- where a fault of a text that is no program is: at its own place; a name that is declared a second time at that declaration; an
-- unknown name at its first use
abbrev pub IsSyntaxPlace : List ℕ → SyntaxFault → Option ℕ → ℕ → Type 0
IsSyntaxPlace text (syntax.NotAscii place) first at = at ≡ place
IsSyntaxPlace text (syntax.Token place) first at = at ≡ place
IsSyntaxPlace text (syntax.Grammar place) first at = at ≡ place
IsSyntaxPlace text (syntax.Limit place) first at = at ≡ place
IsSyntaxPlace text (syntax.Twice x) first at = IsSomeAnd first (λ one. AreFirstDeclaredAt (tokens_of text) x one at)
IsSyntaxPlace text (syntax.Unknown x) first at = IsUnknownPlace text x at
IsSyntaxPlace text (syntax.Arity place) first at = at ≡ place
IsSyntaxPlace text syntax.NoMain first at = IsMainPlace text at
IsSyntaxPlace text syntax.OutOfMemory first at = Unit {0}

-- a first place is told of a second declaration alone
abbrev pub HasFirstPlace : SyntaxFault → Option ℕ → Type 0
HasFirstPlace (syntax.Twice x) first = Unit {0}
HasFirstPlace _ first = first ≡ None

-- with what a program continues there, where the fault is that none continues as the text does
abbrev pub IsExpectedFor : List ℕ → SyntaxFault → List TokenKind → Bool → Type 0
IsExpectedFor text (syntax.Grammar place) kinds may_end = IsStop (tokens_of text) (length text) place kinds may_end
IsExpectedFor text _ kinds may_end = Unit {0}
