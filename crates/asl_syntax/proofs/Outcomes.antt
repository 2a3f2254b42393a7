-- A text has one outcome at most: a tree, or one fault.
use Rattle.std.proofs.Common.{◌≡◌, ℕ, List, Bool, true, false, Option, Some, None, length, refl, sym, ap, ◌∙◌}
use Rattle.asl_grammar.specs.Token.{Spot}
use Rattle.asl_grammar.specs.Lex.{tokens_of, bad_place}
use Rattle.asl_grammar.specs.Grammar.{IsProgram, IsGrammarFault, Judges, bare}
use Rattle.asl_grammar.specs.Seen.{start_place}
use Rattle.asl_grammar.proofs.Stopping.{fault_from}
use Rattle.asl_grammar.specs.Automaton.{ItemStart}
use Rattle.asl_grammar.proofs.Judged.{judged}
use Rattle.asl_grammar.proofs.OneFault.{one_fault}
use Rattle.asl_syntax.specs.declared.fault.SyntaxFault as code
use Rattle.asl_syntax.specs.declared.fault.SyntaxFault.TheVariants as fault
use Rattle.asl_syntax.specs.Tree.{Item}
use Rattle.asl_syntax.specs.Spelled.{Spells}
use Rattle.asl_syntax.specs.Limit.{first_limit}
use Rattle.asl_syntax.specs.Rules.{twice, unknown, wrong_call, has_main}
use Rattle.asl_syntax.specs.Parsed.{first_wide, IsLexed, IsSpelled, Parses}
use Rattle.asl_syntax.specs.Built.{no_stack}
use Rattle.asl_syntax.proofs.Whole.{built_from}
use Rattle.asl_syntax.specs.Fault.{IsFault}
use Rattle.asl_syntax.proofs.Plain.{built_meaning}

-- the fault that a check finds, or else what later checks find
abbrev found : {A : Type 0} → (A → code.SyntaxFault) → Option A → Option code.SyntaxFault → Option code.SyntaxFault
found f None rest = rest
found f (Some x) rest = Some (f x)

abbrev main_fault : Bool → Option code.SyntaxFault
main_fault true = None
main_fault false = Some fault.NoMain

-- what the checks find one after the other: of a tree, and of a text
abbrev tree_fault : List Spot → List Item → Option code.SyntaxFault
tree_fault ss t =
    found fault.Twice (twice t) (found fault.Unknown (unknown t) (found fault.Arity (wrong_call t ss) (main_fault (has_main t))))

abbrev built_fault : List Spot → Option (List Item) → Option code.SyntaxFault
built_fault ss None = None
built_fault ss (Some t) = tree_fault ss t

abbrev grammar_place : List ℕ → Option ℕ
grammar_place text = fault_from start_place (tokens_of text) (length text)

abbrev text_fault : List ℕ → Option code.SyntaxFault
text_fault text =
    found fault.NotAscii (first_wide text) (found fault.Token (bad_place text) (found fault.Grammar (grammar_place text) (found fault.Limit (first_limit text) (built_fault (tokens_of text) (built_from ItemStart no_stack (tokens_of text))))))

found_none : {A : Type 0} (f : A → code.SyntaxFault) (o : Option A) (rest r : Option code.SyntaxFault) → o ≡ None → rest ≡ r → found f o rest ≡ r
found_none {A} f o rest r e h = ap (λ (p : Option A). found f p rest) e ∙ h

found_some : {A : Type 0} (f : A → code.SyntaxFault) (o : Option A) (rest : Option code.SyntaxFault) (x : A) → o ≡ Some x → found f o rest ≡ Some (f x)
found_some {A} f o rest x e = ap (λ (p : Option A). found f p rest) e

-- the grammar's answer is the place of the fault
same_place : (text : List ℕ) (at : ℕ) (o : Option ℕ) → Judges (tokens_of text) (length text) o → IsGrammarFault (tokens_of text) (length text) at → o ≡ Some at
same_place text at None j h = absurd (h.no_program j)
same_place text at (Some b) j h = ap Some (one_fault text (length text) b at j h)

no_place : (text : List ℕ) (o : Option ℕ) → Judges (tokens_of text) (length text) o → IsProgram (bare (tokens_of text)) → o ≡ None
no_place text None j p = refl
no_place text (Some b) j p = absurd (j.no_program p)

in_program : (text : List ℕ) → IsProgram (bare (tokens_of text)) → grammar_place text ≡ None
in_program text p = no_place text (grammar_place text) (judged (tokens_of text) (length text)) p

-- the checks of a lexed text, and of a spelled one
after_lexed : (text : List ℕ) (r : Option code.SyntaxFault) → IsLexed text → found fault.Grammar (grammar_place text) (found fault.Limit (first_limit text) (built_fault (tokens_of text) (built_from ItemStart no_stack (tokens_of text)))) ≡ r → text_fault text ≡ r
after_lexed text r l h =
    found_none fault.NotAscii (first_wide text) _ r l.ascii (found_none fault.Token (bad_place text) _ r l.tokens h)

spelled_tree : (text : List ℕ) (t : List Item) → Spells t (bare (tokens_of text)) → built_from ItemStart no_stack (tokens_of text) ≡ Some t
spelled_tree text t s = built_meaning (tokens_of text) s.written s.spelled ∙ ap Some s.meaning

after_spelled : (text : List ℕ) (t : List Item) (r : Option code.SyntaxFault) → IsSpelled text t → tree_fault (tokens_of text) t ≡ r → text_fault text ≡ r
after_spelled text t r s h =
    after_lexed text r s.lexed
    (found_none fault.Grammar (grammar_place text) _ r (in_program text (record { program = s.spelled.written; spelled = s.spelled.spelled }))
    (found_none fault.Limit (first_limit text) _ r s.limits
    (ap (built_fault (tokens_of text)) (spelled_tree text t s.spelled) ∙ h)))

found_tree : (text : List ℕ) (t : List Item) → Parses text t → text_fault text ≡ None
found_tree text t p =
    after_spelled text t None p.spelled
    (found_none fault.Twice (twice t) _ None p.twice
    (found_none fault.Unknown (unknown t) _ None p.unknown
    (found_none fault.Arity (wrong_call t (tokens_of text)) _ None p.arity (ap main_fault p.main))))

-- what is found of a text: its fault, and none where memory ran out
abbrev finding : code.SyntaxFault → Option code.SyntaxFault
finding fault.OutOfMemory = None
finding e = Some e

found_fault : (text : List ℕ) (e : code.SyntaxFault) → IsFault text e → text_fault text ≡ finding e
found_fault text (fault.NotAscii at) h = found_some fault.NotAscii (first_wide text) _ at h
found_fault text (fault.Token at) h =
    found_none fault.NotAscii (first_wide text) _ _ h.ascii (found_some fault.Token (bad_place text) _ at h.place)
found_fault text (fault.Grammar at) h =
    after_lexed text _ h.lexed (found_some fault.Grammar (grammar_place text) _ at (same_place text at (grammar_place text) (judged (tokens_of text) (length text)) h.place))
found_fault text (fault.Limit at) h =
    after_lexed text _ h.lexed
    (found_none fault.Grammar (grammar_place text) _ _ (in_program text h.program)
    (found_some fault.Limit (first_limit text) _ at h.place))
found_fault text (fault.Twice x) h =
    after_spelled text h.tree _ h.spelled (found_some fault.Twice (twice h.tree) _ x h.name)
found_fault text (fault.Unknown x) h =
    after_spelled text h.tree _ h.spelled
    (found_none fault.Twice (twice h.tree) _ _ h.once
    (found_some fault.Unknown (unknown h.tree) _ x h.name))
found_fault text (fault.Arity at) h =
    after_spelled text h.tree _ h.spelled
    (found_none fault.Twice (twice h.tree) _ _ h.once
    (found_none fault.Unknown (unknown h.tree) _ _ h.known
    (found_some fault.Arity (wrong_call h.tree (tokens_of text)) _ at h.place)))
found_fault text fault.NoMain h =
    after_spelled text h.tree _ h.spelled
    (found_none fault.Twice (twice h.tree) _ _ h.once
    (found_none fault.Unknown (unknown h.tree) _ _ h.known
    (found_none fault.Arity (wrong_call h.tree (tokens_of text)) _ _ h.arity (ap main_fault h.none))))
found_fault text fault.OutOfMemory h = found_tree text h.tree h.parses

same_finding : (e f : code.SyntaxFault) → finding e ≡ finding f → e ≡ f
same_finding fault.OutOfMemory fault.OutOfMemory h = refl
same_finding fault.OutOfMemory f h = cc
same_finding e fault.OutOfMemory h = cc
same_finding e f h = cc

pub one_fault_at_most : (text : List ℕ) (e f : code.SyntaxFault) → IsFault text e → IsFault text f → e ≡ f
one_fault_at_most text e f p q = same_finding e f (sym (found_fault text e p) ∙ found_fault text f q)

pub no_fault : (text : List ℕ) (t : List Item) (e : code.SyntaxFault) → Parses text t → IsFault text e → e ≡ fault.OutOfMemory
no_fault text t e p h = one_fault_at_most text e fault.OutOfMemory h (record { tree = t; parses = p })
