-- What the clauses of `parse` say of a printed tree.
use Rattle.std.proofs.Common.{◌≡◌, ◌<◌, ◌≤◌, ◌⊎◌, List, length, Result, Ok, Err, IfOk, IfErr, inl, inr, ⊎_elim}
use Rattle.std.proofs.lemmas.Bool.{cases_lt}
use Rattle.asl_grammar.specs.Lex.{tokens_of}
use Rattle.asl_syntax.specs.declared.ast.Ast as ast
use Rattle.asl_syntax.specs.declared.fault.SyntaxFault as code
use Rattle.asl_syntax.specs.declared.fault.SyntaxFault.TheVariants.{Limit, OutOfMemory}
use Rattle.asl_syntax.specs.AstView.{tree_of}
use Rattle.asl_syntax.specs.Fault.{IsFault}
use Rattle.asl_syntax.specs.Parsed.{Parses}
use Rattle.asl_syntax.specs.Printed.{printed}
use Rattle.asl_syntax.specs.Reread.{IsReadBack}
use Rattle.asl_syntax.specs.Tree.{Item}
use Rattle.asl_syntax.proofs.Outcomes.{no_fault, one_fault_at_most}
use Rattle.asl_syntax.proofs.Plain.{one_tree}
use Rattle.asl_syntax.proofs.ReadBack.{IsSound, read_back, too_long}

tree_read : (tree : List Item) → IsSound tree → (u : List Item) → Parses (printed tree) u → (u ≡ tree) × length (printed tree) ≤ 1048576
tree_read tree s u p =
    ⊎_elim
    (λ great. let e : Limit 1048576 ≡ OutOfMemory = no_fault (printed tree) u (Limit 1048576) p (too_long tree s great) in cc)
    (λ small. (one_tree u tree (tokens_of (printed tree)) p.spelled.spelled (read_back tree s small).spelled.spelled, small))
    (cases_lt 1048576 (length (printed tree)))

fault_read : (tree : List Item) → IsSound tree → (e : code.SyntaxFault) → IsFault (printed tree) e → ((e ≡ Limit 1048576) × 1048576 < length (printed tree)) ⊎ (e ≡ OutOfMemory)
fault_read tree s e h =
    ⊎_elim
    (λ great. inl (one_fault_at_most (printed tree) e (Limit 1048576) h (too_long tree s great), great))
    (λ small. inr (no_fault (printed tree) tree e (read_back tree s small) h))
    (cases_lt 1048576 (length (printed tree)))

pub answered : (tree : List Item) → IsSound tree → (r : Result ast.Ast code.SyntaxFault) → IfOk r (λ a. Parses (printed tree) (tree_of a)) → IfErr r (IsFault (printed tree)) → IsReadBack tree (printed tree) r
answered tree s (Ok a) p h = tree_read tree s (tree_of a) p
answered tree s (Err e) p h = fault_read tree s e h
