-- Each text has an outcome.
use Rattle.std.proofs.Common.{◌≡◌, ℕ, ◌⊎◌, List, Bool, true, false, Option, Some, None, length, refl, inl, inr, map}
use Rattle.asl_grammar.specs.Lex.{tokens_of, bad_place}
use Rattle.asl_grammar.specs.Grammar.{IsProgram, Judges, bare}
use Rattle.asl_grammar.specs.Seen.{start_place}
use Rattle.asl_grammar.proofs.Stopping.{fault_from}
use Rattle.asl_grammar.proofs.Judged.{judged}
use Rattle.asl_syntax.specs.declared.fault.SyntaxFault.TheVariants as fault
use Rattle.asl_syntax.specs.Tree.{Item}
use Rattle.asl_syntax.specs.Spelled.{item_meaning}
use Rattle.asl_syntax.specs.Limit.{first_limit}
use Rattle.asl_syntax.specs.Rules.{twice, unknown, wrong_call, has_main}
use Rattle.asl_syntax.specs.Parsed.{first_wide, IsLexed, IsSpelled, HasTree}
use Rattle.asl_syntax.specs.Outcome.{HasFault}

abbrev HasOutcome : List ℕ → Type 0
HasOutcome text = HasTree text ⊎ HasFault text

-- check by check, the last one first
by_main : (text : List ℕ) (t : List Item) → IsSpelled text t → twice t ≡ None → unknown t ≡ None → wrong_call t (tokens_of text) ≡ None → (b : Bool) → has_main t ≡ b → HasOutcome text
by_main text t s a b c true e =
    inl (record { tree = t; parses = record { spelled = s; twice = a; unknown = b; arity = c; main = e } })
by_main text t s a b c false e = inr (record {
  found = fault.NoMain;
  holds = record { tree = t; spelled = s; once = a; known = b; arity = c; none = e };
  real = λ f. cc;
})

by_arity : (text : List ℕ) (t : List Item) → IsSpelled text t → twice t ≡ None → unknown t ≡ None → (o : Option ℕ) → wrong_call t (tokens_of text) ≡ o → HasOutcome text
by_arity text t s a b None e = by_main text t s a b e (has_main t) refl
by_arity text t s a b (Some at) e = inr (record {
  found = fault.Arity at;
  holds = record { tree = t; spelled = s; once = a; known = b; place = e };
  real = λ f. cc;
})

by_unknown : (text : List ℕ) (t : List Item) → IsSpelled text t → twice t ≡ None → (o : Option (List ℕ)) → unknown t ≡ o → HasOutcome text
by_unknown text t s a None e = by_arity text t s a e (wrong_call t (tokens_of text)) refl
by_unknown text t s a (Some x) e = inr (record {
  found = fault.Unknown x;
  holds = record { tree = t; spelled = s; once = a; name = e };
  real = λ f. cc;
})

by_twice : (text : List ℕ) (t : List Item) → IsSpelled text t → (o : Option (List ℕ)) → twice t ≡ o → HasOutcome text
by_twice text t s None e = by_unknown text t s e (unknown t) refl
by_twice text t s (Some x) e =
    inr (record { found = fault.Twice x; holds = record { tree = t; spelled = s; name = e }; real = λ f. cc })

by_limit : (text : List ℕ) → IsLexed text → IsProgram (bare (tokens_of text)) → (o : Option ℕ) → first_limit text ≡ o → HasOutcome text
by_limit text l p None e =
    let t : List Item = map item_meaning p.program in
    let s : IsSpelled text t = record {
      lexed = l;
      spelled = record { written = p.program; meaning = refl; spelled = p.spelled };
      limits = e;
    } in
    by_twice text t s (twice t) refl
by_limit text l p (Some at) e =
    inr (record { found = fault.Limit at; holds = record { lexed = l; program = p; place = e }; real = λ f. cc })

by_grammar : (text : List ℕ) → IsLexed text → (o : Option ℕ) → Judges (tokens_of text) (length text) o → HasOutcome text
by_grammar text l None j = by_limit text l j (first_limit text) refl
by_grammar text l (Some at) j =
    inr (record { found = fault.Grammar at; holds = record { lexed = l; place = j }; real = λ f. cc })

by_tokens : (text : List ℕ) → first_wide text ≡ None → (o : Option ℕ) → bad_place text ≡ o → HasOutcome text
by_tokens text a None e =
    by_grammar text (record { ascii = a; tokens = e }) (fault_from start_place (tokens_of text) (length text)) (judged (tokens_of text) (length text))
by_tokens text a (Some at) e =
    inr (record { found = fault.Token at; holds = record { ascii = a; place = e }; real = λ f. cc })

by_bytes : (text : List ℕ) (o : Option ℕ) → first_wide text ≡ o → HasOutcome text
by_bytes text None e = by_tokens text e (bad_place text) refl
by_bytes text (Some at) e = inr (record { found = fault.NotAscii at; holds = e; real = λ f. cc })

pub any_outcome : (text : List ℕ) → HasTree text ⊎ HasFault text
any_outcome text = by_bytes text (first_wide text) refl
