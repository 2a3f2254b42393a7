-- What is found over the names of a text is what its tree has.
use Rattle.std.proofs.Common.{◌≡◌, ℕ, ◌≤◌, List, true, false, Option, Some, None, MatchOption, length, map, refl, sym, ap, ◌∙◌, subst}
use Rattle.asl_grammar.specs.Grammar.{bare}
use Rattle.asl_grammar.specs.Lex.{tokens_of}
use Rattle.asl_syntax.specs.declared.fault.SyntaxFault as code
use Rattle.asl_syntax.specs.declared.words.Before.TheVariants.{Plain}
use Rattle.asl_syntax.specs.Tree.{Item}
use Rattle.asl_syntax.specs.Spelled.{item_meaning}
use Rattle.asl_syntax.specs.Mentions.{Mention, mentions}
use Rattle.asl_syntax.specs.Rules.{Counts, no_name, first_twice, twice, unknown, wrong_call_from, wrong_call, name_places, has_main}
use Rattle.asl_syntax.specs.Parsed.{IsSpelled, Parses, HasTree}
use Rattle.asl_syntax.specs.Checked.{IsWritten}
use Rattle.asl_syntax.specs.Fault.{IsTwice, IsUnknown, IsArity, IsWithoutMain, IsFault}
use Rattle.asl_syntax.specs.Heard.{heard, first_unheard, heard_count, heard_main}
use Rattle.asl_syntax.proofs.Heard.{all_heard}
use Rattle.asl_syntax.proofs.Agreed.{same_unknown, same_counts, same_main}
use Rattle.asl_syntax.proofs.Short.{short_twice, short_unknown}
use Rattle.asl_syntax.proofs.Plain.{one_tree}

-- the tree of a written text
abbrev pub tree_in : (text : List ℕ) → IsWritten text → List Item
tree_in text w = map item_meaning w.program.program

pub spelled_in : (text : List ℕ) → (w : IsWritten text) → IsSpelled text (tree_in text w)
spelled_in text w = record {
  lexed = w.lexed;
  spelled = record { written = w.program.program; meaning = refl; spelled = w.program.spelled };
  limits = w.limits;
}

pub written_by : (text : List ℕ) (t : List Item) → IsSpelled text t → IsWritten text
written_by text t s = record {
  lexed = s.lexed;
  program = record { program = s.spelled.written; spelled = s.spelled.spelled };
  limits = s.limits;
}

-- the names of a text
abbrev pub names_of : List ℕ → List Mention
names_of text = heard Plain (bare (tokens_of text))

pub names_are : (text : List ℕ) (t : List Item) → IsSpelled text t → names_of text ≡ mentions t
names_are text t s = all_heard t (bare (tokens_of text)) s.spelled

pub twice_is : (text : List ℕ) (t : List Item) → IsSpelled text t → first_twice no_name no_name no_name (names_of text) ≡ twice t
twice_is text t s = ap (first_twice no_name no_name no_name) (names_are text t s)

pub unknown_is : (text : List ℕ) (t : List Item) → IsSpelled text t → first_unheard (names_of text) (names_of text) (names_of text) ≡ unknown t
unknown_is text t s =
    ap (λ (ms : List Mention). first_unheard ms ms ms) (names_are text t s) ∙ same_unknown (mentions t) (mentions t) t

pub wrong_call_is : (text : List ℕ) (t : List Item) → IsSpelled text t → wrong_call_from (heard_count (names_of text)) (names_of text) (name_places (tokens_of text)) ≡ wrong_call t (tokens_of text)
wrong_call_is text t s =
    ap (λ (ms : List Mention). wrong_call_from (heard_count ms) ms (name_places (tokens_of text))) (names_are text t s)
    ∙ ap (λ (counts : Counts). wrong_call_from counts (mentions t) (name_places (tokens_of text))) (same_counts t)

pub main_is : (text : List ℕ) (t : List Item) → IsSpelled text t → heard_main (names_of text) ≡ has_main t
main_is text t s = ap heard_main (names_are text t s) ∙ same_main t

-- what is found in a text is found of its one tree
pub of_tree : (text : List ℕ) (t : List Item) (o : Option code.SyntaxFault) → IsSpelled text t → MatchOption o (HasTree text) (IsFault text) → MatchOption o (Parses text t) (IsFault text)
of_tree text t None s h =
    subst (λ (u : List Item). Parses text u) (one_tree h.tree t (tokens_of text) h.parses.spelled.spelled s.spelled) h.parses
of_tree text t (Some e) s h = h

-- ---- the answers one by one, of a written text

pub twice_short : (text : List ℕ) → IsWritten text → (x : List ℕ) → Some x ≡ first_twice no_name no_name no_name (names_of text) → length x ≤ 64
twice_short text w x e =
    short_twice text (tree_in text w) x (spelled_in text w) (sym (e ∙ twice_is text (tree_in text w) (spelled_in text w)))

pub twice_fault : (text : List ℕ) → IsWritten text → (x : List ℕ) → Some x ≡ first_twice no_name no_name no_name (names_of text) → IsTwice text x
twice_fault text w x e = record {
  tree = tree_in text w;
  spelled = spelled_in text w;
  name = sym (e ∙ twice_is text (tree_in text w) (spelled_in text w));
}

pub unknown_short : (text : List ℕ) → IsWritten text → (x : List ℕ) → Some x ≡ first_unheard (names_of text) (names_of text) (names_of text) → length x ≤ 64
unknown_short text w x e =
    short_unknown text (tree_in text w) x (spelled_in text w) (sym (e ∙ unknown_is text (tree_in text w) (spelled_in text w)))

pub unknown_fault : (text : List ℕ) → IsWritten text → (x : List ℕ) → None ≡ first_twice no_name no_name no_name (names_of text) → Some x ≡ first_unheard (names_of text) (names_of text) (names_of text) → IsUnknown text x
unknown_fault text w x a e = record {
  tree = tree_in text w;
  spelled = spelled_in text w;
  once = sym (a ∙ twice_is text (tree_in text w) (spelled_in text w));
  name = sym (e ∙ unknown_is text (tree_in text w) (spelled_in text w));
}

pub arity_fault : (text : List ℕ) → IsWritten text → (at : ℕ) → None ≡ first_twice no_name no_name no_name (names_of text) → None ≡ first_unheard (names_of text) (names_of text) (names_of text) → Some at ≡ wrong_call_from (heard_count (names_of text)) (names_of text) (name_places (tokens_of text)) → IsArity text at
arity_fault text w at a b e = record {
  tree = tree_in text w;
  spelled = spelled_in text w;
  once = sym (a ∙ twice_is text (tree_in text w) (spelled_in text w));
  known = sym (b ∙ unknown_is text (tree_in text w) (spelled_in text w));
  place = sym (e ∙ wrong_call_is text (tree_in text w) (spelled_in text w));
}

pub main_fault : (text : List ℕ) → IsWritten text → None ≡ first_twice no_name no_name no_name (names_of text) → None ≡ first_unheard (names_of text) (names_of text) (names_of text) → None ≡ wrong_call_from (heard_count (names_of text)) (names_of text) (name_places (tokens_of text)) → heard_main (names_of text) ≡ false → IsWithoutMain text
main_fault text w a b d e = record {
  tree = tree_in text w;
  spelled = spelled_in text w;
  once = sym (a ∙ twice_is text (tree_in text w) (spelled_in text w));
  known = sym (b ∙ unknown_is text (tree_in text w) (spelled_in text w));
  arity = sym (d ∙ wrong_call_is text (tree_in text w) (spelled_in text w));
  none = sym (main_is text (tree_in text w) (spelled_in text w)) ∙ e;
}

pub no_fault_found : (text : List ℕ) → IsWritten text → None ≡ first_twice no_name no_name no_name (names_of text) → None ≡ first_unheard (names_of text) (names_of text) (names_of text) → None ≡ wrong_call_from (heard_count (names_of text)) (names_of text) (name_places (tokens_of text)) → heard_main (names_of text) ≡ true → HasTree text
no_fault_found text w a b d e = record {
  tree = tree_in text w;
  parses = record {
    spelled = spelled_in text w;
    twice = sym (a ∙ twice_is text (tree_in text w) (spelled_in text w));
    unknown = sym (b ∙ unknown_is text (tree_in text w) (spelled_in text w));
    arity = sym (d ∙ wrong_call_is text (tree_in text w) (spelled_in text w));
    main = sym (main_is text (tree_in text w) (spelled_in text w)) ∙ e;
  };
}
