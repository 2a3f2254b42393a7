-- Marks of a list of numbers, one part after the other.
use Rattle.std.proofs.Common.{◌≡◌, ℕ, ◌<◌, ◌≤◌, inl, inr, Bool, true, false, ◌==◌, List, [], ◌∷◌, ◌++◌, length, drop, get_or, ◌+◌, slice_set, sym, ap, ◌∙◌, subst, arith, refl}
use Rattle.std.proofs.lemmas.Bool.{or_left, eq-eqb, false≢true}
use Rattle.std.proofs.lemmas.List.{length-set, at_drop_more, at_drop_all}
use Rattle.asl_syntax.specs.declared.tree.Statement as tree
use Rattle.asl_syntax.specs.View.{statement_of, block_of}
use Rattle.asl_lower.specs.Reach.{IsMarked}
use Rattle.asl_lower.specs.Outside.{MarksThese, stmt_callees, block_callees}
use Rattle.asl_lower.proofs.Marks.{set_kept, set_here, set_cases}
use Rattle.asl_lower.proofs.JudgedCode.{among_left, among_right, among_parts, among_alone}

pub marks_none : (marks : List Bool) → MarksThese [] marks marks
marks_none marks = record { kept = λ f h. h; marked = λ n t low. absurd (false≢true t); only = λ n h. inl h; len = refl }

pub marks_join : (xs ys : List ℕ) (a b c : List Bool) → MarksThese xs a b → MarksThese ys b c → MarksThese (xs ++ ys) a c
marks_join xs ys a b c x y =
    record {
      kept = λ f h. y.kept f (x.kept f h);
      marked = λ n t low. elim (among_parts xs ys n t) [
        | inl first ↦ y.kept n (x.marked n first low)
        | inr second ↦ y.marked n second (omega (arith, low, x.len))
      ];
      only = λ n h. elim (y.only n h) [
        | inl before ↦ elim (x.only n before) [ inl old ↦ inl old | inr t ↦ inr (among_left xs ys n t) ]
        | inr t ↦ inr (among_right xs ys n t)
      ];
      len = y.len ∙ x.len;
    }

pub marks_one : (n : ℕ) (marks : List Bool) → n < length marks → MarksThese (n ∷ []) marks (slice_set marks n true)
marks_one n marks low =
    record {
      kept = set_kept marks n;
      marked = λ m t l. (let e : n ≡ m = among_alone n m t in
          let P : ℕ → Type 0 = λ k. IsMarked (slice_set marks n true) k in
          subst P e (set_here marks n low));
      only = λ m h. elim (set_cases marks n m h) [ inl e ↦ inr (or_left (n == m) false (eq-eqb n m (sym e))) | inr old ↦ inl old ];
      len = length-set marks n true;
    }

-- a number for which there is no place
pub marks_past : (n : ℕ) (marks : List Bool) → length marks ≤ n → MarksThese (n ∷ []) marks marks
marks_past n marks past =
    record {
      kept = λ f h. h;
      marked = λ m t low. absurd (let e : n ≡ m = among_alone n m t in omega (arith, low, e, past));
      only = λ m h. inl h;
      len = refl;
    }

-- what the statements that are left call
pub callees_left : (names : List (List ℕ)) (ss : List tree.Statement) (i : ℕ) (s : tree.Statement) → i < length ss → s ≡ get_or ss i s → block_callees names (block_of (drop i ss)) ≡ stmt_callees names (statement_of s) ++ block_callees names (block_of (drop (i + 1) ss))
callees_left names ss i s low is =
    at_drop_more (λ (l : List tree.Statement). block_callees names (block_of l)) ss i s low
    ∙ ap (λ (t : tree.Statement). stmt_callees names (statement_of t) ++ block_callees names (block_of (drop (i + 1) ss))) (sym is)

pub callees_none : (names : List (List ℕ)) (ss : List tree.Statement) (i : ℕ) → length ss ≤ i → block_callees names (block_of (drop i ss)) ≡ []
callees_none names ss i past = at_drop_all (λ (l : List tree.Statement). block_callees names (block_of l)) ss i past
