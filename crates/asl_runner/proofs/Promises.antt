-- What the handles of the workers' threads promise.
use Rattle.std.proofs.Common.{◌≡◌, ◌⊎◌, inl, inr, ℕ, ◌+◌, ◌<◌, List, [], ◌∷◌, ◌++◌, length, get_or, ap, sym, ◌∙◌, arith}
use Rattle.std.proofs.lemmas.Bool.{cases_eq}
use Rattle.std.proofs.lemmas.List.{get_or_push, get_or_append_left}
use Rattle.asl_turns.specs.Turn.{Word}
use Rattle.asl_runner.specs.declared.worker.Post.{Post}
use Rattle.asl_runner.specs.declared.worker.Work.{Work}
use Rattle.asl_runner.specs.declared.starting.WorkOf.{WorkOf}
use Rattle.asl_runner.specs.Working.{HasLeft}

-- what stands at a place below the new length stood there, or is what was pushed
pub pushed_or : {X : Type 0} (xs all : List X) (x d : X) (k n : ℕ) → all ≡ xs ++ x ∷ [] → length xs ≡ n → k < n + 1
    → ((k < n) × (get_or all k d ≡ get_or xs k d)) ⊎ ((k ≡ n) × (get_or all k d ≡ x))
pushed_or xs all x d k n is count lt =
    elim (cases_eq k n) [
      | inl same ↦ inr (same, rw is (get_or_push xs x d k (count ∙ sym same)))
      | inr other ↦ inl (omega (arith, lt, other), rw is (get_or_append_left xs (x ∷ []) d k (omega (arith, lt, other, count))))
    ]

abbrev pub post_of : ℕ → ℕ → ℕ → Post
post_of count workers worker = record { count = count; workers = workers; worker = worker }

-- a promise that is kept, said of the worker's number
pub kept_left : (word : Word) (count workers k : ℕ) (p : WorkOf) (r w : Work) → p.turns.now ≡ word → p.post ≡ post_of count workers k → r ≡ w
    → HasLeft p.turns.now p.post.count p.post.workers p.post.worker r.seat r.receipts.items r.refused → HasLeft word count workers k w.seat w.receipts.items w.refused
kept_left word count workers k p r w turns post same kept = rw (← turns, ← same, ap (λ (x : Post). x.count) (sym post), ap (λ (x : Post). x.workers) (sym post), ap (λ (x : Post). x.worker) (sym post)) kept
