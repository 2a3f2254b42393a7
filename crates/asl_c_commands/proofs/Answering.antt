-- How words ended is handed on as it is.
use Rattle.std.proofs.Common.{◌≡◌, ℕ, Option, None, Some, Result, Ok, Err, MatchOption, IfOk, IfErr, sym, subst}
use Rattle.asl_tool.specs.declared.endings.over_memory.Ended.{Ended}

pub ok_of : (o : Option Ended) (r : Result Ended ℕ) (A : Type 0) (P : Ended → Type 0) → MatchOption o (r ≡ Err 255) (λ e. r ≡ Ok e) → MatchOption o A P → IfOk r P
ok_of None r A P is ends = subst (λ (x : Result Ended ℕ). IfOk x P) (sym is) tt
ok_of (Some e) r A P is ends = subst (λ (x : Result Ended ℕ). IfOk x P) (sym is) ends

pub err_of : (o : Option Ended) (r : Result Ended ℕ) (A : Type 0) (P : Ended → Type 0) (Q : ℕ → Type 0) → MatchOption o (r ≡ Err 255) (λ e. r ≡ Ok e) → MatchOption o A P → (A → Q 255) → IfErr r Q
err_of None r A P Q is waits why = subst (λ (x : Result Ended ℕ). IfErr x Q) (sym is) (why waits)
err_of (Some e) r A P Q is waits why = subst (λ (x : Result Ended ℕ). IfErr x Q) (sym is) tt
